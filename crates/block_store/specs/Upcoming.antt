-- The identifiers that the next new objects get.
use Rattle.std.specs.Prelude.{ℕ, ◌+◌, ◌-◌, ◌++◌, List}
use Rattle.std.specs.List.{range_with_len}
use Rattle.odb_base.specs.declared.codes.kind.Kind.{Kind}
use Rattle.block_store.specs.Block.{Block, free_in, slots_in}

-- free identifiers, and then those of slots behind so many, up to the greatest identifier
abbrev pub and_behind : List ℕ → ℕ → List ℕ
and_behind free slots = free ++ range_with_len (slots + 1) (4294967295 - slots)

-- the identifiers that the next new objects of a kind get, in their order: the free ones, top first, and then those
-- of slots behind the last
abbrev pub upcoming_in : Kind → Block → List ℕ
upcoming_in k b = and_behind (free_in k b) (slots_in k b)
