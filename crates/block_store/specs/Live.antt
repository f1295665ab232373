-- The objects of a kind: their identifiers upward, and how many there are.
use Rattle.std.specs.Prelude.{ℕ, List}
use Rattle.std.specs.List.{filter, range_with_len}
use Rattle.slot_pool.specs.Table.{live_count}
use Rattle.odb_base.specs.declared.codes.kind.Kind.{Kind}
use Rattle.block_store.specs.Block.{Block, live_in, on_table, slots_in}

-- so many identifiers, from one on, without those that have no object of the kind
abbrev pub live_from : ℕ → ℕ → Kind → Block → List ℕ
live_from first count k b = filter (λ id. live_in k id b) (range_with_len first count)

-- the identifiers of the objects of a kind, upward
abbrev pub live_ids : Kind → Block → List ℕ
live_ids k b = live_from 1 (slots_in k b) k b

-- how many objects of the kind there are
abbrev pub live_count_in : Kind → Block → ℕ
live_count_in k b = on_table (λ A t. live_count t) k b
