-- What an iterator over the free identifiers of a kind has left.
use Rattle.std.specs.Prelude.{ℕ, List}
use Rattle.block_cells.specs.declared.free_ids.Left.{Left}
use Rattle.block_cells.specs.declared.free_ids.Left.TheVariants as left

-- the identifiers that are left, top first
abbrev pub left_ids : Left → List ℕ
left_ids (left.Inst ids) = ids
left_ids (left.ITerm ids) = ids
left_ids (left.Net ids) = ids
left_ids (left.BTerm ids) = ids
left_ids (left.Pin ids) = ids
left_ids (left.Row ids) = ids
left_ids (left.Track ids) = ids
left_ids (left.Wire ids) = ids
left_ids (left.Blockage ids) = ids
left_ids (left.Region ids) = ids
left_ids (left.Group ids) = ids
left_ids (left.Prop ids) = ids
