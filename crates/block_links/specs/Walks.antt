-- What an iterator over the members of a list has left.
use Rattle.std.specs.Prelude.{List, ℕ}
use Rattle.block_links.specs.declared.walk.Left.{Left}
use Rattle.block_links.specs.declared.walk.Left.TheVariants as left

-- the members that are left, in their order
abbrev pub left_members : Left → List ℕ
left_members (left.Links members) = members
left_members (left.Plain members) = members.now
