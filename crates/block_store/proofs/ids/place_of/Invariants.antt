use Rattle.std.proofs.Common.{◌≡◌, take, false}
use Rattle.odb_base.specs.Ids.{holds}
use Rattle.block_store.proofs.ids.place_of.Given as goal

abbrev pub invariant-loop-place : goal.invariant-loop-place
invariant-loop-place l = holds (take l.place l.items) l.member ≡ false
