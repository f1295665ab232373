-- How great the identifiers of objects are.
use Rattle.std.proofs.Common.{◌≤◌, ℕ, IsTrue}
use Rattle.slot_pool.proofs.Counts.{live_within}
use Rattle.odb_base.specs.declared.codes.kind.Kind.{Kind}
use Rattle.odb_base.specs.declared.codes.kind.Kind.TheVariants as kind
use Rattle.block_store.specs.Block.{Block, live_in, slots_in}

-- an object that is there has the identifier of a slot
pub live_in_slots : (k : Kind) (id : ℕ) (b : Block) → IsTrue (live_in k id b) → id ≤ slots_in k b
live_in_slots kind.Inst id b live = (live_within b.inst.slots id live).1
live_in_slots kind.ITerm id b live = (live_within b.iterm.slots id live).1
live_in_slots kind.Net id b live = (live_within b.net.slots id live).1
live_in_slots kind.BTerm id b live = (live_within b.bterm.slots id live).1
live_in_slots kind.Pin id b live = (live_within b.pin.slots id live).1
live_in_slots kind.Row id b live = (live_within b.row.slots id live).1
live_in_slots kind.Track id b live = (live_within b.track.slots id live).1
live_in_slots kind.Wire id b live = (live_within b.wire.slots id live).1
live_in_slots kind.Blockage id b live = (live_within b.blockage.slots id live).1
live_in_slots kind.Region id b live = (live_within b.region.slots id live).1
live_in_slots kind.Group id b live = (live_within b.group.slots id live).1
live_in_slots kind.Prop id b live = (live_within b.prop.slots id live).1
