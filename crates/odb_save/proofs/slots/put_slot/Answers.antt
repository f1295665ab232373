-- What the block lends of each kind is lawful, since the database is sound, and has the bytes of the slot.
use Rattle.std.proofs.Common.{ap}
use Rattle.odb_base.specs.declared.codes.kind.Kind.TheVariants as kind
use Rattle.odb_save.proofs.EntryLemmas.{lent_lawful, lent_put}
use Rattle.odb_save.proofs.SoundFields.{objects_lawful}
use Rattle.odb_save.proofs.slots.put_slot.Goals as goal

pub put_object-requires : goal.put_object-requires
put_object-requires c = lent_lawful kind.Inst _ c.args.id (objects_lawful _ c.db.invariant) c.inst.result c.inst.ensures

pub put_object-requires-in-ITerm : goal.put_object-requires-in-ITerm
put_object-requires-in-ITerm c = lent_lawful kind.ITerm _ c.args.id (objects_lawful _ c.db.invariant) c.iterm.result c.iterm.ensures

pub put_object-requires-in-Net : goal.put_object-requires-in-Net
put_object-requires-in-Net c = lent_lawful kind.Net _ c.args.id (objects_lawful _ c.db.invariant) c.net.result c.net.ensures

pub put_object-requires-in-BTerm : goal.put_object-requires-in-BTerm
put_object-requires-in-BTerm c = lent_lawful kind.BTerm _ c.args.id (objects_lawful _ c.db.invariant) c.bterm.result c.bterm.ensures

pub put_object-requires-in-Pin : goal.put_object-requires-in-Pin
put_object-requires-in-Pin c = lent_lawful kind.Pin _ c.args.id (objects_lawful _ c.db.invariant) c.pin.result c.pin.ensures

pub put_object-requires-in-Row : goal.put_object-requires-in-Row
put_object-requires-in-Row c = lent_lawful kind.Row _ c.args.id (objects_lawful _ c.db.invariant) c.row.result c.row.ensures

pub put_object-requires-in-Track : goal.put_object-requires-in-Track
put_object-requires-in-Track c = lent_lawful kind.Track _ c.args.id (objects_lawful _ c.db.invariant) c.track.result c.track.ensures

pub put_object-requires-in-Wire : goal.put_object-requires-in-Wire
put_object-requires-in-Wire c = lent_lawful kind.Wire _ c.args.id (objects_lawful _ c.db.invariant) c.wire.result c.wire.ensures

pub put_object-requires-in-Blockage : goal.put_object-requires-in-Blockage
put_object-requires-in-Blockage c = lent_lawful kind.Blockage _ c.args.id (objects_lawful _ c.db.invariant) c.blockage.result c.blockage.ensures

pub put_object-requires-in-Region : goal.put_object-requires-in-Region
put_object-requires-in-Region c = lent_lawful kind.Region _ c.args.id (objects_lawful _ c.db.invariant) c.region.result c.region.ensures

pub put_object-requires-in-Group : goal.put_object-requires-in-Group
put_object-requires-in-Group c = lent_lawful kind.Group _ c.args.id (objects_lawful _ c.db.invariant) c.group.result c.group.ensures

pub put_object-requires-in-Prop : goal.put_object-requires-in-Prop
put_object-requires-in-Prop c = lent_lawful kind.Prop _ c.args.id (objects_lawful _ c.db.invariant) c.prop.result c.prop.ensures

pub returns-in-Inst-clause-ok : goal.returns-in-Inst-clause-ok
returns-in-Inst-clause-ok c = lent_put kind.Inst _ c.args.id _ _ _ _ c.inst.ensures c.put_object.ensures.ok _ _ c.in-Inst.is (ap (λ d. d.block) c.db.view_is)

pub returns-in-ITerm-clause-ok : goal.returns-in-ITerm-clause-ok
returns-in-ITerm-clause-ok c = lent_put kind.ITerm _ c.args.id _ _ _ _ c.iterm.ensures c.put_object-in-ITerm.ensures.ok _ _ c.in-ITerm.is (ap (λ d. d.block) c.db.view_is)

pub returns-in-Net-clause-ok : goal.returns-in-Net-clause-ok
returns-in-Net-clause-ok c = lent_put kind.Net _ c.args.id _ _ _ _ c.net.ensures c.put_object-in-Net.ensures.ok _ _ c.in-Net.is (ap (λ d. d.block) c.db.view_is)

pub returns-in-BTerm-clause-ok : goal.returns-in-BTerm-clause-ok
returns-in-BTerm-clause-ok c = lent_put kind.BTerm _ c.args.id _ _ _ _ c.bterm.ensures c.put_object-in-BTerm.ensures.ok _ _ c.in-BTerm.is (ap (λ d. d.block) c.db.view_is)

pub returns-in-Pin-clause-ok : goal.returns-in-Pin-clause-ok
returns-in-Pin-clause-ok c = lent_put kind.Pin _ c.args.id _ _ _ _ c.pin.ensures c.put_object-in-Pin.ensures.ok _ _ c.in-Pin.is (ap (λ d. d.block) c.db.view_is)

pub returns-in-Row-clause-ok : goal.returns-in-Row-clause-ok
returns-in-Row-clause-ok c = lent_put kind.Row _ c.args.id _ _ _ _ c.row.ensures c.put_object-in-Row.ensures.ok _ _ c.in-Row.is (ap (λ d. d.block) c.db.view_is)

pub returns-in-Track-clause-ok : goal.returns-in-Track-clause-ok
returns-in-Track-clause-ok c = lent_put kind.Track _ c.args.id _ _ _ _ c.track.ensures c.put_object-in-Track.ensures.ok _ _ c.in-Track.is (ap (λ d. d.block) c.db.view_is)

pub returns-in-Wire-clause-ok : goal.returns-in-Wire-clause-ok
returns-in-Wire-clause-ok c = lent_put kind.Wire _ c.args.id _ _ _ _ c.wire.ensures c.put_object-in-Wire.ensures.ok _ _ c.in-Wire.is (ap (λ d. d.block) c.db.view_is)

pub returns-in-Blockage-clause-ok : goal.returns-in-Blockage-clause-ok
returns-in-Blockage-clause-ok c = lent_put kind.Blockage _ c.args.id _ _ _ _ c.blockage.ensures c.put_object-in-Blockage.ensures.ok _ _ c.in-Blockage.is (ap (λ d. d.block) c.db.view_is)

pub returns-in-Region-clause-ok : goal.returns-in-Region-clause-ok
returns-in-Region-clause-ok c = lent_put kind.Region _ c.args.id _ _ _ _ c.region.ensures c.put_object-in-Region.ensures.ok _ _ c.in-Region.is (ap (λ d. d.block) c.db.view_is)

pub returns-in-Group-clause-ok : goal.returns-in-Group-clause-ok
returns-in-Group-clause-ok c = lent_put kind.Group _ c.args.id _ _ _ _ c.group.ensures c.put_object-in-Group.ensures.ok _ _ c.in-Group.is (ap (λ d. d.block) c.db.view_is)

pub returns-in-Prop-clause-ok : goal.returns-in-Prop-clause-ok
returns-in-Prop-clause-ok c = lent_put kind.Prop _ c.args.id _ _ _ _ c.prop.ensures c.put_object-in-Prop.ensures.ok _ _ c.in-Prop.is (ap (λ d. d.block) c.db.view_is)
