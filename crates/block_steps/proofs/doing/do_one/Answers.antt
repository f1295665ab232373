use Rattle.odb_base.specs.declared.codes.kind.Kind.TheVariants as kind
use Rattle.block_steps.proofs.Asked.{inst_goes, joins, object_goes, object_live, parts}
use Rattle.block_steps.proofs.doing.do_one.Goals as goal

pub new_inst-requires-clause-good : goal.new_inst-requires-clause-good
new_inst-requires-clause-good g c = (c.requires.sound.kinds kind.ITerm).table.good

pub del_inst-requires : goal.del_inst-requires
del_inst-requires g c = inst_goes _ _ _ _ _ _ _ c.in-Del.is c.in-Inst.is c.requires.sound c.requires.can

pub give-requires-clause-alone : goal.give-requires-clause-alone
give-requires-clause-alone g c = object_goes _ _ _ _ _ _ _ c.in-Del.is c.in_default-kind.not-Inst c.requires.sound c.requires.can

pub give-requires-clause-live : goal.give-requires-clause-live
give-requires-clause-live g c = object_live _ _ _ _ _ _ _ c.in-Del.is c.in_default-kind.not-Inst c.requires.sound c.requires.can

pub join-requires-clause-enter : goal.join-requires-clause-enter
join-requires-clause-enter g c = (joins _ _ _ _ _ _ _ _ c.in-Join.is c.requires.sound c.requires.can).enter

pub part-requires-clause-has : goal.part-requires-clause-has
part-requires-clause-has g c = (parts _ _ _ _ _ _ _ _ c.in-Part.is c.requires.sound c.requires.can).has

pub part-requires-clause-member : goal.part-requires-clause-member
part-requires-clause-member g c = (parts _ _ _ _ _ _ _ _ c.in-Part.is c.requires.sound c.requires.can).member
