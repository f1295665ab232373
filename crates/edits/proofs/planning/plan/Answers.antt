use Rattle.edits.proofs.Plans.{answered_can}
use Rattle.edits.proofs.Terminals.{few_in_library}
use Rattle.edits.proofs.planning.plan.Goals as goal

pub plan_by_edit-requires : goal.plan_by_edit-requires
plan_by_edit-requires c = few_in_library c.args.tech.now c.args.library.now c.requires.library

pub returns-clause-can : goal.returns-clause-can
returns-clause-can c = answered_can c.args.tech.now c.args.library.now c.args.block.now.cap c.args.block.now.block c.args.edit.now c.plan_by_edit.result c.requires.sound c.plan_by_edit.ensures
