use Rattle.std.proofs.Common.{◌∙◌, ap, sym}
use Rattle.steps_net.specs.Back.{back}
use Rattle.block_steps.proofs.Owed.{owed}
use Rattle.block_steps.proofs.Soundness.{led_back}
use Rattle.block_steps.proofs.undoing.unapply.Goals as goal

pub undo_one-requires-clause-owed : goal.undo_one-requires-clause-owed
undo_one-requires-clause-owed g c = owed _ _ _ _ _ _ c.requires.came

pub returns-clause-gives : goal.returns-clause-gives
returns-clause-gives g c = λ d s same came.
    c.undo_one.ensures.back ∙ ap (λ t. back t c.args.memo c.args.block.now.block) (sym same) ∙ led_back _ _ _ d s c.args.memo c.args.block.now.block came
