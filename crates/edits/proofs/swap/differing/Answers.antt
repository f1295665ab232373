use Rattle.std.proofs.Common.{arith}
use Rattle.edits.proofs.Terminals.{few_terminals}
use Rattle.edits.proofs.swap.differing.Goals as goal

pub first_differing-requires-clause-old : goal.first_differing-requires-clause-old
first_differing-requires-clause-old c = omega (arith, few_terminals c.args.library.now _ c.in_ok-old.old.now c.requires c.in_ok-old.ensures)

pub first_differing-requires-clause-new : goal.first_differing-requires-clause-new
first_differing-requires-clause-new c = omega (arith, few_terminals c.args.library.now _ c.in_ok-new.new.now c.requires c.in_ok-new.ensures)
