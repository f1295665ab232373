use Rattle.std.proofs.Common.{arith}
use Rattle.edits.proofs.Terminals.{few_terminals}
use Rattle.edits.proofs.make.term_count_of.Goals as goal

pub overflow_cast-result : goal.overflow_cast-result
overflow_cast-result c =
    let few = few_terminals c.args.library.now c.args.id.0 c.in-Some.master.now c.requires c.in-Some.ensures in
    grind (arith, few)
