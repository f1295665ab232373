use Rattle.odb_run.proofs.lef_answers.answer_read.Goals as goal

pub returns-in-Tree : goal.returns-in-Tree
returns-in-Tree c = rw c.in-Tree.is c.answer_tree.ensures
