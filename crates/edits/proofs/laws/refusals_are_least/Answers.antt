use Rattle.edits.proofs.Plans.{plans_unrefused, refuses_first}
use Rattle.edits.proofs.OneRefusal.{first_is_planned}
use Rattle.edits.proofs.laws.refusals_are_least.Goals as goal

pub returns-clause-refused : goal.returns-clause-refused
returns-clause-refused c = refuses_first

pub returns-clause-planned : goal.returns-clause-planned
returns-clause-planned c = plans_unrefused

pub returns-clause-exact : goal.returns-clause-exact
returns-clause-exact c tech library cap b e sound = first_is_planned tech library cap b sound e
