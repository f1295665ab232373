use Rattle.link_list.specs.VecLinks.{members}
use Rattle.base_tests.proofs.links.Row.enter_front.Given as goal

abbrev pub ghost-push_front : goal.ghost-push_front
ghost-push_front g a = members a.cells.now a.head.now
