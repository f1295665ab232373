use Rattle.link_list.specs.VecLinks.{members}
use Rattle.base_tests.proofs.links.Row.leave.Given as goal

abbrev pub ghost-unlink : goal.ghost-unlink
ghost-unlink g a = members a.cells.now a.head.now
