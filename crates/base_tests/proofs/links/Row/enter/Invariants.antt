use Rattle.link_list.specs.VecLinks.{members}
use Rattle.base_tests.proofs.links.Row.enter.Given as goal

abbrev pub ghost-insert_before : goal.ghost-insert_before
ghost-insert_before g a = members a.cells.now a.head.now
