use Rattle.link_list.proofs.Vectors.{is_list}
use Rattle.base_tests.proofs.links.Row.enter.Goals as goal

pub invariant_of-self : goal.invariant_of-self
invariant_of-self g c = (is_list c.insert_before.new.cells c.insert_before.new.head _ c.insert_before.ensures.list).0
