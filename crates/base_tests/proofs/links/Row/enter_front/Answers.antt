use Rattle.link_list.proofs.Vectors.{is_list}
use Rattle.base_tests.proofs.links.Row.enter_front.Goals as goal

pub invariant_of-self : goal.invariant_of-self
invariant_of-self g c = (is_list c.push_front.new.cells c.push_front.new.head _ c.push_front.ensures.list).0
