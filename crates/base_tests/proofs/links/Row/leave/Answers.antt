use Rattle.link_list.proofs.Vectors.{is_list}
use Rattle.base_tests.proofs.links.Row.leave.Goals as goal

pub invariant_of-self : goal.invariant_of-self
invariant_of-self g c = (is_list c.unlink.new.cells c.unlink.new.head _ c.unlink.ensures.list).0
