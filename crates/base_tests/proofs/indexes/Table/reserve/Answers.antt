use Rattle.name_index.proofs.Vectors.{is_index}
use Rattle.base_tests.proofs.indexes.Table.reserve.Goals as goal

pub invariant_of-self : goal.invariant_of-self
invariant_of-self c = is_index c.reserve.new.cells c.reserve.new.self _ c.reserve.ensures.stands
