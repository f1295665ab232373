use Rattle.name_index.proofs.Vectors.{is_index}
use Rattle.base_tests.proofs.indexes.Table.release.Goals as goal

pub invariant_of-self : goal.invariant_of-self
invariant_of-self g c = is_index c.drop_name.new.cells c.drop_name.new.self _ c.drop_name.ensures.stands
