use Rattle.odb_save.proofs.Whole.{fault_within}
use Rattle.odb_save.proofs.laws.fault_places_are_within.Goals as goal

pub returns : goal.returns
returns c = fault_within
