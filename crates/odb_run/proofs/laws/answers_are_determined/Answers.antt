use Rattle.odb_run.proofs.Determined.{determined}
use Rattle.odb_run.proofs.laws.answers_are_determined.Goals as goal

pub returns : goal.returns
returns c = determined
