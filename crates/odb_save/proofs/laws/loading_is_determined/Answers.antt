use Rattle.odb_save.proofs.Loads.{one_answer}
use Rattle.odb_save.proofs.laws.loading_is_determined.Goals as goal

pub returns : goal.returns
returns c = one_answer
