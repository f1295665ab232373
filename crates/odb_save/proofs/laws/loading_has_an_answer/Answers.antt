use Rattle.odb_save.proofs.Answerable.{has_an_answer}
use Rattle.odb_save.proofs.laws.loading_has_an_answer.Goals as goal

pub returns : goal.returns
returns c = has_an_answer
