use Rattle.lef_reader.proofs.Spelled.{answers-one}
use Rattle.lef_reader.proofs.laws.texts_have_one_answer.Goals as goal

pub returns-clause-one : goal.returns-clause-one
returns-clause-one c = answers-one
