use Rattle.lef_reader.proofs.Spelled.{others-passed, parts-passed}
use Rattle.lef_reader.proofs.laws.other_statements_are_passed_over.Goals as goal

pub returns : goal.returns
returns c = record { statements = others-passed; parts = parts-passed }
