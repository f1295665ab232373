use Rattle.ld_reader.proofs.Filled.{bad_fault, filled, stray, strict_stray}
use Rattle.ld_reader.proofs.laws.statements_are_read.Goals as goal

pub returns : goal.returns
returns g c = record { filled = filled g.L.Language.rules; stray = stray g.L.Language.rules; bad = bad_fault g.L.Language.rules; strict = strict_stray g.L.Language.rules }
