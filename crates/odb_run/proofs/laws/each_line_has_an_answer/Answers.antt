use Rattle.odb_run.proofs.Existing.{line_has, more_have, start_sound}
use Rattle.odb_run.proofs.Kept.{answer_keeps}
use Rattle.odb_run.proofs.laws.each_line_has_an_answer.Goals as goal

pub returns : goal.returns
returns c = record { start = start_sound; one = line_has; kept = answer_keeps; more = more_have }
