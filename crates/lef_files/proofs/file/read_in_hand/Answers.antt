use Rattle.std.proofs.Common.{arith}
use Rattle.lef_files.proofs.file.read_in_hand.Goals as goal

pub returns-clause-cause : goal.returns-clause-cause
returns-clause-cause g c = record { later = omega (arith, c.in_ok-read.ensures.cause.later, c.in_ok-close.ensures.cause.later); failed = λ e. absurd (cc e) }
