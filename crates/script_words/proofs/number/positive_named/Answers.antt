use Rattle.std.proofs.Common.{arith, length}
use Rattle.odb_base.proofs.Decimals.{ten_bound}
use Rattle.script_words.proofs.number.positive_named.Goals as goal

pub returns-clause-bound : goal.returns-clause-bound
returns-clause-bound c = omega (arith, c.in_ok-number.ensures.bound, ten_bound (length c.args.word.now) 18 (omega arith))
