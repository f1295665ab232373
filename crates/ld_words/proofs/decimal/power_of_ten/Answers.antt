use Rattle.std.proofs.Common.{arith}
use Rattle.ld_words.proofs.Decimals.{up_to_thirty}
use Rattle.ld_words.proofs.decimal.power_of_ten.Goals as goal

pub pow-requires : goal.pow-requires
pow-requires c = omega (arith, (up_to_thirty c.args.exponent c.requires).1)

pub returns-clause-some : goal.returns-clause-some
returns-clause-some c = rw c.pow.ensures (up_to_thirty c.args.exponent c.requires).0

pub returns-clause-bound : goal.returns-clause-bound
returns-clause-bound c = rw c.pow.ensures (up_to_thirty c.args.exponent c.requires).1
