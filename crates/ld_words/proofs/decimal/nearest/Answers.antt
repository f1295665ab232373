use Rattle.std.proofs.Common.{◌*◌, ◌<◌, arith}
use Rattle.ld_words.specs.Decimal.{rounded}
use Rattle.ld_words.proofs.Decimals.{bounded, rounded_halves, unbounded}
use Rattle.ld_words.proofs.decimal.nearest.Goals as goal

pub returns-then-quotient-gt-COORDINATE_LIMIT : goal.returns-then-quotient-gt-COORDINATE_LIMIT
returns-then-quotient-gt-COORDINATE_LIMIT c =
    let divisor = c.power_of_ten-divisor in
    let n = rounded (c.args.whole * c.args.per_micron) divisor.result in
    let beyond : 2000000000 < n = omega (arith, rounded_halves c.args.whole c.args.per_micron divisor.result divisor.ensures.some) in
    rw (← divisor.ensures.power) (unbounded n 2000000000 beyond)

pub returns-then-units-le-COORDINATE_LIMIT : goal.returns-then-units-le-COORDINATE_LIMIT
returns-then-units-le-COORDINATE_LIMIT c =
    let divisor = c.power_of_ten-divisor in
    let n = rounded (c.args.whole * c.args.per_micron) divisor.result in
    rw (← divisor.ensures.power)
    (bounded n _ 2000000000 (rounded_halves c.args.whole c.args.per_micron divisor.result divisor.ensures.some) c.if-units-le-COORDINATE_LIMIT.true)

pub returns-else-units-le-COORDINATE_LIMIT : goal.returns-else-units-le-COORDINATE_LIMIT
returns-else-units-le-COORDINATE_LIMIT c =
    let divisor = c.power_of_ten-divisor in
    let n = rounded (c.args.whole * c.args.per_micron) divisor.result in
    let beyond : 2000000000 < n = omega (arith, rounded_halves c.args.whole c.args.per_micron divisor.result divisor.ensures.some, c.if-units-le-COORDINATE_LIMIT.false) in
    rw (← divisor.ensures.power) (unbounded n 2000000000 beyond)
