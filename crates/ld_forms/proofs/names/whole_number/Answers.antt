use Rattle.std.proofs.Common.{◌<◌, ◌^◌, ◌-◌, drop, sym, ◌∙◌, arith}
use Rattle.ld_forms.specs.Names.{whole_number_in}
use Rattle.ld_forms.proofs.Digits.{stays_too_wide}
use Rattle.ld_forms.proofs.names.whole_number.Goals as goal

pub returns-then-number : goal.returns-then-number
unfolding whole_number_in
returns-then-number c =
    let great : 2 ^ 64 - 1 < c.loop-digit.number = omega arith in
    sym (stays_too_wide c.loop-digit.number (drop c.loop-digit.digit-index c.args.digits.now) great) ∙ c.loop-digit.invariant.rest
