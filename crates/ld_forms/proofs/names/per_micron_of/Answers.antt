use Rattle.std.proofs.Common.{◌<◌, drop, sym, ◌∙◌, arith}
use Rattle.ld_forms.specs.Names.{per_micron_in}
use Rattle.ld_forms.proofs.Digits.{stays_too_great}
use Rattle.ld_forms.proofs.names.per_micron_of.Goals as goal

pub returns-then-number-gt-UNITS_LIMIT : goal.returns-then-number-gt-UNITS_LIMIT
unfolding per_micron_in
returns-then-number-gt-UNITS_LIMIT c =
    let great : 100000 < c.loop-digit.number = omega arith in
    sym (stays_too_great c.loop-digit.number (drop c.loop-digit.digit-index c.args.word.now) great) ∙ c.loop-digit.invariant.rest
