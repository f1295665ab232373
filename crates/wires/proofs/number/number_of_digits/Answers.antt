use Rattle.std.proofs.Common.{sym, ◌∙◌, get_or, ◌+◌, ◌*◌, ◌-◌, drop, arith}
use Rattle.wires.proofs.Digits.{beyond, digit_on}
use Rattle.wires.proofs.number.number_of_digits.Goals as goal

pub returns-then-number-gt-LIMIT-clause-value : goal.returns-then-number-gt-LIMIT-clause-value
returns-then-number-gt-LIMIT-clause-value c =
    let digits = c.digits.digits.now in
    let digit = sym c.if-not-is_digit.ensures in
    sym (sym c.digits.invariant.number ∙ sym (digit_on c.digits.number digits c.in-len1-up.len_at_least digit) ∙ beyond (c.digits.number * 10 + (get_or digits 0 0 - 48)) (drop 1 digits) (omega arith))
