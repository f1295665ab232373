-- The digits that are left go on the number so far.
use Rattle.std.proofs.Common.{◌≡◌, ◌+◌, ◌*◌, ◌^◌, ◌≤◌, length}
use Rattle.odb_base.specs.Digits.{with_digits}
use Rattle.odb_base.proofs.digits.with_digits.Given as goal

abbrev pub invariant-digits : goal.invariant-digits
invariant-digits l = record {
  number : with_digits l.number l.digits ≡ with_digits l.initial.number l.initial.digits;
  room : (l.number + 1) * 10 ^ length l.digits ≤ (l.initial.number + 1) * 10 ^ length l.initial.digits;
}

abbrev pub decreases-digits : goal.decreases-digits
decreases-digits l = length l.digits
