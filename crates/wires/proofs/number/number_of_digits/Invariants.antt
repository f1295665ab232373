use Rattle.std.proofs.Common.{◌≡◌, ◌≤◌, length}
use Rattle.wires.specs.PathWords.{number_with}
use Rattle.wires.proofs.number.number_of_digits.Given as goal

abbrev pub invariant-digits : goal.invariant-digits
invariant-digits l = record {
  number : number_with l.number l.digits ≡ number_with 0 l.initial.digits;
  bound : l.number ≤ 2000000000;
}

abbrev pub decreases-digits : goal.decreases-digits
decreases-digits l = length l.digits
