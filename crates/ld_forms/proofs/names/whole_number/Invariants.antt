use Rattle.std.proofs.Common.{◌≡◌, ◌≤◌, ◌*◌, ◌^◌, drop}
use Rattle.ld_forms.specs.Names.{whole_number_with}
use Rattle.ld_forms.proofs.names.whole_number.Given as goal

abbrev pub invariant-loop-digit : goal.invariant-loop-digit
invariant-loop-digit l = record {
  rest : whole_number_with l.number (drop l.digit-index l.digits) ≡ whole_number_with 0 l.digits;
  few : l.number ≤ 10 * 2 ^ 64;
}
