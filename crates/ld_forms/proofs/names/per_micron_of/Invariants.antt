use Rattle.std.proofs.Common.{◌≡◌, ◌≤◌, drop}
use Rattle.ld_forms.specs.Names.{per_micron_with}
use Rattle.ld_forms.proofs.names.per_micron_of.Given as goal

abbrev pub invariant-loop-digit : goal.invariant-loop-digit
invariant-loop-digit l = record {
  rest : per_micron_with l.number (drop l.digit-index l.word) ≡ per_micron_with 0 l.word;
  few : l.number ≤ 1000009;
}
