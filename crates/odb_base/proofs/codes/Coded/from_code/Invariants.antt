use Rattle.std.proofs.Common.{◌≡◌, ◌==◌, drop}
use Rattle.std.specs.List.{find}
use Rattle.odb_base.proofs.codes.Coded.from_code.Given as goal

abbrev pub invariant-loop-value : goal.invariant-loop-value
invariant-loop-value g l = find (λ value. g.Self.Coded.code_of value == l.code) (drop l.value-index l.values) ≡ find (λ value. g.Self.Coded.code_of value == l.code) l.values
