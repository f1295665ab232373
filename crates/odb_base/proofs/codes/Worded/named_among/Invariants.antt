use Rattle.std.proofs.Common.{◌≡◌, drop}
use Rattle.std.specs.List.{find}
use Rattle.std.specs.Str.{bytes_eq}
use Rattle.odb_base.proofs.codes.Worded.named_among.Given as goal

abbrev pub invariant-loop-value : goal.invariant-loop-value
invariant-loop-value g l = find (λ value. bytes_eq (g.Self.Worded.word_of value) l.word) (drop l.value-index l.values) ≡ find (λ value. bytes_eq (g.Self.Worded.word_of value) l.word) l.values
