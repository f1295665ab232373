use Rattle.std.proofs.Common.{◌≡◌, ◌∷◌, ◌++◌, length}
use Rattle.std.specs.List.{flat_map}
use Rattle.ld_forms.specs.Kept.{joined}
use Rattle.ld_forms.proofs.kept.Kept.joined.Given as goal

abbrev pub invariant-words : goal.invariant-words
invariant-words l = l.text.items ++ flat_map (λ w. 32 ∷ w) l.rest ≡ joined l.fn.self

abbrev pub decreases-words : goal.decreases-words
decreases-words l = length l.rest
