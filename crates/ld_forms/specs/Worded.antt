-- The words of values.
use Rattle.std.specs.Prelude.{List, [], ◌∷◌, ℕ, Option}
use Rattle.std.specs.List.{find}
use Rattle.std.specs.Str.{bytes_eq}
use Rattle.odb_base.specs.declared.codes.usage.Usage.{Usage}
use Rattle.odb_base.specs.declared.codes.usage.Usage.TheVariants as usage
use Rattle.odb_base.specs.Usage.{usage_word}

-- the first of these values whose word this is
abbrev pub named : {A : Type 0} → (A → List ℕ) → List A → List ℕ → Option A
named word_of values word = find (λ value. bytes_eq (word_of value) word) values

-- USE of a pin or a net
unfoldable pub usage_in : List ℕ → Option Usage
usage_in word = named usage_word (usage.Signal ∷ usage.Analog ∷ usage.Power ∷ usage.Ground ∷ usage.Clock ∷ usage.Reset ∷ usage.Scan ∷ usage.TieOff ∷ []) word
