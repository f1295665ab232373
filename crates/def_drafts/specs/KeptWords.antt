-- Words that are kept as they are.
use Rattle.std.specs.Prelude.{◌++◌, ◌==◌, List, ◌∷◌, ℕ, Result, Ok, Err, codes, if◌then◌else◌, length, nat_le}
use Rattle.odb_fields.specs.Reading.{◌>>=◌}
use Rattle.def_forms.specs.declared.flaw.Flaw.{Flaw}
use Rattle.def_forms.specs.declared.flaw.Flaw.TheVariants as flaw

-- with one more word, behind a space
abbrev pub with_word : List ℕ → List ℕ → List ℕ
with_word kept word = if length kept == 0 then word else kept ++ 32 ∷ word

-- with one more word, which is unexpected where the words would be more than 1,000,000 bytes
unfoldable pub kept_with : List ℕ → List ℕ → Result (List ℕ) Flaw
kept_with kept word = if nat_le (length (with_word kept word)) 1000000 then Ok (with_word kept word) else Err flaw.Unexpected

-- with the words of one more option
abbrev pub kept_option : List ℕ → List ℕ → Result (List ℕ) Flaw
kept_option kept word = kept_with kept (codes "+") >>= λ more. kept_with more word
