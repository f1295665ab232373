-- What the words of a statement say.
use Rattle.std.specs.Prelude.{◌≡◌, List, [], ◌∷◌, ℕ, ℤ, pos, Option, Some, None, Result, Ok, Err, ⊤, if◌then◌else◌, slice_get, unwrap_or}
use Rattle.std.specs.Int.Signed.{le_z}
use Rattle.odb_base.specs.declared.codes.orient.Orient.{Orient}
use Rattle.odb_base.specs.declared.codes.orient.Orient.TheVariants as orient
use Rattle.odb_base.specs.declared.geometry.Rect.{Rect}
use Rattle.ld_forms.specs.Names.{is_name}
use Rattle.ld_reader.specs.declared.fault.Stop.{Stop}
use Rattle.ld_reader.specs.declared.fault.Stop.TheVariants as stop
use Rattle.wires.specs.PathWords.{number_of}
use Rattle.def_forms.specs.declared.flaw.Flaw.{Flaw}
use Rattle.def_forms.specs.declared.flaw.Flaw.TheVariants as flaw
use Rattle.def_forms.specs.Numbers.{count_in, step_in}
use Rattle.def_forms.specs.WordSets.{orientation_in}

-- the words of a statement that are kept
abbrev pub Words : Type 0
Words = List (List ℕ)

-- a call gave what is due, or memory ran out
abbrev pub IsGiven : {A : Type 0} → Result A Flaw → Result A (Stop Flaw) → Type 0
IsGiven due (Ok x) = due ≡ Ok x
IsGiven due (Err stop.Memory) = ⊤
IsGiven due (Err (stop.Fault f)) = due ≡ Err f

-- a name, or a bad one
unfoldable pub name_in : List ℕ → Result (List ℕ) Flaw
name_in word = if is_name word then Ok word else Err flaw.BadName

abbrev pub name_or_bad : Option (List ℕ) → Result (List ℕ) Flaw
name_or_bad (Some word) = name_in word
name_or_bad None = Err flaw.BadName

-- the name at a place
unfoldable pub name_at : Words → ℕ → Result (List ℕ) Flaw
name_at words at = name_or_bad (slice_get words at)

-- the word at a place
abbrev pub text_at : Words → ℕ → List ℕ
text_at words at = unwrap_or (slice_get words at) []

-- what a word says, where there is one that says something
abbrev pub said : {A : Type 0} → (List ℕ → Option A) → A → Option (List ℕ) → A
said value none (Some word) = unwrap_or (value word) none
said value none None = none

-- the number at a place
abbrev pub coordinate_at : Words → ℕ → ℤ
coordinate_at words at = said number_of (pos 0) (slice_get words at)

-- how often something is repeated
abbrev pub count_at : Words → ℕ → ℕ
count_at words at = said count_in 1 (slice_get words at)

-- the distance of tracks
abbrev pub step_at : Words → ℕ → ℤ
step_at words at = said step_in (pos 1) (slice_get words at)

-- the orientation at a place
abbrev pub orientation_at : Words → ℕ → Orient
orientation_at words at = said orientation_in orient.N (slice_get words at)

-- the lesser number and the greater one
abbrev pub ordered : ℤ → ℤ → ℤ × ℤ
ordered a b = if le_z a b then (a, b) else (b, a)

-- the rectangle between two opposite corners
abbrev pub rect_in : Words → Rect
rect_in words =
    record {
      xl = (ordered (coordinate_at words 0) (coordinate_at words 2)).0;
      yl = (ordered (coordinate_at words 1) (coordinate_at words 3)).0;
      xh = (ordered (coordinate_at words 0) (coordinate_at words 2)).1;
      yh = (ordered (coordinate_at words 1) (coordinate_at words 3)).1;
    }
