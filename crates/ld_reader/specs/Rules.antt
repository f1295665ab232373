-- The rules of a language of statements.
use Rattle.std.specs.Prelude.{◌≡◌, Bool, List, Result, Ok, Err, ⊤}
use Rattle.ld_forms.specs.declared.place.Judged.{Judged}
use Rattle.ld_forms.specs.declared.place.Place.{Place}
use Rattle.ld_forms.specs.Places.{Word}
use Rattle.ld_reader.specs.declared.fault.Stop.{Stop}
use Rattle.ld_reader.specs.declared.fault.Stop.TheVariants as stop
use Rattle.ld_reader.specs.declared.language.Begun.{Begun}

-- the rules over what was read so far, classes of words, statements, and kinds of faults
pub record Rules (T C S K : Type 0) : Type 0 where
  -- what a word is to a class
  pub judged : C → Word → Judged K
  -- the places of a statement behind its first word
  pub places : S → List (Place C)
  -- what a word begins
  pub begun : T → Word → Begun C S K
  -- what was read with one more statement, of which these words are kept, or the fault of the word that ends it
  pub set : T → S → List Word → Result T K
  -- what was read with one part more that is passed over
  pub counted : T → T
  -- a word that its place doesn't take is a fault, whatever is due
  pub is_strict : T → Bool
  -- no more word is due
  pub is_done : T → Bool
  -- the text may end between statements
  pub may_end : T → Bool
  -- the fault of a word that can't stand where it does
  pub unexpected : K
  -- the fault of a text that ends too early
  pub cut : K

-- a call in place gave what is due, or memory ran out
abbrev pub Gives : {A K U : Type 0} → Result A K → A → Result U (Stop K) → Type 0
Gives due new (Ok u) = due ≡ Ok new
Gives due new (Err stop.Memory) = ⊤
Gives due new (Err (stop.Fault k)) = due ≡ Err k
