-- An instance and its terminals.
use Rattle.std.specs.Prelude.{◌≡◌, ◌↔◌, List, ℕ, Option, Some, slice_get}
use Rattle.odb_base.specs.declared.codes.kind.Kind.TheVariants as kind
use Rattle.block_store.specs.View.{View}

-- The part stands at the k-th place of an object's list just where it names the object and the place.
abbrev pub ArePlaced : (ℕ → List ℕ) → (ℕ → Option (ℕ × ℕ)) → Type 0
ArePlaced list place = (object k part : ℕ) → (slice_get (list object) k ≡ Some part) ↔ (place part ≡ Some (object, k))

-- the terminals of an instance in a view, and the instance of a terminal with its place there
abbrev pub terminals_of : View → ℕ → List ℕ
terminals_of v inst = (v kind.Inst inst).terminals

abbrev pub place_of : View → ℕ → Option (ℕ × ℕ)
place_of v iterm = (v kind.ITerm iterm).place

-- each terminal stands at its place in its instance
abbrev pub AreTermsPlaced : View → Type 0
AreTermsPlaced v = ArePlaced (terminals_of v) (place_of v)
