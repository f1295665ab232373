-- Lists of identifiers.
use Rattle.std.proofs.Common.{◌≡◌, ◌≢◌, ◌||◌, true, false, eqb, List, [], ◌∷◌, ◌++◌, ℕ, refl, sym, ap, ◌∙◌, inl, inr}
use Rattle.std.proofs.lemmas.Bool.{cases_Bool, false≢true}
use Rattle.odb_base.specs.Ids.{holds}

pub holds-append : (xs ys : List ℕ) (id : ℕ) → holds (xs ++ ys) id ≡ (holds xs id || holds ys id)
holds-append [] ys id = refl
holds-append (x ∷ xs) ys id = elim (cases_Bool (eqb x id)) [
  | inl e ↦ rw e refl
  | inr e ↦ rw e (holds-append xs ys id)
]

-- a member of a list differs from what is no member
pub member_differs : (ids : List ℕ) (id other : ℕ) → holds ids id ≡ true → holds ids other ≡ false → id ≢ other
member_differs ids id other inside outside e = false≢true (sym outside ∙ ap (holds ids) (sym e) ∙ inside)
