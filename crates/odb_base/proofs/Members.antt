-- Who is a member of a list with an identifier put in its place, and of one without an identifier.
use Rattle.std.proofs.Common.{◌≡◌, ◌≢◌, ◌||◌, Bool, true, false, eqb, List, [], ◌∷◌, ℕ, Option, Some, None, refl, sym, ap, ◌∙◌, inl, inr}
use Rattle.std.proofs.lemmas.Bool.{cases_Bool, eqb-true, ne_eqb, false≢true, false_from_ne_true, or_cases, or_left, or_right}
use Rattle.odb_base.specs.Ids.{AreApart, IsDistinct, holds, placed, placed_before, without}
use Rattle.odb_base.proofs.Ids.{holds-append}

last_first : (a b : Bool) → (b || (a || false)) ≡ (a || b)
last_first true true = refl
last_first true false = refl
last_first false true = refl
last_first false false = refl

exchanged : (a b c : Bool) → (a || (b || c)) ≡ (b || (a || c))
exchanged true true c = refl
exchanged true false c = refl
exchanged false true c = refl
exchanged false false c = refl

holds_placed_before : (id next : ℕ) (ids : List ℕ) (k : ℕ) → holds (placed_before id next ids) k ≡ (eqb id k || holds ids k)
holds_placed_before id next [] k = refl
holds_placed_before id next (x ∷ xs) k = elim (cases_Bool (eqb x next)) [
  | inl e ↦ rw e refl
  | inr e ↦ rw e (ap (λ b. eqb x k || b) (holds_placed_before id next xs k) ∙ exchanged (eqb x k) (eqb id k) (holds xs k))
]

-- a list with an identifier in its place holds that one and what it held
pub holds_placed : (id : ℕ) (next : Option ℕ) (ids : List ℕ) (k : ℕ) → holds (placed id next ids) k ≡ (eqb id k || holds ids k)
holds_placed id None ids k = holds-append ids (id ∷ []) k ∙ last_first (eqb id k) (holds ids k)
holds_placed id (Some next) ids k = holds_placed_before id next ids k

-- what a list holds without an identifier, it held
pub holds_without : (id : ℕ) (ids : List ℕ) (k : ℕ) → holds (without id ids) k ≡ true → holds ids k ≡ true
holds_without id [] k inside = inside
holds_without id (x ∷ xs) k inside = elim (cases_Bool (eqb x id)) [
  | inl e ↦ or_right (eqb x k) (holds xs k) (rw e at inside)
  | inr e ↦ elim (or_cases (eqb x k) (holds (without id xs) k) (rw e at inside)) [
    | inl here ↦ or_left (eqb x k) (holds xs k) here
    | inr there ↦ or_right (eqb x k) (holds xs k) (holds_without id xs k there)
  ]
]

-- what it held and isn't that identifier, it holds without it
pub holds_without_other : (id : ℕ) (ids : List ℕ) (k : ℕ) → k ≢ id → holds ids k ≡ true → holds (without id ids) k ≡ true
holds_without_other id [] k ne inside = inside
holds_without_other id (x ∷ xs) k ne inside = elim (cases_Bool (eqb x id)) [
  | inl e ↦
      let other : x ≢ k = λ same. ne (sym same ∙ eqb-true x id e) in
      rw e (rw (ne_eqb x k other) at inside)
  | inr e ↦ rw e (elim (or_cases (eqb x k) (holds xs k) inside) [
    | inl here ↦ or_left (eqb x k) (holds (without id xs) k) here
    | inr there ↦ or_right (eqb x k) (holds (without id xs) k) (holds_without_other id xs k ne there)
  ])
]

-- a list without repeats doesn't hold an identifier once it is out
pub holds_without_same : (id : ℕ) (ids : List ℕ) → IsDistinct ids → holds (without id ids) id ≡ false
holds_without_same id [] distinct = refl
holds_without_same id (x ∷ xs) distinct = elim (cases_Bool (eqb x id)) [
  | inl e ↦ rw e (rw (eqb-true x id e) at distinct.0)
  | inr e ↦ rw (e, e) (holds_without_same id xs distinct.1)
]

pub distinct_without : (id : ℕ) (ids : List ℕ) → IsDistinct ids → IsDistinct (without id ids)
distinct_without id [] distinct = tt
distinct_without id (x ∷ xs) distinct = elim (cases_Bool (eqb x id)) [
  | inl e ↦ rw e distinct.1
  | inr e ↦ rw e (
    false_from_ne_true (holds (without id xs) x) (λ inside. false≢true (sym distinct.0 ∙ holds_without id xs x inside)),
    distinct_without id xs distinct.1,
  )
]

-- lists apart are apart in either order
pub apart_swap : (ids others : List ℕ) → AreApart ids others → AreApart others ids
apart_swap ids others apart k inside = false_from_ne_true (holds ids k) (λ both. false≢true (sym (apart k both) ∙ inside))

-- an identifier that is in neither list enters one of them, in any place, and leaves them apart
pub apart_with : (id : ℕ) (ids entered others : List ℕ) → ((k : ℕ) → holds entered k ≡ (eqb id k || holds ids k)) → holds others id ≡ false → AreApart ids others → AreApart entered others
apart_with id ids entered others is outside apart k inside =
    elim (or_cases (eqb id k) (holds ids k) (sym (is k) ∙ inside)) [
      | inl here ↦ rw (eqb-true id k here) at outside
      | inr there ↦ apart k there
    ]
