-- Who stands in a list after a member came or went, and that none stands in it twice.
use Rattle.std.proofs.Common.{◌≡◌, true, false, eqb, eq-eqb, List, [], ◌∷◌, ℕ, Option, None, Some, refl, sym, ap, subst, ◌∙◌, ◌⊎◌, inl, inr, append-nil}
use Rattle.std.proofs.lemmas.Bool.{cases_Bool, eqb-true, false≢true, false_from_ne_true, or_parts}
use Rattle.odb_base.specs.Ids.{IsDistinct, holds, placed, placed_before}
use Rattle.odb_base.proofs.Members.{holds_placed}
use Rattle.odb_base.proofs.Splits.{distinct_in}

-- who stands in the list with one more in front
pub holds_front : (id m : ℕ) (ids : List ℕ) → holds (id ∷ ids) m ≡ true → (m ≡ id) ⊎ (holds ids m ≡ true)
holds_front id m ids h = elim (cases_Bool (eqb id m)) [
  | inl e ↦ inl (sym (eqb-true id m e))
  | inr e ↦ inr (rw e at h)
]

-- and with one put before another, or last
pub placed_holds : (id : ℕ) (next : Option ℕ) (ids : List ℕ) (m : ℕ) → holds (placed id next ids) m ≡ true → (m ≡ id) ⊎ (holds ids m ≡ true)
placed_holds id next ids m h = holds_front id m ids (sym (holds_placed id next ids m) ∙ h)

distinct_before : (id next : ℕ) (ids : List ℕ) → holds ids id ≡ false → IsDistinct ids → IsDistinct (placed_before id next ids)
distinct_before id next [] outside distinct = (refl, tt)
distinct_before id next (x ∷ xs) outside distinct =
    let parts = or_parts (eqb x id) (holds xs id) outside in
    elim (cases_Bool (eqb x next)) [
      | inl e ↦ rw e (outside, distinct)
      | inr e ↦ rw e (
        false_from_ne_true (holds (placed_before id next xs) x) (λ inside. elim (placed_holds id (Some next) xs x inside) [
          | inl same ↦ false≢true (sym parts.0 ∙ eq-eqb x id same)
          | inr behind ↦ false≢true (sym distinct.0 ∙ behind)
        ]),
        distinct_before id next xs parts.1 distinct.1,
      )
    ]

pub distinct_placed : (id : ℕ) (next : Option ℕ) (ids : List ℕ) → holds ids id ≡ false → IsDistinct ids → IsDistinct (placed id next ids)
distinct_placed id None ids outside distinct =
    distinct_in ids [] id (subst IsDistinct (sym (append-nil ids)) distinct) (ap (λ l. holds l id) (append-nil ids) ∙ outside)
distinct_placed id (Some next) ids outside distinct = distinct_before id next ids outside distinct
