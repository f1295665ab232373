-- The stack of free ids inside the empty slots.
use Rattle.std.proofs.Common.{◌≡◌, ℕ, zero, suc, ◌-◌, ◌<◌, ◌≤◌, ◌≢◌, inl, inr, List, ◌∷◌, length, get_or, set, refl, sym, ap, ◌∙◌, arith, get_or-set_same, get_or-set_other}
use Rattle.std.proofs.lemmas.Bool.{cases_eq}
use Rattle.slot_pool.specs.declared.slot.Slot.{Slot}
use Rattle.slot_pool.specs.declared.slot.Slot.TheVariants as slot
use Rattle.slot_pool.specs.Paging.{vacant}
use Rattle.slot_pool.specs.Stacking.{below, below_at, free_from, under}
use Rattle.slot_pool.specs.Table.{times}
use Rattle.slot_pool.proofs.Counts.{times_cons_same, times_cons_other}

module _ {A : Type 0} where
  pub length-free_from : (slots : List (Slot A)) (count top : ℕ) → length (free_from slots count top) ≡ count
  length-free_from slots zero top = refl
  length-free_from slots (suc count) top = ap suc (length-free_from slots count (below_at slots top))

  -- the id at a place of the list
  pub get_or-free_from : (slots : List (Slot A)) (count top k d : ℕ) → k < count → get_or (free_from slots count top) k d ≡ under slots k top
  get_or-free_from slots zero top k d within = absurd (omega arith)
  get_or-free_from slots (suc count) top zero d within = refl
  get_or-free_from slots (suc count) top (suc k) d within = get_or-free_from slots count (below_at slots top) k d (omega arith)

  -- one id further down
  pub under-more : (slots : List (Slot A)) (k top : ℕ) → under slots (suc k) top ≡ below_at slots (under slots k top)
  under-more slots zero top = refl
  under-more slots (suc k) top = under-more slots k (below_at slots top)

  -- what stands below an id whose slot stays
  pub below_at-set_other : (slots : List (Slot A)) (id other : ℕ) (new : Slot A) → 1 ≤ id → other ≢ id → below_at (set slots (id - 1) new) other ≡ below_at slots other
  below_at-set_other slots id zero new some apart = refl
  below_at-set_other slots id (suc place) new some apart =
      let off : place ≢ id - 1 = λ e. apart (omega (arith, e, some)) in
      ap below (get_or-set_other slots (id - 1) place new vacant off)

  -- the slot of an id that the stack doesn't hold changes
  pub free_stays : (slots : List (Slot A)) (count top id : ℕ) (new : Slot A) → 1 ≤ id → times id (free_from slots count top) ≡ 0 → (free_from (set slots (id - 1) new) count top ≡ free_from slots count top) × (under (set slots (id - 1) new) count top ≡ under slots count top)
  free_stays slots zero top id new some outside = (refl, refl)
  free_stays slots (suc count) top id new some outside = elim (cases_eq top id) [
    | inl same ↦ let e = times_cons_same id top (free_from slots count (below_at slots top)) same in absurd (omega (arith, e, outside))
    | inr other ↦
        let e = times_cons_other id top (free_from slots count (below_at slots top)) other in
        let next = below_at-set_other slots id top new some other in
        let rest = free_stays slots count (below_at slots top) id new some (sym e ∙ outside) in
        (ap (λ t. top ∷ free_from (set slots (id - 1) new) count t) next ∙ ap (λ ids. top ∷ ids) rest.0, ap (under (set slots (id - 1) new) count) next ∙ rest.1)
  ]

  -- what stands below the id whose slot is emptied
  pub below_at-set_same : (slots : List (Slot A)) (id top : ℕ) → 1 ≤ id → id ≤ length slots → below_at (set slots (id - 1) (slot.Free top)) id ≡ top
  below_at-set_same slots zero top some within = absurd (omega arith)
  below_at-set_same slots (suc place) top some within =
      let e : suc place - 1 ≡ place = omega arith in
      rw e (ap below (get_or-set_same slots place (slot.Free top) vacant (omega (arith, within))))

  -- an id goes on top
  pub free_from-given : (slots : List (Slot A)) (count top id : ℕ) → 1 ≤ id → id ≤ length slots → times id (free_from slots count top) ≡ 0 → (free_from (set slots (id - 1) (slot.Free top)) (suc count) id ≡ id ∷ free_from slots count top) × (under (set slots (id - 1) (slot.Free top)) (suc count) id ≡ under slots count top)
  free_from-given slots count top id some within outside =
      let now = set slots (id - 1) (slot.Free top) in
      let next = below_at-set_same slots id top some within in
      let rest = free_stays slots count top id (slot.Free top) some outside in
      (ap (λ t. id ∷ free_from now count t) next ∙ ap (λ ids. id ∷ ids) rest.0, ap (under now count) next ∙ rest.1)
