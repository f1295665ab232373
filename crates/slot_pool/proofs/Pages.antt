-- What a page lends is what the table says.
use Rattle.std.proofs.Common.{◌≡◌, ℕ, zero, suc, ◌+◌, ◌-◌, ◌<◌, ◌≤◌, List, inl, inr, true, length, get_or, slice_get, Some, None, refl, sym, ap, ◌∙◌, arith}
use Rattle.std.specs.Prelude.{map}
use Rattle.std.proofs.Math.ListN.{get_or-map}
use Rattle.std.proofs.lemmas.Bool.{cases_eq}
use Rattle.std.proofs.lemmas.Bool.Decides.{nat_tests}
use Rattle.std.proofs.lemmas.List.{length-map}
use Rattle.std.proofs.lemmas.Option.{slice_get-get_or}
use Rattle.slot_pool.specs.declared.slot.Slot.{Slot}
use Rattle.slot_pool.specs.declared.slot.Slot.TheVariants as slot
use Rattle.slot_pool.specs.Layout.{IsKept}
use Rattle.slot_pool.specs.Pages.{next_below, slot_of, slot_with}
use Rattle.slot_pool.specs.Paging.{vacant}
use Rattle.slot_pool.specs.Stacking.{content, below, below_at, free_from, under, stack_table}
use Rattle.slot_pool.specs.Table.{times, once_if, is_vacant, record_at}
use Rattle.slot_pool.proofs.Counts.{times_cons_other}

module _ {A : Type 0} (slots : List (Slot A)) where
  -- the first of the free ids, 0 where there are none
  first_free : (count top : ℕ) → under slots count top ≡ 0 → get_or (free_from slots count top) 0 0 ≡ top
  first_free zero top ends = sym ends
  first_free (suc count) top ends = refl

  -- the id below one in the list is the one that its slot has
  next_below_free : (count top id : ℕ) → under slots count top ≡ 0 → 1 ≤ times id (free_from slots count top) → next_below id (free_from slots count top) ≡ below_at slots id
  next_below_free zero top id ends held = absurd (omega (arith, held))
  next_below_free (suc count) top id ends held = elim (cases_eq top id) [
    | inl same ↦
        let first = first_free count (below_at slots top) ends in
        rw (← same) (grind (arith, nat_tests, first))
    | inr other ↦
        let e = times_cons_other id top (free_from slots count (below_at slots top)) other in
        let rest = next_below_free count (below_at slots top) id ends (omega (arith, e, held)) in
        grind (arith, nat_tests, other, rest)
  ]

module _ {A : Type 0} where
  -- a slot by its record and the id below
  slot_by : (s : Slot A) (next : ℕ) → (content s ≡ None → next ≡ below s) → s ≡ slot_with (content s) next
  slot_by (slot.Live x) next is = refl
  slot_by (slot.Free under) next is = ap slot.Free (sym (is refl))

module _ {A : Type 0} (slots : List (Slot A)) (count top room cap : ℕ) where
  pub slot_kept : (place : ℕ) → IsKept slots count top room cap → place < length slots → slice_get slots place ≡ Some (slot_of (stack_table slots count top) (place + 1))
  slot_kept place kept within =
      let s = get_or slots place vacant in
      let off : place + 1 - 1 ≡ place = omega arith in
      let read : get_or (map content slots) place None ≡ content s = get_or-map content slots place vacant in
      let record_is : record_at (stack_table slots count top) (place + 1) ≡ content s = grind (arith, nat_tests, off, read) in
      let here : below_at slots (place + 1) ≡ below s = let e : place + 1 ≡ suc place = omega arith in ap (below_at slots) e in
      let held : content s ≡ None → is_vacant (map content slots) (place + 1) ≡ true = λ none. grind (arith, nat_tests, within, length-map slots content, off, read, none) in
      let next : content s ≡ None → next_below (place + 1) (free_from slots count top) ≡ below s = λ none.
      let once = kept.good (place + 1) ∙ ap once_if (held none) in
      next_below_free slots count top (place + 1) kept.ends (omega (arith, once)) ∙ here in
      slice_get-get_or slots place vacant within ∙ ap Some (slot_by s (next_below (place + 1) (free_from slots count top)) next ∙ ap (λ r. slot_with r (next_below (place + 1) (free_from slots count top))) (sym record_is))
