-- Free ids are stacked in their empty slots, the last first.
use Rattle.std.proofs.Common.{◌≡◌, ℕ, zero, suc, ◌+◌, ◌-◌, ◌<◌, ◌≤◌, ◌∷◌, [], List, true, length, drop, get_or, set, slice_get, Some, None, refl, sym, ap, ◌∙◌, arith}
use Rattle.std.specs.Prelude.{map}
use Rattle.std.proofs.Math.ListN.{get_or-map}
use Rattle.std.proofs.lemmas.List.{drop_all, drop_more, length-map, map-set, set-get_or}
use Rattle.std.proofs.lemmas.Option.{get_or_from_slice_get}
use Rattle.slot_pool.specs.declared.slot.Slot.{Slot}
use Rattle.slot_pool.specs.declared.slot.Slot.TheVariants as slot
use Rattle.slot_pool.specs.Paging.{vacant}
use Rattle.slot_pool.specs.Stacking.{content, free_from, under}
use Rattle.slot_pool.specs.Table.{IsGood, is_vacant, once_if, times}
use Rattle.slot_pool.proofs.Counts.{times-cons, times_cons_same, vacant_within}
use Rattle.slot_pool.proofs.GoodTables.{free_ids_are_vacant}
use Rattle.slot_pool.proofs.Stacking.{free_from-given}

-- the ids behind a place are stacked
pub record IsStacked {A : Type 0} (given : List ℕ) (place : ℕ) (first : List (Slot A)) (slots : List (Slot A)) (top : ℕ) : Type 0 where
  pub held : map content slots ≡ map content first
  pub done : free_from slots (length (drop place given)) top ≡ drop place given
  pub ends : under slots (length (drop place given)) top ≡ 0

times_drop : (id n : ℕ) (ids : List ℕ) → times id (drop n ids) ≤ times id ids
times_drop id zero ids = omega arith
times_drop id (suc n) [] = omega arith
times_drop id (suc n) (x ∷ ids) = let rest = times_drop id n ids in omega (arith, rest, times-cons id x ids)

module _ {A : Type 0} (given : List ℕ) (first : List (Slot A)) where
  -- nothing is stacked yet
  pub stacked_none : (place top : ℕ) → length given ≤ place → top ≡ 0 → IsStacked given place first first top
  stacked_none place top past is =
      let none = drop_all place given past in
      record {
        held = refl;
        done = rw none refl;
        ends = rw none is;
      }

  module _ (slots : List (Slot A)) (top place : ℕ) (good : IsGood (record { slots = map content first; free = given })) (now : IsStacked given (place + 1) first slots top) (within : place < length given) where
    -- the next id has an empty slot
    pub next_place : (1 ≤ get_or given place 0) × (get_or given place 0 ≤ length slots) × (get_or (map content slots) (get_or given place 0 - 1) None ≡ None)
    next_place =
        let id = get_or given place 0 in
        let at = vacant_within (map content first) id (free_ids_are_vacant (record { slots = map content first; free = given }) good place 0 within) in
        let long : length (map content slots) ≡ length (map content first) = ap length now.held in
        (at.0, omega (arith, at.1, long, length-map slots content, length-map first content), ap (λ l. get_or l (id - 1) None) now.held ∙ at.2)

    pub next_read : (s : Slot A) → slice_get slots (get_or given place 0 - 1) ≡ Some s → content s ≡ None
    next_read s read =
        let id = get_or given place 0 in
        ap content (sym (get_or_from_slice_get slots (id - 1) s vacant read)) ∙ sym (get_or-map content slots (id - 1) vacant) ∙ next_place.2

    -- it isn't among those that are stacked
    apart : times (get_or given place 0) (drop (place + 1) given) ≡ 0
    apart =
        let id = get_or given place 0 in
        let more : drop place given ≡ id ∷ drop (place + 1) given = drop_more given place 0 within in
        let once = good id in
        let vacant_id : is_vacant (map content first) id ≡ true = free_ids_are_vacant (record { slots = map content first; free = given }) good place 0 within in
        let one : times id given ≡ 1 = once ∙ ap once_if vacant_id in
        omega (arith, one, times_drop id place given, ap (times id) more, times_cons_same id id (drop (place + 1) given) refl)

    pub stacked_more : IsStacked given place first (set slots (get_or given place 0 - 1) (slot.Free top)) (get_or given place 0)
    stacked_more =
        let id = get_or given place 0 in
        let more : drop place given ≡ id ∷ drop (place + 1) given = drop_more given place 0 within in
        let long : length (drop place given) ≡ suc (length (drop (place + 1) given)) = ap length more in
        let outside : times id (free_from slots (length (drop (place + 1) given)) top) ≡ 0 = ap (times id) now.done ∙ apart in
        let put = free_from-given slots (length (drop (place + 1) given)) top id next_place.0 next_place.1 outside in
        let same : set (map content slots) (id - 1) None ≡ map content slots = ap (set (map content slots) (id - 1)) (sym next_place.2) ∙ set-get_or (map content slots) (id - 1) None in
        record {
          held = map-set content slots (id - 1) (slot.Free top) ∙ same ∙ now.held;
          done = ap (λ n. free_from (set slots (id - 1) (slot.Free top)) n id) long ∙ put.0 ∙ ap (λ ids. id ∷ ids) now.done ∙ sym more;
          ends = ap (λ n. under (set slots (id - 1) (slot.Free top)) n id) long ∙ put.1 ∙ now.ends;
        }
