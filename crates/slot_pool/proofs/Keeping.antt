-- What a pool keeps through its moves.
use Rattle.std.proofs.Common.{◌≡◌, ℕ, zero, suc, ◌+◌, ◌-◌, ◌<◌, ◌≤◌, ◌≢◌, inl, inr, true, cond, List, [], ◌∷◌, ◌++◌, length, get_or, set, take, slice_get, Some, None, is_some, count_by, refl, sym, ap, ◌∙◌, subst, arith, length-set}
use Rattle.std.specs.Prelude.{map}
use Rattle.std.proofs.Math.ListN.{get_or-map}
use Rattle.std.proofs.lemmas.Bool.{cases_lt}
use Rattle.std.proofs.lemmas.Bool.Decides.{nat_tests}
use Rattle.std.proofs.lemmas.List.{get_or_push, length-map, length_push, map_push, take_at}
use Rattle.std.proofs.lemmas.List.Sums.{get_or-le-sum_by}
use Rattle.std.proofs.lemmas.Option.{get_or_from_slice_get}
use Rattle.slot_pool.specs.declared.slot.Slot.{Slot}
use Rattle.slot_pool.specs.declared.slot.Slot.TheVariants as slot
use Rattle.slot_pool.specs.Layout.{spare_of, IsKept}
use Rattle.slot_pool.specs.Paging.{vacant}
use Rattle.slot_pool.specs.Stacking.{content, below, below_at, free_from, under, stack_table}
use Rattle.slot_pool.specs.Table.{Pool, Table, once_more, record_at, with_record, is_live, CanUntake, IsGood, taken, given, replaced, untaken}
use Rattle.slot_pool.proofs.Counted.{counted}
use Rattle.slot_pool.proofs.Counts.{empty_and_live, vacant_within, live_within, record_in-set}
use Rattle.slot_pool.proofs.StackMoves.{stack-given, stack-replaced, stack-taken}
use Rattle.slot_pool.proofs.Stacking.{length-free_from}
use Rattle.slot_pool.proofs.Tables.{top_is, given-taken, untaken-taken, IsGood-taken, IsGood-given, IsGood-shortened, IsGood-replaced}

module _ {A : Type 0} (slots : List (Slot A)) (count top : ℕ) where
  -- an id with a record has its slot among the slots
  pub live_place : (id : ℕ) → is_live (stack_table slots count top) id ≡ true → (1 ≤ id) × (id ≤ length slots)
  live_place id live =
      let was = live_within (map content slots) id live in
      (was.0, omega (arith, was.1, length-map slots content))

  -- the record of an id is that of its slot
  pub record_there : (id : ℕ) → is_live (stack_table slots count top) id ≡ true → record_at (stack_table slots count top) id ≡ content (get_or slots (id - 1) vacant)
  record_there id live = (live_within (map content slots) id live).2 ∙ get_or-map content slots (id - 1) vacant

  pub record_read : (id : ℕ) (s : Slot A) → is_live (stack_table slots count top) id ≡ true → slice_get slots (id - 1) ≡ Some s → record_at (stack_table slots count top) id ≡ content s
  record_read id s live read = record_there id live ∙ ap content (get_or_from_slice_get slots (id - 1) s vacant read)

  -- such a slot has a record
  pub content_read : (id : ℕ) (s : Slot A) → is_live (stack_table slots count top) id ≡ true → slice_get slots (id - 1) ≡ Some s → is_some (content s) ≡ true
  content_read id s live read = ap is_some (sym (record_read id s live read)) ∙ live

  -- an id with a record leaves fewer free ids than slots
  pub free_below : (id : ℕ) → IsGood (stack_table slots count top) → is_live (stack_table slots count top) id ≡ true → count < length slots
  free_below id good live =
      let held = map content slots in
      let was = live_within held id live in
      let some : cond (is_some (get_or held (id - 1) None)) 1 0 ≤ count_by is_some held = get_or-le-sum_by (λ slot. cond (is_some slot) 1 0) held (id - 1) None (omega (arith, was.0, was.1)) in
      let here : is_some (get_or held (id - 1) None) ≡ true = ap is_some (sym was.2) ∙ live in
      let one : 1 ≤ count_by is_some held = rw here at some in
      omega (arith, one, empty_and_live held, counted (stack_table slots count top) good, length-free_from slots count top, length-map slots content)

-- the id below another, read in its slot
pub below_read : {A : Type 0} (slots : List (Slot A)) (id : ℕ) (s : Slot A) → 1 ≤ id → slice_get slots (id - 1) ≡ Some s → below_at slots id ≡ below s
below_read slots zero s some read = absurd (omega arith)
below_read slots (suc place) s some read =
    let e : suc place - 1 ≡ place = omega arith in
    ap below (get_or_from_slice_get slots place s vacant (rw e at read))

module _ {A : Type 0} (slots : List (Slot A)) (count top room cap : ℕ) where
  -- a live slot is emptied, and its id goes on top
  pub table-given : (id : ℕ) → IsKept slots count top room cap → is_live (stack_table slots count top) id ≡ true → stack_table (set slots (id - 1) (slot.Free top)) (count + 1) id ≡ given id (stack_table slots count top)
  table-given id kept live =
      let one : count + 1 ≡ suc count = omega arith in
      rw one (stack-given slots count top id kept.good live).0

  pub IsKept-given : (id : ℕ) → IsKept slots count top room cap → is_live (stack_table slots count top) id ≡ true → IsKept (set slots (id - 1) (slot.Free top)) (count + 1) id room cap
  IsKept-given id kept live =
      let one : count + 1 ≡ suc count = omega arith in
      let moved = stack-given slots count top id kept.good live in
      let same = length-set slots (id - 1) (slot.Free top) in
      subst (λ n. IsKept (set slots (id - 1) (slot.Free top)) n id room cap) (sym one) (record {
        good = subst IsGood (sym moved.0) (IsGood-given id (stack_table slots count top) kept.good live);
        ends = moved.1 ∙ kept.ends;
        capped = omega (arith, same, kept.capped);
        in_pages = omega (arith, same, kept.in_pages);
      })

  -- a live slot has another record
  pub table-replaced : (id : ℕ) (x : A) → IsKept slots count top room cap → is_live (stack_table slots count top) id ≡ true → stack_table (set slots (id - 1) (slot.Live x)) count top ≡ replaced id x (stack_table slots count top)
  table-replaced id x kept live = (stack-replaced slots count top id x kept.good live).0

  pub IsKept-replaced : (id : ℕ) (x : A) → IsKept slots count top room cap → is_live (stack_table slots count top) id ≡ true → IsKept (set slots (id - 1) (slot.Live x)) count top room cap
  IsKept-replaced id x kept live =
      let moved = stack-replaced slots count top id x kept.good live in
      let same = length-set slots (id - 1) (slot.Live x) in
      record {
        good = subst IsGood (sym moved.0) (IsGood-replaced id x (stack_table slots count top) kept.good live);
        ends = moved.1 ∙ kept.ends;
        capped = omega (arith, same, kept.capped);
        in_pages = omega (arith, same, kept.in_pages);
      }

  -- the pool after it
  pub pool-replaced : (id : ℕ) (x : A) (moved now : ℕ) → IsKept slots count top room cap → is_live (stack_table slots count top) id ≡ true → now ≡ once_more moved → ◌≡◌ {A = Pool A} (record { table = stack_table (set slots (id - 1) (slot.Live x)) count top; cap = cap; spare = spare_of (length (set slots (id - 1) (slot.Live x))) count room cap; moved = now }) (with_record (record { table = stack_table slots count top; cap = cap; spare = spare_of (length slots) count room cap; moved = moved }) id x)
  pool-replaced id x moved now kept live is =
      rw (is, length-set slots (id - 1) (slot.Live x))
      (ap {B = Pool A} (λ t. record { table = t; cap = cap; spare = spare_of (length slots) count room cap; moved = once_more moved }) (table-replaced id x kept live))

  -- the top has an empty slot
  top_place_suc : IsKept slots (suc count) top room cap → (1 ≤ top) × (top ≤ length slots) × (get_or (map content slots) (top - 1) None ≡ None)
  top_place_suc kept =
      let was = top_is (map content slots) top (free_from slots count (below_at slots top)) kept.good in
      let at = vacant_within (map content slots) top was.0 in
      (at.0, omega (arith, at.1, length-map slots content), at.2)

  used_suc : (x : A) → IsKept slots (suc count) top room cap → IsKept (set slots (top - 1) (slot.Live x)) count (below_at slots top) room cap
  used_suc x kept =
      let moved = stack-taken slots count top x kept.good in
      let same = length-set slots (top - 1) (slot.Live x) in
      record {
        good = subst IsGood (sym moved.0) (IsGood-taken x (map content slots) (free_from slots (suc count) top) kept.good);
        ends = moved.1 ∙ kept.ends;
        capped = omega (arith, same, kept.capped);
        in_pages = omega (arith, same, kept.in_pages);
      }

module _ {A : Type 0} (slots : List (Slot A)) (count top room cap : ℕ) where
  kept_suc : 0 < count → IsKept slots count top room cap → IsKept slots (suc (count - 1)) top room cap
  kept_suc some kept =
      let one : count ≡ suc (count - 1) = omega arith in
      subst (λ n. IsKept slots n top room cap) one kept

  pub top_place : 0 < count → IsKept slots count top room cap → (1 ≤ top) × (top ≤ length slots) × (get_or (map content slots) (top - 1) None ≡ None)
  top_place some kept = top_place_suc slots (count - 1) top room cap (kept_suc some kept)

  -- the slot of the top, as it was read
  pub top_read : (s : Slot A) → 0 < count → IsKept slots count top room cap → slice_get slots (top - 1) ≡ Some s → content s ≡ None
  top_read s some kept read =
      ap content (sym (get_or_from_slice_get slots (top - 1) s vacant read)) ∙ sym (get_or-map content slots (top - 1) vacant) ∙ (top_place some kept).2

  -- the top is used for a record
  pub table-used : (x : A) (s : Slot A) → 0 < count → IsKept slots count top room cap → slice_get slots (top - 1) ≡ Some s → stack_table (set slots (top - 1) (slot.Live x)) (count - 1) (below s) ≡ taken x (stack_table slots count top)
  table-used x s some kept read =
      let one : count ≡ suc (count - 1) = omega arith in
      let next = below_read slots top s (top_place some kept).0 read in
      let now = (stack-taken slots (count - 1) top x (kept_suc some kept).good).0 in
      ap (λ t. stack_table (set slots (top - 1) (slot.Live x)) (count - 1) t) (sym next) ∙ now ∙ ap (λ n. taken x (stack_table slots n top)) (sym one)

  pub IsKept-used : (x : A) (s : Slot A) → 0 < count → IsKept slots count top room cap → slice_get slots (top - 1) ≡ Some s → IsKept (set slots (top - 1) (slot.Live x)) (count - 1) (below s) room cap
  IsKept-used x s some kept read =
      let next = below_read slots top s (top_place some kept).0 read in
      subst (λ t. IsKept (set slots (top - 1) (slot.Live x)) (count - 1) t room cap) next (used_suc slots (count - 1) top room cap x (kept_suc some kept))

  pub back-used : (x : A) (s : Slot A) → 0 < count → IsKept slots count top room cap → slice_get slots (top - 1) ≡ Some s → given top (stack_table (set slots (top - 1) (slot.Live x)) (count - 1) (below s)) ≡ stack_table slots count top
  back-used x s some kept read =
      let one : count ≡ suc (count - 1) = omega arith in
      let now : given top (taken x (stack_table slots (suc (count - 1)) top)) ≡ stack_table slots (suc (count - 1)) top = given-taken x (map content slots) top (free_from slots (count - 1) (below_at slots top)) (kept_suc some kept).good in
      ap (given top) (table-used x s some kept read) ∙ subst (λ n. given top (taken x (stack_table slots n top)) ≡ stack_table slots n top) (sym one) now

  pub live-used : (x : A) (s : Slot A) → 0 < count → IsKept slots count top room cap → slice_get slots (top - 1) ≡ Some s → is_live (stack_table (set slots (top - 1) (slot.Live x)) (count - 1) (below s)) top ≡ true
  live-used x s some kept read =
      let one : count ≡ suc (count - 1) = omega arith in
      let was = top_is (map content slots) top (free_from slots (count - 1) (below_at slots top)) (kept_suc some kept).good in
      let now : is_live (taken x (stack_table slots (suc (count - 1)) top)) top ≡ true = ap is_some (record_in-set (map content slots) (Some x) top was.0) in
      ap (λ t. is_live t top) (table-used x s some kept read) ∙ subst (λ n. is_live (taken x (stack_table slots n top)) top ≡ true) (sym one) now

  -- a pool whose list of free ids is empty
  pub none_free : free_from slots count top ≡ [] → count ≡ 0
  none_free none = sym (length-free_from slots count top) ∙ ap length none

  pub no_free_ids : count ≡ 0 → free_from slots count top ≡ []
  no_free_ids none = ap (λ n. free_from slots n top) none

  -- some id is free where the list of free ids isn't empty
  pub some_free : free_from slots count top ≢ [] → 0 < count
  some_free held = elim (cases_lt 0 count) [
    | inl some ↦ some
    | inr none ↦ absurd (held (no_free_ids (omega (arith, none))))
  ]

  -- a slot is added where no id is free
  pub table-added : (x : A) → count ≡ 0 → stack_table (slots ++ slot.Live x ∷ []) count top ≡ taken x (stack_table slots count top)
  table-added x none =
      let now : stack_table (slots ++ slot.Live x ∷ []) 0 top ≡ taken x (stack_table slots 0 top) = ap {B = Table A} (λ s. record { slots = s; free = [] }) (map_push content slots (slot.Live x)) in
      rw none now

  -- and taken back
  pub back-added : (x : A) (id : ℕ) → count ≡ 0 → untaken id true (stack_table (slots ++ slot.Live x ∷ []) count top) ≡ stack_table slots count top
  back-added x id none =
      let now : untaken id true (taken x (stack_table slots 0 top)) ≡ stack_table slots 0 top = untaken-taken x id (map content slots) in
      ap (untaken id true) (table-added x none) ∙ (rw none now)

  pub can-added : (x : A) (id : ℕ) → count ≡ 0 → id ≡ length slots + 1 → CanUntake (stack_table (slots ++ slot.Live x ∷ []) count top) id true
  can-added x id none is =
      let held : map content (slots ++ slot.Live x ∷ []) ≡ map content slots ++ Some x ∷ [] = map_push content slots (slot.Live x) in
      let long : length (map content slots) ≡ length slots = length-map slots content in
      let place : length (map content slots) ≡ id - 1 = omega (arith, is, long) in
      let at : get_or (map content (slots ++ slot.Live x ∷ [])) (id - 1) None ≡ Some x = rw held (get_or_push (map content slots) (Some x) None (id - 1) place) in
      record {
        live = grind (arith, nat_tests, is, at);
        last = λ _. omega (arith, is, ap length held, length_push (map content slots) (Some x), long);
        none_free = λ _. rw none refl;
      }

  pub IsKept-added : (x : A) → count ≡ 0 → 1 ≤ spare_of (length slots) count room cap → IsKept slots count top room cap → IsKept (slots ++ slot.Live x ∷ []) count top room cap
  IsKept-added x none spare kept =
      let long = length_push slots (slot.Live x) in
      let ends : under (slots ++ slot.Live x ∷ []) count top ≡ under slots count top = rw none refl in
      record {
        good = subst IsGood (sym (table-added x none)) (IsGood-taken x (map content slots) (free_from slots count top) kept.good);
        ends = ends ∙ kept.ends;
        capped = omega (arith, long, none, spare);
        in_pages = omega (arith, long, none, spare);
      }

  -- the last slot goes where no id is free
  pub table-dropped : (id : ℕ) (rest : List (Slot A)) (s : Slot A) → count ≡ 0 → slots ≡ rest ++ s ∷ [] → stack_table rest count top ≡ untaken id true (stack_table slots count top)
  table-dropped id rest s none is =
      let held : map content slots ≡ map content rest ++ content s ∷ [] = ap (map content) is ∙ map_push content rest s in
      let short : length (map content rest) ≡ length (map content slots) - 1 = omega (arith, ap length held, length_push (map content rest) (content s)) in
      let kept : take (length (map content slots) - 1) (map content slots) ≡ map content rest =
      ap (take (length (map content slots) - 1)) held ∙ take_at (map content rest) (content s ∷ []) (length (map content slots) - 1) short in
      let now : stack_table rest 0 top ≡ untaken id true (stack_table slots 0 top) = ap {B = Table A} (λ held. record { slots = held; free = [] }) (sym kept) in
      rw none now

  pub IsKept-dropped : (rest : List (Slot A)) (s : Slot A) → count ≡ 0 → slots ≡ rest ++ s ∷ [] → IsKept slots count top room cap → IsKept rest count top room cap
  IsKept-dropped rest s none is kept =
      let long = ap length is ∙ length_push rest s in
      let ends : under rest count top ≡ under slots count top = rw none refl in
      record {
        good = subst IsGood (sym (table-dropped 0 rest s none is)) (IsGood-shortened (stack_table slots count top) kept.good (no_free_ids none));
        ends = ends ∙ kept.ends;
        capped = omega (arith, long, kept.capped);
        in_pages = omega (arith, long, kept.in_pages);
      }
