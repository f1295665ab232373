-- Good tables stay good, and each move has its way back.
use Rattle.std.proofs.Common.{◌≡◌, ℕ, ◌+◌, ◌-◌, ◌≢◌, Bool, true, false, List, [], ◌∷◌, ◌++◌, length, get_or, set, take, Option, Some, None, is_some, refl, sym, ap, ◌∙◌, arith, ◌⊎◌, inl, inr}
use Rattle.std.proofs.lemmas.Bool.Decides.{nat_tests}
use Rattle.std.proofs.lemmas.Bool.{cases_eq, cases_Bool}
use Rattle.std.proofs.lemmas.List.{set-set, set-get_or, take_at, length_push}
use Rattle.slot_pool.specs.Table.{Table, times, once_if, is_vacant, with_slot, record_at, is_live, IsGood, taken_by, taken, given, replaced, untaken, CanUntake}
use Rattle.slot_pool.proofs.Counts.{times_cons_same, times_cons_other, is_vacant-push, is_vacant-set_other, is_vacant-set_some, is_vacant-set_none, vacant_within, live_within, is_vacant-take}

module _ {A : Type 0} where
  -- the top of a good table's free list is vacant, and stands there once
  pub top_is : (slots : List (Option A)) (top : ℕ) (below : List ℕ) → IsGood (record { slots = slots; free = top ∷ below }) → (is_vacant slots top ≡ true) × (times top below ≡ 0)
  top_is slots top below good =
      let once = good top in
      let top_first = times_cons_same top top below refl in
      grind (arith, nat_tests, once, top_first)

  -- the top is used for a record
  good_used : (x : A) (slots : List (Option A)) (top : ℕ) (below : List ℕ) → IsGood (record { slots = slots; free = top ∷ below }) → (id : ℕ) → (top ≡ id) ⊎ (top ≢ id) → times id below ≡ once_if (is_vacant (with_slot top (Some x) slots) id)
  good_used x slots top below good id (inl same) =
      let was = top_is slots top below good in
      let now = is_vacant-set_some slots x top in
      rw (← same, now) was.1
  good_used x slots top below good id (inr other) =
      let was = top_is slots top below good in
      let vacant = vacant_within slots top was.0 in
      rw (is_vacant-set_other slots (Some x) top id vacant.0 (λ e. other (sym e))) (sym (times_cons_other id top below other) ∙ good id)

  -- a take keeps a table good
  pub IsGood-taken : (x : A) (slots : List (Option A)) (free : List ℕ) → IsGood (record { slots = slots; free = free }) → IsGood (taken_by x slots free)
  IsGood-taken x slots [] good = λ id. rw is_vacant-push (good id)
  IsGood-taken x slots (top ∷ below) good = λ id. good_used x slots top below good id (cases_eq top id)

  -- a slot is emptied and its id goes on top
  good_emptied : (id : ℕ) (t : Table A) → IsGood t → is_live t id ≡ true → (other : ℕ) → (id ≡ other) ⊎ (id ≢ other) → times other (id ∷ t.free) ≡ once_if (is_vacant (with_slot id None t.slots) other)
  good_emptied id t good live other (inl same) =
      let was = live_within t.slots id live in
      let none : times other t.free ≡ 0 = rw same at (good id ∙ ap once_if was.3) in
      rw (is_vacant-set_none t.slots id other same was.0 was.1) (times_cons_same other id t.free same ∙ ap (λ n. 1 + n) none)
  good_emptied id t good live other (inr apart) =
      let was = live_within t.slots id live in
      rw (is_vacant-set_other t.slots None id other was.0 (λ e. apart (sym e))) (times_cons_other other id t.free apart ∙ good other)

  -- a give keeps a table good
  pub IsGood-given : (id : ℕ) (t : Table A) → IsGood t → is_live t id ≡ true → IsGood (given id t)
  IsGood-given id t good live = λ other. good_emptied id t good live other (cases_eq id other)

  -- the last slot goes
  good_dropped : (t : Table A) → IsGood t → t.free ≡ [] → (id : ℕ) → (is_vacant (take (length t.slots - 1) t.slots) id ≡ true) ⊎ (is_vacant (take (length t.slots - 1) t.slots) id ≡ false) → times id t.free ≡ once_if (is_vacant (take (length t.slots - 1) t.slots) id)
  good_dropped t good none_free id (inl vacant) =
      let was = is_vacant-take t.slots id vacant in
      rw vacant (good id ∙ ap once_if was)
  good_dropped t good none_free id (inr not_vacant) = rw (not_vacant, none_free) refl

  -- a good table without its last slot, where no id is free
  pub IsGood-shortened : (t : Table A) → IsGood t → t.free ≡ [] → IsGood (record t { slots = take (length t.slots - 1) t.slots })
  IsGood-shortened t good none_free = λ id. good_dropped t good none_free id (cases_Bool (is_vacant (take (length t.slots - 1) t.slots) id))

  -- the way back of a take keeps a table good
  pub IsGood-untaken : (id : ℕ) (grew : Bool) (t : Table A) → IsGood t → CanUntake t id grew → IsGood (untaken id grew t)
  IsGood-untaken id true t good can = IsGood-shortened t good (can.none_free refl)
  IsGood-untaken id false t good can = IsGood-given id t good can.live

  -- a live slot has another record
  good_rewritten : (id : ℕ) (x : A) (t : Table A) → IsGood t → is_live t id ≡ true → (other : ℕ) → (id ≡ other) ⊎ (id ≢ other) → times other t.free ≡ once_if (is_vacant (with_slot id (Some x) t.slots) other)
  good_rewritten id x t good live other (inl same) =
      let was = live_within t.slots id live in
      rw (← same, is_vacant-set_some t.slots x id) (good id ∙ ap once_if was.3)
  good_rewritten id x t good live other (inr apart) =
      let was = live_within t.slots id live in
      rw (is_vacant-set_other t.slots (Some x) id other was.0 (λ e. apart (sym e))) (good other)

  -- a new record for an old one keeps a table good
  pub IsGood-replaced : (id : ℕ) (x : A) (t : Table A) → IsGood t → is_live t id ≡ true → IsGood (replaced id x t)
  IsGood-replaced id x t good live = λ other. good_rewritten id x t good live other (cases_eq id other)

  -- a take of the top is given back
  pub given-taken : (x : A) (slots : List (Option A)) (top : ℕ) (below : List ℕ) → IsGood (record { slots = slots; free = top ∷ below }) → given top (taken_by x slots (top ∷ below)) ≡ record { slots = slots; free = top ∷ below }
  given-taken x slots top below good =
      let vacant = vacant_within slots top (top_is slots top below good).0 in
      let back : with_slot top None (with_slot top (Some x) slots) ≡ slots =
      set-set slots (top - 1) (Some x) None ∙ ap (set slots (top - 1)) (sym vacant.2) ∙ set-get_or slots (top - 1) None in
      ap (λ (s : List (Option A)). record { slots = s; free = top ∷ below }) back

  -- a take that added a slot is taken back
  pub untaken-taken : (x : A) (id : ℕ) (slots : List (Option A)) → untaken id true (taken_by x slots []) ≡ record { slots = slots; free = [] }
  untaken-taken x id slots =
      let short : length slots ≡ length (slots ++ Some x ∷ []) - 1 = omega (arith, length_push slots (Some x)) in
      ap (λ (s : List (Option A)). record { slots = s; free = [] }) (take_at slots (Some x ∷ []) (length (slots ++ Some x ∷ []) - 1) short)

  -- a give is taken again
  pub taken-given : (x : A) (id : ℕ) (t : Table A) → record_at t id ≡ Some x → taken x (given id t) ≡ t
  taken-given x id t found =
      let was = live_within t.slots id (ap is_some found) in
      let content : get_or t.slots (id - 1) None ≡ Some x = sym was.2 ∙ found in
      let back : with_slot id (Some x) (with_slot id None t.slots) ≡ t.slots =
      set-set t.slots (id - 1) None (Some x) ∙ ap (set t.slots (id - 1)) (sym content) ∙ set-get_or t.slots (id - 1) None in
      ap (λ (s : List (Option A)). record { slots = s; free = t.free }) back
