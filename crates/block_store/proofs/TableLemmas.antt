-- Tables after the moves and changes of a block: what stands where, that they stay good, and the ways back.
use Rattle.std.proofs.Common.{◌≡◌, ◌+◌, ◌-◌, ◌≤◌, ◌≢◌, cond, eq-eqb, List, [], ◌∷◌, ℕ, Option, Some, None, IsTrue, is_some, length, slice_set, refl, sym, ap, ◌∙◌, arith}
use Rattle.std.specs.Option.{option_map, unwrap_or}
use Rattle.std.proofs.lemmas.Bool.{ne_eqb}
use Rattle.std.proofs.lemmas.List.{length_push, length-set, set-set, set-get_or}
use Rattle.slot_pool.specs.Table.{CanUntake, IsGood, Table, given, is_live, next_id, record_at, replaced, taken, taken_by, ungiven, untaken}
use Rattle.slot_pool.proofs.Counts.{live_within, vacant_within}
use Rattle.slot_pool.proofs.GoodTables.{next_ids_are_new}
use Rattle.slot_pool.proofs.Mapped.{at_on, at_taken, on_found, on_missing}
use Rattle.slot_pool.proofs.Tables.{IsGood-given, IsGood-replaced, IsGood-taken, given-taken, taken-given, top_is, untaken-taken}
use Rattle.std.proofs.lemmas.Bool.Decides.{nat_tests}
use Rattle.block_store.specs.Block.{empty_table, is_empty}
use Rattle.slot_pool.specs.Mapped.{on_record, on_slot}

module _ {A : Type 0} where
  -- an empty table has no record
  pub none_in_empty : (id : ℕ) → record_at (empty_table {A = A}) id ≡ None
  none_in_empty id = grind (arith, nat_tests)

  next_some_by : (slots : List (Option A)) (free : List ℕ) → IsGood (record { slots = slots; free = free }) → 1 ≤ next_id (record { slots = slots; free = free }) 0
  next_some_by slots [] good = omega arith
  next_some_by slots (top ∷ below) good = (vacant_within slots top (top_is slots top below good).0).0

  -- the next identifier is from 1 on
  pub next_some : (t : Table A) → IsGood t → 1 ≤ next_id t 0
  next_some t good = next_some_by t.slots t.free good

  pub good_taken : (x : A) (t : Table A) → IsGood t → IsGood (taken x t)
  good_taken x t good = IsGood-taken x t.slots t.free good

  slots_taken_by : (x : A) (slots : List (Option A)) (free : List ℕ) → length (taken_by x slots free).slots ≡ length slots + cond (is_empty free) 1 0
  slots_taken_by x slots [] = length_push slots (Some x)
  slots_taken_by x slots (top ∷ below) = omega (arith, length-set slots (top - 1) (Some x))

  -- a take adds a slot where no identifier is free
  pub slots_taken : (x : A) (t : Table A) → length (taken x t).slots ≡ length t.slots + cond (is_empty t.free) 1 0
  slots_taken x t = slots_taken_by x t.slots t.free

  can_untake_by : (x : A) (slots : List (Option A)) (free : List ℕ) → IsTrue (is_live (taken_by x slots free) (next_id (record { slots = slots; free = free }) 0)) → CanUntake (taken_by x slots free) (next_id (record { slots = slots; free = free }) 0) (is_empty free)
  can_untake_by x slots [] live = record { live = live; last = λ grew. omega (arith, length_push slots (Some x)); none_free = λ grew. refl }
  can_untake_by x slots (top ∷ below) live = record { live = live; last = λ grew. cc; none_free = λ grew. cc }

  -- a take taken back
  pub can_untake : (x : A) (t : Table A) → IsGood t → CanUntake (taken x t) (next_id t 0) (is_empty t.free)
  can_untake x t good = can_untake_by x t.slots t.free (ap is_some (at_taken x t good))

  back_taken_by : (x : A) (slots : List (Option A)) (free : List ℕ) → IsGood (record { slots = slots; free = free }) → untaken (next_id (record { slots = slots; free = free }) 0) (is_empty free) (taken_by x slots free) ≡ record { slots = slots; free = free }
  back_taken_by x slots [] good = untaken-taken x (next_id (record { slots = slots; free = [] }) 0) slots
  back_taken_by x slots (top ∷ below) good = given-taken x slots top below good

  pub back_taken : (x : A) (t : Table A) → IsGood t → untaken (next_id t 0) (is_empty t.free) (taken x t) ≡ t
  back_taken x t good = back_taken_by x t.slots t.free good

  pub good_given : (id : ℕ) (t : Table A) → IsGood t → IsTrue (is_live t id) → IsGood (given id t)
  good_given id t good live = IsGood-given id t good live

  -- a give keeps the number of slots
  pub slots_given : (id : ℕ) (t : Table A) → length (given id t).slots ≡ length t.slots
  slots_given id t = length-set t.slots (id - 1) None

  -- a give taken back
  pub back_given : (x : A) (id : ℕ) (t : Table A) → record_at t id ≡ Some x → ungiven x (given id t) ≡ t
  back_given x id t found = taken-given x id t found

  -- a record replaced twice
  replaced_twice : (x y : A) (id : ℕ) (t : Table A) → replaced id y (replaced id x t) ≡ replaced id y t
  replaced_twice x y id t = ap (λ (s : List (Option A)). record t { slots = s }) (set-set t.slots (id - 1) (Some x) (Some y))

  -- a record replaced by itself
  pub replaced_same : (x : A) (id : ℕ) (t : Table A) → record_at t id ≡ Some x → replaced id x t ≡ t
  replaced_same x id t found =
      let was = live_within t.slots id (ap is_some found) in
      ap (λ (s : List (Option A)). record t { slots = s }) (ap (λ (o : Option A). slice_set t.slots (id - 1) o) (sym found ∙ was.2) ∙ set-get_or t.slots (id - 1) None)

  on_on_by : (later first : A → A) (id : ℕ) (t : Table A) (o : Option A) → record_at t id ≡ o → on_record later id (on_slot first id t o) ≡ on_slot (λ x. later (first x)) id t o
  on_on_by later first id t None is = on_missing later id t is
  on_on_by later first id t (Some x) is =
      on_found later id (first x) (replaced id (first x) t) (ap (λ u. record_at u id) (sym (on_found first id x t is)) ∙ at_on first id t ∙ ap (option_map first) is)
      ∙ replaced_twice (first x) (later (first x)) id t

  -- two changes of one record are one; and a change taken back is none
  pub on_on : (later first : A → A) (id : ℕ) (t : Table A) → on_record later id (on_record first id t) ≡ on_record (λ x. later (first x)) id t
  on_on later first id t = on_on_by later first id t (record_at t id) refl

  on_same_by : (change : A → A) (id : ℕ) (t : Table A) (o : Option A) → record_at t id ≡ o → ((x : A) → o ≡ Some x → change x ≡ x) → on_slot change id t o ≡ t
  on_same_by change id t None is same = refl
  on_same_by change id t (Some x) is same = ap (λ y. replaced id y t) (same x refl) ∙ replaced_same x id t is

  pub on_same : (change : A → A) (id : ℕ) (t : Table A) → ((x : A) → record_at t id ≡ Some x → change x ≡ x) → on_record change id t ≡ t
  on_same change id t same = on_same_by change id t (record_at t id) refl same

  on_alike_by : (change other : A → A) (id : ℕ) (t : Table A) (o : Option A) → ((x : A) → o ≡ Some x → change x ≡ other x) → on_slot change id t o ≡ on_slot other id t o
  on_alike_by change other id t None same = refl
  on_alike_by change other id t (Some x) same = ap (λ y. replaced id y t) (same x refl)

  -- two changes that make one of the record
  pub on_alike : (change other : A → A) (id : ℕ) (t : Table A) → ((x : A) → record_at t id ≡ Some x → change x ≡ other x) → on_record change id t ≡ on_record other id t
  on_alike change other id t same = on_alike_by change other id t (record_at t id) same

-- A field that is set, and set back to what it was, or to a first value where there is no object.
pub set_back : {A B : Type 0} (set : B → A → A) (get : A → B) (new first : B) (id : ℕ) (t : Table A) → ((old new : B) (x : A) → set old (set new x) ≡ set old x) → ((x : A) → set (get x) x ≡ x) → on_record (set (unwrap_or (option_map get (record_at t id)) first)) id (on_record (set new) id t) ≡ t
set_back set get new first id t set_set set_get =
    let old = unwrap_or (option_map get (record_at t id)) first in
    on_on (set old) (set new) id t
    ∙ on_same (λ x. set old (set new x)) id t (λ x found. set_set old new x ∙ ap (λ o. set (unwrap_or (option_map get o) first) x) found ∙ set_get x)
