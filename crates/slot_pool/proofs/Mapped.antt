-- Tables with one record changed, and tables as they look through a function of each record: what stands where, and
-- what the moves make of them.
use Rattle.std.proofs.Common.{◌≡◌, ℕ, ◌+◌, ◌-◌, ◌≤◌, ◌≢◌, Bool, true, false, cond, eqb, eq-eqb, List, [], ◌∷◌, length, get_or, set, Option, Some, None, IsTrue, is_some, is_none, take, refl, sym, ap, ◌∙◌, arith, inl, inr}
use Rattle.std.specs.Prelude.{map}
use Rattle.std.specs.Option.{option_map}
use Rattle.std.proofs.Math.ListN.{get_or-map}
use Rattle.std.proofs.lemmas.Bool.{cases_eq, false≢true, ne_eqb}
use Rattle.std.proofs.lemmas.Bool.Decides.{nat_tests}
use Rattle.std.proofs.lemmas.List.{get_or-take, get_or_past, length-take, length-map, length-set, map-append, map-set, set-get_or, take-map}
use Rattle.slot_pool.specs.Mapped.{on_record, on_slot, plain}
use Rattle.slot_pool.specs.Table.{CanUntake, IsGood, Table, given, is_live, is_vacant, next_id, once_if, record_at, replaced, taken, taken_by, untaken}
use Rattle.slot_pool.proofs.Counts.{live_within}
use Rattle.slot_pool.proofs.GoodTables.{next_ids_are_new}
use Rattle.slot_pool.proofs.Records.{records_after_give, records_after_replace, records_after_take}
use Rattle.slot_pool.proofs.Tables.{IsGood-replaced}

module _ {A : Type 0} where
  -- an id that is live has a record
  pub record LiveRecord (t : Table A) (id : ℕ) : Type 0 where
    pub value : A
    pub is : record_at t id ≡ Some value

  live_record_by : (t : Table A) (id : ℕ) (o : Option A) → record_at t id ≡ o → is_some o ≡ true → LiveRecord t id
  live_record_by t id None is live = absurd (false≢true live)
  live_record_by t id (Some x) is live = record { value = x; is = is }

  pub live_record : (t : Table A) (id : ℕ) → IsTrue (is_live t id) → LiveRecord t id
  live_record t id live = live_record_by t id (record_at t id) refl live

  -- the id of the next take has no record before it, and the new one after it; the other ids have what they had
  pub at_next : (t : Table A) → IsGood t → record_at t (next_id t 0) ≡ None
  at_next t good = next_ids_are_new t good 0

  pub at_taken : (x : A) (t : Table A) → IsGood t → record_at (taken x t) (next_id t 0) ≡ Some x
  at_taken x t good = records_after_take x t good (next_id t 0) ∙ rw (eq-eqb (next_id t 0) (next_id t 0) refl) refl

  pub at_taken_other : (x : A) (t : Table A) (id : ℕ) → IsGood t → id ≢ next_id t 0 → record_at (taken x t) id ≡ record_at t id
  at_taken_other x t id good other = records_after_take x t good id ∙ rw (ne_eqb id (next_id t 0) other) refl

  -- an id that is given has no record then, and the other ids have what they had
  pub at_given : (id : ℕ) (t : Table A) → IsTrue (is_live t id) → record_at (given id t) id ≡ None
  at_given id t live = records_after_give id t live id ∙ rw (eq-eqb id id refl) refl

  pub at_given_other : (id other : ℕ) (t : Table A) → IsTrue (is_live t id) → other ≢ id → record_at (given id t) other ≡ record_at t other
  at_given_other id other t live apart = records_after_give id t live other ∙ rw (ne_eqb other id apart) refl

  -- a take uses a free id, where there is one
  length_taken_by : (x : A) (slots : List (Option A)) (free : List ℕ) → length (taken_by x slots free).free ≡ length free - 1
  length_taken_by x slots [] = refl
  length_taken_by x slots (top ∷ below) = omega arith

  pub free_taken : (x : A) (t : Table A) → length (taken x t).free ≡ length t.free - 1
  free_taken x t = length_taken_by x t.slots t.free

  -- a take that is taken back leaves no record at its id, and the other ids have what they had
  pub at_untaken : (id : ℕ) (grew : Bool) (t : Table A) → CanUntake t id grew → record_at (untaken id grew t) id ≡ None
  at_untaken id true t can =
      let last : id ≡ length t.slots = can.last refl in
      let within = live_within t.slots id can.live in
      let short : length (take (length t.slots - 1) t.slots) ≡ length t.slots - 1 = omega (arith, length-take (length t.slots - 1) t.slots) in
      let past = get_or_past (take (length t.slots - 1) t.slots) (id - 1) None in
      grind (arith, nat_tests, last, within.0, short, past)
  at_untaken id false t can = at_given id t can.live

  pub at_untaken_other : (id other : ℕ) (grew : Bool) (t : Table A) → CanUntake t id grew → other ≢ id → record_at (untaken id grew t) other ≡ record_at t other
  at_untaken_other id other true t can apart =
      let last : id ≡ length t.slots = can.last refl in
      let short : length (take (length t.slots - 1) t.slots) ≡ length t.slots - 1 = omega (arith, length-take (length t.slots - 1) t.slots) in
      let before = get_or-take (length t.slots - 1) t.slots (other - 1) None in
      let past = get_or_past (take (length t.slots - 1) t.slots) (other - 1) None in
      let none = get_or_past t.slots (other - 1) None in
      grind (arith, nat_tests, last, apart, short, before, past, none)
  at_untaken_other id other false t can apart = at_given_other id other t can.live apart

  -- it frees one id at most
  pub free_untaken : (id : ℕ) (grew : Bool) (t : Table A) → length (untaken id grew t).free ≤ length t.free + 1
  free_untaken id true t = omega arith
  free_untaken id false t = omega arith

  -- a changed record, where it is there; a change of what isn't there changes nothing
  pub on_found : (change : A → A) (id : ℕ) (x : A) (t : Table A) → record_at t id ≡ Some x → on_record change id t ≡ replaced id (change x) t
  on_found change id x t found = ap (on_slot change id t) found

  pub on_missing : (change : A → A) (id : ℕ) (t : Table A) → record_at t id ≡ None → on_record change id t ≡ t
  on_missing change id t missing = ap (on_slot change id t) missing

  at_on_by : (change : A → A) (id : ℕ) (t : Table A) (o : Option A) → record_at t id ≡ o → record_at (on_slot change id t o) id ≡ option_map change o
  at_on_by change id t None is = is
  at_on_by change id t (Some x) is = records_after_replace id (change x) t (ap is_some is) id ∙ rw (eq-eqb id id refl) refl

  pub at_on : (change : A → A) (id : ℕ) (t : Table A) → record_at (on_record change id t) id ≡ option_map change (record_at t id)
  at_on change id t = at_on_by change id t (record_at t id) refl

  at_on_other_by : (change : A → A) (id other : ℕ) (t : Table A) (o : Option A) → record_at t id ≡ o → other ≢ id → record_at (on_slot change id t o) other ≡ record_at t other
  at_on_other_by change id other t None is apart = refl
  at_on_other_by change id other t (Some x) is apart = records_after_replace id (change x) t (ap is_some is) other ∙ rw (ne_eqb other id apart) refl

  pub at_on_other : (change : A → A) (id other : ℕ) (t : Table A) → other ≢ id → record_at (on_record change id t) other ≡ record_at t other
  at_on_other change id other t apart = at_on_other_by change id other t (record_at t id) refl apart

  good_on_by : (change : A → A) (id : ℕ) (t : Table A) (o : Option A) → record_at t id ≡ o → IsGood t → IsGood (on_slot change id t o)
  good_on_by change id t None is good = good
  good_on_by change id t (Some x) is good = IsGood-replaced id (change x) t good (ap is_some is)

  -- a change keeps a table good, and the number of its slots
  pub good_on : (change : A → A) (id : ℕ) (t : Table A) → IsGood t → IsGood (on_record change id t)
  good_on change id t good = good_on_by change id t (record_at t id) refl good

  slots_on_by : (change : A → A) (id : ℕ) (t : Table A) (o : Option A) → length (on_slot change id t o).slots ≡ length t.slots
  slots_on_by change id t None = refl
  slots_on_by change id t (Some x) = length-set t.slots (id - 1) (Some (change x))

  pub slots_on : (change : A → A) (id : ℕ) (t : Table A) → length (on_record change id t).slots ≡ length t.slots
  slots_on change id t = slots_on_by change id t (record_at t id)

  free_on_by : (change : A → A) (id : ℕ) (t : Table A) (o : Option A) → (on_slot change id t o).free ≡ t.free
  free_on_by change id t None = refl
  free_on_by change id t (Some x) = refl

  -- and its free ids
  pub free_on : (change : A → A) (id : ℕ) (t : Table A) → (on_record change id t).free ≡ t.free
  free_on change id t = free_on_by change id t (record_at t id)

module _ {A R : Type 0} (view : Option A → R) where
  view_on_by : (change : A → A) (id other : ℕ) (t : Table A) (o : Option A) → record_at t id ≡ o → ((x : A) → o ≡ Some x → view (Some (change x)) ≡ view (Some x)) → other ≡ id → view (record_at (on_record change id t) other) ≡ view (record_at t other)
  view_on_by change id other t None is same e = ap (λ u. view (record_at u other)) (on_missing change id t is)
  view_on_by change id other t (Some x) is same e =
      ap (λ k. view (record_at (on_record change id t) k)) e ∙ ap view (at_on change id t) ∙ ap (λ o. view (option_map change o)) is
      ∙ same x refl ∙ ap view (sym is) ∙ ap (λ k. view (record_at t k)) (sym e)

  -- a changed record that shows the same: all shows the same
  pub view_on : (change : A → A) (id : ℕ) (t : Table A) → ((x : A) → record_at t id ≡ Some x → view (Some (change x)) ≡ view (Some x)) → (other : ℕ) → view (record_at (on_record change id t) other) ≡ view (record_at t other)
  view_on change id t same other = elim (cases_eq other id) [
    | inl e ↦ view_on_by change id other t (record_at t id) refl same e
    | inr e ↦ ap view (at_on_other change id other t e)
  ]

module _ {A : Type 0} where
  -- a change leaves who is live
  pub live_on : (change : A → A) (id : ℕ) (t : Table A) (other : ℕ) → is_live (on_record change id t) other ≡ is_live t other
  live_on change id t other = view_on is_some change id t (λ x found. refl) other

module _ {A B : Type 0} (show : A → B) where
  is_none-shown : (o : Option A) → is_none (option_map show o) ≡ is_none o
  is_none-shown None = refl
  is_none-shown (Some x) = refl

  is_some-shown : (o : Option A) → is_some (option_map show o) ≡ is_some o
  is_some-shown None = refl
  is_some-shown (Some x) = refl

  content_plain : (slots : List (Option A)) (place : ℕ) → get_or (map (option_map show) slots) place None ≡ option_map show (get_or slots place None)
  content_plain slots place = get_or-map (option_map show) slots place None

  at_plain_by : (slots : List (Option A)) (id : ℕ) (first : Bool) → cond first None (get_or (map (option_map show) slots) (id - 1) None) ≡ option_map show (cond first None (get_or slots (id - 1) None))
  at_plain_by slots id true = refl
  at_plain_by slots id false = content_plain slots (id - 1)

  -- a table that is shown has at each id what is shown of its record
  pub at_plain : (t : Table A) (id : ℕ) → record_at (plain show t) id ≡ option_map show (record_at t id)
  at_plain t id = at_plain_by t.slots id (eqb id 0)

  -- the same ids are live
  pub live_plain : (t : Table A) (id : ℕ) → is_live (plain show t) id ≡ is_live t id
  live_plain t id = ap is_some (at_plain t id) ∙ is_some-shown (record_at t id)

  -- it has as many slots
  pub slots_plain : (t : Table A) → length (plain show t).slots ≡ length t.slots
  slots_plain t = length-map t.slots (option_map show)

  vacant_plain : (t : Table A) (id : ℕ) → is_vacant (plain show t).slots id ≡ is_vacant t.slots id
  vacant_plain t id =
      let long = slots_plain t in
      let none : is_none (record_at (plain show t) id) ≡ is_none (record_at t id) = ap is_none (at_plain t id) ∙ is_none-shown (record_at t id) in
      grind (arith, nat_tests, long, none)

  -- the one is good where the other is
  pub good_plain : (t : Table A) → IsGood t → IsGood (plain show t)
  good_plain t good = λ id. good id ∙ ap once_if (sym (vacant_plain t id))

  pub good_shown : (t : Table A) → IsGood (plain show t) → IsGood t
  good_shown t good = λ id. good id ∙ ap once_if (vacant_plain t id)

  -- their next takes give the same ids
  pub next_plain : (t : Table A) (k : ℕ) → next_id (plain show t) k ≡ next_id t k
  next_plain t k = ap (λ n. get_or t.free k (n + (k + 1 - length t.free))) (slots_plain t)

  plain_taken_by : (x : A) (slots : List (Option A)) (free : List ℕ) → plain show (taken_by x slots free) ≡ taken_by (show x) (map (option_map show) slots) free
  plain_taken_by x slots [] = ap (λ (s : List (Option B)). record { slots = s; free = [] }) (map-append (option_map show) slots (Some x ∷ []))
  plain_taken_by x slots (top ∷ below) = ap (λ (s : List (Option B)). record { slots = s; free = below }) (map-set (option_map show) slots (top - 1) (Some x))

  -- the moves of a table are those of what it shows
  pub plain_taken : (x : A) (t : Table A) → plain show (taken x t) ≡ taken (show x) (plain show t)
  plain_taken x t = plain_taken_by x t.slots t.free

  pub plain_given : (id : ℕ) (t : Table A) → plain show (given id t) ≡ given id (plain show t)
  plain_given id t = ap (λ (s : List (Option B)). record { slots = s; free = id ∷ t.free }) (map-set (option_map show) t.slots (id - 1) None)

  pub plain_replaced : (id : ℕ) (x : A) (t : Table A) → plain show (replaced id x t) ≡ replaced id (show x) (plain show t)
  plain_replaced id x t = ap (λ (s : List (Option B)). record { slots = s; free = t.free }) (map-set (option_map show) t.slots (id - 1) (Some x))

  pub plain_untaken : (id : ℕ) (grew : Bool) (t : Table A) → plain show (untaken id grew t) ≡ untaken id grew (plain show t)
  plain_untaken id true t =
      ap (λ (s : List (Option B)). record { slots = s; free = t.free }) (sym (take-map (option_map show) (length t.slots - 1) t.slots)
      ∙ ap (λ n. take (n - 1) (map (option_map show) t.slots)) (sym (slots_plain t)))
  plain_untaken id false t = plain_given id t

  -- a take can be taken back in the one where it can in the other
  pub can_untake_shown : (t : Table A) (id : ℕ) (grew : Bool) → CanUntake (plain show t) id grew → CanUntake t id grew
  can_untake_shown t id grew can = record {
    live = sym (live_plain t id) ∙ can.live;
    last = λ is. can.last is ∙ slots_plain t;
    none_free = can.none_free;
  }

  pub can_untake_plain : (t : Table A) (id : ℕ) (grew : Bool) → CanUntake t id grew → CanUntake (plain show t) id grew
  can_untake_plain t id grew can = record {
    live = live_plain t id ∙ can.live;
    last = λ is. can.last is ∙ sym (slots_plain t);
    none_free = can.none_free;
  }

  plain_on_by : (change : A → A) (shown : B → B) (id : ℕ) (t : Table A) (o : Option A) → record_at t id ≡ o → ((x : A) → o ≡ Some x → show (change x) ≡ shown (show x)) → plain show (on_slot change id t o) ≡ on_slot shown id (plain show t) (option_map show o)
  plain_on_by change shown id t None is same = refl
  plain_on_by change shown id t (Some x) is same = plain_replaced id (change x) t ∙ ap (λ y. replaced id y (plain show t)) (same x refl)

  -- a change of a record is a change of what it shows
  pub plain_on : (change : A → A) (shown : B → B) (id : ℕ) (t : Table A) → ((x : A) → record_at t id ≡ Some x → show (change x) ≡ shown (show x)) → plain show (on_record change id t) ≡ on_record shown id (plain show t)
  plain_on change shown id t same = plain_on_by change shown id t (record_at t id) refl same ∙ ap (on_slot shown id (plain show t)) (sym (at_plain t id))

  unseen_by : (change : A → A) (id : ℕ) (t : Table A) (o : Option A) → record_at t id ≡ o → ((x : A) → o ≡ Some x → show (change x) ≡ show x) → plain show (on_slot change id t o) ≡ plain show t
  unseen_by change id t None is same = refl
  unseen_by change id t (Some x) is same =
      let was = live_within t.slots id (ap is_some is) in
      let content : get_or (map (option_map show) t.slots) (id - 1) None ≡ Some (show x) = content_plain t.slots (id - 1) ∙ ap (option_map show) (sym was.2 ∙ is) in
      plain_replaced id (change x) t ∙ ap (λ y. replaced id y (plain show t)) (same x refl)
      ∙ ap (λ (s : List (Option B)). record { slots = s; free = t.free }) (ap (set (map (option_map show) t.slots) (id - 1)) (sym content) ∙ set-get_or (map (option_map show) t.slots) (id - 1) None)

  -- a change that isn't shown
  pub unseen : (change : A → A) (id : ℕ) (t : Table A) → ((x : A) → record_at t id ≡ Some x → show (change x) ≡ show x) → plain show (on_record change id t) ≡ plain show t
  unseen change id t same = unseen_by change id t (record_at t id) refl same
