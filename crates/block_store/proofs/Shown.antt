-- What a table shows of its records after a move or a change, and that the records stay sound by themselves.
use Rattle.std.proofs.Common.{◌≡◌, ◌+◌, ◌-◌, ◌≤◌, ◌≢◌, true, cond, List, [], ◌∷◌, ℕ, Option, Some, None, IsTrue, is_some, length, refl, sym, ap, ◌∙◌, subst, arith, inl, inr}
use Rattle.std.specs.Option.{option_map}
use Rattle.std.proofs.lemmas.Bool.{cases_eq, false≢true}
use Rattle.slot_pool.proofs.Counts.{live_within}
use Rattle.slot_pool.specs.Table.{IsGood, Table, given, is_live, next_id, record_at, taken}
use Rattle.block_store.specs.Block.{is_empty}
use Rattle.slot_pool.specs.Mapped.{on_record}
use Rattle.named_pool.specs.Names.{AreNamed, name_by}
use Rattle.block_store.specs.Tables.{AreEach, IsTable}
use Rattle.slot_pool.proofs.Mapped.{at_given, at_given_other, at_next, at_on, at_on_other, at_taken, at_taken_other, good_on, live_record, on_missing, slots_on, view_on}
use Rattle.block_store.proofs.TableLemmas.{good_given, good_taken, slots_given, slots_taken}

module _ {A : Type 0} where
  -- what has a record is there
  pub live_by : (t : Table A) (id : ℕ) (x : A) → record_at t id ≡ Some x → IsTrue (is_live t id)
  live_by t id x found = ap is_some found

  -- and has an identifier from 1 on
  pub from_one : (t : Table A) (id : ℕ) → IsTrue (is_live t id) → 1 ≤ id
  from_one t id live = (live_within t.slots id live).0

  -- where no record is lawful, no object is there
  pub none_live : (t : Table A) (id : ℕ) → AreEach (λ x. ⊥) t → IsTrue (is_live t id) → ⊥
  none_live t id none live = let x = live_record t id live in none id x.value x.is

module _ {A R : Type 0} (view : Option A → R) where
  -- what the changed record shows, and the others
  pub view_at_on : (change : A → A) (id : ℕ) (x : A) (t : Table A) → record_at t id ≡ Some x → view (record_at (on_record change id t) id) ≡ view (Some (change x))
  view_at_on change id x t found = ap view (at_on change id t) ∙ ap (λ o. view (option_map change o)) found

  pub view_other_on : (change : A → A) (id : ℕ) (t : Table A) (other : ℕ) → other ≢ id → view (record_at (on_record change id t) other) ≡ view (record_at t other)
  view_other_on change id t other apart = ap view (at_on_other change id other t apart)

  -- a new record that shows what no record shows: all shows the same
  pub view_taken : (x : A) (t : Table A) → IsGood t → view (Some x) ≡ view None → (other : ℕ) → view (record_at (taken x t) other) ≡ view (record_at t other)
  view_taken x t good same other = elim (cases_eq other (next_id t 0)) [
    | inl e ↦
        ap (λ k. view (record_at (taken x t) k)) e ∙ ap view (at_taken x t good) ∙ same
        ∙ ap view (sym (at_next t good)) ∙ ap (λ k. view (record_at t k)) (sym e)
    | inr e ↦ ap view (at_taken_other x t other good e)
  ]

  -- a record goes that shows what no record shows: all shows the same
  pub view_given : (id : ℕ) (t : Table A) → IsTrue (is_live t id) → view (record_at t id) ≡ view None → (other : ℕ) → view (record_at (given id t) other) ≡ view (record_at t other)
  view_given id t live same other = elim (cases_eq other id) [
    | inl e ↦
        ap (λ k. view (record_at (given id t) k)) e ∙ ap view (at_given id t live)
        ∙ sym same ∙ ap (λ k. view (record_at t k)) (sym e)
    | inr e ↦ ap view (at_given_other id other t live e)
  ]

module _ {A : Type 0} (Is : A → Type 0) where
  each_on_by : (change : A → A) (id : ℕ) (t : Table A) (o : Option A) → record_at t id ≡ o → ((x : A) → o ≡ Some x → Is x → Is (change x)) → AreEach Is t → (other : ℕ) (y : A) → other ≡ id → record_at (on_record change id t) other ≡ Some y → Is y
  each_on_by change id t None is keeps each other y e found = each other y (ap (λ u. record_at u other) (sym (on_missing change id t is)) ∙ found)
  each_on_by change id t (Some x) is keeps each other y e found =
      let now : Some (change x) ≡ Some y = ap (option_map change) (sym is) ∙ sym (at_on change id t) ∙ ap (record_at (on_record change id t)) (sym e) ∙ found in
      let same : change x ≡ y = cc in
      subst Is same (keeps x refl (each id x is))

  -- a change that keeps its record sound keeps all records sound
  pub each_on : (change : A → A) (id : ℕ) (t : Table A) → ((x : A) → record_at t id ≡ Some x → Is x → Is (change x)) → AreEach Is t → AreEach Is (on_record change id t)
  each_on change id t keeps each = λ other y found. elim (cases_eq other id) [
    | inl e ↦ each_on_by change id t (record_at t id) refl keeps each other y e found
    | inr e ↦ each other y (sym (at_on_other change id other t e) ∙ found)
  ]

  -- with a sound new record all records are sound
  pub each_taken : (x : A) (t : Table A) → IsGood t → Is x → AreEach Is t → AreEach Is (taken x t)
  each_taken x t good this each = λ other y found. elim (cases_eq other (next_id t 0)) [
    | inl e ↦
        let now : Some x ≡ Some y = sym (at_taken x t good) ∙ ap (record_at (taken x t)) (sym e) ∙ found in
        let same : x ≡ y = cc in
        subst Is same this
    | inr e ↦ each other y (sym (at_taken_other x t other good e) ∙ found)
  ]

  -- where one goes, the others are sound as before
  pub each_given : (id : ℕ) (t : Table A) → IsTrue (is_live t id) → AreEach Is t → AreEach Is (given id t)
  each_given id t live each = λ other y found. elim (cases_eq other id) [
    | inl e ↦
        let none : None ≡ Some y = sym (at_given id t live) ∙ ap (record_at (given id t)) (sym e) ∙ found in
        absurd (cc)
    | inr e ↦ each other y (sym (at_given_other id other t live e) ∙ found)
  ]

module _ {A : Type 0} (name_of : A → List ℕ) where
  -- names that are the same
  pub named_stands : (t t' : Table A) → ((id : ℕ) → name_by name_of id t' ≡ name_by name_of id t) → AreNamed name_of t → AreNamed name_of t'
  named_stands t t' same named = λ a b name at_a at_b. named a b name (sym (same a) ∙ at_a) (sym (same b) ∙ at_b)

  -- one identifier has a name that no other had
  pub named_newly : (t t' : Table A) (id : ℕ) (new : List ℕ) → ((other : ℕ) → other ≢ id → name_by name_of other t' ≡ name_by name_of other t) → name_by name_of id t' ≡ Some new → ((other : ℕ) → name_by name_of other t ≡ Some new → other ≡ id) → AreNamed name_of t → AreNamed name_of t'
  named_newly t t' id new others here free named = λ a b name at_a at_b. elim (cases_eq a id) [
    | inl a_is ↦ elim (cases_eq b id) [
      | inl b_is ↦ a_is ∙ sym b_is
      | inr b_other ↦
          let same : Some name ≡ Some new = sym at_a ∙ ap (λ k. name_by name_of k t') a_is ∙ here in
          a_is ∙ sym (free b (sym (others b b_other) ∙ at_b ∙ same))
    ]
    | inr a_other ↦ elim (cases_eq b id) [
      | inl b_is ↦
          let same : Some name ≡ Some new = sym at_b ∙ ap (λ k. name_by name_of k t') b_is ∙ here in
          free a (sym (others a a_other) ∙ at_a ∙ same) ∙ sym b_is
      | inr b_other ↦ named a b name (sym (others a a_other) ∙ at_a) (sym (others b b_other) ∙ at_b)
    ]
  ]

  -- a new object has a name that none had
  pub named_taken : (x : A) (t : Table A) → IsGood t → ((other : ℕ) → name_by name_of other t ≢ Some (name_of x)) → AreNamed name_of t → AreNamed name_of (taken x t)
  named_taken x t good free named =
      named_newly t (taken x t) (next_id t 0) (name_of x)
      (λ other apart. ap (option_map name_of) (at_taken_other x t other good apart)) (ap (option_map name_of) (at_taken x t good)) (λ other at. absurd (free other at)) named

  -- an object gets a name that no other has
  pub named_again : (change : A → A) (id : ℕ) (x : A) (t : Table A) → record_at t id ≡ Some x → ((other : ℕ) → name_by name_of other t ≡ Some (name_of (change x)) → other ≡ id) → AreNamed name_of t → AreNamed name_of (on_record change id t)
  named_again change id x t found free named =
      named_newly t (on_record change id t) id (name_of (change x))
      (view_other_on (option_map name_of) change id t) (view_at_on (option_map name_of) change id x t found) free named

  -- an object gets a name that none had
  pub named_on : (change : A → A) (id : ℕ) (x : A) (t : Table A) → record_at t id ≡ Some x → ((other : ℕ) → name_by name_of other t ≢ Some (name_of (change x))) → AreNamed name_of t → AreNamed name_of (on_record change id t)
  named_on change id x t found free named = named_again change id x t found (λ other at. absurd (free other at)) named

  -- who has a name after one went had it before
  named_before : (id : ℕ) (t : Table A) → IsTrue (is_live t id) → (a : ℕ) (name : List ℕ) → name_by name_of a (given id t) ≡ Some name → name_by name_of a t ≡ Some name
  named_before id t live a name at_a = elim (cases_eq a id) [
    | inl e ↦
        let none : None ≡ Some name = ap (option_map name_of) (sym (at_given id t live)) ∙ ap (λ k. name_by name_of k (given id t)) (sym e) ∙ at_a in
        absurd (cc)
    | inr e ↦ ap (option_map name_of) (sym (at_given_other id a t live e)) ∙ at_a
  ]

  -- where one goes, the names of the others differ as before
  pub named_given : (id : ℕ) (t : Table A) → IsTrue (is_live t id) → AreNamed name_of t → AreNamed name_of (given id t)
  named_given id t live named = λ a b name at_a at_b. named a b name (named_before id t live a name at_a) (named_before id t live b name at_b)

-- a slot more, where none is free and the cap allows it
within_taken : (cap : ℕ) (free : List ℕ) (slots : ℕ) → slots ≤ cap → 1 ≤ length free + (cap - slots) → slots + cond (is_empty free) 1 0 ≤ cap
within_taken cap [] slots within room = omega arith
within_taken cap (id ∷ ids) slots within room = omega arith

module _ {A : Type 0} where
  -- a change leaves who is there
  pub live_on : (change : A → A) (id : ℕ) (t : Table A) (other : ℕ) → IsTrue (is_live t other) → IsTrue (is_live (on_record change id t) other)
  live_on change id t other live = view_on is_some change id t (λ x found. refl) other ∙ live

  -- where one went, none has its name
  pub name_gone : (name_of : A → List ℕ) (id : ℕ) (x : A) (t : Table A) → record_at t id ≡ Some x → AreNamed name_of t → (other : ℕ) → name_by name_of other (given id t) ≢ Some (name_of x)
  name_gone name_of id x t found named other at_other =
      let live = live_by t id x found in
      let same : other ≡ id = named other id (name_of x) (named_before name_of id t live other (name_of x) at_other) (ap (option_map name_of) found) in
      let none : None ≡ Some (name_of x) = ap (option_map name_of) (sym (at_given id t live)) ∙ ap (λ k. name_by name_of k (given id t)) (sym same) ∙ at_other in
      absurd (cc)

  -- where one has another name, none but it has the name that it had
  pub name_left : (name_of : A → List ℕ) (change : A → A) (id : ℕ) (x : A) (t : Table A) → record_at t id ≡ Some x → AreNamed name_of t → (other : ℕ) → name_by name_of other (on_record change id t) ≡ Some (name_of x) → other ≡ id
  name_left name_of change id x t found named other at_other = elim (cases_eq other id) [
    | inl e ↦ e
    | inr e ↦ named other id (name_of x) (sym (view_other_on (option_map name_of) change id t other e) ∙ at_other) (ap (option_map name_of) found)
  ]

module _ {A : Type 0} (cap : ℕ) where
  -- a changed table is good and as long as before
  pub table_on : (change : A → A) (id : ℕ) (t : Table A) → IsTable cap t → IsTable cap (on_record change id t)
  table_on change id t is = record { good = good_on change id t is.good; within = rw (slots_on change id t) is.within }

  -- so is a table with one object more, where the cap allows it
  pub table_taken : (x : A) (t : Table A) → 1 ≤ length t.free + (cap - length t.slots) → IsTable cap t → IsTable cap (taken x t)
  table_taken x t room is = record { good = good_taken x t is.good; within = rw (slots_taken x t) (within_taken cap t.free (length t.slots) is.within room) }

  -- and a table with one object less
  pub table_given : (id : ℕ) (t : Table A) → IsTrue (is_live t id) → IsTable cap t → IsTable cap (given id t)
  table_given id t live is = record { good = good_given id t is.good live; within = rw (slots_given id t) is.within }
