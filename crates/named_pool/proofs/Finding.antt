-- Finding an object by its name, slot by slot, and the names of the objects.
use Rattle.std.proofs.Common.{◌≡◌, ◌≢◌, ◌+◌, ◌-◌, ◌∷◌, true, false, eqb, ℕ, zero, suc, List, [], Option, None, Some, is_some, get_or, refl, sym, ap, ◌∙◌, inl, inr, arith}
use Rattle.std.specs.List.{position_from}
use Rattle.std.specs.Option.{option_map}
use Rattle.std.proofs.lemmas.Bool.{cases_Bool, false≢true}
use Rattle.std.proofs.lemmas.Bool.Decides.{nat_tests}
use Rattle.std.proofs.lemmas.Slice.Eq.{bytes_eq-Decides}
use Rattle.slot_pool.specs.Table.{Table, record_at}
use Rattle.named_pool.specs.NameLaws.{FoundHaveTheName, FreeNamesAreNotFound, NamedAreFound}
use Rattle.named_pool.specs.Names.{IsFree, find_by, is_named, name_by}

-- the record of the id of a place is the content of its slot
pub record_at_place : {A : Type 0} (t : Table A) (place : ℕ) → record_at t (place + 1) ≡ get_or t.slots place None
record_at_place t place =
    let some : eqb (place + 1) 0 ≡ false = grind (arith, nat_tests) in
    let same : place + 1 - 1 ≡ place = omega arith in
    rw (some, same) refl

module _ {A : Type 0} (name_of : A → List ℕ) (name : List ℕ) where
  -- a slot passes the test just where its object has the name
  has_the_name : (slot : Option A) → is_named name_of name slot ≡ true → option_map name_of slot ≡ Some name
  has_the_name None h = cc
  has_the_name (Some x) h = ap Some ((bytes_eq-Decides (name_of x) name).0 h)

  passes : (slot : Option A) → option_map name_of slot ≡ Some name → is_named name_of name slot ≡ true
  passes None h = cc
  passes (Some x) h = (bytes_eq-Decides (name_of x) name).1 (cc)

  found_from : (slots : List (Option A)) (first id : ℕ) → position_from (is_named name_of name) first slots ≡ Some id → (place : ℕ) × (id ≡ place + first) × (option_map name_of (get_or slots place None) ≡ Some name)
  found_from [] first id h = cc
  found_from (slot ∷ slots) first id h = elim (cases_Bool (is_named name_of name slot)) [
    | inl e ↦
        let here : Some first ≡ Some id = rw e at h in
        let same : first ≡ id = cc in
        let there : id ≡ 0 + first = omega arith in
        (0, there, has_the_name slot e)
    | inr e ↦
        let behind : position_from (is_named name_of name) (first + 1) slots ≡ Some id = rw e at h in
        let found = found_from slots (first + 1) id behind in
        let there : id ≡ suc found.0 + first = omega (arith, found.1) in
        (suc found.0, there, found.2)
  ]

  none_from : (slots : List (Option A)) (first place : ℕ) → position_from (is_named name_of name) first slots ≡ None → option_map name_of (get_or slots place None) ≢ Some name
  none_from [] first place none h = cc
  none_from (slot ∷ slots) first zero none h =
      let here : Some first ≡ None = rw (passes slot h) at none in
      cc
  none_from (slot ∷ slots) first (suc place) none h = elim (cases_Bool (is_named name_of name slot)) [
    | inl e ↦ let here : Some first ≡ None = rw e at none in cc
    | inr e ↦
        let behind : position_from (is_named name_of name) (first + 1) slots ≡ None = rw e at none in
        none_from slots (first + 1) place behind h
  ]

  -- who has a name is in a slot
  placed : (t : Table A) (id : ℕ) → name_by name_of id t ≡ Some name → (place : ℕ) × (option_map name_of (get_or t.slots place None) ≡ Some name)
  placed t id h = elim (cases_Bool (eqb id 0)) [
    | inl e ↦ let none : None ≡ Some name = rw e at h in cc
    | inr e ↦ (id - 1, rw e at h)
  ]

  -- what is found in a table has the name
  pub found_by : (t : Table A) (id : ℕ) → find_by name_of name t ≡ Some id → name_by name_of id t ≡ Some name
  found_by t id h =
      let found = found_from t.slots 1 id h in
      ap (λ n. name_by name_of n t) found.1 ∙ ap (option_map name_of) (record_at_place t found.0) ∙ found.2

  -- where nothing is found, no object of the table has the name
  pub unfound_by : (t : Table A) → find_by name_of name t ≡ None → (id : ℕ) → name_by name_of id t ≢ Some name
  unfound_by t none id h =
      let at = placed t id h in
      none_from t.slots 1 at.0 none at.1

  none_unless : (found : Option ℕ) → is_some found ≡ false → found ≡ None
  none_unless None none = refl
  none_unless (Some id) none = absurd (false≢true (sym none))

  -- a name by which nothing is found is free
  pub free_unless_found : (t : Table A) → is_some (find_by name_of name t) ≡ false → IsFree name_of name t
  free_unless_found t none = unfound_by t (none_unless (find_by name_of name t) none)

  free_at : (t : Table A) → ((id : ℕ) → name_by name_of id t ≢ Some name) → (found : Option ℕ) → find_by name_of name t ≡ found → find_by name_of name t ≡ None
  free_at t free None e = e
  free_at t free (Some id) e = absurd (free id (found_by t id e))

  -- and the other way round
  pub free_by : (t : Table A) → ((id : ℕ) → name_by name_of id t ≢ Some name) → find_by name_of name t ≡ None
  free_by t free = free_at t free (find_by name_of name t) refl

  named_at : (t : Table A) → ((one other : ℕ) → name_by name_of one t ≡ Some name → name_by name_of other t ≡ Some name → one ≡ other) → (id : ℕ) → name_by name_of id t ≡ Some name → (found : Option ℕ) → find_by name_of name t ≡ found → find_by name_of name t ≡ Some id
  named_at t distinct id h None e = absurd (unfound_by t e id h)
  named_at t distinct id h (Some other) e = e ∙ ap Some (distinct other id (found_by t other e) h)

  -- the only object of the table that has the name is found by it
  pub named_by : (t : Table A) → ((one other : ℕ) → name_by name_of one t ≡ Some name → name_by name_of other t ≡ Some name → one ≡ other) → (id : ℕ) → name_by name_of id t ≡ Some name → find_by name_of name t ≡ Some id
  named_by t distinct id h = named_at t distinct id h (find_by name_of name t) refl

module _ {A : Type 0} (name_of : A → List ℕ) (t : Table A) where
  -- nothing is found by a name exactly where no object of the table has it
  pub free_names_are_not_found : FreeNamesAreNotFound name_of t
  free_names_are_not_found = λ name. (unfound_by name_of name t, free_by name_of name t)

  -- what is found has the name that it was found by
  pub found_have_the_name : FoundHaveTheName name_of t
  found_have_the_name = λ name. found_by name_of name t

  -- each object is found by its name, where names are distinct
  pub named_are_found : NamedAreFound name_of t
  named_are_found = λ distinct name. named_by name_of name t (λ a b. distinct a b name)
