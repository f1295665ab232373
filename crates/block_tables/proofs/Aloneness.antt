-- Names that one object alone holds, by how many hold them.
use Rattle.std.proofs.Common.{◌≡◌, ◌+◌, ◌-◌, ◌<◌, ◌≤◌, zero, suc, cond, eqb, Bool, true, false, List, [], ◌∷◌, ℕ, Option, Some, None, count_by, length, get_or, refl, sym, ap, ◌∙◌, inl, inr, arith}
use Rattle.std.specs.Option.{option_map}
use Rattle.std.proofs.lemmas.Bool.{cases_Bool, cases_lt, false≢true}
use Rattle.std.proofs.lemmas.Bool.Decides.{nat_tests}
use Rattle.std.proofs.lemmas.List.Sums.{get_or-le-sum_by, sum_by-cons}
use Rattle.std.proofs.lemmas.Slice.Eq.{bytes_eq-Decides}
use Rattle.slot_pool.specs.Table.{Table, record_at}
use Rattle.named_pool.specs.Names.{is_named, name_by}
use Rattle.block_tables.specs.Names.{IsAlone}
use Rattle.block_tables.proofs.Standings.{past_none}

module _ {A : Type 0} (passes : A → Bool) (d : A) where
  one_more : (x : A) (xs : List A) → count_by passes (x ∷ xs) ≡ cond (passes x) 1 0 + count_by passes xs
  one_more x xs = sum_by-cons (λ y. cond (passes y) 1 0) x xs

  first_is : (x : A) (xs : List A) (b : Bool) → passes x ≡ b → count_by passes (x ∷ xs) ≡ cond b 1 0 + count_by passes xs
  first_is x xs b e = one_more x xs ∙ ap (λ t. cond t 1 0 + count_by passes xs) e

  -- none passes
  none_passes : (xs : List A) → ((j : ℕ) → j < length xs → passes (get_or xs j d) ≡ true → ⊥) → count_by passes xs ≡ 0
  none_passes [] none = refl
  none_passes (x ∷ xs) none = elim (cases_Bool (passes x)) [
    | inl e ↦ absurd (none 0 (omega arith) e)
    | inr e ↦
        let rest = none_passes xs (λ j within h. none (suc j) (omega arith) h) in
        omega (arith, first_is x xs false e, rest)
  ]

  -- one place alone passes
  pub one_passes : (xs : List A) (i : ℕ) → i < length xs → passes (get_or xs i d) ≡ true → ((j : ℕ) → j < length xs → passes (get_or xs j d) ≡ true → j ≡ i) → count_by passes xs ≡ 1
  one_passes [] i within here alone = absurd (omega arith)
  one_passes (x ∷ xs) zero within here alone =
      let rest = none_passes xs (λ j near h. let same = alone (suc j) (omega arith) h in absurd (omega (arith, same))) in
      omega (arith, first_is x xs true here, rest)
  one_passes (x ∷ xs) (suc i) within here alone = elim (cases_Bool (passes x)) [
    | inl e ↦ let same = alone 0 (omega arith) e in absurd (omega (arith, same))
    | inr e ↦
        let rest = one_passes xs i (omega arith) here (λ j near h. let same = alone (suc j) (omega arith) h in omega (arith, same)) in
        omega (arith, first_is x xs false e, rest)
  ]

  passes_some : (xs : List A) (i : ℕ) → i < length xs → passes (get_or xs i d) ≡ true → 1 ≤ count_by passes xs
  passes_some xs i within here =
      let one : cond (passes (get_or xs i d)) 1 0 ≤ count_by passes xs = get_or-le-sum_by (λ y. cond (passes y) 1 0) xs i d within in
      rw here at one

  -- where one passes, all that pass stand at one place
  pub same_place : (xs : List A) (i j : ℕ) → count_by passes xs ≡ 1 → i < length xs → passes (get_or xs i d) ≡ true → j < length xs → passes (get_or xs j d) ≡ true → j ≡ i
  same_place [] i j one i_in i_ok j_in j_ok = absurd (omega arith)
  same_place (x ∷ xs) zero zero one i_in i_ok j_in j_ok = refl
  same_place (x ∷ xs) zero (suc j) one i_in i_ok j_in j_ok =
      let first : count_by passes (x ∷ xs) ≡ 1 + count_by passes xs = first_is x xs true i_ok in
      absurd (omega (arith, one, first, passes_some xs j (omega arith) j_ok))
  same_place (x ∷ xs) (suc i) zero one i_in i_ok j_in j_ok =
      let first : count_by passes (x ∷ xs) ≡ 1 + count_by passes xs = first_is x xs true j_ok in
      absurd (omega (arith, one, first, passes_some xs i (omega arith) i_ok))
  same_place (x ∷ xs) (suc i) (suc j) one i_in i_ok j_in j_ok =
      let some = passes_some xs i (omega arith) i_ok in
      let step = one_more x xs in
      let rest : count_by passes xs ≡ 1 = omega (arith, one, step, some) in
      ap suc (same_place xs i j rest (omega arith) i_ok (omega arith) j_ok)

module _ {A : Type 0} (name_of : A → List ℕ) where
  -- a slot's object has the name
  named_is : (o : Option A) (name : List ℕ) → is_named name_of name o ≡ true → option_map name_of o ≡ Some name
  named_is None name h = absurd (false≢true h)
  named_is (Some x) name h = ap Some ((bytes_eq-Decides (name_of x) name).0 h)

  is_named_so : (o : Option A) (name : List ℕ) → option_map name_of o ≡ Some name → is_named name_of name o ≡ true
  is_named_so None name h = cc
  is_named_so (Some x) name h = let same : name_of x ≡ name = cc in (bytes_eq-Decides (name_of x) name).1 same

  -- an object of the name stands within the slots
  within : (t : Table A) (id : ℕ) (name : List ℕ) → name_by name_of id t ≡ Some name → (1 ≤ id) × (id ≤ length t.slots) × (is_named name_of name (get_or t.slots (id - 1) None) ≡ true)
  within t id name h = elim (cases_lt (length t.slots) id) [
    | inl far ↦ let none : None ≡ Some name = sym (ap (option_map name_of) (past_none t id far)) ∙ h in cc
    | inr near ↦ elim (cases_Bool (eqb id 0)) [
      | inl e ↦ let none : None ≡ Some name = rw e at h in cc
      | inr e ↦ (grind (arith, nat_tests, e), near, is_named_so (get_or t.slots (id - 1) None) name (rw e at h))
    ]
  ]

  named_at : (t : Table A) (place : ℕ) (name : List ℕ) → is_named name_of name (get_or t.slots place None) ≡ true → name_by name_of (place + 1) t ≡ Some name
  named_at t place name h =
      let some : eqb (place + 1) 0 ≡ false = grind (arith, nat_tests) in
      let back : place + 1 - 1 ≡ place = omega arith in
      rw (some, back) (named_is (get_or t.slots place None) name h)

  -- an object is alone with its name just where one has it
  pub alone_if_one : (t : Table A) (id : ℕ) (x : A) → record_at t id ≡ Some x → count_by (is_named name_of (name_of x)) t.slots ≡ 1 → IsAlone name_of t id (name_of x)
  alone_if_one t id x at one other h =
      let here = within t id (name_of x) (ap (option_map name_of) at) in
      let there = within t other (name_of x) h in
      let same : other - 1 ≡ id - 1 = same_place (is_named name_of (name_of x)) None t.slots (id - 1) (other - 1) one (omega (arith, here)) here.2 (omega (arith, there)) there.2 in
      omega (arith, same, here, there)

  pub one_if_alone : (t : Table A) (id : ℕ) (x : A) → record_at t id ≡ Some x → IsAlone name_of t id (name_of x) → count_by (is_named name_of (name_of x)) t.slots ≡ 1
  one_if_alone t id x at alone =
      let here = within t id (name_of x) (ap (option_map name_of) at) in
      one_passes (is_named name_of (name_of x)) None t.slots (id - 1) (omega (arith, here)) here.2
      (λ place near h. let same : place + 1 ≡ id = alone (place + 1) (named_at t place (name_of x) h) in omega (arith, same))
