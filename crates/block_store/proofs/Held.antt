-- Lists of members, and what the members name: how both change together, and what one says of the other.
use Rattle.std.proofs.Common.{◌≡◌, ◌+◌, ◌≤◌, ◌≢◌, ◌==◌, true, false, cond, eqb, eq-eqb, List, [], ◌∷◌, ℕ, Option, slice_get, refl, sym, ap, ◌∙◌, arith, inl, inr}
use Rattle.std.proofs.lemmas.Bool.{cases_Bool, cases_eq, eqb-true, eqb-false, false≢true, ne_eqb}
use Rattle.odb_base.specs.Ids.{IsDistinct, holds, without}
use Rattle.slot_pool.specs.Table.{once_if, times}
use Rattle.slot_pool.proofs.Counts.{times-cons, times_cons_other, times_cons_same}
use Rattle.block_store.specs.Sorts.{AreHeld}
use Rattle.block_store.specs.TermPlaces.{ArePlaced}

-- a member stands in the list at least once
pub times_held : (ids : List ℕ) (id : ℕ) → holds ids id ≡ true → 1 ≤ times id ids
times_held [] id h = absurd (false≢true h)
times_held (x ∷ xs) id h = elim (cases_Bool (eqb x id)) [
  | inl e ↦ omega (arith, times_cons_same id x xs (eqb-true x id e))
  | inr e ↦ omega (arith, times_cons_other id x xs (eqb-false x id e), times_held xs id (rw e at h))
]

-- what stands in the list is a member
pub held_times : (ids : List ℕ) (id : ℕ) → 1 ≤ times id ids → holds ids id ≡ true
held_times [] id h = absurd (omega arith)
held_times (x ∷ xs) id h = elim (cases_Bool (eqb x id)) [
  | inl e ↦ rw e refl
  | inr e ↦ rw e (held_times xs id (omega (arith, times_cons_other id x xs (eqb-false x id e))))
]

-- what doesn't stand in the list is no member
pub outside_times : (ids : List ℕ) (id : ℕ) → times id ids ≡ 0 → holds ids id ≡ false
outside_times ids id none = elim (cases_Bool (holds ids id)) [
  | inl e ↦ absurd (omega (arith, times_held ids id e))
  | inr e ↦ e
]

-- where nothing stands twice, no member stands twice
pub distinct_times : (ids : List ℕ) → ((id : ℕ) → times id ids ≤ 1) → IsDistinct ids
distinct_times [] once = tt
distinct_times (x ∷ xs) once = (
  outside_times xs x (omega (arith, once x, times_cons_same x x xs refl)),
  distinct_times xs (λ id. elim (cases_eq x id) [
    | inl e ↦ omega (arith, once id, times_cons_same id x xs e)
    | inr e ↦ omega (arith, once id, times_cons_other id x xs e)
  ]),
)

-- the first of a list goes, or a later one
without_first : (x id : ℕ) (xs : List ℕ) → eqb x id ≡ true → without id (x ∷ xs) ≡ xs
without_first x id xs e = ap (λ b. cond b xs (x ∷ without id xs)) e

without_later : (x id : ℕ) (xs : List ℕ) → eqb x id ≡ false → without id (x ∷ xs) ≡ x ∷ without id xs
without_later x id xs e = ap (λ b. cond b xs (x ∷ without id xs)) e

-- a member that left stands once less in the list
pub times_without : (ids : List ℕ) (id : ℕ) → holds ids id ≡ true → times id ids ≡ 1 + times id (without id ids)
times_without [] id h = absurd (false≢true h)
times_without (x ∷ xs) id h = elim (cases_Bool (eqb x id)) [
  | inl e ↦ times_cons_same id x xs (eqb-true x id e) ∙ ap (λ ids. 1 + times id ids) (sym (without_first x id xs e))
  | inr e ↦
      let other = eqb-false x id e in
      times_cons_other id x xs other ∙ times_without xs id (rw e at h)
      ∙ ap (λ n. 1 + n) (sym (times_cons_other id x (without id xs) other)) ∙ ap (λ ids. 1 + times id ids) (sym (without_later x id xs e))
]

-- the others stand in the list as before
pub times_without_other : (ids : List ℕ) (id other : ℕ) → other ≢ id → times other (without id ids) ≡ times other ids
times_without_other [] id other apart = refl
times_without_other (x ∷ xs) id other apart = elim (cases_Bool (eqb x id)) [
  | inl e ↦ ap (times other) (without_first x id xs e) ∙ sym (times_cons_other other x xs (λ same. apart (sym same ∙ eqb-true x id e)))
  | inr e ↦
      ap (times other) (without_later x id xs e) ∙ times-cons other x (without id xs)
      ∙ ap (λ n. once_if (eqb x other) + n) (times_without_other xs id other apart) ∙ sym (times-cons other x xs)
]

-- the numbers of two members differ
abbrev pub AreNumbered : (ℕ → ℕ) → Type 0
AreNumbered number = (a b : ℕ) → a ≢ b → number a ≢ number b

module _ (list list' : ℕ → List ℕ) (number owner owner' : ℕ → ℕ) where
  -- lists and owners that show the same
  pub held_stands : ((object : ℕ) → list' object ≡ list object) → ((member : ℕ) → owner' member ≡ owner member) → AreHeld list number owner → AreHeld list' number owner'
  held_stands lists owners held = λ object member some. ap (times (number member)) (lists object) ∙ held object member some ∙ ap (λ n. once_if (n == object)) (sym (owners member))

  -- one list changes, which holds the members of this sort as before
  pub held_beside : (n : ℕ) → ((object : ℕ) → object ≢ n → list' object ≡ list object) → ((member : ℕ) → times (number member) (list' n) ≡ times (number member) (list n)) → ((member : ℕ) → owner' member ≡ owner member) → AreHeld list number owner → AreHeld list' number owner'
  held_beside n lists here owners held = λ object member some. elim (cases_eq object n) [
    | inl e ↦ ap (λ o. times (number member) (list' o)) e ∙ here member ∙ ap (λ o. times (number member) (list o)) (sym e) ∙ held object member some ∙ ap (λ k. once_if (k == object)) (sym (owners member))
    | inr e ↦ ap (times (number member)) (lists object e) ∙ held object member some ∙ ap (λ k. once_if (k == object)) (sym (owners member))
  ]

  -- one member changes its owner, and one list holds it as the owner says
  held_moved : (n m : ℕ) → ((object : ℕ) → object ≢ n → list' object ≡ list object) → ((member : ℕ) → member ≢ m → times (number member) (list' n) ≡ times (number member) (list n)) → ((member : ℕ) → member ≢ m → owner' member ≡ owner member) → ((object : ℕ) → 1 ≤ object → times (number m) (list' object) ≡ once_if (owner' m == object)) → AreHeld list number owner → AreHeld list' number owner'
  held_moved n m lists here owners moved held = λ object member some. elim (cases_eq member m) [
    | inl same ↦ ap (λ k. times (number k) (list' object)) same ∙ moved object some ∙ ap (λ k. once_if (owner' k == object)) (sym same)
    | inr other ↦ elim (cases_eq object n) [
      | inl e ↦ ap (λ o. times (number member) (list' o)) e ∙ here member other ∙ ap (λ o. times (number member) (list o)) (sym e) ∙ held object member some ∙ ap (λ k. once_if (k == object)) (sym (owners member other))
      | inr e ↦ ap (times (number member)) (lists object e) ∙ held object member some ∙ ap (λ k. once_if (k == object)) (sym (owners member other))
    ]
  ]

  -- a member that named nothing enters a list, and names the object of the list
  pub held_linked : (n m : ℕ) → 1 ≤ n → AreNumbered number → list' n ≡ number m ∷ list n → ((object : ℕ) → object ≢ n → list' object ≡ list object) → owner m ≡ 0 → owner' m ≡ n → ((member : ℕ) → member ≢ m → owner' member ≡ owner member) → AreHeld list number owner → AreHeld list' number owner'
  held_linked n m some apart entered lists none named owners held =
      held_moved n m lists
      (λ member other. ap (times (number member)) entered ∙ times_cons_other (number member) (number m) (list n) (apart m member (λ e. other (sym e))))
      owners
      (λ object from_one. elim (cases_eq object n) [
        | inl e ↦
            let was : times (number m) (list n) ≡ 0 = held n m some ∙ ap (λ k. once_if (k == n)) none ∙ ap once_if (ne_eqb 0 n (omega arith)) in
            let now : times (number m) (list' n) ≡ 1 + times (number m) (list n) = ap (times (number m)) entered ∙ times_cons_same (number m) (number m) (list n) refl in
            let one : times (number m) (list' n) ≡ 1 = omega arith in
            ap (λ o. times (number m) (list' o)) e ∙ one ∙ ap once_if (sym (eq-eqb (owner' m) object (named ∙ sym e)))
        | inr e ↦
            ap (times (number m)) (lists object e) ∙ held object m from_one ∙ ap (λ k. once_if (k == object)) none
            ∙ ap once_if (ne_eqb 0 object (omega arith)) ∙ ap once_if (sym (ne_eqb (owner' m) object (λ same. e (sym same ∙ named))))
      ])
      held

  -- a member leaves the list of the object that it names, and names nothing
  pub held_unlinked : (n m : ℕ) → 1 ≤ n → AreNumbered number → list' n ≡ without (number m) (list n) → ((object : ℕ) → object ≢ n → list' object ≡ list object) → owner m ≡ n → owner' m ≡ 0 → ((member : ℕ) → member ≢ m → owner' member ≡ owner member) → AreHeld list number owner → AreHeld list' number owner'
  held_unlinked n m some apart left lists named none owners held =
      held_moved n m lists
      (λ member other. ap (times (number member)) left ∙ times_without_other (list n) (number m) (number member) (apart member m other))
      owners
      (λ object from_one. elim (cases_eq object n) [
        | inl e ↦
            let was : times (number m) (list n) ≡ 1 = held n m some ∙ ap once_if (eq-eqb (owner m) n named) in
            let now : times (number m) (list n) ≡ 1 + times (number m) (without (number m) (list n)) = times_without (list n) (number m) (held_times (list n) (number m) (omega arith)) in
            let zero_now : times (number m) (without (number m) (list n)) ≡ 0 = omega arith in
            ap (λ o. times (number m) (list' o)) e ∙ ap (times (number m)) left ∙ zero_now
            ∙ ap once_if (sym (ne_eqb 0 object (omega arith))) ∙ ap (λ k. once_if (k == object)) (sym none)
        | inr e ↦
            ap (times (number m)) (lists object e) ∙ held object m from_one
            ∙ ap once_if (ne_eqb (owner m) object (λ same. e (sym same ∙ named)))
            ∙ ap once_if (sym (ne_eqb 0 object (omega arith))) ∙ ap (λ k. once_if (k == object)) (sym none)
      ])
      held

module _ (list : ℕ → List ℕ) (number owner : ℕ → ℕ) where
  -- a member that names no object is in no list
  pub held_none : (member : ℕ) → owner member ≡ 0 → list 0 ≡ [] → AreHeld list number owner → (object : ℕ) → holds (list object) (number member) ≡ false
  held_none member none nothing held object = elim (cases_eq object 0) [
    | inl e ↦ ap (λ o. holds (list o) (number member)) e ∙ ap (λ ids. holds ids (number member)) nothing
    | inr e ↦ outside_times (list object) (number member) (held object member (omega arith) ∙ ap (λ k. once_if (k == object)) none ∙ ap once_if (ne_eqb 0 object (λ same. e (sym same))))
  ]

  -- a member is in the list of the object that it names
  pub held_named : (object member : ℕ) → 1 ≤ object → owner member ≡ object → AreHeld list number owner → holds (list object) (number member) ≡ true
  held_named object member some named held =
      let once : times (number member) (list object) ≡ 1 = held object member some ∙ ap once_if (eq-eqb (owner member) object named) in
      held_times (list object) (number member) (omega arith)

  -- a member of a list names its object
  pub held_names : (object member : ℕ) → 1 ≤ object → holds (list object) (number member) ≡ true → AreHeld list number owner → owner member ≡ object
  held_names object member some inside held = elim (cases_eq (owner member) object) [
    | inl e ↦ e
    | inr e ↦
        let none : times (number member) (list object) ≡ 0 = held object member some ∙ ap once_if (ne_eqb (owner member) object e) in
        absurd (omega (arith, times_held (list object) (number member) inside))
  ]

  -- no member stands in a list twice
  pub held_once : (object member : ℕ) → 1 ≤ object → AreHeld list number owner → times (number member) (list object) ≤ 1
  held_once object member some held = rw (held object member some) (elim (cases_Bool (eqb (owner member) object)) [ inl e ↦ rw e (omega arith) | inr e ↦ rw e (omega arith) ])

-- Places that show the same.
pub placed_stands : (list list' : ℕ → List ℕ) (place place' : ℕ → Option (ℕ × ℕ)) → ((object : ℕ) → list' object ≡ list object) → ((part : ℕ) → place' part ≡ place part) → ArePlaced list place → ArePlaced list' place'
placed_stands list list' place place' lists places placed = λ object k part.
    let was = placed object k part in
    (λ at. places part ∙ was.0 (ap (λ ids. slice_get ids k) (sym (lists object)) ∙ at), λ at. ap (λ ids. slice_get ids k) (lists object) ∙ was.1 (sym (places part) ∙ at))
