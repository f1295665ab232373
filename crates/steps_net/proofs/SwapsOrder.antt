-- Terminals in the order of another master.
use Rattle.std.proofs.Common.{◌≡◌, ◌≢◌, ◌+◌, ◌<◌, ◌≤◌, ◌⊎◌, true, eqb, List, [], ◌∷◌, ◌++◌, ℕ, zero, suc, Option, Some, None, IsSome, get_or, length, map, slice_get, take, unwrap_or, refl, sym, ap, ◌∙◌, arith, inl, inr}
use Rattle.std.specs.Option.{option_map}
use Rattle.std.proofs.lemmas.Bool.{cases_Bool, cases_eq, cases_lt}
use Rattle.std.proofs.lemmas.List.{get_or_past, map-append, take_more}
use Rattle.std.proofs.lemmas.Option.{get_or_from_slice_get, slice_get-get_or, slice_get-map, slice_get_within}
use Rattle.slot_pool.specs.Table.{times}
use Rattle.slot_pool.proofs.Counts.{times_cons_other, times_cons_same}
use Rattle.odb_base.specs.Ids.{holds, without}
use Rattle.library.specs.Terminals.{HasDistinctTerminals, term_index, term_name}
use Rattle.library.specs.declared.master.Master.{Master}
use Rattle.library.specs.declared.mterm.MTerm.{MTerm}
use Rattle.library.proofs.TerminalNames.{found_terminals_are_named, named_terminals_are_found}
use Rattle.block_store.proofs.Held.{held_times, times_without, times_without_other}
use Rattle.block_store.proofs.Joined.{none_is, shown_by, some_is}
use Rattle.steps_net.specs.Can.{HaveSameTerms}
use Rattle.steps_net.specs.Do.{reordered}
use Rattle.steps_net.proofs.InstancesTerms.{somewhere_or_not}
use Rattle.steps_net.proofs.SwapsPlaces.{IsOnce, head_once, tail_once}

-- one more of what a walk maps
pub map_more : {A : Type 0} (f : A → ℕ) (xs : List A) (i : ℕ) (x : A) → i < length xs → x ≡ get_or xs i x → map f (take i xs) ++ f x ∷ [] ≡ map f (take (i + 1) xs)
map_more f xs i x within is =
    ap (λ y. map f (take i xs) ++ f y ∷ []) is ∙ sym (ap (map f) (take_more xs i x within) ∙ map-append f (take i xs) (get_or xs i x ∷ []))

-- Lists that have the same members.

-- what stands at a place is in the list
pub times_at : (ids : List ℕ) (j part : ℕ) → slice_get ids j ≡ Some part → 1 ≤ times part ids
times_at [] j part at = absurd (none_is part at)
times_at (id ∷ ids) zero part at = omega (arith, times_cons_same part id ids (some_is id part at))
times_at (id ∷ ids) (suc j) part at = elim (cases_eq id part) [
  | inl same ↦ omega (arith, times_cons_same part id ids same)
  | inr other ↦ omega (arith, times_cons_other part id ids other, times_at ids j part at)
]

-- what stands nowhere isn't
pub times_nowhere : (ids : List ℕ) (part : ℕ) → ((j : ℕ) → slice_get ids j ≢ Some part) → times part ids ≡ 0
times_nowhere [] part none = refl
times_nowhere (id ∷ ids) part none =
    times_cons_other part id ids (λ same. none 0 (ap Some same)) ∙ times_nowhere ids part (λ j. none (suc j))

-- what stands once is in the list once
pub times_once : (ids : List ℕ) (part : ℕ) → IsOnce ids → times part ids ≤ 1
times_once [] part once = omega arith
times_once (id ∷ ids) part once = elim (cases_eq id part) [
  | inl same ↦
      let none = times_nowhere ids id (head_once id ids once) in
      let more = times_cons_same part id ids same in
      omega (arith, more, ap (λ i. times i ids) same, none)
  | inr other ↦ omega (arith, times_cons_other part id ids other, times_once ids part (tail_once id ids once))
]

length_without : (ids : List ℕ) (id : ℕ) → holds ids id ≡ true → length ids ≡ 1 + length (without id ids)
length_without [] id inside = cc
length_without (x ∷ xs) id inside = elim (cases_Bool (eqb x id)) [
  | inl e ↦ rw e (omega arith)
  | inr e ↦
      let rest = length_without xs id (rw e at inside) in
      rw e (omega (arith, rest))
]

-- a list that has each member no more often than another one is no longer than that
pub no_longer : (xs ys : List ℕ) → ((id : ℕ) → times id xs ≤ times id ys) → length xs ≤ length ys
no_longer [] ys fewer = omega arith
no_longer (x ∷ xs) ys fewer =
    let here = fewer x in
    let first = times_cons_same x x xs refl in
    let inside = held_times ys x (omega (arith, here, first)) in
    let rest = no_longer xs (without x ys) (λ id. elim (cases_eq id x) [
      | inl same ↦ rw same (omega (arith, here, first, times_without ys x inside))
      | inr other ↦
          let more = times_cons_other id x xs (λ same. other (sym same)) in
          omega (arith, fewer id, more, times_without_other ys x id other)
    ]) in
    omega (arith, rest, length_without ys x inside)

-- one list is the other in another order
pub record IsReordering (terms order : List ℕ) : Type 0 where
  pub from : (k part : ℕ) → slice_get order k ≡ Some part → (j : ℕ) × (slice_get terms j ≡ Some part)
  pub to : (j part : ℕ) → slice_get terms j ≡ Some part → (k : ℕ) × (slice_get order k ≡ Some part)
  pub once : IsOnce order

pub reordering_fits : (terms order : List ℕ) → IsReordering terms order → length order ≤ length terms
reordering_fits terms order is = no_longer order terms (λ part. elim (somewhere_or_not order part) [
  | inl here ↦ let there = is.from here.0 part here.1 in omega (arith, times_once order part is.once, times_at terms there.0 part there.1)
  | inr none ↦ omega (arith, times_nowhere order part none)
])

-- what stands at a place within the list
at_place : {A : Type 0} (xs : List A) (j : ℕ) → j < length xs → (x : A) × (slice_get xs j ≡ Some x)
at_place [] j within = absurd (omega arith)
at_place (x ∷ xs) zero within = (x, refl)
at_place (x ∷ xs) (suc j) within = at_place xs j (omega arith)

some_of : (o : Option ℕ) → IsSome o → (j : ℕ) × (o ≡ Some j)
some_of None some = cc
some_of (Some j) some = (j, refl)

is_some_of : (o : Option ℕ) (j : ℕ) → o ≡ Some j → IsSome o
is_some_of o j is = rw is refl

module _ (old new : Master) (terms : List ℕ) where
  -- the terminal of the instance that one of the new master's gets
  abbrev pub taken_for : MTerm → ℕ
  taken_for term = get_or terms (unwrap_or (term_index old term.name) 0) 0

  -- it is a terminal of the instance, or none
  pub is_inside : (k part : ℕ) → slice_get (reordered old new terms) k ≡ Some part → (part ≡ 0) ⊎ ((j : ℕ) × (slice_get terms j ≡ Some part))
  is_inside k part at =
      let y = shown_by taken_for (slice_get new.terminals k) part (sym (slice_get-map taken_for new.terminals k) ∙ at) in
      let j = unwrap_or (term_index old y.value.name) 0 in
      elim (cases_lt j (length terms)) [
        | inl within ↦ inr (j, slice_get-get_or terms j 0 within ∙ ap Some y.shows)
        | inr past ↦ inl (sym y.shows ∙ get_or_past terms j 0 past)
      ]

  -- the places of a name in both masters
  pub record IsMatch (j k : ℕ) : Type 0 where
    pub name : List ℕ
    pub in_old : term_index old name ≡ Some j
    pub in_new : term_index new name ≡ Some k

  pub record CameFrom (k part : ℕ) : Type 0 where
    pub place : ℕ
    pub at : slice_get terms place ≡ Some part
    pub match : IsMatch place k

  record WentTo (j part : ℕ) : Type 0 where
    place : ℕ
    at : slice_get (reordered old new terms) place ≡ Some part

  within_old : (name : List ℕ) (j : ℕ) → length old.terminals ≡ length terms → term_index old name ≡ Some j → j < length terms
  within_old name j fitted found =
      let x = shown_by (λ (t : MTerm). t.name) (slice_get old.terminals j) name (found_terminals_are_named old name j found) in
      omega (arith, fitted, slice_get_within old.terminals j x.value x.is)

  pub came_from : HasDistinctTerminals new → HaveSameTerms old new → length old.terminals ≡ length terms → (k part : ℕ) → slice_get (reordered old new terms) k ≡ Some part → CameFrom k part
  came_from distinct same fitted k part at =
      let y = shown_by taken_for (slice_get new.terminals k) part (sym (slice_get-map taken_for new.terminals k) ∙ at) in
      let in_new = named_terminals_are_found new k y.value.name distinct (ap (option_map (λ (t : MTerm). t.name)) y.is) in
      let j = some_of (term_index old y.value.name) ((same y.value.name).1 (is_some_of (term_index new y.value.name) k in_new)) in
      let here : get_or terms j.0 0 ≡ part = ap (λ o. get_or terms (unwrap_or o 0) 0) (sym j.1) ∙ y.shows in
      record {
        place = j.0;
        at = slice_get-get_or terms j.0 0 (within_old y.value.name j.0 fitted j.1) ∙ ap Some here;
        match = record { name = y.value.name; in_old = j.1; in_new = in_new };
      }

  went_to : HasDistinctTerminals old → HaveSameTerms old new → length old.terminals ≡ length terms → (j part : ℕ) → slice_get terms j ≡ Some part → WentTo j part
  went_to distinct same fitted j part at =
      let x = at_place old.terminals j (omega (arith, fitted, slice_get_within terms j part at)) in
      let in_old = named_terminals_are_found old j x.0.name distinct (ap (option_map (λ (t : MTerm). t.name)) x.1) in
      let k = some_of (term_index new x.0.name) ((same x.0.name).0 (is_some_of (term_index old x.0.name) j in_old)) in
      let y = shown_by (λ (t : MTerm). t.name) (slice_get new.terminals k.0) x.0.name (found_terminals_are_named new x.0.name k.0 k.1) in
      let here : taken_for y.value ≡ part =
      ap (λ name. get_or terms (unwrap_or (term_index old name) 0) 0) y.shows ∙ ap (λ o. get_or terms (unwrap_or o 0) 0) in_old ∙ get_or_from_slice_get terms j part 0 at in
      record { place = k.0; at = slice_get-map taken_for new.terminals k.0 ∙ ap (option_map taken_for) y.is ∙ ap Some here }

  one_match : (j j' k k' : ℕ) → j ≡ j' → IsMatch j k → IsMatch j' k' → k ≡ k'
  one_match j j' k k' same one two =
      let name : one.name ≡ two.name = some_is one.name two.name (sym (found_terminals_are_named old one.name j one.in_old) ∙ ap (term_name old) same ∙ found_terminals_are_named old two.name j' two.in_old) in
      some_is k k' (sym one.in_new ∙ ap (term_index new) name ∙ two.in_new)

  pub is_reordering : HasDistinctTerminals old → HasDistinctTerminals new → HaveSameTerms old new → length old.terminals ≡ length terms → IsOnce terms → IsReordering terms (reordered old new terms)
  is_reordering old_distinct new_distinct same fitted once = record {
    from = λ k part at. let came = came_from new_distinct same fitted k part at in (came.place, came.at);
    to = λ j part at. let went = went_to old_distinct same fitted j part at in (went.place, went.at);
    once = λ k k' part at at'.
        let one = came_from new_distinct same fitted k part at in
        let two = came_from new_distinct same fitted k' part at' in
        one_match one.place two.place k k' (once one.place two.place part one.at two.at) one.match two.match;
  }
