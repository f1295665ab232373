-- Identifiers: what they say of names, and of lists that grew or were cut.
use Rattle.std.proofs.Common.{◌≡◌, ◌+◌, ◌-◌, ◌<◌, ◌≤◌, ℕ, Bool, true, false, if◌then◌else◌, List, [], ◌∷◌, ◌++◌, Option, Some, None, eqb, length, take, slice_get, nat_le, refl, sym, ap, ◌∙◌, inl, inr, arith}
use Rattle.std.specs.Option.{option_map}
use Rattle.std.proofs.lemmas.Bool.{cases_Bool}
use Rattle.std.proofs.lemmas.Bool.Decides.{nat_tests}
use Rattle.std.proofs.lemmas.List.{length-take}
use Rattle.std.proofs.lemmas.Option.{slice_get_past}
use Rattle.named_list.specs.Laws.{CutKeepsDistinct, CutKeepsIds, EnteringKeepsDistinct, FoundAreNamed, GrowingKeepsIds, GrowingKeepsNames, LastHasLastId, NamedAreFound, UnfoundAreAbsent}
use Rattle.named_list.specs.Naming.{at_id}
use Rattle.named_list.proofs.Naming.{distinct-cut, distinct-push, found_is_named, named_is_found, position-append, unfound, unnamed}
use Rattle.named_list.proofs.Places.{slice_get-append, slice_get-below, slice_get-last}

-- the place of an identifier that is found
found_place : (place : Option ℕ) (id : ℕ) → option_map (λ at. at + 1) place ≡ Some id → (at : ℕ) × (place ≡ Some at) × (id ≡ at + 1)
found_place None id h = cc
found_place (Some at) id h = (at, refl, cc)

module _ {A : Type 0} where
  -- an identifier is one more than a place
  at_id-place : (things : List A) (place : ℕ) → at_id things (place + 1) ≡ slice_get things place
  at_id-place things place =
      let some : eqb (place + 1) 0 ≡ false = grind (arith, nat_tests) in
      let back : place + 1 - 1 ≡ place = omega arith in
      rw (some, back) refl

  -- where a thing of an identifier stands
  pub record Placed (things : List A) (id : ℕ) (thing : A) : Type 0 where
    pub some : 0 < id
    pub at : slice_get things (id - 1) ≡ Some thing

  pub placed : (things : List A) (id : ℕ) (thing : A) → at_id things id ≡ Some thing → Placed things id thing
  placed things id thing h = elim (cases_Bool (eqb id 0)) [
    | inl e ↦ let none : None ≡ Some thing = rw e at h in cc
    | inr e ↦ record { some = grind (arith, nat_tests, e); at = rw e at h }
  ]

  pub growing_keeps_ids : (things more : List A) → GrowingKeepsIds things more
  growing_keeps_ids things more id thing h =
      let p = placed things id thing h in
      let some : eqb id 0 ≡ false = grind (arith, nat_tests, p.some) in
      rw some (slice_get-append things more (id - 1) thing p.at)

  pub last_has_last_id : (things : List A) → LastHasLastId things
  last_has_last_id things thing = at_id-place (things ++ thing ∷ []) (length things) ∙ slice_get-last things thing

  either_way : (b : Bool) (same : Option A) → same ≡ (if b then same else same)
  either_way true same = refl
  either_way false same = refl

  pub cut_keeps_ids : (things : List A) → CutKeepsIds things
  cut_keeps_ids things count id = elim (cases_Bool (eqb id 0)) [
    | inl e ↦ rw e (either_way (nat_le id count) None)
    | inr e ↦ rw e (elim (cases_Bool (nat_le id count)) [
      | inl low ↦ rw low (slice_get-below count things (id - 1) (grind (arith, nat_tests, e, low)))
      | inr high ↦
          let past : count ≤ id - 1 = grind (arith, nat_tests, e, high) in
          rw high (slice_get_past (take count things) (id - 1) (omega (arith, past, length-take count things)))
    ])
  ]

module _ {A : Type 0} (name_of : A → List ℕ) where
  pub named_are_found : (things : List A) → NamedAreFound name_of things
  named_are_found things id thing apart h =
      let p = placed things id thing h in
      let same : id - 1 + 1 ≡ id = omega (arith, p.some) in
      ap (option_map (λ at. at + 1)) (named_is_found name_of things (id - 1) thing apart p.at) ∙ ap Some same

  pub found_are_named : (things : List A) → FoundAreNamed name_of things
  found_are_named things name id h =
      let p = found_place _ id h in
      let found = found_is_named name_of things name p.0 p.1 in
      (found.0, ap (at_id things) p.2 ∙ at_id-place things p.0 ∙ found.1, found.2)

  pub unfound_are_absent : (things : List A) → UnfoundAreAbsent name_of things
  unfound_are_absent things name id thing h at =
      unnamed name_of things name (id - 1) thing (unfound _ h) (placed things id thing at).at

  pub growing_keeps_names : (things more : List A) → GrowingKeepsNames name_of things more
  growing_keeps_names things more name id h =
      let p = found_place _ id h in
      ap (option_map (λ at. at + 1)) (position-append _ things more p.0 p.1) ∙ ap Some (sym p.2)

  pub entering_keeps_distinct : (things : List A) → EnteringKeepsDistinct name_of things
  entering_keeps_distinct things thing apart new = distinct-push name_of things thing apart (unfound _ new)

  pub cut_keeps_distinct : (things : List A) → CutKeepsDistinct name_of things
  cut_keeps_distinct things count apart = distinct-cut name_of count things apart
