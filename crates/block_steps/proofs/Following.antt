-- Identifiers beside those that new objects get, looked at one by one.
use Rattle.std.proofs.Common.{◌≡◌, ◌+◌, ◌<◌, ◌≤◌, true, false, List, [], ◌∷◌, ℕ, zero, suc, Option, Some, None, length, slice_get, refl, sym, ap, ◌∙◌, subst, arith, inl, inr}
use Rattle.std.specs.Option.{MatchOption, option_eq}
use Rattle.std.proofs.Math.Dec.{eqb}
use Rattle.std.proofs.lemmas.Bool.{cases_lt, eqb-true}
use Rattle.odb_base.proofs.Splits.{eqb-refl}
use Rattle.slot_pool.specs.Table.{Table, next_id}
use Rattle.block_store.specs.Upcoming.{and_behind}
use Rattle.block_store.proofs.Upcoming.{is_later, later_is}
use Rattle.steps_net.specs.Can.{AreNext}

-- an iterator gave its first item, or had none
abbrev pub GivesFirst : List ℕ → Option ℕ → List ℕ → Type 0
GivesFirst old given new = MatchOption given ((old ≡ []) × (new ≡ [])) (λ x. old ≡ x ∷ new)

given_is : (old new : List ℕ) (given : Option ℕ) → GivesFirst old given new → slice_get old 0 ≡ given
given_is old new None is = ap (λ l. slice_get l 0) is.0
given_is old new (Some x) is = ap (λ l. slice_get l 0) is

rest_is : (old new : List ℕ) (given : Option ℕ) → GivesFirst old given new → (k : ℕ) → slice_get new k ≡ slice_get old (suc k)
rest_is old new None is k = ap (λ l. slice_get l k) is.1 ∙ sym (ap (λ l. slice_get l (suc k)) is.0)
rest_is old new (Some x) is k = sym (ap (λ l. slice_get l (suc k)) is)

same_is : (given : Option ℕ) (id : ℕ) → option_eq eqb given (Some id) ≡ true → given ≡ Some id
same_is None id same = cc
same_is (Some x) id same = ap Some (eqb-true x id same)

module _ {A : Type 0} (t : Table A) (ids : List ℕ) where
  -- the identifiers before a place are those that new objects get
  abbrev pub AreNextTo : ℕ → Type 0
  AreNextTo n = (k id : ℕ) → k < n → slice_get ids k ≡ Some id → id ≡ next_id t k

  -- these are left of those that new objects get, behind so many
  abbrev pub AreLeft : List ℕ → ℕ → Type 0
  AreLeft left n = (k : ℕ) → slice_get left k ≡ slice_get (and_behind t.free (length t.slots)) (n + k)

  left_more : (old new : List ℕ) (given : Option ℕ) (n : ℕ) → GivesFirst old given new → AreLeft old n → AreLeft new (n + 1)
  left_more old new given n is left = λ k.
      let place : n + suc k ≡ n + 1 + k = omega arith in
      rest_is old new given is k ∙ left (suc k) ∙ ap (slice_get (and_behind t.free (length t.slots))) place

  given_left : (old new : List ℕ) (given : Option ℕ) (n : ℕ) → GivesFirst old given new → AreLeft old n → slice_get (and_behind t.free (length t.slots)) n ≡ given
  given_left old new given n is left =
      let place : n ≡ n + 0 = omega arith in
      ap (slice_get (and_behind t.free (length t.slots))) place ∙ sym (left 0) ∙ given_is old new given is

  -- the identifier at a place is the one that was given
  pub follows : (old new : List ℕ) (given : Option ℕ) (n id : ℕ) → GivesFirst old given new → AreLeft old n → AreNextTo n → slice_get ids n ≡ Some id → option_eq eqb given (Some id) ≡ true → AreLeft new (n + 1) × AreNextTo (n + 1)
  follows old new given n id is left before at same = (
    left_more old new given n is left,
    λ k other below at_k. elim (cases_lt k n) [
      | inl within ↦ before k other within at_k
      | inr past ↦
          let here : k ≡ n = omega (arith, below, past) in
          let stands : slice_get (and_behind t.free (length t.slots)) n ≡ Some id = given_left old new given n is left ∙ same_is given id same in
          let next : id ≡ next_id t n = is_later t.free (length t.slots) n id stands in
          let one : Some id ≡ Some other = sym at ∙ ap (slice_get ids) (sym here) ∙ at_k in
          let two : id ≡ other = cc in
          sym two ∙ next ∙ ap (next_id t) (sym here)
    ],
  )

  -- the identifier at a place isn't the one that was given
  pub differs : (old new : List ℕ) (given : Option ℕ) (n id : ℕ) → GivesFirst old given new → AreLeft old n → slice_get ids n ≡ Some id → id ≤ 4294967295 → option_eq eqb given (Some id) ≡ false → AreNext ids t → ⊥
  differs old new given n id is left at few other are =
      let next : id ≡ next_id t n = are n id at in
      let stands = later_is t.free (length t.slots) n (subst (λ m. m ≤ 4294967295) next few) in
      let given_id : given ≡ Some id = sym (given_left old new given n is left) ∙ stands ∙ ap Some (sym next) in
      let equal : option_eq eqb given (Some id) ≡ true = ap (λ o. option_eq eqb o (Some id)) given_id ∙ eqb-refl id in
      cc
