-- There is one least place that isn't sound.
use Rattle.std.proofs.Common.{◌≡◌, ◌<◌, List, ℕ, Option, Some, None, refl, ap, subst, arith, inl, inr}
use Rattle.std.proofs.lemmas.Bool.{cases_lt}
use Rattle.odb_base.specs.Kind.{kind_code}
use Rattle.odb_base.specs.declared.codes.kind.Kind.{Kind}
use Rattle.library.specs.declared.master.Master.{Master}
use Rattle.tech.specs.Technology.{Technology}
use Rattle.block_store.specs.Block.{Block}
use Rattle.block_tables.specs.Places.{IsFirstFault, IsLeastInKind}
use Rattle.block_tables.specs.Rules.{IsSoundKind}
use Rattle.odb_base.proofs.KindCodes.{same_kind}
use Rattle.saved_reader.specs.declared.saved.Saved.{Saved}
use Rattle.odb_save.specs.Loading.{IsLeastUnsound}

module _ (tech : Technology) (library : List Master) (cap : ℕ) (b : Block) where
  -- a sound kind has no place that isn't sound
  none_first : (k : Kind) (id : ℕ) → IsSoundKind tech library cap b k → IsFirstFault tech library cap b k id → ⊥
  none_first k id sound fault = elim (cases_lt 0 id) [
    | inl some ↦ fault.this (omega arith) (sound.records id)
    | inr zero ↦ fault.table (omega arith) sound.table
  ]

  -- of two first places neither is before the other
  not_before : (k : Kind) (i j : ℕ) → IsFirstFault tech library cap b k i → IsFirstFault tech library cap b k j → i < j → ⊥
  not_before k i j first other before = elim (cases_lt 0 i) [
    | inl some ↦ first.this (omega arith) (other.before i before)
    | inr zero ↦ first.table (omega arith) (other.sound_table (omega arith))
  ]

  one_first : (k : Kind) (i j : ℕ) → IsFirstFault tech library cap b k i → IsFirstFault tech library cap b k j → i ≡ j
  one_first k i j first other = elim (cases_lt i j) [
    | inl before ↦ absurd (not_before k i j first other before)
    | inr from ↦ elim (cases_lt j i) [
      | inl behind ↦ absurd (not_before k j i other first behind)
      | inr upto ↦ omega (arith, from, upto)
    ]
  ]

  one_in_kinds : (j k : Kind) (i id : ℕ) → IsLeastInKind tech library cap b j i → IsLeastInKind tech library cap b k id → (j ≡ k) × (i ≡ id)
  one_in_kinds j k i id first other = elim (cases_lt (kind_code j) (kind_code k)) [
    | inl before ↦ absurd (none_first j i (other.lesser j before) first.first)
    | inr from ↦ elim (cases_lt (kind_code k) (kind_code j)) [
      | inl behind ↦ absurd (none_first k id (first.lesser k behind) other.first)
      | inr upto ↦
          let same : j ≡ k = same_kind j k (omega (arith, from, upto)) in
          let P : Kind → Type 0 = λ x. IsFirstFault tech library cap b x i in
          (same, one_first k i id (subst P same first.first) other.first)
    ]
  ]

pub one_place : (cap : ℕ) (s : Saved) (j k : Option Kind) (i id : ℕ) → IsLeastUnsound cap s j i → IsLeastUnsound cap s k id → (j ≡ k) × (i ≡ id)
one_place cap s None None i id first other = (refl, let p = first.0 in let q = other.0 in omega (arith, p, q))
one_place cap s None (Some k) i id first other = absurd (first.1 (record { design = other.0; header = other.1.header }))
one_place cap s (Some j) None i id first other = absurd (other.1 (record { design = first.0; header = first.1.header }))
one_place cap s (Some j) (Some k) i id first other =
    let one = one_in_kinds s.tech s.library cap s.tables j k i id first.1 other.1 in
    (ap (λ (x : Kind). Some x) one.0, one.1)
