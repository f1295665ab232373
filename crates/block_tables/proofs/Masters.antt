-- Masters whose terminals have distinct names, master by master, and names that are distinct, by their holders.
use Rattle.std.proofs.Common.{◌≡◌, ◌<◌, List, ℕ, Some, None, count_by, length, get_or, min, slice_get, sym, ap, ◌∙◌, inl, inr, arith}
use Rattle.std.specs.Str.{bytes_eq}
use Rattle.std.proofs.lemmas.Bool.{cases_lt}
use Rattle.std.proofs.lemmas.Option.{get_or_from_slice_get, slice_get-get_or, slice_get_past}
use Rattle.std.proofs.lemmas.Slice.Eq.{bytes_eq-Decides}
use Rattle.block_records.specs.Header.{new_header}
use Rattle.named_list.specs.Naming.{AreNamesDistinct}
use Rattle.library.specs.declared.master.Master.{Master}
use Rattle.tech.specs.Technology.{Technology}
use Rattle.block_store.specs.Block.{Block}
use Rattle.block_store.specs.Sound.{HasLawfulMasters}
use Rattle.block_tables.specs.Rules.{IsSoundHeader}
use Rattle.block_tables.proofs.Aloneness.{one_passes, same_place}

pub sound_header : (tech : Technology) (library : List Master) (b : Block) → HasLawfulMasters library → b.header ≡ new_header → IsSoundHeader tech library b
sound_header tech library b masters header = record { masters = masters; header = header }

module _ {A : Type 0} (name_of : A → List ℕ) (things : List A) where
  abbrev holders : List ℕ → ℕ
  holders name = count_by (λ thing. bytes_eq (name_of thing) name) things

  -- names are distinct where each has one holder
  pub distinct_of_one : ((k : ℕ) (x : A) → slice_get things k ≡ Some x → min 2 (holders (name_of x)) ≡ 1) → AreNamesDistinct name_of things
  distinct_of_one each i j x y at_i at_j same = elim (cases_lt i (length things)) [
    | inr past ↦ let none : None ≡ Some x = sym (slice_get_past things i past) ∙ at_i in cc
    | inl i_in ↦ elim (cases_lt j (length things)) [
      | inr past ↦ let none : None ≡ Some y = sym (slice_get_past things j past) ∙ at_j in cc
      | inl j_in ↦
          let one : holders (name_of x) ≡ 1 = omega (arith, each i x at_i) in
          let i_is : name_of (get_or things i x) ≡ name_of x = ap name_of (get_or_from_slice_get things i x x at_i) in
          let j_is : name_of (get_or things j x) ≡ name_of x = ap name_of (get_or_from_slice_get things j y x at_j) ∙ sym same in
          same_place (λ thing. bytes_eq (name_of thing) (name_of x)) x things j i one j_in ((bytes_eq-Decides (name_of (get_or things j x)) (name_of x)).1 j_is) i_in ((bytes_eq-Decides (name_of (get_or things i x)) (name_of x)).1 i_is)
    ]
  ]

  pub one_of_distinct : AreNamesDistinct name_of things → (k : ℕ) (x : A) → slice_get things k ≡ Some x → min 2 (holders (name_of x)) ≡ 1
  one_of_distinct distinct k x at = elim (cases_lt k (length things)) [
    | inr past ↦ let none : None ≡ Some x = sym (slice_get_past things k past) ∙ at in cc
    | inl within ↦
        let is : name_of (get_or things k x) ≡ name_of x = ap name_of (get_or_from_slice_get things k x x at) in
        let one : holders (name_of x) ≡ 1 = one_passes (λ thing. bytes_eq (name_of thing) (name_of x)) x things k within ((bytes_eq-Decides (name_of (get_or things k x)) (name_of x)).1 is)
        (λ j near h. distinct j k (get_or things j x) x (slice_get-get_or things j x near) at ((bytes_eq-Decides (name_of (get_or things j x)) (name_of x)).0 h)) in
        omega (arith, one)
  ]

-- a place with a thing is in the list
pub within_if_some : {A : Type 0} (xs : List A) (k : ℕ) (x : A) → slice_get xs k ≡ Some x → k < length xs
within_if_some xs k x at = elim (cases_lt k (length xs)) [
  | inl near ↦ near
  | inr past ↦ let none : None ≡ Some x = sym (slice_get_past xs k past) ∙ at in cc
]
