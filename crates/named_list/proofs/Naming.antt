-- Lists of things that have names: what looking a name up says.
use Rattle.std.proofs.Common.{◌≡◌, ◌≢◌, ◌<◌, ◌+◌, ◌≤◌, ℕ, Bool, true, false, cond, List, [], ◌∷◌, ◌++◌, Option, Some, None, length, take, get_or, length-append, position, slice_get, nat_lt, refl, sym, ap, ◌∙◌, inl, inr, arith}
use Rattle.std.specs.List.{position_or_len}
use Rattle.std.specs.Option.{option_map}
use Rattle.std.specs.Str.{bytes_eq}
use Rattle.std.proofs.lemmas.Bool.{cases_Bool, false_from_ne_true, lt-ltb, ltb-false, ltb-true, true≢false}
use Rattle.std.proofs.lemmas.List.Sums.{fails_before_first, position_or_len_is}
use Rattle.std.proofs.lemmas.List.Quantifiers.{position-Some}
use Rattle.std.proofs.lemmas.Option.{get_or_from_slice_get, slice_get-get_or, slice_get_within}
use Rattle.std.proofs.lemmas.Slice.Eq.{bytes_eq-Decides}
use Rattle.named_list.specs.Naming.{AreNamesDistinct, place_named}
use Rattle.named_list.proofs.Places.{push_cases, slice_get-cut}

-- where no first place is found, the walk reached the end
at_end : {A : Type 0} (test : A → Bool) (xs : List A) → position test xs ≡ None → length xs ≤ position_or_len test xs
at_end test xs h = elim (cases_Bool (nat_lt (position_or_len test xs) (length xs))) [
  | inl e ↦ let found : Some (position_or_len test xs) ≡ None = rw e at h in cc
  | inr e ↦ ltb-false _ _ e
]

module _ {A : Type 0} (name_of : A → List ℕ) where
  -- a name that isn't found is that of nothing in the list
  pub unnamed : (xs : List A) (name : List ℕ) (i : ℕ) (x : A) → place_named name_of xs name ≡ None → slice_get xs i ≡ Some x → name ≢ name_of x
  unnamed xs name i x h at e =
      let test = λ (y : A). bytes_eq name (name_of y) in
      let end = at_end test xs h in
      let within = slice_get_within xs i x at in
      let fails : test (get_or xs i x) ≡ false = fails_before_first test xs i x (omega (arith, end, within)) in
      true≢false (sym ((bytes_eq-Decides name (name_of x)).1 e) ∙ ap test (sym (get_or_from_slice_get xs i x x at)) ∙ fails)

  -- names stay distinct where a new one comes last
  pub distinct-push : (xs : List A) (y : A) → AreNamesDistinct name_of xs → place_named name_of xs (name_of y) ≡ None → AreNamesDistinct name_of (xs ++ y ∷ [])
  distinct-push xs y apart new i j a b ati atj same = elim (push_cases xs y i a ati) [
    | inl i_old ↦ elim (push_cases xs y j b atj) [
      | inl j_old ↦ apart i j a b i_old j_old same
      | inr j_last ↦ absurd (unnamed xs (name_of y) i a new i_old (ap name_of (sym j_last.1) ∙ sym same))
    ]
    | inr i_last ↦ elim (push_cases xs y j b atj) [
      | inl j_old ↦ absurd (unnamed xs (name_of y) j b new j_old (ap name_of (sym i_last.1) ∙ same))
      | inr j_last ↦ i_last.0 ∙ sym j_last.0
    ]
  ]

  -- and where the list is cut
  pub distinct-cut : (n : ℕ) (xs : List A) → AreNamesDistinct name_of xs → AreNamesDistinct name_of (take n xs)
  distinct-cut n xs apart i j a b ati atj same = apart i j a b (slice_get-cut n xs i a ati) (slice_get-cut n xs j b atj) same

  -- where names are distinct, the name of what stands at a place is found there
  pub named_is_found : (xs : List A) (i : ℕ) (x : A) → AreNamesDistinct name_of xs → slice_get xs i ≡ Some x → place_named name_of xs (name_of x) ≡ Some i
  named_is_found xs i x apart at =
      let test = λ (y : A). bytes_eq (name_of x) (name_of y) in
      let within = slice_get_within xs i x at in
      let here : test (get_or xs i x) ≡ true = ap test (get_or_from_slice_get xs i x x at) ∙ (bytes_eq-Decides (name_of x) (name_of x)).1 refl in
      let before : (k : ℕ) → k < i → test (get_or xs k x) ≡ false = λ k below.
      false_from_ne_true _ (λ passes.
      let one : i ≡ k = apart i k x (get_or xs k x) at (slice_get-get_or xs k x (omega (arith, within, below))) ((bytes_eq-Decides (name_of x) (name_of (get_or xs k x))).0 passes) in
      omega (arith, one, below)) in
      let first : position_or_len test xs ≡ i = position_or_len_is test xs i x (omega (arith, within)) before (λ _. here) in
      ap (λ n. cond (nat_lt n (length xs)) (Some n) None) first ∙ ap (λ b. cond b (Some i) None) (lt-ltb i (length xs) within)

  -- a name that is found is that of what stands there
  pub found_is_named : (xs : List A) (name : List ℕ) (i : ℕ) → place_named name_of xs name ≡ Some i → (x : A) × (slice_get xs i ≡ Some x) × (name_of x ≡ name)
  found_is_named [] name i h = cc
  found_is_named (a ∷ xs) name i h =
      let found = position-Some (λ (y : A). bytes_eq name (name_of y)) (a ∷ xs) i a h in
      (get_or (a ∷ xs) i a, slice_get-get_or (a ∷ xs) i a found.0, sym ((bytes_eq-Decides name (name_of (get_or (a ∷ xs) i a))).0 found.1))

-- a first place stays the first where more is put behind
walks-append : {A : Type 0} (test : A → Bool) (xs ys : List A) → position_or_len test xs < length xs → position_or_len test (xs ++ ys) ≡ position_or_len test xs
walks-append test [] ys h = absurd (omega arith)
walks-append test (x ∷ xs) ys h = elim (cases_Bool (test x)) [
  | inl e ↦ rw e refl
  | inr e ↦ let rest : 1 + position_or_len test xs < length (x ∷ xs) = rw e at h in rw e (ap (λ n. 1 + n) (walks-append test xs ys (omega arith)))
]

pub position-append : {A : Type 0} (test : A → Bool) (xs ys : List A) (i : ℕ) → position test xs ≡ Some i → position test (xs ++ ys) ≡ Some i
position-append test xs ys i h = elim (cases_Bool (nat_lt (position_or_len test xs) (length xs))) [
  | inl e ↦
      let within = ltb-true _ _ e in
      let found : Some (position_or_len test xs) ≡ Some i = rw e at h in
      let longer : position_or_len test xs < length (xs ++ ys) = omega (arith, within, length-append xs ys) in
      rw (walks-append test xs ys within, lt-ltb _ _ longer) found
  | inr e ↦ let none : None ≡ Some i = rw e at h in cc
]

-- where adding one to a place finds nothing, nothing was found
pub unfound : (place : Option ℕ) → option_map (λ at. at + 1) place ≡ None → place ≡ None
unfound None h = refl
unfound (Some at) h = cc
