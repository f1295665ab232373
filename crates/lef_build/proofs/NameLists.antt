-- Looking a name up among those that stood and those of parts.
use Rattle.std.proofs.Common.{◌≡◌, ◌≤◌, ◌<◌, ◌+◌, ◌∙◌, suc, Bool, false, cond, not, List, [], ◌∷◌, ◌++◌, ℕ, Option, Some, None, is_some, length, length-append, map, position, nat_lt, refl, sym, ap, inl, inr, arith}
use Rattle.std.specs.Borrow.{Bor}
use Rattle.std.specs.List.{list_any, position_or_len, prefix_len}
use Rattle.std.specs.Option.{option_map}
use Rattle.std.specs.Str.{bytes_eq}
use Rattle.std.proofs.lemmas.Bool.{cases_Bool, eq-eqb, ltb-false, ltb-true, lt-ltb}
use Rattle.std.proofs.lemmas.List.{length-map, map-append}
use Rattle.std.proofs.lemmas.List.Folds.{prefix_len-append}
use Rattle.std.proofs.lemmas.List.Sums.{prefix_len-le-length}
use Rattle.indexmap.specs.IndexSet.{insert_key}
use Rattle.named_list.specs.Naming.{id_named, place_named}
use Rattle.named_list.proofs.Naming.{position-append, unfound}
use Rattle.lef_build.specs.Known.{HasNames}

prefix_len-map : {A B : Type 0} (test : B → Bool) (f : A → B) (xs : List A) → prefix_len test (map f xs) ≡ prefix_len (λ x. test (f x)) xs
prefix_len-map test f [] = refl
prefix_len-map test f (x ∷ xs) = ap (λ n. cond (test (f x)) (1 + n) 0) (prefix_len-map test f xs)

pub position-map : {A B : Type 0} (test : B → Bool) (f : A → B) (xs : List A) → position test (map f xs) ≡ position (λ x. test (f x)) xs
position-map test f xs = rw (prefix_len-map (λ b. not (test b)) f xs, length-map xs f) refl

-- where the first list has no place, the place is in the second
position-behind : {A : Type 0} (test : A → Bool) (xs ys : List A) → position test xs ≡ None → position test (xs ++ ys) ≡ option_map (λ place. length xs + place) (position test ys)
position-behind test xs ys h = elim (cases_Bool (nat_lt (position_or_len test xs) (length xs))) [
  | inl e ↦ let found : Some (position_or_len test xs) ≡ None = rw e at h in cc
  | inr e ↦
      let whole : position_or_len test xs ≡ length xs = omega (arith, ltb-false _ _ e, prefix_len-le-length (λ x. not (test x)) xs) in
      let both : position_or_len test (xs ++ ys) ≡ length xs + position_or_len test ys = prefix_len-append (λ x. not (test x)) xs ys ∙ rw (whole, eq-eqb (length xs) (length xs) refl) refl in
      elim (cases_Bool (nat_lt (position_or_len test ys) (length ys))) [
        | inl f ↦
            let within : position_or_len test (xs ++ ys) < length (xs ++ ys) = omega (arith, both, ltb-true _ _ f, length-append xs ys) in
            rw (lt-ltb _ _ within, f) (ap Some both)
        | inr f ↦
            let beyond : nat_lt (position_or_len test (xs ++ ys)) (length (xs ++ ys)) ≡ false = rw (both, length-append xs ys) (grind (arith, ltb-false _ _ f)) in
            rw (beyond, f) refl
      ]
]

raised : (before : ℕ) (place : Option ℕ) → option_map (λ at. at + 1) (option_map (λ at. before + at) place) ≡ option_map (λ at. before + at + 1) place
raised before None = refl
raised before (Some at) = refl

module _ {A : Type 0} (name_of : A → List ℕ) where
  -- things are found by their names
  by_names : (things : List A) (name : List ℕ) → place_named (λ n. n) (map name_of things) name ≡ place_named name_of things name
  by_names things name = position-map (bytes_eq name) name_of things

  at_names : (stood things : List A) (names : List (List ℕ)) (name : List ℕ) → HasNames name_of stood names things
      → place_named name_of things name ≡ place_named (λ n. n) (map name_of stood ++ names) name
  at_names stood things names name known = sym (by_names things name) ∙ ap (λ ns. place_named (λ n. n) ns name) known

  found_more : (stood things : List A) (names : List (List ℕ)) (name : List ℕ) (place : Option ℕ) (id : ℕ) → HasNames name_of stood names things
      → place_named name_of stood name ≡ place → option_map (λ at. at + 1) place ≡ Some id → id_named name_of things name ≡ Some id
  found_more stood things names name None id known at h = cc
  found_more stood things names name (Some place) id known at h =
      let here = position-append (bytes_eq name) (map name_of stood) names place (by_names stood name ∙ at) in
      ap (option_map (λ p. p + 1)) (at_names stood things names name known ∙ here) ∙ h

  -- what stood keeps its identifier,
  pub stood_is_found : (stood things : List A) (names : List (List ℕ)) (name : List ℕ) (id : ℕ) → HasNames name_of stood names things
      → id_named name_of stood name ≡ Some id → id_named name_of things name ≡ Some id
  stood_is_found stood things names name id known h = found_more stood things names name (place_named name_of stood name) id known refl h

  -- and a part has that of its place behind what stood
  pub part_is_found : (stood things : List A) (names : List (List ℕ)) (name : List ℕ) → HasNames name_of stood names things
      → id_named name_of stood name ≡ None → id_named name_of things name ≡ option_map (λ place. length stood + place + 1) (place_named (λ n. n) names name)
  part_is_found stood things names name known h =
      let none : place_named (λ n. n) (map name_of stood) name ≡ None = by_names stood name ∙ unfound (place_named name_of stood name) h in
      ap (option_map (λ p. p + 1)) (at_names stood things names name known ∙ position-behind (bytes_eq name) (map name_of stood) names none)
      ∙ raised (length (map name_of stood)) (place_named (λ n. n) names name)
      ∙ ap (λ n. option_map (λ place. n + place + 1) (place_named (λ n. n) names name)) (length-map stood name_of)

walks_past : {A : Type 0} (test : A → Bool) (xs : List A) → length xs ≤ position_or_len test xs → list_any test xs ≡ false
walks_past test [] h = refl
walks_past test (x ∷ xs) h = elim (cases_Bool (test x)) [
  | inl e ↦ let none : suc (length xs) ≤ 0 = rw e at h in absurd (omega (arith, none))
  | inr e ↦ let rest : suc (length xs) ≤ 1 + position_or_len test xs = rw e at h in rw e (walks_past test xs (omega (arith, rest)))
]

-- where there is no place, nothing passes the test
absent : {A : Type 0} (test : A → Bool) (xs : List A) → position test xs ≡ None → list_any test xs ≡ false
absent test xs h = elim (cases_Bool (nat_lt (position_or_len test xs) (length xs))) [
  | inl e ↦ let found : Some (position_or_len test xs) ≡ None = rw e at h in cc
  | inr e ↦ walks_past test xs (ltb-false _ _ e)
]

-- a new name goes last
pub name_goes_last : (keys : List (Bor (List ℕ))) (name : Bor (List ℕ)) → place_named (λ n. n) (map (λ k. k.now) keys) name.now ≡ None
    → map (λ k. k.now) (insert_key (λ a b. bytes_eq a.now b.now) keys name) ≡ map (λ k. k.now) keys ++ name.now ∷ []
name_goes_last keys name new =
    let none : list_any (λ k. bytes_eq name.now k.now) keys ≡ false = absent (λ (k : Bor (List ℕ)). bytes_eq name.now k.now) keys (sym (position-map (bytes_eq name.now) (λ k. k.now) keys) ∙ new) in
    rw none (map-append (λ k. k.now) keys (name ∷ []))

pub none_of : {A : Type 0} (o : Option A) → is_some o ≡ false → o ≡ None
none_of None h = refl
none_of (Some x) h = cc

option_none : {A B : Type 0} (f : A → B) (o : Option A) → option_map f o ≡ None → o ≡ None
option_none f None h = refl
option_none f (Some x) h = cc

-- a name that isn't there at all isn't among the second ones
new_behind : (xs ys : List (List ℕ)) (name : List ℕ) (front : Option ℕ) → place_named (λ n. n) xs name ≡ front → place_named (λ n. n) (xs ++ ys) name ≡ None → place_named (λ n. n) ys name ≡ None
new_behind xs ys name (Some place) here h = let found = position-append (bytes_eq name) xs ys place here in cc
new_behind xs ys name None here h = option_none (λ place. length xs + place) (place_named (λ n. n) ys name) (sym (position-behind (bytes_eq name) xs ys here) ∙ h)

-- a name that nothing has isn't that of a part
pub part_is_new : {A : Type 0} (name_of : A → List ℕ) (stood things : List A) (names : List (List ℕ)) (name : List ℕ) → HasNames name_of stood names things
    → id_named name_of things name ≡ None → place_named (λ n. n) names name ≡ None
part_is_new name_of stood things names name known h =
    new_behind (map name_of stood) names name (place_named (λ n. n) (map name_of stood) name) refl (sym (at_names name_of stood things names name known) ∙ unfound (place_named name_of things name) h)

-- what is found behind things that stood is found among all
pub answer_behind : {A : Type 0} (name_of : A → List ℕ) (stood things : List A) (names : List (List ℕ)) (name : List ℕ) (before : ℕ) (answer : Option ℕ)
    → HasNames name_of stood names things → None ≡ id_named name_of stood name → before ≡ length stood
    → answer ≡ option_map (λ place. before + place + 1) (place_named (λ n. n) names name) → answer ≡ id_named name_of things name
answer_behind name_of stood things names name before answer known none count is =
    is ∙ ap (λ n. option_map (λ place. n + place + 1) (place_named (λ n. n) names name)) count ∙ sym (part_is_found name_of stood things names name known (sym none))
