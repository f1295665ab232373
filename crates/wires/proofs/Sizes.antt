-- How much room words take, with a space behind each.
use Rattle.std.proofs.Common.{◌≡◌, ◌+◌, ◌++◌, ℕ, Bool, true, false, List, [], ◌∷◌, Option, Some, None, Result, Ok, Err, if◌then◌else◌, length, refl, sym, ap, ◌∙◌, arith, inl, inr, ◌⊎◌}
use Rattle.std.specs.List.{flat_map}
use Rattle.std.specs.Prelude.{find, unwrap_or}
use Rattle.std.proofs.lemmas.List.{length-append}
use Rattle.std.proofs.lemmas.Slice.Eq.{bytes_eq-Decides}
use Rattle.wires.specs.declared.path_word.PathWord.{PathWord}
use Rattle.wires.specs.PathSpelling.{joined}
use Rattle.wires.specs.PathWords.{is, text_of}

-- the bytes of words with a space behind each
abbrev pub size : List (List ℕ) → ℕ
size [] = 0
size (w ∷ ws) = length w + 1 + size ws

pub size_both : (a b : List (List ℕ)) → size (a ++ b) ≡ size a + size b
size_both [] b = omega arith
size_both (w ∷ ws) b = let e = size_both ws b in omega (arith, e)

size_spaced : (ws : List (List ℕ)) → length (flat_map (λ v. 32 ∷ v) ws) ≡ size ws
size_spaced [] = refl
size_spaced (w ∷ ws) =
    let e = size_spaced ws in
    let both = length-append (32 ∷ w) (flat_map (λ v. 32 ∷ v) ws) in
    omega (arith, e, both)

-- a space more than there are between them
pub size_joined : (w : List ℕ) (ws : List (List ℕ)) → size (w ∷ ws) ≡ length (joined (w ∷ ws)) + 1
size_joined w ws =
    let e = size_spaced ws in
    let both = length-append w (flat_map (λ v. 32 ∷ v) ws) in
    omega (arith, e, both)

-- the words of a list with one more item
pub size_push : {A : Type 0} (f : A → List (List ℕ)) (xs : List A) (x : A) → size (flat_map f (xs ++ x ∷ [])) ≡ size (flat_map f xs) + size (f x)
size_push f [] x = let both = size_both (f x) [] in omega (arith, both)
size_push f (y ∷ xs) x =
    let e = size_push f xs x in
    let longer = size_both (f y) (flat_map f (xs ++ x ∷ [])) in
    let both = size_both (f y) (flat_map f xs) in
    omega (arith, e, longer, both)

-- a keyword has the length of its text
pub keyword_length : (w : PathWord) (bytes : List ℕ) → is w bytes ≡ true → length bytes ≡ length (text_of w)
unfolding is
keyword_length w bytes e = ap length ((bytes_eq-Decides bytes (text_of w)).0 e)

-- ---- choices

pub some_same : {A : Type 0} {x y : A} → Some x ≡ Some y → x ≡ y
some_same {A} {x} e = ap (λ o. unwrap_or o x) e

abbrev value_or : {A E : Type 0} → Result A E → A → A
value_or (Ok x) other = x
value_or (Err e) other = other

pub ok_same : {A E : Type 0} {x y : A} → ◌≡◌ {A = Result A E} (Ok x) (Ok y) → x ≡ y
ok_same {A} {E} {x} e = ap (λ r. value_or r x) e

-- the one choice, where there is no other
pub if_one : {A : Type 0} (b : Bool) {x y : A} → (if b then Some x else None) ≡ Some y → (b ≡ true) × (x ≡ y)
if_one true e = (refl, some_same e)
if_one false e = absurd cc

pub if_then : {A : Type 0} (b : Bool) {o : Option A} {y : A} → (if b then o else None) ≡ Some y → (b ≡ true) × (o ≡ Some y)
if_then true e = (refl, e)
if_then false e = absurd cc

pub if_ok : {A E : Type 0} (b : Bool) {x y : A} (f : E) → (if b then Ok x else Err f) ≡ Ok y → (b ≡ true) × (x ≡ y)
if_ok true f e = (refl, ok_same e)
if_ok false f e = absurd cc

-- one of two choices
pub if_either : {A : Type 0} (b : Bool) {x y : A} (other : Option A) → (if b then Some x else other) ≡ Some y → ((b ≡ true) × (x ≡ y)) ⊎ (other ≡ Some y)
if_either true other e = inl (refl, some_same e)
if_either false other e = inr e

-- what is found passes the test
pub found_passes : {A : Type 0} (test : A → Bool) (xs : List A) (x : A) → find test xs ≡ Some x → test x ≡ true
found_passes test [] x e = absurd cc
found_passes test (y ∷ ys) x e = elim (if_either (test y) (find test ys) e) [
  | inl p ↦ ap test (sym p.1) ∙ p.0
  | inr q ↦ found_passes test ys x q
]
