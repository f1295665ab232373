-- A walk over a list that makes one thing of each.
use Rattle.std.proofs.Common.{◌≡◌, ◌<◌, ◌≤◌, ◌+◌, ◌∙◌, ◌++◌, ◌∷◌, ◌&&◌, [], Bool, true, false, List, ℕ, length, get_or, take, map, sym, ap}
use Rattle.std.specs.Prelude.{IsTrue}
use Rattle.std.specs.List.{list_all}
use Rattle.std.proofs.lemmas.List.{map-append, take_all, take_more}
use Rattle.std.proofs.lemmas.List.Folds.{list_all_at, list_all_more}

-- each of these things is good, and this is made of them
pub record IsMadeOf {A B : Type 0} (is_good : A → Bool) (f : A → B) (xs : List A) (ys : List B) : Type 0 where
  pub good : list_all is_good xs ≡ true
  pub made : ys ≡ map f xs

module _ {A B : Type 0} (is_good : A → Bool) (f : A → B) (xs : List A) (i : ℕ) where
  -- one more thing is made
  pub made_more : (x : A) (made more : List B) (y : B) → i < length xs → x ≡ get_or xs i x → IsMadeOf is_good f (take i xs) made
      → IsTrue (is_good x) × (y ≡ f x) → more ≡ made ++ y ∷ [] → IsMadeOf is_good f (take (i + 1) xs) more
  made_more x made more y within is known one grown = record {
    good = list_all_more is_good xs i x within ∙ ap (λ b. b && is_good (get_or xs i x)) known.good ∙ ap is_good (sym is) ∙ one.0;
    made = grown ∙ ap (λ ys. ys ++ y ∷ []) known.made ∙ ap (λ z. map f (take i xs) ++ z ∷ []) (one.1 ∙ ap f is)
        ∙ sym (ap (map f) (take_more xs i x within) ∙ map-append f (take i xs) (get_or xs i x ∷ []));
  }

  -- one that isn't good
  pub bad_at : (x : A) → i < length xs → x ≡ get_or xs i x → is_good x ≡ false → list_all is_good xs ≡ false
  bad_at x within is bad = list_all_at is_good xs i x within (ap is_good (sym is) ∙ bad)

  -- all are made
  pub made_all : (made : List B) → length xs ≤ i → IsMadeOf is_good f (take i xs) made → IsTrue (list_all is_good xs) × (made ≡ map f xs)
  made_all made end known =
      let whole = take_all i xs end in
      (ap (list_all is_good) (sym whole) ∙ known.good, known.made ∙ ap (map f) whole)
