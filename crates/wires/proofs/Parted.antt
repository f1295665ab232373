-- Words that single spaces part.
use Rattle.std.proofs.Common.{◌≡◌, ℕ, zero, suc, ◌+◌, ◌<◌, ◌==◌, Bool, true, false, not, eqb, List, [], ◌∷◌, Some, None, length, take, drop, get_or, position, refl, arith, inl, inr}
use Rattle.std.proofs.lemmas.Bool.{cases_Bool}
use Rattle.std.proofs.lemmas.Bool.Decides.{nat_tests}
use Rattle.std.proofs.lemmas.List.Quantifiers.{position-Some}
use Rattle.std.proofs.lemmas.List.Sums.{prefix_len-le-length}
use Rattle.std.specs.List.{position_or_len}
use Rattle.wires.specs.PathWords.{words_of}

-- a byte that parts words
abbrev pub is_space : ℕ → Bool
is_space b = b == 32

-- the words of bytes without a space
none_at : (ws : List ℕ) → position_or_len is_space ws ≡ length ws → words_of ws ≡ ws ∷ []
none_at [] e = refl
none_at (b ∷ bs) e =
    elim (cases_Bool (eqb b 32)) [
      | inl space ↦ absurd (let h : 0 ≡ suc (length bs) = (rw space at e) in omega arith)
      | inr other ↦ let h : 1 + position_or_len is_space bs ≡ suc (length bs) = (rw other at e) in rw (other, none_at bs (omega arith)) refl
    ]

pub words_none : (ws : List ℕ) → position is_space ws ≡ None → words_of ws ≡ ws ∷ []
words_none ws h = none_at ws (grind (arith, nat_tests, prefix_len-le-length (λ x. not (is_space x)) ws))

-- the words of bytes with a space at a place and none before it
some_at : (ws : List ℕ) (at : ℕ) → at < length ws → eqb (get_or ws at 0) 32 ≡ true → ((k : ℕ) → k < at → eqb (get_or ws k 0) 32 ≡ false) → words_of ws ≡ take at ws ∷ words_of (drop (suc at) ws)
some_at [] at within space before = absurd (omega (arith, within))
some_at (b ∷ bs) zero within space before = rw space refl
some_at (b ∷ bs) (suc at) within space before =
    let other : eqb b 32 ≡ false = before 0 (omega arith) in
    rw (other, some_at bs at (omega (arith, within)) space (λ k lt. before (suc k) (omega (arith, lt)))) refl

pub words_some : (ws : List ℕ) (at : ℕ) → position is_space ws ≡ Some at → (at < length ws) × (words_of ws ≡ take at ws ∷ words_of (drop (suc at) ws))
words_some ws at h = let p = position-Some is_space ws at 0 h in (p.0, some_at ws at p.0 p.1 p.2)
