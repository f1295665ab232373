-- The place that is due behind places that are left out.
use Rattle.std.proofs.Common.{◌≡◌, ℕ, zero, suc, ◌≤◌, List, [], ◌∷◌, Some, None, drop, get_or, length, min, refl, sym, ap, ◌∙◌, arith}
use Rattle.ld_forms.specs.declared.place.Judged.{Judged}
use Rattle.ld_forms.specs.declared.place.Place.{Place}
use Rattle.ld_forms.specs.Places.{Word, due, due_behind, left_out}

module _ {C K : Type 0} (judge : C → Word → Judged K) where
  -- behind so many places stands what is due among the later ones
  behind-due : (n : ℕ) (places : List (Place C)) (word : Word) → due_behind judge n places word ≡ due judge (drop (min n (length places)) places) word
  behind-due zero [] word = refl
  behind-due zero (p ∷ places) word = let none : min 0 (suc (length places)) ≡ 0 = omega arith in rw none refl
  behind-due (suc n) [] word = let none : min (suc n) 0 ≡ 0 = omega arith in rw none refl
  behind-due (suc n) (p ∷ places) word =
      let one : min (suc n) (suc (length places)) ≡ suc (min n (length places)) = omega arith in
      rw one (behind-due n places word)

  -- a place that is left out
  pub out-due : (places : List (Place C)) (p : Place C) (n : ℕ) (word : Word) → 1 ≤ length places → p ≡ get_or places 0 p → left_out judge p word ≡ Some n
      → due judge places word ≡ due judge (drop (min n (length (drop 1 places))) (drop 1 places)) word
  out-due [] p n word some is out = absurd (omega (arith, some))
  out-due (q ∷ places) p n word some is out =
      let here : left_out judge q word ≡ Some n = ap (λ x. left_out judge x word) (sym is) ∙ out in
      rw here (behind-due n places word)

  -- a place that isn't
  pub here-due : (places : List (Place C)) (p : Place C) (word : Word) → 1 ≤ length places → p ≡ get_or places 0 p → left_out judge p word ≡ None
      → places ≡ due judge places word
  here-due [] p word some is out = absurd (omega (arith, some))
  here-due (q ∷ places) p word some is out =
      let here : left_out judge q word ≡ None = ap (λ x. left_out judge x word) (sym is) ∙ out in
      rw here refl
