-- Words that fill the places of a form, as the references write it.
use Rattle.std.specs.Prelude.{◌≡◌, true, false, List, [], ◌∷◌, ℕ, drop}
use Rattle.ld_forms.specs.declared.place.Judged.{Judged}
use Rattle.ld_forms.specs.declared.place.Judged.TheVariants as judged
use Rattle.ld_forms.specs.declared.place.Place.{Place}
use Rattle.ld_forms.specs.declared.place.Place.TheVariants as place
use Rattle.ld_forms.specs.Places.{Word, goes_by, is_semicolon}

-- these places take the first of these words, of which those are kept, and leave those places and words. A place that
-- may be left out is so by the word that stands there
pub data Fills {C K : Type 0} (judge : C → Word → Judged K) : List (Place C) → List Word → List Word → List (Place C) → List Word → Type 0 where
  Stop : {ps : List (Place C)} {ws : List Word} → Fills judge ps ws [] ps ws
  Key : {c : C} {w : Word} {ps qs : List (Place C)} {ws ks rest : List Word} → judge c w ≡ judged.Fits
      → Fills judge ps ws ks qs rest → Fills judge (place.Key c ∷ ps) (w ∷ ws) ks qs rest
  One : {c : C} {w : Word} {ps qs : List (Place C)} {ws ks rest : List Word} → judge c w ≡ judged.Fits
      → Fills judge ps ws ks qs rest → Fills judge (place.One c ∷ ps) (w ∷ ws) (w ∷ ks) qs rest
  Maybe : {c : C} {w : Word} {ps qs : List (Place C)} {ws ks rest : List Word} → judge c w ≡ judged.Fits
      → Fills judge ps ws ks qs rest → Fills judge (place.Maybe c ∷ ps) (w ∷ ws) (w ∷ ks) qs rest
  NoMaybe : {c : C} {w : Word} {ps qs : List (Place C)} {ws ks rest : List Word} → goes_by (judge c w) (is_semicolon w) ≡ true
      → Fills judge ps (w ∷ ws) ks qs rest → Fills judge (place.Maybe c ∷ ps) (w ∷ ws) ks qs rest
  Group : {c : C} {n : ℕ} {w : Word} {ps qs : List (Place C)} {ws ks rest : List Word} → judge c w ≡ judged.Fits
      → Fills judge ps ws ks qs rest → Fills judge (place.Group c n ∷ ps) (w ∷ ws) (w ∷ ks) qs rest
  NoGroup : {c : C} {n : ℕ} {w : Word} {ps qs : List (Place C)} {ws ks rest : List Word} → goes_by (judge c w) (is_semicolon w) ≡ true
      → Fills judge (drop n ps) (w ∷ ws) ks qs rest → Fills judge (place.Group c n ∷ ps) (w ∷ ws) ks qs rest
  More : {c : C} {w : Word} {ps qs : List (Place C)} {ws ks rest : List Word} → judge c w ≡ judged.Fits
      → Fills judge (place.More c ∷ ps) ws ks qs rest → Fills judge (place.More c ∷ ps) (w ∷ ws) (w ∷ ks) qs rest
  NoMore : {c : C} {w : Word} {ps qs : List (Place C)} {ws ks rest : List Word} → goes_by (judge c w) (is_semicolon w) ≡ true
      → Fills judge ps (w ∷ ws) ks qs rest → Fills judge (place.More c ∷ ps) (w ∷ ws) ks qs rest
  Any : {w : Word} {ps qs : List (Place C)} {ws ks rest : List Word} → is_semicolon w ≡ false
      → Fills judge (place.Through ∷ ps) ws ks qs rest → Fills judge (place.Through ∷ ps) (w ∷ ws) ks qs rest
  Through : {w : Word} {ps : List (Place C)} {ws : List Word} → is_semicolon w ≡ true → Fills judge (place.Through ∷ ps) (w ∷ ws) [] [] ws
  End : {w : Word} {ps : List (Place C)} {ws : List Word} → is_semicolon w ≡ true → Fills judge (place.End ∷ ps) (w ∷ ws) [] [] ws
