-- Which place of a form a word takes, and what it does there. What a word is to a class is given by `judge`.
use Rattle.std.specs.Prelude.{Bool, true, false, List, [], ◌∷◌, ℕ, zero, suc, Option, Some, None, codes, if◌then◌else◌}
use Rattle.std.specs.Str.{bytes_eq}
use Rattle.ld_forms.specs.declared.place.Fit.{Fit}
use Rattle.ld_forms.specs.declared.place.Fit.TheVariants as fit
use Rattle.ld_forms.specs.declared.place.Judged.{Judged}
use Rattle.ld_forms.specs.declared.place.Judged.TheVariants as judged
use Rattle.ld_forms.specs.declared.place.Place.{Place}
use Rattle.ld_forms.specs.declared.place.Place.TheVariants as place

-- a word, the list of its bytes
abbrev pub Word : Type 0
Word = List ℕ

-- the word that ends a statement
unfoldable pub is_semicolon : Word → Bool
is_semicolon word = bytes_eq word (codes ";")

-- what a word of a class does
abbrev pub by_judged : {K : Type 0} → Judged K → Fit K → Fit K
by_judged judged.Fits f = f
by_judged judged.Other f = fit.Misfit
by_judged (judged.Bad k) f = fit.Bad k

-- what a word does in a place
unfoldable pub fit_in : {C K : Type 0} → (C → Word → Judged K) → Place C → Word → Fit K
fit_in judge (place.Key c) word = by_judged (judge c word) fit.Taken
fit_in judge (place.One c) word = by_judged (judge c word) fit.Kept
fit_in judge (place.Maybe c) word = by_judged (judge c word) fit.Kept
fit_in judge (place.Group c n) word = by_judged (judge c word) fit.Kept
fit_in judge (place.More c) word = by_judged (judge c word) fit.KeptHere
fit_in judge place.Through word = if is_semicolon word then fit.Ends else fit.Here
fit_in judge place.End word = if is_semicolon word then fit.Ends else fit.Misfit

-- a place that may be left out is left to a word of another class, and to a `;` that isn't of its own
abbrev pub goes_by : {K : Type 0} → Judged K → Bool → Bool
goes_by judged.Fits semicolon = false
goes_by judged.Other semicolon = true
goes_by (judged.Bad k) semicolon = semicolon

-- how many places behind it a place leaves out with it, where the word leaves it out
unfoldable pub left_out : {C K : Type 0} → (C → Word → Judged K) → Place C → Word → Option ℕ
left_out judge (place.Maybe c) word = if goes_by (judge c word) (is_semicolon word) then Some 0 else None
left_out judge (place.Group c n) word = if goes_by (judge c word) (is_semicolon word) then Some n else None
left_out judge (place.More c) word = if goes_by (judge c word) (is_semicolon word) then Some 0 else None
left_out judge _ word = None

-- these places, or those behind what is left out
abbrev pub unless_left_out : {C : Type 0} → List (Place C) → Option ℕ → (ℕ → List (Place C)) → List (Place C)
unless_left_out here None behind = here
unless_left_out here (Some n) behind = behind n

-- the places from the one on that the word is to take, behind so many
abbrev pub due_behind : {C K : Type 0} → (C → Word → Judged K) → ℕ → List (Place C) → Word → List (Place C)
due_behind judge n [] word = []
due_behind judge (suc n) (p ∷ places) word = due_behind judge n places word
due_behind judge zero (p ∷ places) word = unless_left_out (p ∷ places) (left_out judge p word) (λ n. due_behind judge n places word)

-- the places from the one on that the word is to take
abbrev pub due : {C K : Type 0} → (C → Word → Judged K) → List (Place C) → Word → List (Place C)
due judge places word = due_behind judge 0 places word
