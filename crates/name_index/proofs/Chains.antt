-- A walk along a chain, step by step.
use Rattle.std.proofs.Common.{◌≡◌, ◌≢◌, ◌+◌, ◌-◌, ◌<◌, ◌≤◌, Bool, true, eqb, List, [], ◌∷◌, ◌++◌, ℕ, zero, suc, refl, sym, ap, ◌∙◌, arith, append_assoc}
use Rattle.std.proofs.lemmas.Bool.{eq-eqb, or_left, or_right}
use Rattle.name_index.specs.Chain.{AreCells, ids_from}
use Rattle.odb_base.specs.Ids.{holds}

holds_first : (id : ℕ) (ids : List ℕ) → holds (id ∷ ids) id ≡ true
holds_first id ids = or_left (eqb id id) (holds ids id) (eq-eqb id id refl)

holds_later : (x : ℕ) (ids : List ℕ) (id : ℕ) → holds ids id ≡ true → holds (x ∷ ids) id ≡ true
holds_later x ids id inside = or_right (eqb x id) (holds ids id) inside

-- 0 leads to nothing
pub ids_from-zero : (chain : ℕ → ℕ) (most : ℕ) → ids_from chain most 0 ≡ []
ids_from-zero chain zero = refl
ids_from-zero chain (suc most) = refl

ids_from-suc : (chain : ℕ → ℕ) (most id : ℕ) → id ≢ 0 → ids_from chain (suc most) id ≡ id ∷ ids_from chain most (chain id)
ids_from-suc chain most zero some = absurd (some refl)
ids_from-suc chain most (suc id) some = refl

-- what is left of a chain, in a loop that has come to an identifier
pub ids_from-more : (chain : ℕ → ℕ) (most done id : ℕ) → done < most → id ≢ 0 → ids_from chain (most - done) id ≡ id ∷ ids_from chain (most - (done + 1)) (chain id)
ids_from-more chain most done id h some =
    let left : most - done ≡ suc (most - (done + 1)) = omega arith in
    ap (λ n. ids_from chain n id) left ∙ ids_from-suc chain (most - (done + 1)) id some

pub ids_from-done : (chain : ℕ → ℕ) (most done id : ℕ) → most ≤ done → ids_from chain (most - done) id ≡ []
ids_from-done chain most done id h = let none : most - done ≡ 0 = omega arith in ap (λ n. ids_from chain n id) none

pub ids_from-start : (chain : ℕ → ℕ) (most id : ℕ) → ids_from chain (most - 0) id ≡ ids_from chain most id
ids_from-start chain most id = let all : most - 0 ≡ most = omega arith in ap (λ n. ids_from chain n id) all

-- the identifier that a walk has come to names a cell, and so do those behind it
pub cells_here : (cell : ℕ → Bool) (ids rest : List ℕ) (id : ℕ) → AreCells cell ids → ids ≡ id ∷ rest → cell id ≡ true
cells_here cell ids rest id h e = h id (ap (λ l. holds l id) e ∙ holds_first id rest)

pub cells_on : (cell : ℕ → Bool) (ids rest : List ℕ) (id : ℕ) → AreCells cell ids → ids ≡ id ∷ rest → AreCells cell rest
cells_on cell ids rest id h e k inside = h k (ap (λ l. holds l k) e ∙ holds_later id rest k inside)

-- one more identifier is listed
pub listed_more : (listed more rest left : List ℕ) (id : ℕ) → rest ≡ id ∷ left → more ≡ listed ++ id ∷ [] → more ++ left ≡ listed ++ rest
listed_more listed more rest left id e is = ap (λ l. l ++ left) is ∙ append_assoc listed (id ∷ []) left ∙ ap (λ l. listed ++ l) (sym e)
