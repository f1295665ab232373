-- Pairs of names in their order.
use Rattle.std.specs.Prelude.{List, [], ◌∷◌, ℕ, Vec, map}
use Rattle.std.specs.Ordering.{match_ordering, ordering_then}
use Rattle.def_tree.specs.ByName.{by_bytes}

-- names of components and terminals, of entries of a map
abbrev pub pairs_of : {U Y Z : Type 0} → List ((Vec ℕ Y × Vec ℕ Z) × U) → List (List ℕ × List ℕ)
pairs_of entries = map (λ e. (e.0.0.items, e.0.1.items)) entries

-- with a terminal, in its place in the order, if it isn't there
abbrev pub with_pair : List ℕ → List ℕ → List (List ℕ × List ℕ) → List (List ℕ × List ℕ)
with_pair component terminal [] = (component, terminal) ∷ []
with_pair component terminal (p ∷ pairs) =
    match_ordering (ordering_then (by_bytes component p.0) (by_bytes terminal p.1))
    ((component, terminal) ∷ p ∷ pairs) (p ∷ pairs) (p ∷ with_pair component terminal pairs)
