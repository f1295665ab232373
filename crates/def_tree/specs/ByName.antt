-- Things by their names.
use Rattle.std.specs.Prelude.{List, [], ◌∷◌, ℕ, Option, Some, None, Vec, cond, map}
use Rattle.std.specs.Ordering.{is_eq, match_ordering, nat_cmp}
use Rattle.std.specs.Cmp.Lexicographic.{slice_cmp}
use Rattle.std.specs.Map.{lookup, remove_entry}
use Rattle.std.specs.declared.cmp.Ordering.{Ordering}

-- the order of names: by the values of their bytes, a name before those that go on behind it
abbrev pub by_bytes : List ℕ → List ℕ → Ordering
by_bytes some other = slice_cmp nat_cmp some other

module _ {T : Type 0} where
  -- names with their things, of entries of a map
  abbrev pub named : {Z : Type 0} → List (Vec ℕ Z × T) → List (List ℕ × T)
  named entries = map (λ e. (e.0.items, e.1)) entries

  -- the thing of a name
  abbrev pub found : List ℕ → List (List ℕ × T) → Option T
  found name things = lookup (λ other. is_eq (by_bytes name other)) things

  -- with a thing under a name, in its place in the order
  abbrev pub put : List ℕ → T → List (List ℕ × T) → List (List ℕ × T)
  put name thing [] = (name, thing) ∷ []
  put name thing (e ∷ things) =
      match_ordering (by_bytes name e.0) ((name, thing) ∷ e ∷ things) ((e.0, thing) ∷ things) (e ∷ put name thing things)

  -- without the thing of a name
  abbrev pub without : List ℕ → List (List ℕ × T) → List (List ℕ × T)
  without name things = remove_entry (λ other. is_eq (by_bytes name other)) things
