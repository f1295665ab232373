-- Entries of a map, and the names that they stand under.
use Rattle.std.proofs.Common.{◌≡◌, ℕ, List, [], ◌∷◌, Option, Some, Vec, Bool, true, false, cond, refl, ap}
use Rattle.std.specs.BTreeMap.{insert_entry}
use Rattle.std.specs.Cmp.Lexicographic.{slice_cmp}
use Rattle.std.specs.Map.{lookup, remove_entry}
use Rattle.std.specs.Ordering.{is_eq, match_ordering, nat_cmp, ordering_then}
use Rattle.std.specs.declared.cmp.Ordering.{Ordering}
use Rattle.std.specs.declared.cmp.Ordering.TheVariants.{Less, Equal, Greater}
use Rattle.def_tree.specs.ByName.{by_bytes, found, named, put, without}
use Rattle.def_tree.specs.Pairs.{pairs_of, with_pair}

module _ {T Z : Type 0} where
  pub found_named : (name : List ℕ) (es : List (Vec ℕ Z × T)) → lookup (λ v. is_eq (by_bytes name v.items)) es ≡ found name (named es)
  found_named name [] = refl
  found_named name (e ∷ es) = ap (λ (r : Option T). cond (is_eq (by_bytes name e.0.items)) (Some e.1) r) (found_named name es)

  pub put_named : (name : Vec ℕ Z) (thing : T) (es : List (Vec ℕ Z × T))
      → named (insert_entry (λ a b. slice_cmp nat_cmp a.items b.items) es name thing) ≡ put name.items thing (named es)
  put_named name thing [] = refl
  put_named name thing (e ∷ es) =
      let es_with : List (Vec ℕ Z × T) = insert_entry (λ a b. slice_cmp nat_cmp a.items b.items) es name thing in
      let P : Ordering → Type 0 = λ o.
      named (match_ordering o ((name, thing) ∷ e ∷ es) ((e.0, thing) ∷ es) (e ∷ es_with))
      ≡ match_ordering o ((name.items, thing) ∷ (e.0.items, e.1) ∷ named es) ((e.0.items, thing) ∷ named es) ((e.0.items, e.1) ∷ put name.items thing (named es)) in
      elim (slice_cmp nat_cmp name.items e.0.items) as P [
        | Less ↦ refl
        | Equal ↦ refl
        | Greater ↦ ap (λ (r : List (List ℕ × T)). (e.0.items, e.1) ∷ r) (put_named name thing es)
      ]

  pub without_named : (name : List ℕ) (es : List (Vec ℕ Z × T)) → named (remove_entry (λ v. is_eq (by_bytes name v.items)) es) ≡ without name (named es)
  without_named name [] = refl
  without_named name (e ∷ es) =
      let left : List (Vec ℕ Z × T) = remove_entry (λ v. is_eq (by_bytes name v.items)) es in
      let P : Bool → Type 0 = λ b. named (cond b es (e ∷ left)) ≡ cond b (named es) ((e.0.items, e.1) ∷ without name (named es)) in
      elim (is_eq (by_bytes name e.0.items)) as P [
        | true ↦ refl
        | false ↦ ap (λ (r : List (List ℕ × T)). (e.0.items, e.1) ∷ r) (without_named name es)
      ]

-- a pair that is there stays
pub pair_put : {U Y Z : Type 0} (a : Vec ℕ Y) (b : Vec ℕ Z) (u : U) (es : List ((Vec ℕ Y × Vec ℕ Z) × U))
    → pairs_of (insert_entry (λ p q. ordering_then (slice_cmp nat_cmp p.0.items q.0.items) (slice_cmp nat_cmp p.1.items q.1.items)) es (a, b) u) ≡ with_pair a.items b.items (pairs_of es)
pair_put a b u [] = refl
pair_put {U = U} {Y = Y} {Z = Z} a b u (e ∷ es) =
    let es_with : List ((Vec ℕ Y × Vec ℕ Z) × U) = insert_entry (λ p q. ordering_then (slice_cmp nat_cmp p.0.items q.0.items) (slice_cmp nat_cmp p.1.items q.1.items)) es (a, b) u in
    let P : Ordering → Type 0 = λ o.
    pairs_of (match_ordering o (((a, b), u) ∷ e ∷ es) ((e.0, u) ∷ es) (e ∷ es_with))
    ≡ match_ordering o ((a.items, b.items) ∷ (e.0.0.items, e.0.1.items) ∷ pairs_of es) ((e.0.0.items, e.0.1.items) ∷ pairs_of es) ((e.0.0.items, e.0.1.items) ∷ with_pair a.items b.items (pairs_of es)) in
    elim (ordering_then (slice_cmp nat_cmp a.items e.0.0.items) (slice_cmp nat_cmp b.items e.0.1.items)) as P [
      | Less ↦ refl
      | Equal ↦ refl
      | Greater ↦ ap (λ (r : List (List ℕ × List ℕ)). (e.0.0.items, e.0.1.items) ∷ r) (pair_put a b u es)
    ]
