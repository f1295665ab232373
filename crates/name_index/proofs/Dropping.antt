-- A chain, and an index, without an identifier.
use Rattle.std.proofs.Common.{◌≡◌, ◌≢◌, ◌-◌, ◌<◌, Bool, true, false, cond, eqb, List, [], ◌∷◌, ℕ, Some, length, set, refl, sym, ap, ◌∙◌, inl, inr, arith}
use Rattle.std.specs.FinMap.{get, remove}
use Rattle.std.specs.Prelude.{slice_index}
use Rattle.std.proofs.lemmas.Bool.{cases_Bool, cases_eq, eq-eqb, eqb-true, false≢true, or_left, or_parts, or_right}
use Rattle.name_index.specs.Chain.{AreCells, IsChain, ids_from, prior_in, prior_of}
use Rattle.odb_base.specs.Ids.{IsDistinct, holds, without}
use Rattle.name_index.specs.Hash.{bucket_at}
use Rattle.name_index.specs.Index.{Index, Stands}
use Rattle.name_index.specs.Names.{Names}
use Rattle.name_index.proofs.Buckets.{at_other, at_same, chain_cells, chain_kept}
use Rattle.odb_base.proofs.Ids.{member_differs}
use Rattle.odb_base.proofs.Members.{distinct_without, holds_without, holds_without_other, holds_without_same}
use Rattle.name_index.proofs.Maps.{cases_name, get-remove_other, get-remove_same, len-remove_some, not_None, same_Some}

prior_in-same : (p x : ℕ) (xs : List ℕ) (id : ℕ) → eqb x id ≡ true → prior_in p (x ∷ xs) id ≡ p
prior_in-same p x xs id e = rw e refl

prior_in-other : (p x : ℕ) (xs : List ℕ) (id : ℕ) → eqb x id ≡ false → prior_in p (x ∷ xs) id ≡ prior_in x xs id
prior_in-other p x xs id e = rw e refl

without-same : (x : ℕ) (xs : List ℕ) (id : ℕ) → eqb x id ≡ true → without id (x ∷ xs) ≡ xs
without-same x xs id e = rw e refl

without-other : (x : ℕ) (xs : List ℕ) (id : ℕ) → eqb x id ≡ false → without id (x ∷ xs) ≡ x ∷ without id xs
without-other x xs id e = rw e refl

holds_first : (x : ℕ) (xs : List ℕ) → holds (x ∷ xs) x ≡ true
holds_first x xs = or_left (eqb x x) (holds xs x) (eq-eqb x x refl)

-- what stands before an identifier is in the list, or before it
holds-prior : (x : ℕ) (xs : List ℕ) (id : ℕ) → holds (x ∷ xs) (prior_in x xs id) ≡ true
holds-prior x [] id = holds_first x []
holds-prior x (y ∷ ys) id = elim (cases_Bool (eqb y id)) [
  | inl e ↦ ap (holds (x ∷ y ∷ ys)) (prior_in-same x y ys id e) ∙ holds_first x (y ∷ ys)
  | inr e ↦
      ap (holds (x ∷ y ∷ ys)) (prior_in-other x y ys id e)
      ∙ or_right (eqb x (prior_in y ys id)) (holds (y ∷ ys) (prior_in y ys id)) (holds-prior y ys id)
]

pub prior_inside : (ids : List ℕ) (id : ℕ) → prior_in 0 ids id ≢ 0 → holds ids (prior_in 0 ids id) ≡ true
prior_inside [] id some = absurd (some refl)
prior_inside (x ∷ xs) id some = elim (cases_Bool (eqb x id)) [
  | inl e ↦ absurd (some (prior_in-same 0 x xs id e))
  | inr e ↦ ap (holds (x ∷ xs)) (prior_in-other 0 x xs id e) ∙ holds-prior x xs id
]

module _ (cell cell' : ℕ → Bool) (chain chain' : ℕ → ℕ) (same_cell : (k : ℕ) → cell' k ≡ cell k) (id : ℕ) where
  -- the rest of a chain behind p, where what stood before an identifier now leads to what stood behind it
  rest_without : (p first : ℕ) (ids : List ℕ) → IsChain cell chain first ids → IsDistinct ids → holds ids p ≡ false → holds ids id ≡ true → chain p ≡ first → chain' (prior_in p ids id) ≡ chain id → ((k : ℕ) → k ≢ prior_in p ids id → chain' k ≡ chain k) → IsChain cell' chain' (chain' p) (without id ids)
  rest_without p first [] h distinct outside inside leads set others = absurd (false≢true inside)
  rest_without p first (x ∷ xs) h distinct outside inside leads set others = elim (cases_Bool (eqb x id)) [
    | inl e ↦
        let here = prior_in-same p x xs id e in
        let out : holds xs p ≡ false = (or_parts (eqb x p) (holds xs p) outside).1 in
        rw (without-same x xs id e, ap chain' (sym here) ∙ set ∙ ap chain (sym (eqb-true x id e)))
        (chain_kept cell cell' chain chain' same_cell (chain x) xs (λ k there. others k (λ same. member_differs xs k p there out (same ∙ here))) h.2)
    | inr e ↦
        let there = prior_in-other p x xs id e in
        let apart : p ≢ prior_in p (x ∷ xs) id = λ same. false≢true (sym outside ∙ ap (holds (x ∷ xs)) (same ∙ there) ∙ holds-prior x xs id) in
        rw (without-other x xs id e) (
          others p apart ∙ leads ∙ h.0,
          same_cell x ∙ h.1,
          rest_without x (chain x) xs h.2 distinct.1 distinct.0 (rw e at inside) refl (ap chain' (sym there) ∙ set) (λ k ne. others k (λ same. ne (same ∙ there))),
        )
  ]

  -- where another stands before it, the first stays
  pub chain_without : (first : ℕ) (ids : List ℕ) → IsChain cell chain first ids → IsDistinct ids → holds ids id ≡ true → prior_in 0 ids id ≢ 0 → chain' (prior_in 0 ids id) ≡ chain id → ((k : ℕ) → k ≢ prior_in 0 ids id → chain' k ≡ chain k) → IsChain cell' chain' first (without id ids)
  chain_without first [] h distinct inside some set others = absurd (false≢true inside)
  chain_without first (x ∷ xs) h distinct inside some set others = elim (cases_Bool (eqb x id)) [
    | inl e ↦ absurd (some (prior_in-same 0 x xs id e))
    | inr e ↦
        let there = prior_in-other 0 x xs id e in
        rw (without-other x xs id e) (
          h.0,
          same_cell x ∙ h.1,
          rest_without x (chain x) xs h.2 distinct.1 distinct.0 (rw e at inside) refl (ap chain' (sym there) ∙ set) (λ k ne. others k (λ same. ne (same ∙ there))),
        )
  ]

-- where it is the first, what stands behind it becomes the first
pub chain_behind : (cell : ℕ → Bool) (chain : ℕ → ℕ) → cell 0 ≡ false → (id first : ℕ) (ids : List ℕ) → IsChain cell chain first ids → holds ids id ≡ true → prior_in 0 ids id ≡ 0 → IsChain cell chain (chain id) (without id ids)
chain_behind cell chain none id first [] h inside is_first = absurd (false≢true inside)
chain_behind cell chain none id first (x ∷ xs) h inside is_first = elim (cases_Bool (eqb x id)) [
  | inl e ↦ rw (without-same x xs id e, ap chain (sym (eqb-true x id e))) h.2
  | inr e ↦
      let zero_inside : holds (x ∷ xs) 0 ≡ true = ap (holds (x ∷ xs)) (sym (sym (prior_in-other 0 x xs id e) ∙ is_first)) ∙ holds-prior x xs id in
      absurd (false≢true (sym none ∙ chain_cells cell chain first (x ∷ xs) h 0 zero_inside))
]

-- An index without an identifier, whose bucket's chain is without it.
module _ (cell cell' : ℕ → Bool) (name name' : ℕ → List ℕ) (chain chain' : ℕ → ℕ) (index : Index) (names : Names) (stands : Stands cell name chain index names)
    (id : ℕ) (same_name : (k : ℕ) → name' k ≡ name k) (heads' : List ℕ) (same_length : length heads' ≡ length index.heads)
    (is_held : get names (name id) ≡ Some id)
    (here : IsChain cell' chain' (slice_index heads' (bucket_at (length index.heads) (name id))) (without id (stands.chains (bucket_at (length index.heads) (name id)))))
    (there : (k : ℕ) → k ≢ bucket_at (length index.heads) (name id) → k < length index.heads → IsChain cell' chain' (slice_index heads' k) (stands.chains k)) where
  abbrev at : ℕ
  at = bucket_at (length index.heads) (name id)

  abbrev chains' : ℕ → List ℕ
  chains' k = cond (eqb k at) (without id (stands.chains k)) (stands.chains k)

  linked' : (k : ℕ) → k < length heads' → IsChain cell' chain' (slice_index heads' k) (chains' k)
  linked' k h = elim (cases_eq k at) [
    | inl e ↦ rw (at_same k at (without id (stands.chains k)) (stands.chains k) e, e) here
    | inr ne ↦ rw (at_other k at (without id (stands.chains k)) (stands.chains k) ne) (there k ne (omega (arith, same_length)))
  ]

  distinct' : (k : ℕ) → IsDistinct (chains' k)
  distinct' k = elim (cases_Bool (eqb k at)) [
    | inl e ↦ rw e (distinct_without id (stands.chains k) (stands.distinct k))
    | inr e ↦ rw e (stands.distinct k)
  ]

  -- what is left in a chain is another
  left_in : (k j : ℕ) → holds (chains' k) j ≡ true → (holds (stands.chains k) j ≡ true) × (j ≢ id)
  left_in k j inside = elim (cases_eq k at) [
    | inl e ↦
        let h : holds (without id (stands.chains k)) j ≡ true = ap (λ l. holds l j) (sym (at_same k at (without id (stands.chains k)) (stands.chains k) e)) ∙ inside in (
          holds_without id (stands.chains k) j h,
          member_differs (without id (stands.chains k)) j id h (holds_without_same id (stands.chains k) (stands.distinct k)),
        )
    | inr ne ↦
        let h : holds (stands.chains k) j ≡ true = ap (λ l. holds l j) (sym (at_other k at (without id (stands.chains k)) (stands.chains k) ne)) ∙ inside in
        (h, λ same. ne ((stands.listed k j h).1 ∙ ap (λ i. bucket_at (length index.heads) (name i)) same))
  ]

  listed' : (k j : ℕ) → holds (chains' k) j ≡ true → (k < length heads') × (k ≡ bucket_at (length heads') (name' j)) × (get (remove names (name id)) (name' j) ≡ Some j)
  listed' k j inside =
      let left = left_in k j inside in
      let old = stands.listed k j left.0 in (
        omega (arith, old.0, same_length),
        old.1 ∙ sym (ap (λ n. bucket_at n (name' j)) same_length ∙ ap (bucket_at (length index.heads)) (same_name j)),
        ap (get (remove names (name id))) (same_name j)
            ∙ get-remove_other names (name id) (name j) (λ e. left.1 (same_Some j id (sym old.2 ∙ ap (get names) e ∙ is_held)))
            ∙ old.2,
      )

  in_bucket : (k j : ℕ) → j ≢ id → holds (stands.chains k) j ≡ true → holds (chains' k) j ≡ true
  in_bucket k j ne inside = elim (cases_Bool (eqb k at)) [
    | inl e ↦ rw e (holds_without_other id (stands.chains k) j ne inside)
    | inr e ↦ rw e inside
  ]

  found' : (bytes : List ℕ) (j : ℕ) → get (remove names (name id)) bytes ≡ Some j → (name' j ≡ bytes) × (holds (chains' (bucket_at (length heads') bytes)) j ≡ true)
  found' bytes j h = elim (cases_name bytes (name id)) [
    | inl e ↦ absurd (not_None (get (remove names (name id)) bytes) j (ap (get (remove names (name id))) e ∙ get-remove_same names (name id)) h)
    | inr ne ↦
        let old = stands.found bytes j (sym (get-remove_other names (name id) bytes ne) ∙ h) in (
          same_name j ∙ old.0,
          rw same_length (in_bucket (bucket_at (length index.heads) bytes) j (λ same. ne (sym old.0 ∙ ap name same)) old.1),
        )
  ]

  pub stands_dropped : Stands cell' name' chain' (record { heads = heads'; held = index.held - 1 }) (remove names (name id))
  stands_dropped = record {
    chains = chains';
    linked = linked';
    distinct = distinct';
    listed = listed';
    found = found';
    counted = let h = len-remove_some names (name id) id is_held in omega (arith, h, stands.counted);
  }

-- what stands before an identifier names a cell
pub cell_before : (cell : ℕ → Bool) (chain : ℕ → ℕ) (most id first before : ℕ) → AreCells cell (ids_from chain most first) → before ≡ prior_of chain most first id → before ≢ 0 → cell before ≡ true
cell_before cell chain most id first before reached is some =
    reached before (ap (holds (ids_from chain most first)) is ∙ prior_inside (ids_from chain most first) id (λ z. some (is ∙ z)))
