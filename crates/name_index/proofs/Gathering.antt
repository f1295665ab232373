-- The identifiers in all chains are those of the map.
use Rattle.std.proofs.Common.{◌≡◌, ◌≢◌, ◌+◌, ◌≤◌, ◌<◌, ◌||◌, Bool, true, false, eqb, List, [], ◌∷◌, ◌++◌, ℕ, zero, suc, Option, Some, None, length, refl, sym, ap, ◌∙◌, inl, inr, arith}
use Rattle.std.specs.FinMap.{get, get-empty, insert}
use Rattle.std.specs.List.{flat_map}
use Rattle.std.specs.Cmp.Lexicographic.{slice_cmp}
use Rattle.std.specs.Ordering.{nat_cmp}
use Rattle.std.specs.Prelude.{slice_index}
use Rattle.std.proofs.lemmas.Bool.{eq-eqb, eqb-true, false≢true, false_from_ne_true, or_cases, or_left, or_right}
use Rattle.name_index.specs.Chain.{ids_from}
use Rattle.odb_base.specs.Ids.{IsDistinct, holds}
use Rattle.name_index.specs.Gathered.{AreIds}
use Rattle.name_index.specs.Hash.{bucket_at}
use Rattle.name_index.specs.Index.{Index, Stands, names_in, names_of}
use Rattle.name_index.specs.Names.{Names}
use Rattle.name_index.proofs.Buckets.{bucket_at-lt, chain_cells, chains-are}
use Rattle.name_index.proofs.Maps.{cases_name, get-insert_other, get-insert_same, not_None, same_Some, same_names}
use Rattle.odb_base.proofs.Ids.{holds-append}

-- two lists without repeats and without a common identifier make one
distinct_join : (xs ys : List ℕ) → IsDistinct xs → IsDistinct ys → ((id : ℕ) → holds xs id ≡ true → holds ys id ≡ false) → IsDistinct (xs ++ ys)
distinct_join [] ys front back apart = back
distinct_join (x ∷ xs) ys front back apart = (
  holds-append xs ys x ∙ both_false (holds xs x) (holds ys x) front.0 (apart x (or_left (eqb x x) (holds xs x) (eq-eqb x x refl))),
  distinct_join xs ys front.1 back (λ id inside. apart id (or_right (eqb x id) (holds xs id) inside)),
)
  where
    both_false : (a b : Bool) → a ≡ false → b ≡ false → (a || b) ≡ false
    both_false a b p q = rw (p, q) refl

module _ (cell : ℕ → Bool) (name : ℕ → List ℕ) (chain : ℕ → ℕ) (index : Index) (names : Names) (stands : Stands cell name chain index names) (none : cell 0 ≡ false) where
  abbrev gathered : List ℕ → List ℕ
  gathered heads = flat_map (ids_from chain index.held) heads

  -- the heads from bucket k on lead to these chains
  abbrev FromBucket : ℕ → List ℕ → Type 0
  FromBucket k heads = (j : ℕ) → j < length heads → ids_from chain index.held (slice_index heads j) ≡ stands.chains (k + j)

  all_buckets : FromBucket 0 index.heads
  all_buckets j h = chains-are cell name chain index names stands none j h ∙ ap stands.chains (omega arith)

  next_bucket : (k first : ℕ) (heads : List ℕ) → FromBucket k (first ∷ heads) → FromBucket (suc k) heads
  next_bucket k first heads h j within = h (suc j) (omega (arith, within)) ∙ ap stands.chains (omega arith)

  this_bucket : (k first : ℕ) (heads : List ℕ) → FromBucket k (first ∷ heads) → ids_from chain index.held first ≡ stands.chains k
  this_bucket k first heads h = h 0 (omega arith) ∙ ap stands.chains (omega arith)

  -- who is gathered from bucket k on stands in the map under a name of one of these buckets
  gathered_at : (k : ℕ) (heads : List ℕ) → FromBucket k heads → (id : ℕ) → holds (gathered heads) id ≡ true → (k ≤ bucket_at (length index.heads) (name id)) × (get names (name id) ≡ Some id)
  gathered_at k [] h id inside = absurd (false≢true inside)
  gathered_at k (first ∷ heads) h id inside =
      let either = or_cases (holds (ids_from chain index.held first) id) (holds (gathered heads) id) (sym (holds-append (ids_from chain index.held first) (gathered heads) id) ∙ inside) in
      elim either [
        | inl here ↦
            let old = stands.listed k id (ap (λ l. holds l id) (sym (this_bucket k first heads h)) ∙ here) in
            (omega (arith, old.1), old.2)
        | inr there ↦
            let old = gathered_at (suc k) heads (next_bucket k first heads h) id there in
            (omega (arith, old.0), old.1)
      ]

  gathered_distinct : (k : ℕ) (heads : List ℕ) → FromBucket k heads → IsDistinct (gathered heads)
  gathered_distinct k [] h = tt
  gathered_distinct k (first ∷ heads) h =
      distinct_join (ids_from chain index.held first) (gathered heads)
      (rw (this_bucket k first heads h) (stands.distinct k))
      (gathered_distinct (suc k) heads (next_bucket k first heads h))
      (λ id here. false_from_ne_true (holds (gathered heads) id) (λ there.
      let at = (stands.listed k id (ap (λ l. holds l id) (sym (this_bucket k first heads h)) ∙ here)).1 in
      let later = (gathered_at (suc k) heads (next_bucket k first heads h) id there).0 in
      absurd (omega (arith, at, later))))

  gathered_in : (k : ℕ) (heads : List ℕ) → FromBucket k heads → (j id : ℕ) → j < length heads → holds (stands.chains (k + j)) id ≡ true → holds (gathered heads) id ≡ true
  gathered_in k [] h j id within inside = absurd (omega (arith, within))
  gathered_in k (first ∷ heads) h zero id within inside =
      holds-append (ids_from chain index.held first) (gathered heads) id
      ∙ or_left (holds (ids_from chain index.held first) id) (holds (gathered heads) id) (ap (λ l. holds l id) (h 0 within) ∙ inside)
  gathered_in k (first ∷ heads) h (suc j) id within inside =
      let at : suc k + j ≡ k + suc j = omega arith in
      holds-append (ids_from chain index.held first) (gathered heads) id
      ∙ or_right (holds (ids_from chain index.held first) id) (holds (gathered heads) id)
      (gathered_in (suc k) heads (next_bucket k first heads h) j id (omega (arith, within)) (ap (λ n. holds (stands.chains n) id) at ∙ inside))

  named_cell : (id : ℕ) → get names (name id) ≡ Some id → 0 < length index.heads → cell id ≡ true
  named_cell id h some =
      let at = bucket_at (length index.heads) (name id) in
      chain_cells cell chain (slice_index index.heads at) (stands.chains at) (stands.linked at (bucket_at-lt (length index.heads) (name id) some)) id (stands.found (name id) id h).1

  gathered_some : (heads : List ℕ) → (id : ℕ) → holds (gathered heads) id ≡ true → 0 < length heads
  gathered_some [] id inside = absurd (false≢true inside)
  gathered_some (first ∷ heads) id inside = omega arith

  pub gathered_ids : AreIds cell name (flat_map (ids_from chain index.held) index.heads) names
  gathered_ids = record {
    distinct = gathered_distinct 0 index.heads all_buckets;
    each = λ id inside.
        let h = (gathered_at 0 index.heads all_buckets id inside).1 in
        (named_cell id h (gathered_some index.heads id inside), h);
    all = λ bytes id h.
        let old = stands.found bytes id h in
        let within = (stands.listed (bucket_at (length index.heads) bytes) id old.1).0 in
        let at : 0 + bucket_at (length index.heads) bytes ≡ bucket_at (length index.heads) bytes = omega arith in
        (old.0, gathered_in 0 index.heads all_buckets (bucket_at (length index.heads) bytes) id within (ap (λ n. holds (stands.chains n) id) at ∙ old.1));
  }

-- what a map of identifiers has under the name of one of them, and under a name that none has
names_of-has : (name : ℕ → List ℕ) (ids : List ℕ) (id : ℕ) → holds ids id ≡ true → ((k : ℕ) → holds ids k ≡ true → name k ≡ name id → k ≡ id) → get (names_of name ids) (name id) ≡ Some id
names_of-has name [] id inside only = absurd (false≢true inside)
names_of-has name (x ∷ xs) id inside only = elim (cases_name (name id) (name x)) [
  | inl e ↦
      let same = only x (or_left (eqb x x) (holds xs x) (eq-eqb x x refl)) (sym e) in
      ap (get (insert (names_of name xs) (name x) x)) e ∙ get-insert_same (names_of name xs) (name x) x ∙ ap Some same
  | inr ne ↦
      let there = elim (or_cases (eqb x id) (holds xs id) inside) as (λ _. holds xs id ≡ true) [
        | inl here ↦ absurd (ne (ap name (sym (eqb-true x id here))))
        | inr later ↦ later
      ] in
      get-insert_other (names_of name xs) (name x) x (name id) ne ∙ names_of-has name xs id there (λ k inner. only k (or_right (eqb x k) (holds xs k) inner))
]

names_of-lacks : (name : ℕ → List ℕ) (ids : List ℕ) (bytes : List ℕ) → ((k : ℕ) → holds ids k ≡ true → name k ≢ bytes) → get (names_of name ids) bytes ≡ None
names_of-lacks name [] bytes none = get-empty (slice_cmp nat_cmp) bytes
names_of-lacks name (x ∷ xs) bytes none =
    get-insert_other (names_of name xs) (name x) x bytes (λ e. none x (or_left (eqb x x) (holds xs x) (eq-eqb x x refl)) (sym e))
    ∙ names_of-lacks name xs bytes (λ k inner. none k (or_right (eqb x k) (holds xs k) inner))

-- a map is that of its identifiers
names_of-are : (cell : ℕ → Bool) (name : ℕ → List ℕ) (ids : List ℕ) (names : Names) → AreIds cell name ids names → names_of name ids ≡ names
names_of-are cell name ids names are = same_names (names_of name ids) names (λ bytes. at bytes (get names bytes) refl)
  where
    at : (bytes : List ℕ) (o : Option ℕ) → get names bytes ≡ o → get (names_of name ids) bytes ≡ get names bytes
    at bytes None e =
        names_of-lacks name ids bytes (λ k inside same. not_None (get names bytes) k e (ap (get names) (sym same) ∙ (are.each k inside).1)) ∙ sym e
    at bytes (Some id) e =
        let here = are.all bytes id e in
        ap (get (names_of name ids)) (sym here.0)
        ∙ names_of-has name ids id here.1 (λ k inside same. same_Some k id (sym (are.each k inside).1 ∙ ap (get names) (same ∙ here.0) ∙ e))
        ∙ sym e

-- the map that an index stands for is read off its chains
pub names_in-stands : (cell : ℕ → Bool) (name : ℕ → List ℕ) (chain : ℕ → ℕ) (index : Index) (names : Names) → cell 0 ≡ false → Stands cell name chain index names → names_in name chain index ≡ names
names_in-stands cell name chain index names none stands =
    names_of-are cell name (flat_map (ids_from chain index.held) index.heads) names (gathered_ids cell name chain index names stands none)
