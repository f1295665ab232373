-- How an index stands for its map, and goes on doing so.
use Rattle.std.proofs.Common.{◌≡◌, ◌≢◌, ◌+◌, ◌≤◌, ◌<◌, Bool, true, false, cond, eqb, List, [], ◌∷◌, ℕ, zero, suc, Option, Some, None, length, get_or, refl, sym, ap, ◌∙◌, inl, inr, arith, length-set, get_or-set_same, get_or-set_other}
use Rattle.std.specs.FinMap.{empty, get, get-empty, insert, len-empty}
use Rattle.std.specs.List.{find}
use Rattle.std.specs.Prelude.{slice_index, slice_set}
use Rattle.std.specs.Cmp.Lexicographic.{slice_cmp}
use Rattle.std.specs.Ordering.{nat_cmp}
use Rattle.std.specs.Str.{bytes_eq}
use Rattle.std.proofs.lemmas.Bool.Decides.{not_from_Decides}
use Rattle.std.proofs.lemmas.List.{get_or_read}
use Rattle.std.proofs.lemmas.Slice.Eq.{bytes_eq-Decides}
use Rattle.std.proofs.Math.Nat.{mod-lt}
use Rattle.std.proofs.lemmas.Bool.{cases_Bool, cases_eq, eq-eqb, eqb-true, ne_eqb, false≢true, false_from_ne_true, or_cases, or_left, or_right}
use Rattle.name_index.specs.Chain.{AreCells, IsChain, ids_from}
use Rattle.odb_base.specs.Ids.{IsDistinct, holds}
use Rattle.odb_base.proofs.Ids.{member_differs}
use Rattle.name_index.specs.Hash.{bucket_at}
use Rattle.name_index.specs.Index.{Index, Stands}
use Rattle.name_index.specs.Names.{Names}
use Rattle.name_index.proofs.Chains.{ids_from-zero}
use Rattle.name_index.proofs.Maps.{cases_name, get-insert_other, get-insert_same, len-insert_new, length-named, not_None, same_Some}

-- a name's bucket is one of them
pub bucket_at-lt : (buckets : ℕ) (name : List ℕ) → 0 < buckets → bucket_at buckets name < buckets
unfolding bucket_at
bucket_at-lt buckets name h = mod-lt _ h

-- a chain whose links are as they were
pub chain_kept : (cell cell' : ℕ → Bool) (chain chain' : ℕ → ℕ) → ((k : ℕ) → cell' k ≡ cell k) → (first : ℕ) (ids : List ℕ) → ((k : ℕ) → holds ids k ≡ true → chain' k ≡ chain k) → IsChain cell chain first ids → IsChain cell' chain' first ids
chain_kept cell cell' chain chain' same first [] kept h = h
chain_kept cell cell' chain chain' same first (x ∷ xs) kept h = (
  h.0,
  same x ∙ h.1,
  rw (kept x (or_left (eqb x x) (holds xs x) (eq-eqb x x refl))) (chain_kept cell cell' chain chain' same (chain x) xs (λ k inside. kept k (or_right (eqb x k) (holds xs k) inside)) h.2),
)

-- a member of a chain names a cell
pub chain_cells : (cell : ℕ → Bool) (chain : ℕ → ℕ) (first : ℕ) (ids : List ℕ) → IsChain cell chain first ids → AreCells cell ids
chain_cells cell chain first [] h id inside = absurd (false≢true inside)
chain_cells cell chain first (x ∷ xs) h id inside = elim (cases_Bool (eqb x id)) [
  | inl e ↦ rw (eqb-true x id e) at h.1
  | inr e ↦ chain_cells cell chain (chain x) xs h.2 id (rw e at inside)
]

-- a chain is read off the cells
pub ids_from-chain : (cell : ℕ → Bool) (chain : ℕ → ℕ) → cell 0 ≡ false → (most first : ℕ) (ids : List ℕ) → IsChain cell chain first ids → length ids ≤ most → ids_from chain most first ≡ ids
ids_from-chain cell chain none most first [] h few = ap (ids_from chain most) h ∙ ids_from-zero chain most
ids_from-chain cell chain none zero first (x ∷ xs) h few = absurd (omega (arith, few))
ids_from-chain cell chain none (suc most) first (zero ∷ xs) h few = absurd (false≢true (sym none ∙ h.1))
ids_from-chain cell chain none (suc most) first (suc x ∷ xs) h few =
    ap (ids_from chain (suc most)) h.0 ∙ ap (λ l. suc x ∷ l) (ids_from-chain cell chain none most (chain (suc x)) xs h.2 (omega (arith, few)))

module _ (cell : ℕ → Bool) (name : ℕ → List ℕ) (chain : ℕ → ℕ) (index : Index) (names : Names) (stands : Stands cell name chain index names) where
  -- no chain is longer than the number of names held
  pub length-chains : (bucket : ℕ) → length (stands.chains bucket) ≤ index.held
  length-chains bucket =
      let h = length-named name (stands.chains bucket) names (stands.distinct bucket) (λ id inside. (stands.listed bucket id inside).2) in
      omega (arith, h, stands.counted)

  pub chains-are : cell 0 ≡ false → (bucket : ℕ) → bucket < length index.heads → ids_from chain index.held (slice_index index.heads bucket) ≡ stands.chains bucket
  chains-are none bucket h = ids_from-chain cell chain none index.held (slice_index index.heads bucket) (stands.chains bucket) (stands.linked bucket h) (length-chains bucket)

  pub bucket_cells : cell 0 ≡ false → (bucket : ℕ) → bucket < length index.heads → AreCells cell (ids_from chain index.held (slice_index index.heads bucket))
  bucket_cells none bucket h =
      rw (chains-are none bucket h) (chain_cells cell chain (slice_index index.heads bucket) (stands.chains bucket) (stands.linked bucket h))

-- bytes that are equal by the test are equal
bytes_same : (a b : List ℕ) → bytes_eq a b ≡ true → a ≡ b
bytes_same a b e = (bytes_eq-Decides a b).0 e

bytes_differ : (a b : List ℕ) → bytes_eq a b ≡ false → a ≢ b
bytes_differ a b e = not_from_Decides (bytes_eq a b) (bytes_eq-Decides a b) e

-- what a search in a list finds
found_at : (name : ℕ → List ℕ) (bytes : List ℕ) (ids : List ℕ) (id : ℕ) → holds ids id ≡ true → name id ≡ bytes → ((k : ℕ) → holds ids k ≡ true → name k ≡ bytes → k ≡ id) → find (λ k. bytes_eq (name k) bytes) ids ≡ Some id
found_at name bytes [] id inside is only = absurd (false≢true inside)
found_at name bytes (x ∷ xs) id inside is only = elim (cases_Bool (bytes_eq (name x) bytes)) [
  | inl e ↦ rw e (ap Some (only x (or_left (eqb x x) (holds xs x) (eq-eqb x x refl)) (bytes_same (name x) bytes e)))
  | inr e ↦
      let ne : x ≢ id = λ same. bytes_differ (name x) bytes e (ap name same ∙ is) in
      rw e (found_at name bytes xs id (rw (ne_eqb x id ne) at inside) is (λ k there. only k (or_right (eqb x k) (holds xs k) there)))
]

found_none : (name : ℕ → List ℕ) (bytes : List ℕ) (ids : List ℕ) → ((k : ℕ) → holds ids k ≡ true → name k ≢ bytes) → find (λ k. bytes_eq (name k) bytes) ids ≡ None
found_none name bytes [] none = refl
found_none name bytes (x ∷ xs) none = elim (cases_Bool (bytes_eq (name x) bytes)) [
  | inl e ↦ absurd (none x (or_left (eqb x x) (holds xs x) (eq-eqb x x refl)) (bytes_same (name x) bytes e))
  | inr e ↦ rw e (found_none name bytes xs (λ k there. none k (or_right (eqb x k) (holds xs k) there)))
]

module _ (cell : ℕ → Bool) (name : ℕ → List ℕ) (chain : ℕ → ℕ) (index : Index) (names : Names) (stands : Stands cell name chain index names) where
  find_by : (bytes : List ℕ) (o : Option ℕ) → get names bytes ≡ o → find (λ k. bytes_eq (name k) bytes) (stands.chains (bucket_at (length index.heads) bytes)) ≡ o
  find_by bytes None e = found_none name bytes _ (λ k inside same. not_None (get names bytes) k e (ap (get names) (sym same) ∙ (stands.listed _ k inside).2))
  find_by bytes (Some id) e =
      let there = stands.found bytes id e in
      found_at name bytes _ id there.1 there.0 (λ k inside same. same_Some k id (sym (stands.listed _ k inside).2 ∙ ap (get names) same ∙ e))

  -- what is found in a name's bucket is what the map has under it
  pub find-bucket : cell 0 ≡ false → (bytes : List ℕ) → 0 < length index.heads → find (λ k. bytes_eq (name k) bytes) (ids_from chain index.held (slice_index index.heads (bucket_at (length index.heads) bytes))) ≡ get names bytes
  find-bucket none bytes some =
      ap (find (λ k. bytes_eq (name k) bytes)) (chains-are cell name chain index names stands none (bucket_at (length index.heads) bytes) (bucket_at-lt (length index.heads) bytes some))
      ∙ find_by bytes (get names bytes) refl

  -- the head that a search begins with, as a vector's element is read
  pub find-head : cell 0 ≡ false → (bytes : List ℕ) → 0 < length index.heads → (first : ℕ) → first ≡ slice_index index.heads (bucket_at (length index.heads) bytes) → find (λ k. bytes_eq (name k) bytes) (ids_from chain index.held first) ≡ get names bytes
  find-head none bytes some first e = ap (λ n. find (λ k. bytes_eq (name k) bytes) (ids_from chain index.held n)) e ∙ find-bucket none bytes some

  pub head_cells : cell 0 ≡ false → (bytes : List ℕ) → 0 < length index.heads → (first : ℕ) → first ≡ slice_index index.heads (bucket_at (length index.heads) bytes) → AreCells cell (ids_from chain index.held first)
  head_cells none bytes some first e =
      rw e (bucket_cells cell name chain index names stands none (bucket_at (length index.heads) bytes) (bucket_at-lt (length index.heads) bytes some))

  -- without buckets nothing is held
  pub get-no_buckets : (bytes : List ℕ) → length index.heads ≡ 0 → get names bytes ≡ None
  get-no_buckets bytes nothing = by_cases (get names bytes) refl
    where
      by_cases : (o : Option ℕ) → get names bytes ≡ o → get names bytes ≡ None
      by_cases None e = e
      by_cases (Some id) e =
          let within = (stands.listed (bucket_at (length index.heads) bytes) id (stands.found bytes id e).1).0 in
          absurd (omega (arith, within, nothing))

-- chains of nothing stand for the empty map
pub stands_none : (cell : ℕ → Bool) (name : ℕ → List ℕ) (chain : ℕ → ℕ) (heads : List ℕ) → ((k : ℕ) → k < length heads → slice_index heads k ≡ 0) → Stands cell name chain (record { heads = heads; held = 0 }) empty
stands_none cell name chain heads nothing = record {
  chains = λ k. [];
  linked = nothing;
  distinct = λ k. tt;
  listed = λ k id inside. absurd (false≢true inside);
  found = λ bytes id h. absurd (not_None (get empty bytes) id (get-empty (slice_cmp nat_cmp) bytes) h);
  counted = sym (len-empty (slice_cmp nat_cmp) ℕ);
}

-- a test of two numbers that picks
pub at_same : {A : Type 0} (a b : ℕ) (x y : A) → a ≡ b → cond (eqb a b) x y ≡ x
at_same a b x y e = rw (eq-eqb a b e) refl

pub at_other : {A : Type 0} (a b : ℕ) (x y : A) → a ≢ b → cond (eqb a b) x y ≡ y
at_other a b x y ne = rw (ne_eqb a b ne) refl

-- One more identifier at the front of its bucket's chain.
module _ (cell cell' : ℕ → Bool) (name name' : ℕ → List ℕ) (chain chain' : ℕ → ℕ) (index : Index) (names : Names) (stands : Stands cell name chain index names)
    (id : ℕ) (same_cell : (k : ℕ) → cell' k ≡ cell k) (same_name : (k : ℕ) → name' k ≡ name k)
    (first : chain' id ≡ slice_index index.heads (bucket_at (length index.heads) (name id))) (others : (k : ℕ) → k ≢ id → chain' k ≡ chain k)
    (is_cell : cell id ≡ true) (new : get names (name id) ≡ None) (some : 0 < length index.heads) where
  abbrev at : ℕ
  at = bucket_at (length index.heads) (name id)

  abbrev chains' : ℕ → List ℕ
  chains' k = cond (eqb k at) (id ∷ stands.chains k) (stands.chains k)

  abbrev added : Index
  added = record { heads = slice_set index.heads at id; held = index.held + 1 }

  outside : (k : ℕ) → holds (stands.chains k) id ≡ false
  outside k = false_from_ne_true (holds (stands.chains k) id) (λ inside. not_None (get names (name id)) id new (stands.listed k id inside).2)

  kept_chain : (k : ℕ) → k < length index.heads → IsChain cell' chain' (slice_index index.heads k) (stands.chains k)
  kept_chain k h = chain_kept cell cell' chain chain' same_cell (slice_index index.heads k) (stands.chains k)
      (λ j inside. others j (member_differs (stands.chains k) j id inside (outside k))) (stands.linked k h)

  linked' : (k : ℕ) → k < length (slice_set index.heads at id) → IsChain cell' chain' (slice_index (slice_set index.heads at id) k) (chains' k)
  linked' k h = elim (cases_eq k at) [
    | inl e ↦
        rw (at_same k at (id ∷ stands.chains k) (stands.chains k) e) (
          ap (slice_index (slice_set index.heads at id)) e ∙ get_or-set_same index.heads at id 0 (bucket_at-lt (length index.heads) (name id) some),
          same_cell id ∙ is_cell,
          rw (first, ← e) (kept_chain k (omega (arith, length-set index.heads at id))),
        )
    | inr ne ↦
        rw (at_other k at (id ∷ stands.chains k) (stands.chains k) ne, get_or-set_other index.heads at k id 0 ne)
        (kept_chain k (omega (arith, length-set index.heads at id)))
  ]

  distinct' : (k : ℕ) → IsDistinct (chains' k)
  distinct' k = elim (cases_Bool (eqb k at)) [
    | inl e ↦ rw e (outside k, stands.distinct k)
    | inr e ↦ rw e (stands.distinct k)
  ]

  bucket-name : (k j : ℕ) → k ≡ bucket_at (length index.heads) (name j) → k ≡ bucket_at (length (slice_set index.heads at id)) (name' j)
  bucket-name k j e = e ∙ sym (ap (λ n. bucket_at n (name' j)) (length-set index.heads at id) ∙ ap (bucket_at (length index.heads)) (same_name j))

  old_listed : (k j : ℕ) → holds (stands.chains k) j ≡ true → (k < length (slice_set index.heads at id)) × (k ≡ bucket_at (length (slice_set index.heads at id)) (name' j)) × (get (insert names (name id) id) (name' j) ≡ Some j)
  old_listed k j inside =
      let h = stands.listed k j inside in (
        omega (arith, h.0, length-set index.heads at id),
        bucket-name k j h.1,
        ap (get (insert names (name id) id)) (same_name j)
            ∙ get-insert_other names (name id) id (name j) (λ e. not_None (get names (name id)) j new (ap (get names) (sym e) ∙ h.2))
            ∙ h.2,
      )

  listed' : (k j : ℕ) → holds (chains' k) j ≡ true → (k < length (slice_set index.heads at id)) × (k ≡ bucket_at (length (slice_set index.heads at id)) (name' j)) × (get (insert names (name id) id) (name' j) ≡ Some j)
  listed' k j inside = elim (cases_eq k at) [
    | inl e ↦
        let either = or_cases (eqb id j) (holds (stands.chains k) j) (ap (λ l. holds l j) (sym (at_same k at (id ∷ stands.chains k) (stands.chains k) e)) ∙ inside) in
        elim either [
          | inl here ↦
              let same = eqb-true id j here in (
                omega (arith, e, bucket_at-lt (length index.heads) (name id) some, length-set index.heads at id),
                bucket-name k j (e ∙ ap (λ i. bucket_at (length index.heads) (name i)) same),
                ap (get (insert names (name id) id)) (same_name j ∙ ap name (sym same)) ∙ get-insert_same names (name id) id ∙ ap Some same,
              )
          | inr there ↦ old_listed k j there
        ]
    | inr ne ↦ old_listed k j (ap (λ l. holds l j) (sym (at_other k at (id ∷ stands.chains k) (stands.chains k) ne)) ∙ inside)
  ]

  in_bucket : (k j : ℕ) → holds (stands.chains k) j ≡ true → holds (chains' k) j ≡ true
  in_bucket k j inside = elim (cases_Bool (eqb k at)) [
    | inl e ↦ rw e (or_right (eqb id j) (holds (stands.chains k) j) inside)
    | inr e ↦ rw e inside
  ]

  first_in_bucket : holds (chains' at) id ≡ true
  first_in_bucket = ap (λ l. holds l id) (at_same at at (id ∷ stands.chains at) (stands.chains at) refl) ∙ or_left (eqb id id) (holds (stands.chains at) id) (eq-eqb id id refl)

  found' : (bytes : List ℕ) (j : ℕ) → get (insert names (name id) id) bytes ≡ Some j → (name' j ≡ bytes) × (holds (chains' (bucket_at (length (slice_set index.heads at id)) bytes)) j ≡ true)
  found' bytes j h = elim (cases_name bytes (name id)) [
    | inl e ↦
        let same = same_Some id j (sym (get-insert_same names (name id) id) ∙ ap (get (insert names (name id) id)) (sym e) ∙ h) in (
          same_name j ∙ ap name (sym same) ∙ sym e,
          rw (length-set index.heads at id, e, ← same) first_in_bucket,
        )
    | inr ne ↦
        let old = stands.found bytes j (sym (get-insert_other names (name id) id bytes ne) ∙ h) in
        (same_name j ∙ old.0, rw (length-set index.heads at id) (in_bucket (bucket_at (length index.heads) bytes) j old.1))
  ]

  pub stands_added : Stands cell' name' chain' added (insert names (name id) id)
  stands_added = record {
    chains = chains';
    linked = linked';
    distinct = distinct';
    listed = listed';
    found = found';
    counted = ap (λ n. n + 1) stands.counted ∙ sym (len-insert_new names (name id) id new);
  }

-- an element of a vector of heads, as it is read
pub head-is : (heads : List ℕ) (buckets bucket : ℕ) (bytes : List ℕ) (first : ℕ) → bucket < buckets → buckets ≡ length heads → bucket ≡ bucket_at buckets bytes → first ≡ get_or heads bucket first → first ≡ slice_index heads (bucket_at (length heads) bytes)
head-is heads buckets bucket bytes first h len-is is read =
    get_or_read heads bucket first (omega (arith, h, len-is)) read 0 ∙ ap (slice_index heads) (is ∙ ap (λ n. bucket_at n bytes) len-is)
