-- What an index rests on: the cells of the identifiers that it holds, and no others.
use Rattle.std.proofs.Common.{◌≡◌, Bool, true, eqb, eq-eqb, List, [], ◌∷◌, ℕ, Some, length, refl, sym, ap, ◌∙◌}
use Rattle.std.specs.FinMap.{get}
use Rattle.std.specs.Prelude.{slice_index}
use Rattle.std.proofs.lemmas.Bool.{or_left, or_right}
use Rattle.odb_base.specs.Ids.{holds}
use Rattle.name_index.specs.Chain.{IsChain}
use Rattle.name_index.specs.Hash.{bucket_at}
use Rattle.name_index.specs.Index.{Index, Stands}
use Rattle.name_index.specs.Names.{Names}
use Rattle.name_index.proofs.Buckets.{chain_cells}

-- a chain whose identifiers name cells that lead on as before
chain_stays : (cell cell' : ℕ → Bool) (chain chain' : ℕ → ℕ) (first : ℕ) (ids : List ℕ) → ((k : ℕ) → holds ids k ≡ true → (cell' k ≡ true) × (chain' k ≡ chain k)) → IsChain cell chain first ids → IsChain cell' chain' first ids
chain_stays cell cell' chain chain' first [] kept h = h
chain_stays cell cell' chain chain' first (x ∷ xs) kept h =
    let here = kept x (or_left (eqb x x) (holds xs x) (eq-eqb x x refl)) in (
      h.0,
      here.0,
      rw here.1 (chain_stays cell cell' chain chain' (chain x) xs (λ k inside. kept k (or_right (eqb x k) (holds xs k) inside)) h.2),
    )

module _ (cell : ℕ → Bool) (name : ℕ → List ℕ) (chain : ℕ → ℕ) (index : Index) (names : Names) (stands : Stands cell name chain index names) where
  listed_cell : (bucket id : ℕ) → holds (stands.chains bucket) id ≡ true → cell id ≡ true
  listed_cell bucket id inside =
      chain_cells cell chain (slice_index index.heads bucket) (stands.chains bucket) (stands.linked bucket (stands.listed bucket id inside).0) id inside

  -- what the map has is a cell
  pub held_cell : (bytes : List ℕ) (id : ℕ) → get names bytes ≡ Some id → cell id ≡ true
  held_cell bytes id h = listed_cell (bucket_at (length index.heads) bytes) id (stands.found bytes id h).1

  -- an index stands as long as the cells that it holds have their names and chains
  pub index_stays : (cell' : ℕ → Bool) (name' : ℕ → List ℕ) (chain' : ℕ → ℕ) → ((k : ℕ) → get names (name k) ≡ Some k → cell k ≡ true → (cell' k ≡ true) × (name' k ≡ name k) × (chain' k ≡ chain k)) → Stands cell' name' chain' index names
  index_stays cell' name' chain' kept =
      let at = λ (bucket id : ℕ) (inside : holds (stands.chains bucket) id ≡ true). kept id (stands.listed bucket id inside).2 (listed_cell bucket id inside) in
      record {
        chains = stands.chains;
        linked = λ bucket within. chain_stays cell cell' chain chain' (slice_index index.heads bucket) (stands.chains bucket) (λ k inside. ((at bucket k inside).0, (at bucket k inside).2)) (stands.linked bucket within);
        distinct = stands.distinct;
        listed = λ bucket id inside.
            let old = stands.listed bucket id inside in
            let same = (at bucket id inside).1 in
            (old.0, old.1 ∙ ap (bucket_at (length index.heads)) (sym same), ap (get names) same ∙ old.2);
        found = λ bytes id h.
            let old = stands.found bytes id h in
            ((at (bucket_at (length index.heads) bytes) id old.1).1 ∙ old.0, old.1);
        counted = stands.counted;
      }
