-- What adding and dropping a name make of the cells and of the index.
use Rattle.std.proofs.Common.{◌≡◌, ◌≢◌, ◌+◌, ◌-◌, ◌≤◌, ◌<◌, Bool, true, false, cond, eqb, List, [], ◌∷◌, ℕ, Some, None, length, refl, sym, ap, ◌∙◌, inl, inr, arith, length-set, get_or-set_same, get_or-set_other}
use Rattle.std.specs.FinMap.{get, insert, remove}
use Rattle.std.specs.Prelude.{slice_index, slice_set}
use Rattle.std.proofs.lemmas.Bool.{cases_Bool, cond-false, cond-true, eqb-false, eqb-true}
use Rattle.name_index.specs.Chain.{AreCells, ids_from, prior_in, prior_of}
use Rattle.odb_base.specs.Ids.{holds}
use Rattle.name_index.specs.Hash.{bucket_at}
use Rattle.name_index.specs.Index.{Index, Stands}
use Rattle.name_index.specs.Names.{HasId, Names}
use Rattle.name_index.specs.Rechained.{Rechained}
use Rattle.name_index.proofs.Buckets.{bucket_at-lt, chain_cells, chain_kept, chains-are, stands_added}
use Rattle.name_index.proofs.Dropping.{chain_behind, chain_without, prior_inside, stands_dropped}
use Rattle.name_index.proofs.Maps.{some_len}

-- a name that is held is one of those that are counted
pub held_some : (cell : ℕ → Bool) (name : ℕ → List ℕ) (chain : ℕ → ℕ) (index : Index) (names : Names) → Stands cell name chain index names → (bytes : List ℕ) (id : ℕ) → get names bytes ≡ Some id → 1 ≤ index.held
held_some cell name chain index names stands bytes id h = let some = some_len names bytes id h in omega (arith, some, stands.counted)

-- one name fewer is room for one more
pub spare_dropped : (heads heads' : List ℕ) (held : ℕ) → length heads' ≡ length heads → 1 ≤ held → held ≤ length heads → length heads' - (held - 1) ≡ (length heads - held) + 1
spare_dropped heads heads' held same some fits = omega arith

module _ {Cells : Type 0} (with_chain : Cells → ℕ → ℕ → Cells) (cell : Cells → ℕ → Bool) (name_of : Cells → ℕ → List ℕ) (chain_of : Cells → ℕ → ℕ)
    (none : (cells : Cells) → cell cells 0 ≡ false)
    (kept : (cells : Cells) (id other next : ℕ) → cell cells id ≡ true → cell (with_chain cells id next) other ≡ cell cells other)
    (named : (cells : Cells) (id other next : ℕ) → cell cells id ≡ true → name_of (with_chain cells id next) other ≡ name_of cells other)
    (set : (cells : Cells) (id next : ℕ) → cell cells id ≡ true → chain_of (with_chain cells id next) id ≡ next)
    (others : (cells : Cells) (id other next : ℕ) → cell cells id ≡ true → other ≢ id → chain_of (with_chain cells id next) other ≡ chain_of cells other)
    (cells : Cells) (index : Index) (names : Names) (stands : Stands (cell cells) (name_of cells) (chain_of cells) index names) (id : ℕ) where
  abbrev at : ℕ
  at = bucket_at (length index.heads) (name_of cells id)

  pub add_stands : (new : Cells) (heads' : List ℕ) → cell cells id ≡ true → get names (name_of cells id) ≡ None → 0 < length index.heads → heads' ≡ slice_set index.heads at id → new ≡ with_chain cells id (slice_index index.heads at) → Stands (cell new) (name_of new) (chain_of new) (record { heads = heads'; held = index.held + 1 }) (insert names (name_of cells id) id)
  add_stands new heads' is_cell is_new some heads-is cells-is =
      rw (heads-is, cells-is)
      (stands_added (cell cells) (cell (with_chain cells id (slice_index index.heads at))) (name_of cells) (name_of (with_chain cells id (slice_index index.heads at))) (chain_of cells) (chain_of (with_chain cells id (slice_index index.heads at))) index names stands id
      (λ k. kept cells id k (slice_index index.heads at) is_cell)
      (λ k. named cells id k (slice_index index.heads at) is_cell)
      (set cells id (slice_index index.heads at) is_cell)
      (λ k ne. others cells id k (slice_index index.heads at) is_cell ne)
      is_cell is_new some)

  abbrev before : ℕ
  before = prior_of (chain_of cells) index.held (slice_index index.heads at) id

  abbrev dropped_heads : List ℕ
  dropped_heads = cond (eqb before 0) (slice_set index.heads at (chain_of cells id)) index.heads

  abbrev dropped_cells : Cells
  dropped_cells = cond (eqb before 0) cells (with_chain cells before (chain_of cells id))

  first_cells : eqb before 0 ≡ true → dropped_cells ≡ cells
  first_cells e = cond-true (eqb before 0) cells (with_chain cells before (chain_of cells id)) e

  later_cells : eqb before 0 ≡ false → dropped_cells ≡ with_chain cells before (chain_of cells id)
  later_cells e = cond-false (eqb before 0) cells (with_chain cells before (chain_of cells id)) e

  module _ (some : 0 < length index.heads) (is_held : get names (name_of cells id) ≡ Some id) where
    at-lt : at < length index.heads
    at-lt = bucket_at-lt (length index.heads) (name_of cells id) some

    before-is : before ≡ prior_in 0 (stands.chains at) id
    before-is = ap (λ l. prior_in 0 l id) (chains-are (cell cells) (name_of cells) (chain_of cells) index names stands (none cells) at at-lt)

    inside : holds (stands.chains at) id ≡ true
    inside = (stands.found (name_of cells id) id is_held).1

    before_inside : before ≢ 0 → holds (stands.chains at) before ≡ true
    before_inside ne = ap (holds (stands.chains at)) before-is ∙ prior_inside (stands.chains at) id (λ z. ne (before-is ∙ z))

    before_cell : before ≢ 0 → cell cells before ≡ true
    before_cell ne = chain_cells (cell cells) (chain_of cells) (slice_index index.heads at) (stands.chains at) (stands.linked at at-lt) before (before_inside ne)

    first_dropped : before ≡ 0 → Stands (cell cells) (name_of cells) (chain_of cells) (record { heads = slice_set index.heads at (chain_of cells id); held = index.held - 1 }) (remove names (name_of cells id))
    first_dropped zero =
        stands_dropped (cell cells) (cell cells) (name_of cells) (name_of cells) (chain_of cells) (chain_of cells) index names stands id (λ k. refl)
        (slice_set index.heads at (chain_of cells id)) (length-set index.heads at (chain_of cells id)) is_held
        (rw (get_or-set_same index.heads at (chain_of cells id) 0 at-lt)
        (chain_behind (cell cells) (chain_of cells) (none cells) id (slice_index index.heads at) (stands.chains at) (stands.linked at at-lt) inside (sym before-is ∙ zero)))
        (λ k ne h. rw (get_or-set_other index.heads at k (chain_of cells id) 0 ne) (stands.linked k h))

    later_dropped : before ≢ 0 → Stands (cell (with_chain cells before (chain_of cells id))) (name_of (with_chain cells before (chain_of cells id))) (chain_of (with_chain cells before (chain_of cells id))) (record { heads = index.heads; held = index.held - 1 }) (remove names (name_of cells id))
    later_dropped ne =
        let is_cell = before_cell ne in
        let new = with_chain cells before (chain_of cells id) in
        let next_set = ap (chain_of new) (sym before-is) ∙ set cells before (chain_of cells id) is_cell in
        stands_dropped (cell cells) (cell new) (name_of cells) (name_of new) (chain_of cells) (chain_of new) index names stands id
        (λ k. named cells before k (chain_of cells id) is_cell)
        index.heads refl is_held
        (chain_without (cell cells) (cell new) (chain_of cells) (chain_of new) (λ k. kept cells before k (chain_of cells id) is_cell) id (slice_index index.heads at) (stands.chains at) (stands.linked at at-lt) (stands.distinct at) inside
        (λ z. ne (before-is ∙ z)) next_set
        (λ k apart. others cells before k (chain_of cells id) is_cell (λ e. apart (e ∙ before-is))))
        (λ k apart h. chain_kept (cell cells) (cell new) (chain_of cells) (chain_of new) (λ j. kept cells before j (chain_of cells id) is_cell) (slice_index index.heads k) (stands.chains k)
        (λ j there. others cells before j (chain_of cells id) is_cell
        (λ e. apart ((stands.listed k j there).1 ∙ ap (λ i. bucket_at (length index.heads) (name_of cells i)) e ∙ sym (stands.listed at before (before_inside ne)).1)))
        (stands.linked k h))

    pub drop_stands : (new : Cells) (heads' : List ℕ) → heads' ≡ dropped_heads → new ≡ dropped_cells → Stands (cell new) (name_of new) (chain_of new) (record { heads = heads'; held = index.held - 1 }) (remove names (name_of cells id))
    drop_stands new heads' heads-is cells-is = elim (cases_Bool (eqb before 0)) [
      | inl e ↦ rw (heads-is ∙ cond-true (eqb before 0) (slice_set index.heads at (chain_of cells id)) index.heads e, cells-is ∙ first_cells e) (first_dropped (eqb-true before 0 e))
      | inr e ↦ rw (heads-is ∙ cond-false (eqb before 0) (slice_set index.heads at (chain_of cells id)) index.heads e, cells-is ∙ later_cells e) (later_dropped (eqb-false before 0 e))
    ]

    pub drop_kept : (new : Cells) → new ≡ dropped_cells → (k : ℕ) → cell new k ≡ cell cells k
    drop_kept new cells-is k = elim (cases_Bool (eqb before 0)) [
      | inl e ↦ rw (cells-is ∙ first_cells e) refl
      | inr e ↦ rw (cells-is ∙ later_cells e) (kept cells before k (chain_of cells id) (before_cell (eqb-false before 0 e)))
    ]

    pub drop_named : (new : Cells) → new ≡ dropped_cells → (k : ℕ) → name_of new k ≡ name_of cells k
    drop_named new cells-is k = elim (cases_Bool (eqb before 0)) [
      | inl e ↦ rw (cells-is ∙ first_cells e) refl
      | inr e ↦ rw (cells-is ∙ later_cells e) (named cells before k (chain_of cells id) (before_cell (eqb-false before 0 e)))
    ]

    pub drop_cells : (new : Cells) → new ≡ dropped_cells → Rechained with_chain (HasId names) cells new
    drop_cells new cells-is = elim (cases_Bool (eqb before 0)) [
      | inl e ↦ record { sets = []; each = tt; is = cells-is ∙ first_cells e }
      | inr e ↦ record {
        sets = (before, chain_of cells id) ∷ [];
        each = ((name_of cells before, (stands.listed at before (before_inside (eqb-false before 0 e))).2), tt);
        is = cells-is ∙ later_cells e;
      }
    ]

    pub reached : AreCells (cell cells) (ids_from (chain_of cells) index.held (slice_index index.heads at))
    reached = rw (chains-are (cell cells) (name_of cells) (chain_of cells) index names stands (none cells) at at-lt) (chain_cells (cell cells) (chain_of cells) (slice_index index.heads at) (stands.chains at) (stands.linked at at-lt))

    pub length-dropped : length dropped_heads ≡ length index.heads
    length-dropped = elim (cases_Bool (eqb before 0)) [
      | inl e ↦ rw e (length-set index.heads at (chain_of cells id))
      | inr e ↦ rw e refl
    ]

  pub add_cells : (new : Cells) → new ≡ with_chain cells id (slice_index index.heads at) → Rechained with_chain (λ other. other ≡ id) cells new
  add_cells new cells-is = record { sets = (id, slice_index index.heads at) ∷ []; each = (refl, tt); is = cells-is }
