-- A table of cells shows a table of entries still, where an object comes or goes in both.
use Rattle.std.proofs.Common.{◌≡◌, ◌+◌, ◌-◌, ℕ, Bool, true, false, arith, List, [], ◌∷◌, Option, Some, IsTrue, cond, drop, length, slice_index_or, refl, sym, ap, ◌∙◌, inl, inr}
use Rattle.std.specs.Option.{option_map, option_map_or}
use Rattle.std.proofs.lemmas.Bool.{cases_eq}
use Rattle.std.proofs.lemmas.List.{length-take}
use Rattle.slot_pool.specs.Table.{CanUntake, IsGood, Table, given, is_live, next_id, record_at, taken, taken_by, untaken}
use Rattle.slot_pool.proofs.Mapped.{at_given, at_given_other, at_taken, at_taken_other, at_untaken, at_untaken_other}
use Rattle.odb_base.specs.declared.codes.kind.Kind.{Kind}
use Rattle.block_cells.specs.Cells.{Cell}
use Rattle.block_store.specs.Block.{is_empty}
use Rattle.block_store.specs.Consistent.{lists_in, no_lists, own_lists}
use Rattle.block_store.specs.Kinds.{Entry}
use Rattle.block_store.proofs.TableLemmas.{slots_given, slots_taken}
use Rattle.block_links.specs.Standing.{Shows, entry}

taken_by_free : {A : Type 0} (x : A) (slots : List (Option A)) (free : List ℕ) → (taken_by x slots free).free ≡ drop 1 free
taken_by_free x slots [] = refl
taken_by_free x slots (top ∷ below) = refl

-- a take takes the top of the free identifiers
taken_free : {A : Type 0} (x : A) (t : Table A) → (taken x t).free ≡ drop 1 t.free
taken_free x t = taken_by_free x t.slots t.free

-- a take that is taken back takes back the slot that it added
slots_untaken : {A : Type 0} (id : ℕ) (grew : Bool) (t : Table A) → length (untaken id grew t).slots ≡ cond grew (length t.slots - 1) (length t.slots)
slots_untaken id true t = omega (arith, length-take (length t.slots - 1) t.slots)
slots_untaken id false t = slots_given id t

module _ (k : Kind) (t : Table (Cell k)) (u : Table (Entry k)) (shows : Shows k t u) where
  free_same : (id : ℕ) (grew : Bool) → (untaken id grew t).free ≡ (untaken id grew u).free
  free_same id true = shows.free
  free_same id false = ap (λ f. id ∷ f) shows.free

  lists_at : (v w : Table (Entry k)) (id : ℕ) → record_at v id ≡ record_at w id → lists_in k v id ≡ lists_in k w id
  lists_at v w id same = ap (λ (o : Option (Entry k)). option_map_or (own_lists k) o no_lists) same

  -- what another identifier has
  elsewhere : (t' : Table (Cell k)) (u' : Table (Entry k)) (other : ℕ) → record_at t' other ≡ record_at t other → record_at u' other ≡ record_at u other → record_at u' other ≡ option_map (λ x. entry k x (lists_in k u' other)) (record_at t' other)
  elsewhere t' u' other cells entries =
      entries ∙ shows.rows other ∙ ap (option_map (λ x. entry k x (lists_in k u other))) (sym cells)
      ∙ ap (λ l. option_map (λ x. entry k x l) (record_at t' other)) (sym (lists_at u' u other entries))

  -- an object goes
  pub shows_given : (id : ℕ) → IsTrue (is_live t id) → IsTrue (is_live u id) → Shows k (given id t) (given id u)
  shows_given id live live' = record {
    slots = slots_given id t ∙ shows.slots ∙ sym (slots_given id u);
    free = ap (λ f. id ∷ f) shows.free;
    rows = λ other. elim (cases_eq other id) [
      | inl e ↦ rw e (at_given id u live' ∙ sym (ap (option_map (λ x. entry k x (lists_in k (given id u) id))) (at_given id t live)))
      | inr e ↦ elsewhere (given id t) (given id u) other (at_given_other id other t live e) (at_given_other id other u live' e)
    ];
  }

  -- the next identifier is the same in both
  pub next_same : next_id t 0 ≡ next_id u 0
  next_same =
      ap (λ (f : List ℕ). slice_index_or f 0 (length t.slots + (1 - length f))) shows.free
      ∙ ap (λ n. slice_index_or u.free 0 (n + (1 - length u.free))) shows.slots

  -- an object comes, whose own lists are empty
  pub shows_taken : (x : Cell k) (e : Entry k) → IsGood t → IsGood u → e ≡ entry k x no_lists → own_lists k e ≡ no_lists → Shows k (taken x t) (taken e u)
  shows_taken x e good good' made bare = record {
    slots = slots_taken x t ∙ ap (λ n. n + cond (is_empty t.free) 1 0) shows.slots ∙ ap (λ (f : List ℕ). length u.slots + cond (is_empty f) 1 0) shows.free ∙ sym (slots_taken e u);
    free = taken_free x t ∙ ap (drop 1) shows.free ∙ sym (taken_free e u);
    rows = λ other. elim (cases_eq other (next_id u 0)) [
      | inl same ↦
          let new : record_at (taken e u) (next_id u 0) ≡ Some e = at_taken e u good' in
          let cell : record_at (taken x t) (next_id u 0) ≡ Some x = ap (record_at (taken x t)) (sym next_same) ∙ at_taken x t good in
          let none : lists_in k (taken e u) (next_id u 0) ≡ no_lists = ap (λ (o : Option (Entry k)). option_map_or (own_lists k) o no_lists) new ∙ bare in
          rw same (new ∙ ap Some (made ∙ ap (entry k x) (sym none)) ∙ sym (ap (option_map (λ y. entry k y (lists_in k (taken e u) (next_id u 0)))) cell))
      | inr apart ↦ elsewhere (taken x t) (taken e u) other (at_taken_other x t other good (λ is. apart (is ∙ next_same))) (at_taken_other e u other good' apart)
    ];
  }

  -- a new object is taken back
  pub shows_untaken : (id : ℕ) (grew : Bool) → CanUntake t id grew → CanUntake u id grew → Shows k (untaken id grew t) (untaken id grew u)
  shows_untaken id grew can can' = record {
    slots = slots_untaken id grew t ∙ ap (λ n. cond grew (n - 1) n) shows.slots ∙ sym (slots_untaken id grew u);
    free = free_same id grew;
    rows = λ other. elim (cases_eq other id) [
      | inl e ↦ rw e (at_untaken id grew u can' ∙ sym (ap (option_map (λ x. entry k x (lists_in k (untaken id grew u) id))) (at_untaken id grew t can)))
      | inr e ↦ elsewhere (untaken id grew t) (untaken id grew u) other (at_untaken_other id other grew t can e) (at_untaken_other id other grew u can' e)
    ];
  }
