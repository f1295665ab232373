-- An index that comes to hold the names of the objects in the slots of a pool, one after another.
use Rattle.std.proofs.Common.{◌≡◌, ◌-◌, ◌≤◌, true, false, List, ℕ, Option, None, Some, length, refl, sym, ap, ◌∙◌, subst, inl, inr, arith}
use Rattle.std.specs.FinMap.{empty, get, get-empty, insert}
use Rattle.std.specs.Cmp.Lexicographic.{slice_cmp}
use Rattle.std.specs.Ordering.{nat_cmp}
use Rattle.std.proofs.lemmas.Bool.{cases_eq, false≢true}
use Rattle.name_index.specs.Index.{Index, Stands, spare}
use Rattle.name_index.specs.Names.{Names}
use Rattle.name_index.proofs.Frames.{held_cell}
use Rattle.name_index.proofs.Gathering.{names_in-stands}
use Rattle.name_index.proofs.Maps.{cases_name, get-insert_other, get-insert_same, not_None, same_Some}
use Rattle.slot_pool.proofs.Counts.{live_within}
use Rattle.named_pool.specs.declared.cells.NameCells.{NameCells}
use Rattle.named_pool.specs.Cells.{cell, cell-none, chain_of, name_of}
use Rattle.named_pool.specs.Held.{AreHeldTo, HoldsTo, IsNamed, objects}
use Rattle.named_pool.specs.Names.{AreNamed}
use Rattle.named_pool.proofs.Holding.{is_held, name_shown}

module _ {R : Type 0} (own : R → List ℕ) (cells : NameCells R) (index : Index) where
  -- the names held are read off the chains
  pub holds_to : (names : Names) (last : ℕ) → AreHeldTo own cells index names last → HoldsTo own cells index last
  holds_to names last are =
      subst (λ (m : Names). AreHeldTo own cells index m last) (sym (names_in-stands (cell cells) (name_of own cells) (chain_of cells) index names (cell-none cells) are.stands)) are

  -- an index of no names
  pub holds_none : Stands (cell cells) (name_of own cells) (chain_of cells) index empty → HoldsTo own cells index 0
  holds_none stands = holds_to empty 0 (record {
    stands = stands;
    each = λ id first is.
        let zero_id : id ≡ 0 = omega (arith, first) in
        absurd (false≢true (sym (cell-none cells) ∙ ap (cell cells) (sym zero_id) ∙ is));
    only = λ bytes id h. absurd (not_None (get empty bytes) id (get-empty (slice_cmp nat_cmp) bytes) h);
  })

  module _ (names : Names) (id : ℕ) (some : 1 ≤ id) (before : AreHeldTo own cells index names (id - 1)) where
    -- an id without an object
    pub holds_on : cell cells id ≡ false → AreHeldTo own cells index names id
    holds_on none = record {
      stands = before.stands;
      each = λ other within is. elim (cases_eq other id) [
        | inl e ↦ absurd (false≢true (sym none ∙ ap (cell cells) (sym e) ∙ is))
        | inr apart ↦ before.each other (omega (arith, within, apart, some)) is
      ];
      only = λ bytes other h. let was = before.only bytes other h in omega (arith, was);
    }

    new_case : AreNamed own (objects cells) → cell cells id ≡ true → (o : Option ℕ) → get names (name_of own cells id) ≡ o → get names (name_of own cells id) ≡ None
    new_case distinct is None e = e
    new_case distinct is (Some other) e =
        let there = held_cell (cell cells) (name_of own cells) (chain_of cells) index names before.stands (name_of own cells id) other e in
        let same : other ≡ id = distinct other id (name_of own cells id) (name_shown own cells other there ∙ ap Some (before.stands.found (name_of own cells id) other e).0) (name_shown own cells id is) in
        let was = before.only (name_of own cells id) other e in
        absurd (omega (arith, same, was, some))

    -- the name of its object is new
    pub holds_new : AreNamed own (objects cells) → cell cells id ≡ true → get names (name_of own cells id) ≡ None
    holds_new distinct is = new_case distinct is (get names (name_of own cells id)) refl

    -- it is added
    pub holds_added : (new : NameCells R) (index' : Index) → AreNamed own (objects cells) → cell cells id ≡ true → ((other : ℕ) → cell new other ≡ cell cells other) → ((other : ℕ) → name_of own new other ≡ name_of own cells other) → Stands (cell new) (name_of own new) (chain_of new) index' (insert names (name_of own cells id) id) → AreHeldTo own new index' (insert names (name_of own cells id) id) id
    holds_added new index' distinct is kept named stands =
        let name = name_of own cells id in
        let none = holds_new distinct is in
        record {
          stands = stands;
          each = λ other within live. elim (cases_eq other id) [
            | inl e ↦ ap (get (insert names name id)) (named other ∙ ap (name_of own cells) e) ∙ get-insert_same names name id ∙ ap Some (sym e)
            | inr apart ↦
                let here = before.each other (omega (arith, within, apart, some)) (sym (kept other) ∙ live) in
                ap (get (insert names name id)) (named other)
                ∙ get-insert_other names name id (name_of own cells other) (λ e. not_None (get names name) other none (ap (get names) (sym e) ∙ here))
                ∙ here
          ];
          only = λ bytes other h. elim (cases_name bytes name) [
            | inl e ↦
                let same = same_Some other id (sym h ∙ ap (get (insert names name id)) e ∙ get-insert_same names name id) in
                omega (arith, same)
            | inr apart ↦
                let was = before.only bytes other (sym (get-insert_other names name id bytes apart) ∙ h) in
                omega (arith, was)
          ];
        }

  -- more room is made in the index
  pub holds_over : (names : Names) (last : ℕ) (new : NameCells R) (index' : Index) → AreHeldTo own cells index names last → ((other : ℕ) → cell new other ≡ cell cells other) → ((other : ℕ) → name_of own new other ≡ name_of own cells other) → Stands (cell new) (name_of own new) (chain_of new) index' names → AreHeldTo own new index' names last
  holds_over names last new index' are kept named stands = record {
    stands = stands;
    each = λ id within is. ap (get names) (named id) ∙ are.each id within (sym (kept id) ∙ is);
    only = are.only;
  }

  -- who holds the names up to the last slot holds all
  pub holds_all : (names : Names) (last : ℕ) → AreHeldTo own cells index names last → length cells.pool.table.slots ≤ last → length cells.pool.table.free ≤ spare index → IsNamed own cells index
  holds_all names last are long room =
      is_held own cells index names
      (record { stands = are.stands; each = λ id is. let within = (live_within cells.pool.table.slots id is).1 in are.each id (omega (arith, within, long)) is }) room
