-- What the calls of a named pool owe to its index, and what they make of the pool and of the names held.
use Rattle.std.proofs.Common.{◌≡◌, ◌≢◌, ◌+◌, ◌-◌, ◌≤◌, true, false, cond, eqb, eq-eqb, List, [], ◌∷◌, ℕ, Option, None, Some, IsTrue, is_some, length, refl, sym, ap, ◌∙◌, inl, inr, arith}
use Rattle.std.proofs.lemmas.Bool.{cases_eq, false≢true, ne_eqb}
use Rattle.std.specs.FinMap.{empty, get, insert, remove}
use Rattle.std.specs.Option.{option_map_or}
use Rattle.std.proofs.lemmas.Bool.Decides.{nat_tests}
use Rattle.name_index.specs.Index.{Index, Stands, spare}
use Rattle.name_index.specs.Names.{Names}
use Rattle.name_index.specs.Rechained.{Rechained}
use Rattle.slot_pool.specs.Table.{IsGood, Pool, Table, is_live, next_id, record_at, replaced, taken}
use Rattle.slot_pool.proofs.Mapped.{at_next, at_taken, at_taken_other, free_taken, live_plain}
use Rattle.slot_pool.proofs.Records.{records_after_replace}
use Rattle.named_pool.specs.declared.cells.NameCell.{NameCell}
use Rattle.named_pool.specs.declared.cells.NameCells.{NameCells}
use Rattle.named_pool.specs.Cells.{cell, chain_of, name_of, with_chain}
use Rattle.named_pool.specs.Held.{IsNamed, held, objects}
use Rattle.named_pool.specs.Names.{IsFree, IsFreeBut, name_by}
use Rattle.named_pool.proofs.Holding.{AreHeldBut, SameBut, added, all_but, are_held, but_read, dropped, held_same, is_held, moved_but, names_same_but, none_but, not_held, rechained_same}

module _ {R : Type 0} where
  -- an object that is in no chain yet
  abbrev pub unchained : R → NameCell R
  unchained x = record { value = x; chain = 0 }

  -- setting chains leaves the free ids
  pub rechained_free : (Of : ℕ → Type 0) (old new : NameCells R) → Rechained with_chain Of old new → new.pool.table.free ≡ old.pool.table.free
  rechained_free Of old new h = ap (λ (p : Pool R). p.table.free) (rechained_same Of old new h)

  -- who is live among the objects is a cell
  pub cell_of_object : (cells : NameCells R) (id : ℕ) → IsTrue (is_live (objects cells) id) → cell cells id ≡ true
  cell_of_object cells id live = sym (live_plain (λ (c : NameCell R). c.value) cells.pool.table id) ∙ live

module _ {R : Type 0} (own : R → List ℕ) (old new : NameCells R) (index : Index) where
  abbrev names : Names
  names = held own old index

  -- the same slots, and room for no fewer
  pub table_same : IsNamed own old index → new.pool.table ≡ old.pool.table → IsNamed own new index
  table_same is same =
      is_held own new index names
      (held_same own old new index names (λ k. ap (λ t. is_live t k) same)
      (λ k. ap (λ (t : Table (NameCell R)). option_map_or (λ c. own c.value) (record_at t k) []) same)
      (λ k. ap (λ (t : Table (NameCell R)). option_map_or (λ c. c.chain) (record_at t k) 0) same)
      (are_held own old index is))
      (rw (ap (λ (t : Table (NameCell R)). t.free) same) is.room)

  -- An object enters.
  module _ (x : R) (id : ℕ) (is : IsNamed own old index) (good : IsGood old.pool.table) (next : id ≡ next_id old.pool.table 0) (moved : new.pool.table ≡ taken (unchained x) old.pool.table) where
    same_but_next : SameBut old new id
    same_but_next other apart =
        ap (λ t. record_at t other) moved ∙ at_taken_other (unchained x) old.pool.table other good (λ e. apart (e ∙ sym next))

    at_id : record_at new.pool.table id ≡ Some (unchained x)
    at_id = ap (λ t. record_at t id) moved ∙ ap (record_at (taken (unchained x) old.pool.table)) next ∙ at_taken (unchained x) old.pool.table good

    none_at_id : cell old id ≡ false
    none_at_id = ap is_some (ap (record_at old.pool.table) next ∙ at_next old.pool.table good)

    pub entered_but : AreHeldBut own new index (held own new index) id
    entered_but = but_read own new index names id (moved_but own old new index names id same_but_next (none_but own old index names id none_at_id (are_held own old index is)))

    pub entered_cell : cell new id ≡ true
    entered_cell = ap is_some at_id

    entered_name : name_of own new id ≡ own x
    entered_name = ap (λ (o : Option (NameCell R)). option_map_or (λ c. own c.value) o []) at_id

    -- its name is new
    pub entered_new : IsFree own (own x) (objects old) → get (held own new index) (name_of own new id) ≡ None
    entered_new free =
        not_held own new index (held own new index) id (name_of own new id) entered_but
        (λ other apart h. free other (sym (names_same_but own old new id other same_but_next apart) ∙ h ∙ ap Some entered_name))

    entered_room : (free : ℕ) (index' : Index) → free ≡ length old.pool.table.free - 1 → spare index ≡ spare index' + 1 → free ≤ spare index'
    entered_room free index' e fewer = omega (arith, e, fewer, is.room)

    -- with its name added, all objects are held
    pub entered_is : (last : NameCells R) (index' : Index) (Of : ℕ → Type 0) → IsFree own (own x) (objects old) → Rechained with_chain Of new last → ((other : ℕ) → cell last other ≡ cell new other) → ((other : ℕ) → name_of own last other ≡ name_of own new other) → spare index ≡ spare index' + 1 →
        Stands (cell last) (name_of own last) (chain_of last) index' (insert (held own new index) (name_of own new id) id) → IsNamed own last index'
    entered_is last index' Of free rechained kept named fewer stands =
        is_held own last index' (insert (held own new index) (name_of own new id) id)
        (added own new last index index' (held own new index) id kept named (entered_new free) stands entered_but)
        (entered_room (length last.pool.table.free) index'
        (ap length (rechained_free Of new last rechained ∙ ap (λ (t : Table (NameCell R)). t.free) moved) ∙ free_taken (unchained x) old.pool.table) fewer)

  -- The name of an object goes.
  module _ (id : ℕ) (index' : Index) (Of : ℕ → Type 0) (is : IsNamed own old index) (is_cell : cell old id ≡ true) (rechained : Rechained with_chain Of old new) (kept : (other : ℕ) → cell new other ≡ cell old other) (named : (other : ℕ) → name_of own new other ≡ name_of own old other)
      (stands : Stands (cell new) (name_of own new) (chain_of new) index' (remove names (name_of own old id))) (more : spare index' ≡ spare index + 1) where
    left_but : AreHeldBut own new index' (remove names (name_of own old id)) id
    left_but = dropped own old new index index' names id is_cell kept named stands (are_held own old index is)

    left_room : (free : ℕ) → free ≤ length new.pool.table.free + 1 → free ≤ spare index'
    left_room free e = let same = ap length (rechained_free Of old new rechained) in omega (arith, e, same, more, is.room)

    -- and then the object goes
    pub left_is : (last : NameCells R) → SameBut new last id → record_at last.pool.table id ≡ None → length last.pool.table.free ≤ length new.pool.table.free + 1 → IsNamed own last index'
    left_is last same none few =
        is_held own last index' (remove names (name_of own old id))
        (all_but own last index' (remove names (name_of own old id)) id (ap is_some none) (moved_but own new last index' (remove names (name_of own old id)) id same left_but))
        (left_room (length last.pool.table.free) few)

    -- or it changes
    pub changed_but : (last : NameCells R) → SameBut new last id → AreHeldBut own last index' (held own last index') id
    changed_but last same = but_read own last index' (remove names (name_of own old id)) id (moved_but own new last index' (remove names (name_of own old id)) id same left_but)

  -- The record of an object is changed.
  module _ (id : ℕ) (was now : NameCell R) (found : record_at old.pool.table id ≡ Some was) (moved : new.pool.table ≡ replaced id now old.pool.table) where
    after : (other : ℕ) → record_at new.pool.table other ≡ cond (eqb other id) (Some now) (record_at old.pool.table other)
    after other = ap (λ t. record_at t other) moved ∙ records_after_replace id now old.pool.table (ap is_some found) other

    pub same_but_changed : SameBut old new id
    same_but_changed other apart = after other ∙ rw (ne_eqb other id apart) refl

    pub at_changed : record_at new.pool.table id ≡ Some now
    at_changed = after id ∙ rw (eq-eqb id id refl) refl

    shows_same : {X : Type 0} (shown : Option (NameCell R) → X) → shown (Some now) ≡ shown (Some was) → (other : ℕ) → shown (record_at new.pool.table other) ≡ shown (record_at old.pool.table other)
    shows_same shown same other = elim (cases_eq other id) [
      | inl e ↦ ap (λ k. shown (record_at new.pool.table k)) e ∙ ap shown at_changed ∙ same ∙ ap shown (sym found) ∙ ap (λ k. shown (record_at old.pool.table k)) (sym e)
      | inr apart ↦ ap shown (same_but_changed other apart)
    ]

    -- its name and its chain stay
    pub changed_is : own now.value ≡ own was.value → now.chain ≡ was.chain → IsNamed own old index → IsNamed own new index
    changed_is name chain is =
        is_held own new index names
        (held_same own old new index names (shows_same is_some refl) (shows_same (λ o. option_map_or (λ c. own c.value) o []) name)
        (shows_same (λ o. option_map_or (λ c. c.chain) o 0) chain) (are_held own old index is))
        (rw (ap (λ (t : Table (NameCell R)). t.free) moved) is.room)

  -- More room is made in the index.
  pub reserved_is : (index' : Index) (Of : ℕ → Type 0) → IsNamed own old index → Rechained with_chain Of old new → ((other : ℕ) → cell new other ≡ cell old other) → ((other : ℕ) → name_of own new other ≡ name_of own old other) → spare index ≤ spare index' → Stands (cell new) (name_of own new) (chain_of new) index' names → IsNamed own new index'
  reserved_is index' Of is rechained kept named more stands =
      let same = ap length (rechained_free Of old new rechained) in
      is_held own new index' names (record { stands = stands; each = λ id live. ap (get names) (named id) ∙ is.each id (sym (kept id) ∙ live) }) (omega (arith, same, more, is.room))

-- The name of an object is dropped, the object gets another, and that is added.
module _ {R : Type 0} (own : R → List ℕ) (old new last : NameCells R) (index index' : Index) (id : ℕ) (was now : NameCell R) (Of : ℕ → Type 0) (is : IsNamed own old index) (is_cell : cell old id ≡ true)
    (rechained : Rechained with_chain Of old new) (kept : (other : ℕ) → cell new other ≡ cell old other) (named : (other : ℕ) → name_of own new other ≡ name_of own old other)
    (stands : Stands (cell new) (name_of own new) (chain_of new) index' (remove (held own old index) (name_of own old id))) (more : spare index' ≡ spare index + 1)
    (found : record_at new.pool.table id ≡ Some was) (moved : last.pool.table ≡ replaced id now new.pool.table) where
  same_but_renamed : SameBut new last id
  same_but_renamed = same_but_changed own new last index id was now found moved

  pub renamed_but : AreHeldBut own last index' (held own last index') id
  renamed_but = changed_but own old new index id index' Of is is_cell rechained kept named stands more last same_but_renamed

  at_renamed : record_at last.pool.table id ≡ Some now
  at_renamed = at_changed own new last index id was now found moved

  pub renamed_cell : cell last id ≡ true
  renamed_cell = ap is_some at_renamed

  pub renamed_new : IsFreeBut own id (own now.value) (objects old) → get (held own last index') (name_of own last id) ≡ None
  renamed_new free =
      let name : name_of own last id ≡ own now.value = ap (λ (o : Option (NameCell R)). option_map_or (λ c. own c.value) o []) at_renamed in
      let shown : objects new ≡ objects old = ap (λ (p : Pool R). p.table) (rechained_same Of old new rechained) in
      not_held own last index' (held own last index') id (name_of own last id) renamed_but
      (λ other apart h. apart (free other (ap (name_by own other) (sym shown) ∙ sym (names_same_but own new last id other same_but_renamed apart) ∙ h ∙ ap Some name)))

  pub renamed_is : (final : NameCells R) (last_index : Index) (On : ℕ → Type 0) → IsFreeBut own id (own now.value) (objects old) → Rechained with_chain On last final → ((other : ℕ) → cell final other ≡ cell last other) → ((other : ℕ) → name_of own final other ≡ name_of own last other) → spare index' ≡ spare last_index + 1 →
      Stands (cell final) (name_of own final) (chain_of final) last_index (insert (held own last index') (name_of own last id) id) → IsNamed own final last_index
  renamed_is final last_index On free rechained' kept' named' fewer stands' =
      let same : length final.pool.table.free ≡ length old.pool.table.free =
      ap length (rechained_free On last final rechained' ∙ ap (λ (t : Table (NameCell R)). t.free) moved ∙ rechained_free Of old new rechained) in
      is_held own final last_index (insert (held own last index') (name_of own last id) id)
      (added own last final index' last_index (held own last index') id kept' named' (renamed_new free) stands' renamed_but)
      (omega (arith, same, more, fewer, is.room))

-- free ids are one at least
pub some_free : (free : List ℕ) → free ≢ [] → 1 ≤ length free
some_free [] some = absurd (some refl)
some_free (id ∷ ids) some = omega arith

none_live : (A : Type 0) (id : ℕ) → is_live {A = A} (record { slots = []; free = [] }) id ≡ false
none_live A id = grind (arith, nat_tests)

-- a pool without slots holds no names
pub new_is : {R : Type 0} (own : R → List ℕ) (cells : NameCells R) (index : Index) → cells.pool.table ≡ record { slots = []; free = [] } → Stands (cell cells) (name_of own cells) (chain_of cells) index empty → IsNamed own cells index
new_is {R = R} own cells index none stands =
    let nothing = λ (id : ℕ) (live : cell cells id ≡ true).
    let dead : false ≡ true = sym (none_live (NameCell R) id) ∙ ap (λ t. is_live t id) (sym none) ∙ live in
    false≢true dead
    in
    is_held own cells index empty (record { stands = stands; each = λ id live. absurd (nothing id live) }) (rw none (omega arith))
