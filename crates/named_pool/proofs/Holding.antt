-- Which names an index holds over the slots of a pool, and what the moves of the pool and of the index make of that.
use Rattle.std.proofs.Common.{◌≡◌, ◌≢◌, ◌≤◌, true, false, List, [], ℕ, Option, None, Some, is_some, length, refl, sym, ap, ◌∙◌, subst, inl, inr}
use Rattle.std.specs.FinMap.{get, insert, remove}
use Rattle.std.specs.Option.{option_map, option_map_or}
use Rattle.std.proofs.lemmas.Bool.{cases_eq, false≢true}
use Rattle.name_index.specs.Index.{Index, Stands, spare}
use Rattle.name_index.specs.Names.{Names}
use Rattle.name_index.specs.Rechained.{Rechained}
use Rattle.name_index.proofs.Frames.{held_cell, index_stays}
use Rattle.name_index.proofs.Gathering.{names_in-stands}
use Rattle.name_index.proofs.Keeping.{rechained_keeps}
use Rattle.name_index.proofs.Maps.{cases_name, get-insert_other, get-insert_same, get-remove_other, get-remove_same, not_None, same_Some}
use Rattle.slot_pool.specs.Table.{Pool, Table, record_at}
use Rattle.slot_pool.proofs.Mapped.{at_plain, live_record, unseen}
use Rattle.named_pool.specs.declared.cells.NameCell.{NameCell}
use Rattle.named_pool.specs.declared.cells.NameCells.{NameCells}
use Rattle.named_pool.specs.Cells.{cell, cell-none, chain_of, chained, name_of, with_chain}
use Rattle.named_pool.specs.Held.{IsNamed, held, objects}
use Rattle.named_pool.specs.Names.{AreNamed, find_by, name_by}
use Rattle.named_pool.proofs.Finding.{free_by, named_by}

module _ {R : Type 0} where
  -- the pool of the objects, with the room in the slots alone, whatever moves it made
  abbrev pub slots_of : NameCells R → Pool R
  slots_of cells = record { table = objects cells; cap = cells.pool.cap; spare = cells.pool.spare; moved = 0 }

  -- setting chains changes nothing that is seen of the pool
  pub rechained_same : (Of : ℕ → Type 0) (old new : NameCells R) → Rechained with_chain Of old new → slots_of new ≡ slots_of old
  rechained_same Of old new h =
      rechained_keeps with_chain slots_of
      (λ cells id next. ap (λ (t : Table R). record { table = t; cap = cells.pool.cap; spare = cells.pool.spare; moved = 0 }) (unseen (λ (c : NameCell R). c.value) (chained next) id cells.pool.table (λ x found. refl)))
      Of old new h

  -- one id has another record, or none
  abbrev pub SameBut : NameCells R → NameCells R → ℕ → Type 0
  SameBut old new id = (other : ℕ) → other ≢ id → record_at new.pool.table other ≡ record_at old.pool.table other

module _ {R : Type 0} (own : R → List ℕ) where
  -- an index holds these names, those of all objects
  pub record AreHeld (cells : NameCells R) (index : Index) (names : Names) : Type 0 where
    pub stands : Stands (cell cells) (name_of own cells) (chain_of cells) index names
    pub each : (id : ℕ) → cell cells id ≡ true → get names (name_of own cells id) ≡ Some id

  -- an index holds these names, those of all objects but one
  pub record AreHeldBut (cells : NameCells R) (index : Index) (names : Names) (id : ℕ) : Type 0 where
    pub stands : Stands (cell cells) (name_of own cells) (chain_of cells) index names
    pub each : (other : ℕ) → other ≢ id → cell cells other ≡ true → get names (name_of own cells other) ≡ Some other
    pub out : (bytes : List ℕ) → get names bytes ≢ Some id

  name_found : (cells : NameCells R) (id : ℕ) (c : NameCell R) → record_at cells.pool.table id ≡ Some c → name_by own id (objects cells) ≡ Some (own c.value)
  name_found cells id c found = ap (option_map own) (at_plain (λ (c : NameCell R). c.value) cells.pool.table id ∙ ap (option_map (λ (c : NameCell R). c.value)) found)

  -- an object of the pool has the name of its cell
  pub name_shown : (cells : NameCells R) (id : ℕ) → cell cells id ≡ true → name_by own id (objects cells) ≡ Some (name_of own cells id)
  name_shown cells id is =
      let x = live_record cells.pool.table id is in
      name_found cells id x.value x.is ∙ ap Some (sym (ap (λ (o : Option (NameCell R)). option_map_or (λ c. own c.value) o []) x.is))

  name_seen_by : (cells : NameCells R) (id : ℕ) (bytes : List ℕ) (o : Option (NameCell R)) → record_at cells.pool.table id ≡ o → option_map own (option_map (λ (c : NameCell R). c.value) o) ≡ Some bytes → (cell cells id ≡ true) × (name_of own cells id ≡ bytes)
  name_seen_by cells id bytes None is h = cc
  name_seen_by cells id bytes (Some c) is h =
      let same : own c.value ≡ bytes = cc in
      (ap is_some is, ap (λ (o : Option (NameCell R)). option_map_or (λ c. own c.value) o []) is ∙ same)

  -- who has a name in the pool is a cell of that name
  pub name_seen : (cells : NameCells R) (id : ℕ) (bytes : List ℕ) → name_by own id (objects cells) ≡ Some bytes → (cell cells id ≡ true) × (name_of own cells id ≡ bytes)
  name_seen cells id bytes h =
      name_seen_by cells id bytes (record_at cells.pool.table id) refl (ap (option_map own) (sym (at_plain (λ (c : NameCell R). c.value) cells.pool.table id)) ∙ h)

  -- the names held are read off the chains
  names_read : (cells : NameCells R) (index : Index) (names : Names) → Stands (cell cells) (name_of own cells) (chain_of cells) index names → held own cells index ≡ names
  names_read cells index names stands = names_in-stands (cell cells) (name_of own cells) (chain_of cells) index names (cell-none cells) stands

  pub are_held : (cells : NameCells R) (index : Index) → IsNamed own cells index → AreHeld cells index (held own cells index)
  are_held cells index is = record { stands = is.stands; each = is.each }

  pub is_held : (cells : NameCells R) (index : Index) (names : Names) → AreHeld cells index names → length cells.pool.table.free ≤ spare index → IsNamed own cells index
  is_held cells index names are room =
      let same = names_read cells index names are.stands in
      record {
        stands = subst (λ (m : Names). Stands (cell cells) (name_of own cells) (chain_of cells) index m) (sym same) are.stands;
        each = λ id is. ap (λ (m : Names). get m (name_of own cells id)) same ∙ are.each id is;
        room = room;
      }

  pub but_read : (cells : NameCells R) (index : Index) (names : Names) (id : ℕ) → AreHeldBut cells index names id → AreHeldBut cells index (held own cells index) id
  but_read cells index names id but = subst (λ (m : Names). AreHeldBut cells index m id) (sym (names_read cells index names but.stands)) but

  -- no two objects have one name
  pub names_distinct : (cells : NameCells R) (index : Index) (names : Names) → AreHeld cells index names → AreNamed own (objects cells)
  names_distinct cells index names are = λ a b name at_a at_b.
      let here = name_seen cells a name at_a in
      let there = name_seen cells b name at_b in
      same_Some a b (sym (are.each a here.0) ∙ ap (get names) (here.1 ∙ sym there.1) ∙ are.each b there.0)

  found_by_case : (cells : NameCells R) (index : Index) (names : Names) (bytes : List ℕ) → AreHeld cells index names → (o : Option ℕ) → get names bytes ≡ o → o ≡ find_by own bytes (objects cells)
  found_by_case cells index names bytes are None e =
      sym (free_by own bytes (objects cells) (λ id h.
      let seen = name_seen cells id bytes h in
      not_None (get names bytes) id e (ap (get names) (sym seen.1) ∙ are.each id seen.0)))
  found_by_case cells index names bytes are (Some id) e =
      let is = held_cell (cell cells) (name_of own cells) (chain_of cells) index names are.stands bytes id e in
      let named : name_of own cells id ≡ bytes = (are.stands.found bytes id e).0 in
      sym (named_by own bytes (objects cells) (λ a b. names_distinct cells index names are a b bytes) id (name_shown cells id is ∙ ap Some named))

  -- what is held under a name is what is found by it, slot by slot
  pub found_same : (cells : NameCells R) (index : Index) (names : Names) (bytes : List ℕ) → AreHeld cells index names → get names bytes ≡ find_by own bytes (objects cells)
  found_same cells index names bytes are = found_by_case cells index names bytes are (get names bytes) refl

  -- a name that no object but the one has is not held
  not_held_case : (cells : NameCells R) (index : Index) (names : Names) (id : ℕ) (bytes : List ℕ) → AreHeldBut cells index names id → ((other : ℕ) → other ≢ id → name_by own other (objects cells) ≢ Some bytes) → (o : Option ℕ) → get names bytes ≡ o → o ≡ None
  not_held_case cells index names id bytes but free None e = refl
  not_held_case cells index names id bytes but free (Some other) e =
      let is = held_cell (cell cells) (name_of own cells) (chain_of cells) index names but.stands bytes other e in
      let apart : other ≢ id = λ same. but.out bytes (e ∙ ap Some same) in
      absurd (free other apart (name_shown cells other is ∙ ap Some (but.stands.found bytes other e).0))

  pub not_held : (cells : NameCells R) (index : Index) (names : Names) (id : ℕ) (bytes : List ℕ) → AreHeldBut cells index names id → ((other : ℕ) → other ≢ id → name_by own other (objects cells) ≢ Some bytes) → get names bytes ≡ None
  not_held cells index names id bytes but free = not_held_case cells index names id bytes but free (get names bytes) refl

  -- the other objects have the names that they had
  pub names_same_but : (old new : NameCells R) (id other : ℕ) → SameBut old new id → other ≢ id → name_by own other (objects new) ≡ name_by own other (objects old)
  names_same_but old new id other same apart =
      ap (option_map own) (at_plain (λ (c : NameCell R). c.value) new.pool.table other ∙ ap (option_map (λ (c : NameCell R). c.value)) (same other apart)
      ∙ sym (at_plain (λ (c : NameCell R). c.value) old.pool.table other))

  -- what changes at the one that isn't held changes nothing that is held
  pub moved_but : (old new : NameCells R) (index : Index) (names : Names) (id : ℕ) → SameBut old new id → AreHeldBut old index names id → AreHeldBut new index names id
  moved_but old new index names id same but = record {
    stands = index_stays (cell old) (name_of own old) (chain_of old) index names but.stands (cell new) (name_of own new) (chain_of new) (λ k is_held is.
        let apart : k ≢ id = λ e. but.out (name_of own old k) (is_held ∙ ap Some e) in (
          ap is_some (same k apart) ∙ is,
          ap (λ (o : Option (NameCell R)). option_map_or (λ c. own c.value) o []) (same k apart),
          ap (λ (o : Option (NameCell R)). option_map_or (λ c. c.chain) o 0) (same k apart),
        ));
    each = λ other apart is.
        ap (get names) (ap (λ (o : Option (NameCell R)). option_map_or (λ c. own c.value) o []) (same other apart))
        ∙ but.each other apart (sym (ap is_some (same other apart)) ∙ is);
    out = but.out;
  }

  -- an id without an object is not held
  pub none_but : (cells : NameCells R) (index : Index) (names : Names) (id : ℕ) → cell cells id ≡ false → AreHeld cells index names → AreHeldBut cells index names id
  none_but cells index names id none are = record {
    stands = are.stands;
    each = λ other apart is. are.each other is;
    out = λ bytes h. false≢true (sym none ∙ held_cell (cell cells) (name_of own cells) (chain_of cells) index names are.stands bytes id h);
  }

  -- where the one has no object, all objects are held
  pub all_but : (cells : NameCells R) (index : Index) (names : Names) (id : ℕ) → cell cells id ≡ false → AreHeldBut cells index names id → AreHeld cells index names
  all_but cells index names id none but = record {
    stands = but.stands;
    each = λ other is. elim (cases_eq other id) [
      | inl e ↦ absurd (false≢true (sym none ∙ ap (cell cells) (sym e) ∙ is))
      | inr apart ↦ but.each other apart is
    ];
  }

  -- the name of the one is added
  pub added : (old new : NameCells R) (index index' : Index) (names : Names) (id : ℕ) → ((other : ℕ) → cell new other ≡ cell old other) → ((other : ℕ) → name_of own new other ≡ name_of own old other) → get names (name_of own old id) ≡ None → Stands (cell new) (name_of own new) (chain_of new) index' (insert names (name_of own old id) id) → AreHeldBut old index names id → AreHeld new index' (insert names (name_of own old id) id)
  added old new index index' names id kept named none stands but = record {
    stands = stands;
    each = λ other is. elim (cases_eq other id) [
      | inl e ↦
          ap (get (insert names (name_of own old id) id)) (named other ∙ ap (name_of own old) e)
          ∙ get-insert_same names (name_of own old id) id ∙ ap Some (sym e)
      | inr apart ↦
          let here = but.each other apart (sym (kept other) ∙ is) in
          ap (get (insert names (name_of own old id) id)) (named other)
          ∙ get-insert_other names (name_of own old id) id (name_of own old other) (λ e. not_None (get names (name_of own old id)) other none (ap (get names) (sym e) ∙ here))
          ∙ here
    ];
  }

  -- the name of one is dropped
  pub dropped : (old new : NameCells R) (index index' : Index) (names : Names) (id : ℕ) → cell old id ≡ true → ((other : ℕ) → cell new other ≡ cell old other) → ((other : ℕ) → name_of own new other ≡ name_of own old other) → Stands (cell new) (name_of own new) (chain_of new) index' (remove names (name_of own old id)) → AreHeld old index names → AreHeldBut new index' (remove names (name_of own old id)) id
  dropped old new index index' names id is_cell kept named stands are = record {
    stands = stands;
    each = λ other apart is.
        let here = are.each other (sym (kept other) ∙ is) in
        ap (get (remove names (name_of own old id))) (named other)
        ∙ get-remove_other names (name_of own old id) (name_of own old other) (λ e. apart (same_Some other id (sym here ∙ ap (get names) e ∙ are.each id is_cell)))
        ∙ here;
    out = λ bytes h. elim (cases_name bytes (name_of own old id)) [
      | inl e ↦ not_None (get (remove names (name_of own old id)) bytes) id (ap (get (remove names (name_of own old id))) e ∙ get-remove_same names (name_of own old id)) h
      | inr ne ↦ ne (sym (are.stands.found bytes id (sym (get-remove_other names (name_of own old id) bytes ne) ∙ h)).0)
    ];
  }

  -- where all ids have the names and the chains that they had, all is held as before
  pub held_same : (old new : NameCells R) (index : Index) (names : Names) → ((other : ℕ) → cell new other ≡ cell old other) → ((other : ℕ) → name_of own new other ≡ name_of own old other) → ((other : ℕ) → chain_of new other ≡ chain_of old other) → AreHeld old index names → AreHeld new index names
  held_same old new index names kept named chains are = record {
    stands = index_stays (cell old) (name_of own old) (chain_of old) index names are.stands (cell new) (name_of own new) (chain_of new) (λ k is_held is. (kept k ∙ is, named k, chains k));
    each = λ id is. ap (get names) (named id) ∙ are.each id (sym (kept id) ∙ is);
  }
