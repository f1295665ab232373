-- A sound block with one table changed, and what that table owes.
use Rattle.std.proofs.Common.{◌≡◌, ◌≢◌, ◌+◌, ◌-◌, ◌≤◌, false, arith, List, ℕ, Option, None, Some, IsTrue, length, refl, sym, ap, subst, ◌∙◌}
use Rattle.std.specs.Option.{option_map, option_map_or}
use Rattle.std.proofs.lemmas.Bool.Decides.{nat_tests}
use Rattle.slot_pool.specs.Table.{IsGood, Table, given, is_live, next_id, record_at, taken, ungiven, untaken}
use Rattle.odb_base.specs.declared.codes.kind.Kind.{Kind}
use Rattle.odb_base.specs.declared.codes.kind.Kind.TheVariants as kind
use Rattle.block_records.specs.declared.header.Header.{Header}
use Rattle.tech.specs.Technology.{Technology}
use Rattle.library.specs.declared.master.Master.{Master}
use Rattle.block_store.specs.Block.{Block, empty_table, is_empty}
use Rattle.block_store.specs.KindLaws.{Parts}
use Rattle.block_store.specs.Kinds.{Entry, on_entry, table, table_of, with_table}
use Rattle.block_store.specs.Lens.{Lens}
use Rattle.slot_pool.specs.Mapped.{on_record}
use Rattle.named_pool.specs.Names.{AreNamed, name_by}
use Rattle.block_store.specs.Sound.{AreJoined, IsKind, IsSound}
use Rattle.block_store.specs.Tables.{AreEach, HasDistinctNames, IsTable}
use Rattle.block_store.specs.View.{laws, view}
use Rattle.block_store.proofs.OneTable.{header_stays, shown, stays, view_same}
use Rattle.slot_pool.proofs.Mapped.{live_record, on_missing, view_on}
use Rattle.block_store.proofs.TableLemmas.{back_given, back_taken, none_in_empty}
use Rattle.block_store.proofs.Shown.{each_given, each_on, each_taken, named_given, named_on, named_stands, named_taken, table_given, table_on, table_taken, view_given, view_taken}

module _ {A : Type 0} where
  -- the change leaves the name, where the table has names
  abbrev pub KeepsName : Option (Lens A (List ℕ)) → (A → A) → Type 0
  KeepsName None change = Unit {0}
  KeepsName (Some name) change = (x : A) → name.get (change x) ≡ name.get x

  -- the name is one that no object of the table has
  abbrev pub HasNewName : Option (Lens A (List ℕ)) → A → Table A → Type 0
  HasNewName None x t = Unit {0}
  HasNewName (Some name) x t = (id : ℕ) → name_by name.get id t ≢ Some (name.get x)

  pub names_on : (name : Option (Lens A (List ℕ))) (change : A → A) (id : ℕ) (t : Table A) → KeepsName name change → HasDistinctNames name t → HasDistinctNames name (on_record change id t)
  names_on None change id t keeps named = tt
  names_on (Some name) change id t keeps named = named_stands name.get t (on_record change id t) (view_on (option_map name.get) change id t (λ x found. ap Some (keeps x))) named

  pub names_taken : (name : Option (Lens A (List ℕ))) (x : A) (t : Table A) → IsGood t → HasNewName name x t → HasDistinctNames name t → HasDistinctNames name (taken x t)
  names_taken None x t good new named = tt
  names_taken (Some name) x t good new named = named_taken name.get x t good new named

  pub names_given : (name : Option (Lens A (List ℕ))) (id : ℕ) (t : Table A) → IsTrue (is_live t id) → HasDistinctNames name t → HasDistinctNames name (given id t)
  names_given None id t live named = tt
  names_given (Some name) id t live named = named_given name.get id t live named

module _ {A : Type 0} where
  table_empty : (cap : ℕ) → IsTable cap (empty_table {A = A})
  table_empty cap = record { good = λ id. grind (arith, nat_tests); within = omega arith }

  each_empty : (Is : A → Type 0) → AreEach Is empty_table
  each_empty Is = λ id x found. let none : record_at (empty_table {A = A}) id ≡ None = none_in_empty id in cc

  named_empty : (name_of : A → List ℕ) → AreNamed name_of empty_table
  named_empty name_of = λ a b name here there.
      let none : name_by name_of a (empty_table {A = A}) ≡ None = ap (option_map name_of) (none_in_empty a) in cc

  names_empty : (name : Option (Lens A (List ℕ))) → HasDistinctNames name empty_table
  names_empty None = tt
  names_empty (Some name) = named_empty name.get

  -- a change of what isn't there
  on_empty : (change : A → A) (id : ℕ) (t : Table A) → t ≡ empty_table → on_record change id t ≡ empty_table
  on_empty change id t empty = subst (λ u. on_record change id u ≡ empty_table) (sym empty) (on_missing change id empty_table (none_in_empty id))

-- no record of a kind that is still to come is lawful; spelled out at one kind, so that it computes at each
not_yet : (k : Kind) (parts : Parts) (x : Entry k) → (laws k).built ≡ false → (laws k).Is parts x → ⊥
not_yet kind.Inst parts x unbuilt is = cc
not_yet k parts x unbuilt is = first_of (cc, assumption)

module _ (parts : Parts) (cap : ℕ) where
  -- an empty table
  pub kind_empty : (k : Kind) → IsKind parts cap k empty_table
  kind_empty k = record { table = table_empty cap; each = each_empty ((laws k).Is parts); named = names_empty (laws k).name; coming = λ unbuilt. refl }

  pub kind_coming : (k : Kind) (t : Table (Entry k)) → t ≡ empty_table → IsKind parts cap k t
  kind_coming k t empty = subst (IsKind parts cap k) (sym empty) (kind_empty k)

  -- all kinds are sound by themselves
  abbrev pub AreKinds : Block → Type 0
  AreKinds b = (k : Kind) → IsKind parts cap k (table_of k b)

  -- the table of a kind with one entry changed, one object more, and one less
  kind_on : (k : Kind) (change : Entry k → Entry k) (id : ℕ) (t : Table (Entry k)) → ((x : Entry k) → record_at t id ≡ Some x → (laws k).Is parts x → (laws k).Is parts (change x)) → KeepsName (laws k).name change → IsKind parts cap k t → IsKind parts cap k (on_record change id t)
  kind_on k change id t lawful keeps is = record {
    table = table_on cap change id t is.table;
    each = each_on ((laws k).Is parts) change id t lawful is.each;
    named = names_on (laws k).name change id t keeps is.named;
    coming = λ unbuilt. on_empty change id t (is.coming unbuilt);
  }

  kind_taken : (k : Kind) (x : Entry k) (t : Table (Entry k)) → 1 ≤ length t.free + (cap - length t.slots) → (laws k).Is parts x → HasNewName (laws k).name x t → IsKind parts cap k t → IsKind parts cap k (taken x t)
  kind_taken k x t room lawful new is = record {
    table = table_taken cap x t room is.table;
    each = each_taken ((laws k).Is parts) x t is.table.good lawful is.each;
    named = names_taken (laws k).name x t is.table.good new is.named;
    coming = λ unbuilt. absurd (not_yet k parts x unbuilt lawful);
  }

  kind_given : (k : Kind) (id : ℕ) (t : Table (Entry k)) → IsTrue (is_live t id) → IsKind parts cap k t → IsKind parts cap k (given id t)
  kind_given k id t live is = record {
    table = table_given cap id t live is.table;
    each = each_given ((laws k).Is parts) id t live is.each;
    named = names_given (laws k).name id t live is.named;
    coming = λ unbuilt. let x = live_record t id live in absurd (not_yet k parts x.value unbuilt (is.each id x.value x.is));
  }

  -- a kind's entry changed in a block
  pub kinds_on : (k : Kind) (change : Entry k → Entry k) (id : ℕ) (b : Block) → ((x : Entry k) → record_at (table_of k b) id ≡ Some x → (laws k).Is parts x → (laws k).Is parts (change x)) → KeepsName (laws k).name change → AreKinds b → AreKinds (on_entry k change id b)
  kinds_on k change id b lawful keeps are = stays (IsKind parts cap) k (on_record change id (table_of k b)) b (kind_on k change id (table_of k b) lawful keeps (are k)) are

-- the parts of a technology, a library and a header
abbrev pub parts_by : Technology → List Master → Header → Parts
parts_by tech library header = record { tech = tech; library = library; header = header }

module _ (tech : Technology) (library : List Master) (cap : ℕ) where
  -- a block beside a sound one: with the same header, its kinds sound and its objects joined
  pub sound_beside : (d c : Block) → IsSound tech library cap d → c.header ≡ d.header → AreKinds (parts_by tech library d.header) cap c → AreJoined (view c) → IsSound tech library cap c
  sound_beside d c sound header kinds joined = record {
    masters = sound.masters;
    header = header ∙ sound.header;
    kinds = subst (λ h. AreKinds (parts_by tech library h) cap c) (sym header) kinds;
    joined = joined;
  }

  module _ (d : Block) where
    -- a table that shows what it showed
    pub sound_table : (k : Kind) (t : Table (Entry k)) → IsKind (parts_by tech library d.header) cap k t → ((id : ℕ) → shown k t id ≡ view d k id) → IsSound tech library cap d → IsSound tech library cap (with_table k t d)
    sound_table k t is same sound =
        sound_beside d (with_table k t d) sound (header_stays k t d) (stays (IsKind (parts_by tech library d.header) cap) k t d is sound.kinds)
        (subst AreJoined (sym (view_same k t d same)) sound.joined)

    -- an entry changes, and keeps its name and what it shows
    pub sound_entry : (k : Kind) (change : Entry k → Entry k) (id : ℕ) → ((x : Entry k) → (laws k).Is (parts_by tech library d.header) x → (laws k).Is (parts_by tech library d.header) (change x)) → KeepsName (laws k).name change → ((x : Entry k) → (laws k).see (change x) ≡ (laws k).see x) → IsSound tech library cap d → IsSound tech library cap (on_entry k change id d)
    sound_entry k change id lawful keeps same sound =
        sound_table k (on_record change id (table_of k d)) (kind_on (parts_by tech library d.header) cap k change id (table_of k d) (λ x found is. lawful x is) keeps (sound.kinds k))
        (view_on (λ o. option_map_or (laws k).see o (laws k).none) change id (table_of k d) (λ x found. same x)) sound

    -- an object gets a name that no object of its kind has
    pub sound_renamed : (k : Kind) (name : Lens (Entry k) (List ℕ)) → (laws k).name ≡ Some name → (new : List ℕ) (id : ℕ) → ((x : Entry k) → (laws k).Is (parts_by tech library d.header) x → (laws k).Is (parts_by tech library d.header) (name.set new x)) → ((x : Entry k) → (laws k).see (name.set new x) ≡ (laws k).see x) →
        IsTrue (is_live (table_of k d) id) → ((other : ℕ) → name_by name.get other (table_of k d) ≢ Some new) → IsSound tech library cap d → IsSound tech library cap (on_entry k (name.set new) id d)
    sound_renamed k name is new id lawful same live free sound =
        let t = table_of k d in
        let x = live_record t id live in
        let named = subst (λ o. HasDistinctNames o t) is (sound.kinds k).named in
        sound_table k (on_record (name.set new) id t)
        (record {
          table = table_on cap (name.set new) id t (sound.kinds k).table;
          each = each_on ((laws k).Is (parts_by tech library d.header)) (name.set new) id t (λ x found is. lawful x is) (sound.kinds k).each;
          named = subst (λ o. HasDistinctNames o (on_record (name.set new) id t)) (sym is)
              (named_on name.get (name.set new) id x.value t x.is (λ other at. free other (at ∙ ap Some (name.set_get new x.value))) named);
          coming = λ unbuilt. on_empty (name.set new) id t ((sound.kinds k).coming unbuilt);
        })
        (view_on (λ o. option_map_or (laws k).see o (laws k).none) (name.set new) id t (λ x found. same x)) sound

    -- an object comes that shows what no object shows
    pub sound_made : (k : Kind) (x : Entry k) → (laws k).see x ≡ (laws k).none → 1 ≤ length (table_of k d).free + (cap - length (table_of k d).slots) → (laws k).Is (parts_by tech library d.header) x → HasNewName (laws k).name x (table_of k d) → IsSound tech library cap d → IsSound tech library cap (with_table k (taken x (table_of k d)) d)
    sound_made k x none room lawful new sound =
        sound_table k (taken x (table_of k d)) (kind_taken (parts_by tech library d.header) cap k x (table_of k d) room lawful new (sound.kinds k))
        (view_taken (λ o. option_map_or (laws k).see o (laws k).none) x (table_of k d) (sound.kinds k).table.good none) sound

    -- an object goes that shows what no object shows
    pub sound_gone : (k : Kind) (id : ℕ) → IsTrue (is_live (table_of k d) id) → view d k id ≡ (laws k).none → IsSound tech library cap d → IsSound tech library cap (with_table k (given id (table_of k d)) d)
    sound_gone k id live none sound =
        sound_table k (given id (table_of k d)) (kind_given (parts_by tech library d.header) cap k id (table_of k d) live (sound.kinds k))
        (view_given (λ o. option_map_or (laws k).see o (laws k).none) id (table_of k d) live none) sound

module _ (d : Block) where
  -- an object that came is taken back
  pub back_made : (k : Kind) (x : Entry k) (id : ℕ) → IsGood (table_of k d) → id ≡ next_id (table_of k d) 0 →
      let c = with_table k (taken x (table_of k d)) d in with_table k (untaken id (is_empty (table_of k d).free) (table_of k c)) c ≡ d
  back_made k x id good next =
      let t = table_of k d in
      let c = with_table k (taken x t) d in
      ap (λ u. with_table k (untaken id (is_empty t.free) u) c) ((table k).set_get (taken x t) d)
      ∙ (table k).set_set (untaken id (is_empty t.free) (taken x t)) (taken x t) d
      ∙ ap (λ u. with_table k u d) (ap (λ i. untaken i (is_empty t.free) (taken x t)) next ∙ back_taken x t good)
      ∙ (table k).get_set d

  -- an object that went is back
  pub back_gone : (k : Kind) (x : Entry k) (id : ℕ) → record_at (table_of k d) id ≡ Some x →
      let c = with_table k (given id (table_of k d)) d in with_table k (ungiven x (table_of k c)) c ≡ d
  back_gone k x id found =
      let t = table_of k d in
      let c = with_table k (given id t) d in
      ap (λ u. with_table k (ungiven x u) c) ((table k).set_get (given id t) d)
      ∙ (table k).set_set (ungiven x (given id t)) (given id t) d
      ∙ ap (λ u. with_table k u d) (back_given x id t found)
      ∙ (table k).get_set d
