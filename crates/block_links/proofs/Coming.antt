-- Cells stand for a block still where an object comes or goes in both.
use Rattle.std.proofs.Common.{◌≡◌, ◌≢◌, ◌%◌, Bool, true, false, ℕ, Option, None, Some, IsTrue, is_some, arith, refl, sym, ap, subst, ◌∙◌, inl, inr}
use Rattle.std.specs.Option.{option_map, option_map_or}
use Rattle.std.proofs.lemmas.Bool.{cases_eq, eqb-true, eqb-false, false≢true}
use Rattle.slot_pool.specs.Table.{CanUntake, IsGood, Table, given, is_live, next_id, record_at, taken, untaken}
use Rattle.slot_pool.proofs.Mapped.{at_given, at_given_other, at_next, at_taken, at_taken_other, at_untaken, at_untaken_other, good_shown}
use Rattle.odb_base.specs.Ids.{holds}
use Rattle.odb_base.specs.declared.codes.kind.Kind.{Kind}
use Rattle.odb_base.specs.declared.codes.kind.Kind.TheVariants as kind
use Rattle.block_records.specs.declared.record.Record.{Record}
use Rattle.block_records.specs.declared.record.Record.TheVariants as rec
use Rattle.block_records.specs.declared.header.Header.{Header}
use Rattle.link_list.specs.Standing.{Stands}
use Rattle.link_list.proofs.Linking.{member_is_cell}
use Rattle.linked_pool.specs.Linking.{no_link}
use Rattle.block_cells.specs.Cells.{Cell, Cells, cells_of, empty_cells, given_cell, taken_cell, ungiven_cell, untaken_cell, with_cells}
use Rattle.block_cells.specs.Lists.{is_cell, link_at}
use Rattle.block_store.specs.Alone.{IsAlone, IsApart}
use Rattle.block_store.specs.Block.{Block, empty_block, empty_table, live_in}
use Rattle.block_store.specs.Consistent.{Groups, Holds, IsConsistent, ListSort, Members, Pins, Props, Terms, Wires, lists_in, lists_of, no_lists, of_sort, own_lists}
use Rattle.block_store.specs.Kinds.{Entry, table_of, with_table}
use Rattle.block_store.specs.Lists.{bterm_number, iterm_number}
use Rattle.block_store.specs.Moves.{CanUntakeIn, given_in, new_bterm, new_group, new_inst, new_net, new_region, new_row, taken_in, ungiven_in, untaken_in}
use Rattle.block_store.proofs.ConsistentLists.{in_none}
use Rattle.block_store.proofs.OneTable.{header_stays}
use Rattle.block_store.proofs.TableLemmas.{none_in_empty}
use Rattle.block_links.specs.Standing.{Shows, StandsFor, entry, head_of, heads_in, no_heads, own_heads, sort_of}
use Rattle.block_links.proofs.Keeping.{both_stay, cells_header, cells_stay}
use Rattle.block_links.proofs.Members.{IsKept, OfMember, link_in, of_cell, of_member, own_link, stands_still}
use Rattle.block_links.proofs.Moving.{next_same, shows_given, shows_taken, shows_untaken}
use Rattle.block_links.proofs.Reading.{table_read}

-- the object is another one
abbrev IsOther : Kind → ℕ → Kind → ℕ → Type 0
IsOther k id j i = j ≡ k → i ≡ id → ⊥

-- a head of no members stands for the empty list
pub none_stand : (c : Cells) (s : ListSort) → Stands (is_cell (sort_of s) c) (link_at (sort_of s) c) (head_of s no_heads) (of_sort s no_lists)
none_stand c Terms = record { first_member = refl; linked = tt; distinct = tt }
none_stand c Wires = record { first_member = refl; linked = tt; distinct = tt }
none_stand c Members = record { first_member = refl; linked = tt; distinct = tt }
none_stand c Pins = record { first_member = refl; linked = tt; distinct = tt }
none_stand c Groups = record { first_member = refl; linked = tt; distinct = tt }
none_stand c Props = record { first_member = refl; linked = tt; distinct = tt }

module _ (c : Cells) (b : Block) (stands : StandsFor c b) (k : Kind) (id : ℕ) (t : Table (Cell k)) (u : Table (Entry k))
    (shows : Shows k t u)
    (cells : (i : ℕ) → i ≢ id → record_at t i ≡ record_at (cells_of k c) i)
    (entries : (i : ℕ) → i ≢ id → record_at u i ≡ record_at (table_of k b) i)
    (heads : heads_in k t id ≡ no_heads)
    (lists : lists_in k u id ≡ no_lists)
    (outside : (s : ListSort) (j : Kind) (o m : ℕ) → Holds s j o m b → OfMember s m (IsOther k id)) where
  abbrev d : Cells
  d = with_cells k t c

  abbrev e : Block
  e = with_table k u b

  others_kept : (j : Kind) (i : ℕ) → IsOther k id j i → IsKept c d j i
  others_kept j i apart = record {
    live = cells_stay (λ j v. (i : ℕ) → IsOther k id j i → is_live v i ≡ is_live (cells_of j c) i) k t c
        (λ i apart. ap is_some (cells i (apart refl))) (λ j i apart. refl) j i apart;
    link = cells_stay (λ j v. (i : ℕ) → IsOther k id j i → link_in j v i ≡ link_in j (cells_of j c) i) k t c
        (λ i apart. ap (λ (o : Option (Cell k)). option_map_or (own_link k) o no_link) (cells i (apart refl))) (λ j i apart. refl) j i apart;
  }

  as_before : (s : ListSort) (j : Kind) (i : ℕ) → Stands (is_cell (sort_of s) d) (link_at (sort_of s) d) (head_of s (heads_in j (cells_of j c) i)) (of_sort s (lists_in j (table_of j b) i))
  as_before s j i = stands_still c d s _ _ (stands.lists s j i) (λ m inside. of_member s m others_kept (outside s j i m inside))

  here : (s : ListSort) (i : ℕ) → Stands (is_cell (sort_of s) d) (link_at (sort_of s) d) (head_of s (heads_in k t i)) (of_sort s (lists_in k u i))
  here s i = elim (cases_eq i id) [
    | inl same ↦ rw (same, heads, lists) (none_stand d s)
    | inr apart ↦
        let heads' : heads_in k t i ≡ heads_in k (cells_of k c) i = ap (λ (o : Option (Cell k)). option_map_or (own_heads k) o no_heads) (cells i apart) in
        let lists' : lists_in k u i ≡ lists_in k (table_of k b) i = ap (λ (o : Option (Entry k)). option_map_or (own_lists k) o no_lists) (entries i apart) in
        rw (heads', lists') (as_before s k i)
  ]

  -- one object comes or goes, which stands in no list and has empty lists
  pub stands_moved : StandsFor d e
  stands_moved = record {
    header = cells_header k t c ∙ stands.header ∙ sym (header_stays k u b);
    tables = both_stay Shows k t u c b shows stands.tables;
    lists = λ s. both_stay (λ j v w. (i : ℕ) → Stands (is_cell (sort_of s) d) (link_at (sort_of s) d) (head_of s (heads_in j v i)) (of_sort s (lists_in j w i))) k t u c b
        (here s) (as_before s);
  }

module _ (c : Cells) (b : Block) (stands : StandsFor c b) (k : Kind) where
  good_cells : IsGood (table_of k b) → IsGood (cells_of k c)
  good_cells good = good_shown _ (cells_of k c) (subst IsGood (sym (table_read c b stands k)) good)

  -- who isn't there stands in no list
  absent_outside : (id : ℕ) → record_at (cells_of k c) id ≡ None → (s : ListSort) (j : Kind) (o m : ℕ) → Holds s j o m b → OfMember s m (IsOther k id)
  absent_outside id none s j o m held =
      let h = stands.lists s j o in
      of_member s m (λ i n live same is. false≢true (ap is_some (sym none) ∙ sym (ap (λ n. is_live (cells_of k c) n) is) ∙ subst (λ q. is_live (cells_of q c) n ≡ true) same live))
      (of_cell c s m (member_is_cell (is_cell (sort_of s) c) (link_at (sort_of s) c) 0 _ 0 m h.linked held))

  stands_new : (x : Cell k) (e : Entry k) → IsGood (table_of k b) → e ≡ entry k x no_lists → own_lists k e ≡ no_lists → own_heads k x ≡ no_heads → StandsFor (with_cells k (taken x (cells_of k c)) c) (with_table k (taken e (table_of k b)) b)
  stands_new x e good made bare empty =
      let t = cells_of k c in
      let u = table_of k b in
      let good' = good_cells good in
      let shows = stands.tables k in
      let next : next_id t 0 ≡ next_id u 0 = next_same k t u shows in
      stands_moved c b stands k (next_id u 0) (taken x t) (taken e u) (shows_taken k t u shows x e good' good made bare)
      (λ i apart. at_taken_other x t i good' (λ is. apart (is ∙ next)))
      (λ i apart. at_taken_other e u i good apart)
      (ap (λ (o : Option (Cell k)). option_map_or (own_heads k) o no_heads) (ap (record_at (taken x t)) (sym next) ∙ at_taken x t good') ∙ empty)
      (ap (λ (o : Option (Entry k)). option_map_or (own_lists k) o no_lists) (at_taken e u good) ∙ bare)
      (absent_outside (next_id u 0) (ap (record_at t) (sym next) ∙ at_next t good'))

module _ (c : Cells) (b : Block) (stands : StandsFor c b) (is : IsConsistent b) where
  -- a new object
  pub stands_taken : (r : Record) → StandsFor (taken_cell r c) (taken_in r b)
  stands_taken (rec.Inst r) = stands_new c b stands kind.Inst _ (new_inst r) (is.good kind.Inst) refl refl refl
  stands_taken (rec.ITerm r) = stands_new c b stands kind.ITerm _ r (is.good kind.ITerm) refl refl refl
  stands_taken (rec.Net r) = stands_new c b stands kind.Net _ (new_net r) (is.good kind.Net) refl refl refl
  stands_taken (rec.BTerm r) = stands_new c b stands kind.BTerm _ (new_bterm r) (is.good kind.BTerm) refl refl refl
  stands_taken (rec.Pin r) = stands_new c b stands kind.Pin _ r (is.good kind.Pin) refl refl refl
  stands_taken (rec.Row r) = stands_new c b stands kind.Row _ (new_row r) (is.good kind.Row) refl refl refl
  stands_taken (rec.Track r) = stands_new c b stands kind.Track _ r (is.good kind.Track) refl refl refl
  stands_taken (rec.Wire r) = stands_new c b stands kind.Wire _ r (is.good kind.Wire) refl refl refl
  stands_taken (rec.Blockage r) = stands_new c b stands kind.Blockage _ r (is.good kind.Blockage) refl refl refl
  stands_taken (rec.Region r) = stands_new c b stands kind.Region _ (new_region r) (is.good kind.Region) refl refl refl
  stands_taken (rec.Group r) = stands_new c b stands kind.Group _ (new_group r) (is.good kind.Group) refl refl refl
  stands_taken (rec.Prop r) = stands_new c b stands kind.Prop _ r (is.good kind.Prop) refl refl refl

  -- an object that went is back
  pub stands_ungiven : (r : Record) → StandsFor (ungiven_cell r c) (ungiven_in r b)
  stands_ungiven (rec.Inst r) = stands_taken (rec.Inst r)
  stands_ungiven (rec.ITerm r) = stands_taken (rec.ITerm r)
  stands_ungiven (rec.Net r) = stands_taken (rec.Net r)
  stands_ungiven (rec.BTerm r) = stands_taken (rec.BTerm r)
  stands_ungiven (rec.Pin r) = stands_taken (rec.Pin r)
  stands_ungiven (rec.Row r) = stands_taken (rec.Row r)
  stands_ungiven (rec.Track r) = stands_taken (rec.Track r)
  stands_ungiven (rec.Wire r) = stands_taken (rec.Wire r)
  stands_ungiven (rec.Blockage r) = stands_taken (rec.Blockage r)
  stands_ungiven (rec.Region r) = stands_taken (rec.Region r)
  stands_ungiven (rec.Group r) = stands_taken (rec.Group r)
  stands_ungiven (rec.Prop r) = stands_taken (rec.Prop r)

-- a member of a list isn't the number that no list has
held_other : {R : Type 0} (s : ListSort) (m none : ℕ) (j : Kind) (o : ℕ) (b : Block) → ((k : Kind) (i : ℕ) → holds (of_sort s (lists_of b k i)) none ≡ false) → Holds s j o m b → m ≡ none → R
held_other s m none j o b out held same = absurd (false≢true (sym (out j o) ∙ ap (holds (of_sort s (lists_of b j o))) (sym same) ∙ held))

-- no member of a list stands for an object that stands in none
pub apart_outside : (k : Kind) (id : ℕ) (b : Block) → IsApart k id b → (s : ListSort) (j : Kind) (o m : ℕ) → Holds s j o m b → OfMember s m (IsOther k id)
apart_outside k id b apart Terms j o m held = (
  λ first same is.
      let out = subst (λ q. IsApart q id b) (sym same) apart in
      let even = eqb-true (m % 2) 0 first in
      held_other Terms m (iterm_number id) j o b (in_none Terms (iterm_number id) b out) held (omega (arith, even, is)),
  λ second same is.
      let out = subst (λ q. IsApart q id b) (sym same) apart in
      let odd = eqb-false (m % 2) 0 second in
      held_other Terms m (bterm_number id) j o b (in_none Terms (bterm_number id) b out) held (omega (arith, odd, is)),
)
apart_outside k id b apart Wires j o m held = λ same is. held_other Wires m id j o b (in_none Wires id b (subst (λ q. IsApart q id b) (sym same) apart)) held is
apart_outside k id b apart Members j o m held = λ same is. held_other Members m id j o b (in_none Members id b (subst (λ q. IsApart q id b) (sym same) apart)) held is
apart_outside k id b apart Pins j o m held = λ same is. held_other Pins m id j o b (in_none Pins id b (subst (λ q. IsApart q id b) (sym same) apart)) held is
apart_outside k id b apart Groups j o m held = λ same is. held_other Groups m id j o b (in_none Groups id b (subst (λ q. IsApart q id b) (sym same) apart)) held is
apart_outside k id b apart Props j o m held = λ same is. held_other Props m id j o b (in_none Props id b (subst (λ q. IsApart q id b) (sym same) apart)) held is

pub some_mapped : {A B : Type 0} (f : A → B) (o : Option A) → is_some (option_map f o) ≡ is_some o
some_mapped f None = refl
some_mapped f (Some x) = refl

-- an object is there in both tables or in neither
pub live_shown : (k : Kind) (t : Table (Cell k)) (u : Table (Entry k)) → Shows k t u → (id : ℕ) → is_live u id ≡ is_live t id
live_shown k t u shows id = ap is_some (shows.rows id) ∙ some_mapped (λ x. entry k x (lists_in k u id)) (record_at t id)

-- a new object that can be taken back in the one can be taken back in the other
can_untake_cells : (k : Kind) (t : Table (Cell k)) (u : Table (Entry k)) → Shows k t u → (id : ℕ) (grew : Bool) → CanUntake u id grew → CanUntake t id grew
can_untake_cells k t u shows id grew can = record {
  live = sym (live_shown k t u shows id) ∙ can.live;
  last = λ is. can.last is ∙ sym shows.slots;
  none_free = λ is. shows.free ∙ can.none_free is;
}

module _ (c : Cells) (b : Block) (stands : StandsFor c b) (k : Kind) (id : ℕ) (alone : IsAlone k id b) where
  live_cell : IsTrue (is_live (table_of k b) id) → IsTrue (is_live (cells_of k c) id)
  live_cell live = sym (live_shown k (cells_of k c) (table_of k b) (stands.tables k) id) ∙ live

  stands_gone : IsTrue (is_live (table_of k b) id) → StandsFor (with_cells k (given id (cells_of k c)) c) (with_table k (given id (table_of k b)) b)
  stands_gone live =
      let t = cells_of k c in
      let u = table_of k b in
      stands_moved c b stands k id (given id t) (given id u) (shows_given k t u (stands.tables k) id (live_cell live) live)
      (λ i apart. at_given_other id i t (live_cell live) apart)
      (λ i apart. at_given_other id i u live apart)
      (ap (λ (o : Option (Cell k)). option_map_or (own_heads k) o no_heads) (at_given id t (live_cell live)))
      (ap (λ (o : Option (Entry k)). option_map_or (own_lists k) o no_lists) (at_given id u live))
      (apart_outside k id b alone.apart)

  stands_taken_back : (grew : Bool) → CanUntake (table_of k b) id grew → StandsFor (with_cells k (untaken id grew (cells_of k c)) c) (with_table k (untaken id grew (table_of k b)) b)
  stands_taken_back grew can =
      let t = cells_of k c in
      let u = table_of k b in
      let can' = can_untake_cells k t u (stands.tables k) id grew can in
      stands_moved c b stands k id (untaken id grew t) (untaken id grew u) (shows_untaken k t u (stands.tables k) id grew can' can)
      (λ i apart. at_untaken_other id i grew t can' apart)
      (λ i apart. at_untaken_other id i grew u can apart)
      (ap (λ (o : Option (Cell k)). option_map_or (own_heads k) o no_heads) (at_untaken id grew t can'))
      (ap (λ (o : Option (Entry k)). option_map_or (own_lists k) o no_lists) (at_untaken id grew u can))
      (apart_outside k id b alone.apart)

-- an object goes
pub stands_given : (k : Kind) (id : ℕ) (c : Cells) (b : Block) → StandsFor c b → IsTrue (live_in k id b) → IsAlone k id b → StandsFor (given_cell k id c) (given_in k id b)
stands_given kind.Inst id c b stands live alone = stands_gone c b stands kind.Inst id alone live
stands_given k id c b stands live alone = stands_gone c b stands k id alone live

-- a new object is taken back
pub stands_untaken : (k : Kind) (id : ℕ) (grew : Bool) (c : Cells) (b : Block) → StandsFor c b → CanUntakeIn k id grew b → IsAlone k id b → StandsFor (untaken_cell k id grew c) (untaken_in k id grew b)
stands_untaken kind.Inst id grew c b stands can alone = stands_taken_back c b stands kind.Inst id alone grew can
stands_untaken k id grew c b stands can alone = stands_taken_back c b stands k id alone grew can

shows_empty : (k : Kind) → Shows k empty_table empty_table
shows_empty k = record {
  slots = refl;
  free = refl;
  rows = λ id. none_in_empty id ∙ sym (ap (option_map (λ x. entry k x (lists_in k empty_table id))) (none_in_empty {A = Cell k} id));
}

empty_shows : (header : Header) (k : Kind) → Shows k (cells_of k (empty_cells header)) (table_of k (empty_block header))
empty_shows header kind.Inst = shows_empty kind.Inst
empty_shows header k = shows_empty k

no_heads_in : (header : Header) (k : Kind) (id : ℕ) → heads_in k (cells_of k (empty_cells header)) id ≡ no_heads
no_heads_in header kind.Inst id = ap (λ (o : Option (Cell kind.Inst)). option_map_or (own_heads kind.Inst) o no_heads) (none_in_empty {A = Cell kind.Inst} id)
no_heads_in header k id = ap (λ (o : Option (Cell k)). option_map_or (own_heads k) o no_heads) (none_in_empty {A = Cell k} id)

no_lists_in : (header : Header) (k : Kind) (id : ℕ) → lists_in k (table_of k (empty_block header)) id ≡ no_lists
no_lists_in header kind.Inst id = ap (λ (o : Option (Entry kind.Inst)). option_map_or (own_lists kind.Inst) o no_lists) (none_in_empty {A = Entry kind.Inst} id)
no_lists_in header k id = ap (λ (o : Option (Entry k)). option_map_or (own_lists k) o no_lists) (none_in_empty {A = Entry k} id)

-- no objects
pub stands_empty : (header : Header) → StandsFor (empty_cells header) (empty_block header)
stands_empty header =
    record {
      header = refl;
      tables = empty_shows header;
      lists = λ s k id. rw (no_heads_in header k id, no_lists_in header k id) (none_stand (empty_cells header) s);
    }
