-- Blocks stay consistent where objects come and go, and where a field is set.
use Rattle.std.proofs.Common.{◌≡◌, ◌≢◌, ◌-◌, Bool, true, false, List, [], ℕ, Option, None, Some, IsTrue, is_some, length, refl, sym, ap, subst, ◌∙◌, eqb, cond, take, arith}
use Rattle.std.specs.Option.{option_map, option_map_or}
use Rattle.std.proofs.lemmas.Bool.{false≢true}
use Rattle.std.proofs.lemmas.Bool.Decides.{nat_tests}
use Rattle.std.proofs.lemmas.List.{get_or-take, get_or_past, length-take}
use Rattle.slot_pool.specs.Table.{CanUntake, IsGood, Table, given, is_live, record_at, record_in, untaken}
use Rattle.slot_pool.proofs.Records.{records_after_give}
use Rattle.slot_pool.proofs.Tables.{IsGood-untaken}
use Rattle.odb_base.specs.Ids.{holds}
use Rattle.odb_base.specs.declared.codes.direction.Direction.{Direction}
use Rattle.odb_base.specs.declared.codes.kind.Kind.{Kind}
use Rattle.odb_base.specs.declared.codes.kind.Kind.TheVariants as kind
use Rattle.odb_base.specs.declared.codes.usage.Usage.{Usage}
use Rattle.odb_base.specs.declared.geometry.Placement.{Placement}
use Rattle.block_records.specs.declared.record.Record.{Record}
use Rattle.block_records.specs.declared.record.Record.TheVariants as rec
use Rattle.block_store.specs.Alone.{IsAlone, IsApart, IsBare, IsNew, IsTerminal, OfBlock, OfInst}
use Rattle.block_store.specs.Block.{Block, live_in}
use Rattle.block_store.specs.BlockTerminals.{bterm_name}
use Rattle.block_store.specs.Consistent.{Groups, Holds, IsConsistent, IsThere, ListSort, Members, Pins, Props, Terms, Wires, lists_of, no_lists, of_sort, own_lists}
use Rattle.block_store.specs.Instances.{inst_name}
use Rattle.block_store.specs.Kinds.{Entry, table_of, with_table}
use Rattle.block_store.specs.Lens.{Lens}
use Rattle.slot_pool.specs.Mapped.{on_record}
use Rattle.block_store.specs.Lists.{bterm_number, iterm_number, list_in}
use Rattle.block_store.specs.Moves.{CanUntakeIn, given_in, new_bterm, new_group, new_inst, new_net, new_region, new_row, taken_in, ungiven_in, untaken_in, with_direction, with_index, with_master, with_name, with_net, with_place, with_special, with_terminals, with_usage}
use Rattle.named_pool.specs.Names.{name_by}
use Rattle.block_store.specs.Names.{IsFreeBut}
use Rattle.block_store.specs.Nets.{net_name}
use Rattle.block_store.specs.Rows.{row_name}
use Rattle.block_store.specs.Tables.{HasDistinctNames}
use Rattle.block_store.specs.View.{group_name, laws, region_name}
use Rattle.block_store.proofs.Changed.{names_given}
use Rattle.block_store.proofs.Consistency.{consistent_entry, consistent_field, consistent_made, consistent_table, terminal_moved}
use Rattle.block_store.proofs.ConsistentLists.{in_none}
use Rattle.block_store.proofs.OneTable.{live_is}
use Rattle.slot_pool.proofs.Mapped.{at_given_other, live_record}
use Rattle.block_store.proofs.Shown.{named_again, named_stands, view_given}
use Rattle.block_store.proofs.TableLemmas.{good_given}

-- a new object of a name that none has
pub consistent_taken : (r : Record) (b : Block) → IsNew r b → IsConsistent b → IsConsistent (taken_in r b)
consistent_taken (rec.Inst r) b new is = consistent_made kind.Inst b (new_inst r) refl new is
consistent_taken (rec.ITerm r) b new is = consistent_made kind.ITerm b r refl new is
consistent_taken (rec.Net r) b new is = consistent_made kind.Net b (new_net r) refl new is
consistent_taken (rec.BTerm r) b new is = consistent_made kind.BTerm b (new_bterm r) refl new is
consistent_taken (rec.Pin r) b new is = consistent_made kind.Pin b r refl new is
consistent_taken (rec.Row r) b new is = consistent_made kind.Row b (new_row r) refl new is
consistent_taken (rec.Track r) b new is = consistent_made kind.Track b r refl new is
consistent_taken (rec.Wire r) b new is = consistent_made kind.Wire b r refl new is
consistent_taken (rec.Blockage r) b new is = consistent_made kind.Blockage b r refl new is
consistent_taken (rec.Region r) b new is = consistent_made kind.Region b (new_region r) refl new is
consistent_taken (rec.Group r) b new is = consistent_made kind.Group b (new_group r) refl new is
consistent_taken (rec.Prop r) b new is = consistent_made kind.Prop b r refl new is

-- an object that went is back
ungiven_is : (r : Record) (b : Block) → ungiven_in r b ≡ taken_in r b
ungiven_is (rec.Inst r) b = refl
ungiven_is r b = refl

pub consistent_ungiven : (r : Record) (b : Block) → IsNew r b → IsConsistent b → IsConsistent (ungiven_in r b)
consistent_ungiven r b new is = subst IsConsistent (sym (ungiven_is r b)) (consistent_taken r b new is)

-- an object without members, in the words of contracts
no_own : {A : Type 0} (o : Option A) → option_map_or (λ x. no_lists) o no_lists ≡ no_lists
no_own None = refl
no_own (Some x) = refl

bare_by : (k : Kind) (o : Option (Entry k)) (id : ℕ) (b : Block) → record_at (table_of k b) id ≡ o → IsBare k id b → option_map_or (own_lists k) o no_lists ≡ no_lists
bare_by k None id b is bare = refl
bare_by kind.Inst (Some x) id b is bare =
    let props : x.props ≡ [] = ap (list_in (λ e. e.props)) (sym is) ∙ bare in
    rw (props) refl
bare_by kind.Net (Some x) id b is bare =
    let terms : x.terms ≡ [] = ap (list_in (λ e. e.terms)) (sym is) ∙ bare.0 in
    let wires : x.wires ≡ [] = ap (list_in (λ e. e.wires)) (sym is) ∙ bare.1 in
    let props : x.props ≡ [] = ap (list_in (λ e. e.props)) (sym is) ∙ bare.2 in
    rw (terms, wires, props) refl
bare_by kind.BTerm (Some x) id b is bare =
    let pins : x.pins ≡ [] = ap (list_in (λ e. e.pins)) (sym is) ∙ bare in
    rw (pins) refl
bare_by kind.Row (Some x) id b is bare =
    let props : x.props ≡ [] = ap (list_in (λ e. e.props)) (sym is) ∙ bare in
    rw (props) refl
bare_by kind.Region (Some x) id b is bare =
    let groups : x.groups ≡ [] = ap (list_in (λ e. e.groups)) (sym is) ∙ bare.0 in
    let props : x.props ≡ [] = ap (list_in (λ e. e.props)) (sym is) ∙ bare.1 in
    rw (groups, props) refl
bare_by kind.Group (Some x) id b is bare =
    let members : x.members ≡ [] = ap (list_in (λ e. e.members)) (sym is) ∙ bare.0 in
    let props : x.props ≡ [] = ap (list_in (λ e. e.props)) (sym is) ∙ bare.1 in
    rw (members, props) refl
bare_by k (Some x) id b is bare = refl

-- a member of a list is another than what no list has
differs : (s : ListSort) (id member : ℕ) (j : Kind) (o : ℕ) (b : Block) → ((k : Kind) (i : ℕ) → holds (of_sort s (lists_of b k i)) id ≡ false) → Holds s j o member b → member ≢ id
differs s id member j o b none held same = false≢true (sym (none j o) ∙ ap (holds (of_sort s (lists_of b j o))) (sym same) ∙ held)

iterm_gone : (id : ℕ) (t : Table (Entry kind.ITerm)) (b : Block) → ((i : ℕ) → i ≢ id → IsTrue (is_live b.iterm i) → IsTrue (is_live t i)) → ((k : Kind) (i : ℕ) → holds (of_sort Terms (lists_of b k i)) (iterm_number id) ≡ false) → (j : Kind) (o member : ℕ) → Holds Terms j o member b → IsTerminal b member → IsTerminal (with_table kind.ITerm t b) member
iterm_gone id t b kept none j o member held (OfInst i live) = OfInst i (kept i (λ same. differs Terms (iterm_number id) (iterm_number i) j o b none held (ap iterm_number same)) live)
iterm_gone id t b kept none j o member held (OfBlock i live) = OfBlock i live

bterm_gone : (id : ℕ) (t : Table (Entry kind.BTerm)) (b : Block) → ((i : ℕ) → i ≢ id → IsTrue (is_live b.bterm i) → IsTrue (is_live t i)) → ((k : Kind) (i : ℕ) → holds (of_sort Terms (lists_of b k i)) (bterm_number id) ≡ false) → (j : Kind) (o member : ℕ) → Holds Terms j o member b → IsTerminal b member → IsTerminal (with_table kind.BTerm t b) member
bterm_gone id t b kept none j o member held (OfInst i live) = OfInst i live
bterm_gone id t b kept none j o member held (OfBlock i live) = OfBlock i (kept i (λ same. differs Terms (bterm_number id) (bterm_number i) j o b none held (ap bterm_number same)) live)

-- the object for which a member of a list stands is another than one that stands apart
there_gone : (k : Kind) (id : ℕ) (t : Table (Entry k)) (b : Block) → ((i : ℕ) → i ≢ id → IsTrue (is_live (table_of k b) i) → IsTrue (is_live t i)) → IsApart k id b → (s : ListSort) (j : Kind) (o member : ℕ) → Holds s j o member b → IsThere s member b → IsThere s member (with_table k t b)
there_gone kind.ITerm id t b kept apart Terms j o member held there = iterm_gone id t b kept (in_none Terms (iterm_number id) b apart) j o member held there
there_gone kind.BTerm id t b kept apart Terms j o member held there = bterm_gone id t b kept (in_none Terms (bterm_number id) b apart) j o member held there
there_gone k id t b kept apart Terms j o member held there = terminal_moved b (with_table k t b) (λ i live. live) (λ i live. live) member there
there_gone kind.Wire id t b kept apart Wires j o member held there = kept member (differs Wires id member j o b (in_none Wires id b apart) held) there
there_gone kind.Inst id t b kept apart Members j o member held there = kept member (differs Members id member j o b (in_none Members id b apart) held) there
there_gone kind.Pin id t b kept apart Pins j o member held there = kept member (differs Pins id member j o b (in_none Pins id b apart) held) there
there_gone kind.Group id t b kept apart Groups j o member held there = kept member (differs Groups id member j o b (in_none Groups id b apart) held) there
there_gone kind.Prop id t b kept apart Props j o member held there = kept member (differs Props id member j o b (in_none Props id b apart) held) there
there_gone k id t b kept apart s j o member held there = there

names_shown : {A : Type 0} (name : Option (Lens A (List ℕ))) (t u : Table A) → ((i : ℕ) → record_at u i ≡ record_at t i) → HasDistinctNames name t → HasDistinctNames name u
names_shown None t u same named = tt
names_shown (Some name) t u same named = named_stands name.get t u (λ i. ap (option_map name.get) (same i)) named

-- an object goes that stands alone: the table shows what it shows after a give
consistent_gone : (k : Kind) (id : ℕ) (t : Table (Entry k)) (b : Block) → IsGood t → ((i : ℕ) → record_at t i ≡ record_at (given id (table_of k b)) i) → IsTrue (is_live (table_of k b) id) → IsAlone k id b → IsConsistent b → IsConsistent (with_table k t b)
consistent_gone k id t b good same live alone is =
    let u = table_of k b in
    consistent_table k t b good (names_shown (laws k).name (given id u) t same (names_given (laws k).name id u live (is.names k)))
    (λ i. ap (λ o. option_map_or (own_lists k) o no_lists) (same i) ∙ view_given (λ o. option_map_or (own_lists k) o no_lists) id u live (bare_by k (record_at u id) id b refl alone.bare) i)
    (λ s j o member held. there_gone k id t b (λ i apart there. ap is_some (same i) ∙ ap is_some (at_given_other id i u live apart) ∙ there) alone.apart s j o member held (is.there s j o member held)) is

given_is : (k : Kind) (id : ℕ) (b : Block) → given_in k id b ≡ with_table k (given id (table_of k b)) b
given_is kind.Inst id b = refl
given_is k id b = refl

pub consistent_given : (k : Kind) (id : ℕ) (b : Block) → IsTrue (live_in k id b) → IsAlone k id b → IsConsistent b → IsConsistent (given_in k id b)
consistent_given k id b live alone is =
    let there = sym (live_is k id b) ∙ live in
    subst IsConsistent (sym (given_is k id b)) (consistent_gone k id (given id (table_of k b)) b (good_given id (table_of k b) (is.good k) there) (λ i. refl) there alone is)

-- the last slot goes
record_in-shortened : {A : Type 0} (slots : List (Option A)) (id : ℕ) → record_in (take (length slots - 1) slots) id ≡ cond (eqb id (length slots)) None (record_in slots id)
record_in-shortened slots id =
    let short = get_or-take (length slots - 1) slots (id - 1) None in
    let long = length-take (length slots - 1) slots in
    let past = get_or_past slots (id - 1) None in
    let dropped = get_or_past (take (length slots - 1) slots) (id - 1) None in
    grind (arith, nat_tests, short, long, past, dropped)

-- a new object taken back leaves the records that a give leaves
shown_untaken : {A : Type 0} (id : ℕ) (grew : Bool) (t : Table A) → CanUntake t id grew → (i : ℕ) → record_at (untaken id grew t) i ≡ record_at (given id t) i
shown_untaken id true t can i =
    record_in-shortened t.slots i ∙ ap (λ last. cond (eqb i last) None (record_at t i)) (sym (can.last refl)) ∙ sym (records_after_give id t can.live i)
shown_untaken id false t can i = refl

untaken_is : (k : Kind) (id : ℕ) (grew : Bool) (b : Block) → untaken_in k id grew b ≡ with_table k (untaken id grew (table_of k b)) b
untaken_is kind.Inst id grew b = refl
untaken_is k id grew b = refl

can_by : (k : Kind) (id : ℕ) (grew : Bool) (b : Block) → CanUntakeIn k id grew b → CanUntake (table_of k b) id grew
can_by kind.Inst id grew b can = can
can_by k id grew b can = can

pub consistent_untaken : (k : Kind) (id : ℕ) (grew : Bool) (b : Block) → CanUntakeIn k id grew b → IsAlone k id b → IsConsistent b → IsConsistent (untaken_in k id grew b)
consistent_untaken k id grew b can alone is =
    let t = table_of k b in
    let can_table = can_by k id grew b can in
    subst IsConsistent (sym (untaken_is k id grew b)) (consistent_gone k id (untaken id grew t) b (IsGood-untaken id grew t (is.good k) can_table) (shown_untaken id grew t can_table) can_table.live alone is)

-- fields that are set
pub consistent_net : (k : Kind) (id net : ℕ) (b : Block) → IsConsistent b → IsConsistent (with_net k id net b)
consistent_net kind.ITerm id net b is = consistent_field kind.ITerm b _ id tt (λ x. refl) is
consistent_net kind.BTerm id net b is = consistent_field kind.BTerm b _ id (λ x. refl) (λ x. refl) is
consistent_net k id net b is = is

pub consistent_place : (k : Kind) (id : ℕ) (place : Placement) (b : Block) → IsConsistent b → IsConsistent (with_place k id place b)
consistent_place kind.Inst id place b is = consistent_field kind.Inst b _ id (λ x. refl) (λ x. refl) is
consistent_place kind.Pin id place b is = consistent_field kind.Pin b _ id tt (λ x. refl) is
consistent_place k id place b is = is

pub consistent_usage : (k : Kind) (id : ℕ) (usage : Usage) (b : Block) → IsConsistent b → IsConsistent (with_usage k id usage b)
consistent_usage kind.Net id usage b is = consistent_field kind.Net b _ id (λ x. refl) (λ x. refl) is
consistent_usage kind.BTerm id usage b is = consistent_field kind.BTerm b _ id (λ x. refl) (λ x. refl) is
consistent_usage k id usage b is = is

pub consistent_direction : (id : ℕ) (direction : Direction) (b : Block) → IsConsistent b → IsConsistent (with_direction id direction b)
consistent_direction id direction b is = consistent_field kind.BTerm b _ id (λ x. refl) (λ x. refl) is

pub consistent_special : (id : ℕ) (special : Bool) (b : Block) → IsConsistent b → IsConsistent (with_special id special b)
consistent_special id special b is = consistent_field kind.Net b _ id (λ x. refl) (λ x. refl) is

pub consistent_master : (id master : ℕ) (b : Block) → IsConsistent b → IsConsistent (with_master id master b)
consistent_master id master b is = consistent_field kind.Inst b _ id (λ x. refl) (λ x. refl) is

pub consistent_terminals : (id : ℕ) (terminals : List ℕ) (b : Block) → IsConsistent b → IsConsistent (with_terminals id terminals b)
consistent_terminals id terminals b is = consistent_field kind.Inst b _ id (λ x. refl) (λ x. refl) is

pub consistent_index : (id index : ℕ) (b : Block) → IsConsistent b → IsConsistent (with_index id index b)
consistent_index id index b is = consistent_field kind.ITerm b _ id tt (λ x. refl) is

-- an object gets a name that no other object of its kind has
consistent_named : (k : Kind) (name : Lens (Entry k) (List ℕ)) → (laws k).name ≡ Some name → (new : List ℕ) (id : ℕ) (b : Block) → ((x : Entry k) → own_lists k (name.set new x) ≡ own_lists k x) → IsTrue (is_live (table_of k b) id) → ((other : ℕ) → name_by name.get other (table_of k b) ≡ Some new → other ≡ id) → IsConsistent b → IsConsistent (with_table k (on_record (name.set new) id (table_of k b)) b)
consistent_named k name named new id b same live free is =
    let t = table_of k b in
    let x = live_record t id live in
    consistent_entry k b (name.set new) id
    (subst (λ o. HasDistinctNames o (on_record (name.set new) id t)) (sym named)
    (named_again name.get (name.set new) id x.value t x.is (λ other at. free other (at ∙ ap Some (name.set_get new x.value))) (subst (λ o. HasDistinctNames o t) named (is.names k))))
    same is

pub consistent_renamed : (k : Kind) (id : ℕ) (name : List ℕ) (b : Block) → IsTrue (live_in k id b) → IsFreeBut k id name b → IsConsistent b → IsConsistent (with_name k id name b)
consistent_renamed kind.Inst id name b live free is = consistent_named kind.Inst inst_name refl name id b (λ x. refl) live free is
consistent_renamed kind.Net id name b live free is = consistent_named kind.Net net_name refl name id b (λ x. refl) live free is
consistent_renamed kind.BTerm id name b live free is = consistent_named kind.BTerm bterm_name refl name id b (λ x. refl) live free is
consistent_renamed kind.Row id name b live free is = consistent_named kind.Row row_name refl name id b (λ x. refl) live free is
consistent_renamed kind.Region id name b live free is = consistent_named kind.Region region_name refl name id b (λ x. refl) live free is
consistent_renamed kind.Group id name b live free is = consistent_named kind.Group group_name refl name id b (λ x. refl) live free is
consistent_renamed k id name b live free is = is
