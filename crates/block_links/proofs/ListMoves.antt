-- What a change of a list asks of the cells, a block that lies in them has.
use Rattle.std.proofs.Common.{◌≢◌, ◌≡◌, ◌/◌, ◌%◌, true, false, List, ℕ, Option, None, Some, IsTrue, arith, eq-eqb, refl, sym, ap, subst, ◌∙◌}
use Rattle.std.specs.Option.{option_map_or}
use Rattle.std.proofs.lemmas.Bool.{ne_eqb}
use Rattle.slot_pool.specs.Table.{is_live, record_at}
use Rattle.slot_pool.proofs.Mapped.{live_plain}
use Rattle.odb_base.specs.Ids.{holds}
use Rattle.odb_base.specs.declared.codes.kind.Kind.{Kind}
use Rattle.odb_base.specs.declared.codes.kind.Kind.TheVariants as kind
use Rattle.odb_base.specs.declared.id.InstId.{InstId}
use Rattle.link_list.specs.declared.link.Head.{Head}
use Rattle.link_list.specs.Standing.{Stands}
use Rattle.linked_pool.specs.Changes.{CanChange, changed, with_links}
use Rattle.linked_pool.specs.Pairs.{is_first}
use Rattle.linked_pool.specs.declared.changes.Change.{Change}
use Rattle.linked_pool.specs.declared.changes.Change.TheVariants as change
use Rattle.block_cells.specs.Cells.{Cells, cells_of, no_head}
use Rattle.block_cells.specs.Lists.{IsLinked, head_at, is_cell, link_at, props_at, with_head, with_link}
use Rattle.block_cells.specs.Lists as cell
use Rattle.block_cells.specs.declared.list_of.ListOf.{ListOf}
use Rattle.block_cells.specs.declared.list_of.ListOf.TheVariants as list
use Rattle.block_store.specs.Alone.{IsOutside, IsTerminal, OfBlock, OfInst}
use Rattle.block_store.specs.Block.{Block}
use Rattle.block_store.specs.Consistent.{Groups, IsConsistent, ListSort, Members, Pins, Props, Terms, Wires, lists_of, no_lists, of_sort, own_lists}
use Rattle.block_store.specs.Kinds.{table_of}
use Rattle.block_store.specs.Lists.{HasList, HasProps, bterm_number, iterm_number, list_at, on_list}
use Rattle.block_store.specs.Lists as block
use Rattle.block_store.proofs.Consistency.{IsInNone}
use Rattle.block_store.proofs.ConsistentLists.{consistent_linked, consistent_relinked, consistent_unlinked, in_none}
use Rattle.block_store.proofs.Joined.{list_seen_by}
use Rattle.block_links.specs.Changing.{CanChangeIn}
use Rattle.block_links.specs.Standing.{OwnHeads, StandsFor, block_of, head_of, heads_in, no_heads, own_heads, sort_of}
use Rattle.block_links.specs.Stores.{IsBlock, named}
use Rattle.block_links.proofs.Coming.{none_stand}
use Rattle.block_links.proofs.Linked.{AreLinksSet, become_changed, sort_in}
use Rattle.block_links.proofs.Listing.{ComesFromOutside, linked, links_set, live_same}
use Rattle.block_links.proofs.Moves.{Become}
use Rattle.block_links.proofs.Reading.{table_shown}
use Rattle.block_links.proofs.Seen.{live_cells, seen}

head_seen : {A : Type 0} (see : A → OwnHeads) (part : OwnHeads → Head) (o : Option A) → part no_heads ≡ no_head → part (option_map_or see o no_heads) ≡ option_map_or (λ x. part (see x)) o no_head
head_seen see part None none = none
head_seen see part (Some x) none = refl

module _ (c : Cells) (stands : StandsFor c (block_of c)) where
  abbrev b : Block
  b = block_of c

  -- a head and a list of an object, found in its cell and in its entry
  stands_as : (s : ListSort) (k : Kind) (id : ℕ) (head : Head) (l : List ℕ) → head_of s (heads_in k (cells_of k c) id) ≡ head → of_sort s (lists_of b k id) ≡ l → Stands (is_cell (sort_of s) c) (link_at (sort_of s) c) head l
  stands_as s k id head l heads lists = subst (λ h. Stands (is_cell (sort_of s) c) (link_at (sort_of s) c) h l) heads (subst (Stands (is_cell (sort_of s) c) (link_at (sort_of s) c) _) lists (stands.lists s k id))

  props_stand : (k : Kind) (id : ℕ) → Stands (is_cell cell.Props c) (link_at cell.Props c) (props_at k id c) (block.props_at k id b)
  props_stand kind.Inst id = stands_as Props kind.Inst id _ _ (head_seen (own_heads kind.Inst) (λ h. h.props) (record_at c.inst id) refl) (list_seen_by (own_lists kind.Inst) no_lists (λ l. l.props) (record_at b.inst id) refl)
  props_stand kind.Net id = stands_as Props kind.Net id _ _ (head_seen (own_heads kind.Net) (λ h. h.props) (record_at c.net id) refl) (list_seen_by (own_lists kind.Net) no_lists (λ l. l.props) (record_at b.net id) refl)
  props_stand kind.Row id = stands_as Props kind.Row id _ _ (head_seen (own_heads kind.Row) (λ h. h.props) (record_at c.row id) refl) (list_seen_by (own_lists kind.Row) no_lists (λ l. l.props) (record_at b.row id) refl)
  props_stand kind.Region id = stands_as Props kind.Region id _ _ (head_seen (own_heads kind.Region) (λ h. h.props) (record_at c.region id) refl) (list_seen_by (own_lists kind.Region) no_lists (λ l. l.props) (record_at b.region id) refl)
  props_stand kind.Group id = stands_as Props kind.Group id _ _ (head_seen (own_heads kind.Group) (λ h. h.props) (record_at c.group id) refl) (list_seen_by (own_lists kind.Group) no_lists (λ l. l.props) (record_at b.group id) refl)
  props_stand k id = none_stand c Props

  -- the head of a list of links stands for the list
  pub head_stands : (of : ListOf) → IsLinked of → Stands (is_cell (cell.sort_of of) c) (link_at (cell.sort_of of) c) (head_at of c) (list_at (named of) b)
  head_stands (list.Terms object) is = stands_as Terms kind.Net object.0 _ _ (head_seen (own_heads kind.Net) (λ h. h.terms) (record_at c.net object.0) refl) (list_seen_by (own_lists kind.Net) no_lists (λ l. l.terms) (record_at b.net object.0) refl)
  head_stands (list.Wires object) is = stands_as Wires kind.Net object.0 _ _ (head_seen (own_heads kind.Net) (λ h. h.wires) (record_at c.net object.0) refl) (list_seen_by (own_lists kind.Net) no_lists (λ l. l.wires) (record_at b.net object.0) refl)
  head_stands (list.Members object) is = stands_as Members kind.Group object.0 _ _ (head_seen (own_heads kind.Group) (λ h. h.members) (record_at c.group object.0) refl) (list_seen_by (own_lists kind.Group) no_lists (λ l. l.members) (record_at b.group object.0) refl)
  head_stands (list.Pins object) is = stands_as Pins kind.BTerm object.0 _ _ (head_seen (own_heads kind.BTerm) (λ h. h.pins) (record_at c.bterm object.0) refl) (list_seen_by (own_lists kind.BTerm) no_lists (λ l. l.pins) (record_at b.bterm object.0) refl)
  head_stands (list.Groups object) is = stands_as Groups kind.Region object.0 _ _ (head_seen (own_heads kind.Region) (λ h. h.groups) (record_at c.region object.0) refl) (list_seen_by (own_lists kind.Region) no_lists (λ l. l.groups) (record_at b.region object.0) refl)
  head_stands (list.Props k id) is = props_stand k id
  head_stands (list.InstTerms inst) is = absurd is

pub is_linked : (of : ListOf) (b : Block) → HasList (named of) b → IsLinked of
is_linked (list.InstTerms inst) b has = absurd has
is_linked of b has = tt

-- a terminal that is there has a cell
terminal_cell : (c : Cells) (member : ℕ) → IsTerminal (block_of c) member → is_cell cell.Terms c member ≡ true
terminal_cell c member (OfInst id live) =
    let first : is_first (iterm_number id) ≡ true = eq-eqb (iterm_number id % 2) 0 (omega arith) in
    let half : iterm_number id / 2 ≡ id = omega arith in
    rw (first, half) (sym (live_cells c kind.ITerm id) ∙ live)
terminal_cell c member (OfBlock id live) =
    let second : is_first (bterm_number id) ≡ false = ne_eqb (bterm_number id % 2) 0 (λ e. absurd (omega (arith, e))) in
    let half : bterm_number id / 2 ≡ id = omega arith in
    rw (second, half) (sym (live_cells c kind.BTerm id) ∙ live)

-- who can enter a list has a cell, and is in no list of the sort
record IsFree (of : ListOf) (member : ℕ) (c : Cells) : Type 0 where
  pub there : is_cell (cell.sort_of of) c member ≡ true
  pub outside : IsInNone (sort_in of) member (block_of c)

free_by : (of : ListOf) (member : ℕ) (c : Cells) → IsOutside (named of) member (block_of c) → IsFree of member c
free_by (list.Terms object) member c out = record { there = terminal_cell c member out.0; outside = in_none Terms member (block_of c) out.1 }
free_by (list.Wires object) member c out = record { there = sym (live_cells c kind.Wire member) ∙ out.0; outside = in_none Wires member (block_of c) out.1 }
free_by (list.Members object) member c out = record { there = sym (live_cells c kind.Inst member) ∙ out.0; outside = in_none Members member (block_of c) out.1 }
free_by (list.Pins object) member c out = record { there = sym (live_cells c kind.Pin member) ∙ out.0; outside = in_none Pins member (block_of c) out.1 }
free_by (list.Groups object) member c out = record { there = sym (live_cells c kind.Group member) ∙ out.0; outside = in_none Groups member (block_of c) out.1 }
free_by (list.Props k id) member c out = record { there = sym (live_cells c kind.Prop member) ∙ out.0; outside = in_none Props member (block_of c) out.1 }
free_by (list.InstTerms inst) member c out = absurd out

pub from_outside : (of : ListOf) (ch : Change) (c : Cells) → CanChangeIn ch (named of) (block_of c) → ComesFromOutside ch (sort_in of) (block_of c)
from_outside of (change.Enter member) c can = (free_by of member c can).outside
from_outside of (change.Return member next) c can = (free_by of member c can.0).outside
from_outside of (change.Leave member) c can = tt

-- who is in no list of the sort is not in this one
not_in : (of : ListOf) (member : ℕ) (b : Block) → HasList (named of) b → IsInNone (sort_in of) member b → holds (list_at (named of) b) member ≡ false
not_in (list.Terms object) member b has none = ap (λ l. holds l member) (sym (list_seen_by (own_lists kind.Net) no_lists (λ l. l.terms) (record_at b.net object.0) refl)) ∙ none kind.Net object.0
not_in (list.Wires object) member b has none = ap (λ l. holds l member) (sym (list_seen_by (own_lists kind.Net) no_lists (λ l. l.wires) (record_at b.net object.0) refl)) ∙ none kind.Net object.0
not_in (list.Members object) member b has none = ap (λ l. holds l member) (sym (list_seen_by (own_lists kind.Group) no_lists (λ l. l.members) (record_at b.group object.0) refl)) ∙ none kind.Group object.0
not_in (list.Pins object) member b has none = ap (λ l. holds l member) (sym (list_seen_by (own_lists kind.BTerm) no_lists (λ l. l.pins) (record_at b.bterm object.0) refl)) ∙ none kind.BTerm object.0
not_in (list.Groups object) member b has none = ap (λ l. holds l member) (sym (list_seen_by (own_lists kind.Region) no_lists (λ l. l.groups) (record_at b.region object.0) refl)) ∙ none kind.Region object.0
not_in (list.Props kind.Inst id) member b has none = ap (λ l. holds l member) (sym (list_seen_by (own_lists kind.Inst) no_lists (λ l. l.props) (record_at b.inst id) refl)) ∙ none kind.Inst id
not_in (list.Props kind.Net id) member b has none = ap (λ l. holds l member) (sym (list_seen_by (own_lists kind.Net) no_lists (λ l. l.props) (record_at b.net id) refl)) ∙ none kind.Net id
not_in (list.Props kind.Row id) member b has none = ap (λ l. holds l member) (sym (list_seen_by (own_lists kind.Row) no_lists (λ l. l.props) (record_at b.row id) refl)) ∙ none kind.Row id
not_in (list.Props kind.Region id) member b has none = ap (λ l. holds l member) (sym (list_seen_by (own_lists kind.Region) no_lists (λ l. l.props) (record_at b.region id) refl)) ∙ none kind.Region id
not_in (list.Props kind.Group id) member b has none = ap (λ l. holds l member) (sym (list_seen_by (own_lists kind.Group) no_lists (λ l. l.props) (record_at b.group id) refl)) ∙ none kind.Group id
not_in (list.Props k id) member b has none = absurd has
not_in (list.InstTerms inst) member b has none = absurd has

-- the links can be set for the change
pub can_links : (of : ListOf) (ch : Change) (c : Cells) → HasList (named of) (block_of c) → CanChangeIn ch (named of) (block_of c) → CanChange (is_cell (cell.sort_of of) c) ch (list_at (named of) (block_of c))
can_links of (change.Enter member) c has can = let free = free_by of member c can in (free.there, not_in of member (block_of c) has free.outside)
can_links of (change.Return member next) c has can = let free = free_by of member c can.0 in (free.there, not_in of member (block_of c) has free.outside, can.1)
can_links of (change.Leave member) c has can = can

-- the block with the change is consistent
pub consistent_change : (of : ListOf) (ch : Change) (b : Block) → HasList (named of) b → CanChangeIn ch (named of) b → IsConsistent b → IsConsistent (on_list (changed ch) (named of) b)
consistent_change of (change.Enter member) b has can is = consistent_linked (named of) member b (record { has = has; outside = can }) is
consistent_change of (change.Return member next) b has can is = consistent_relinked (named of) member b next (record { has = has; outside = can.0 }) is
consistent_change of (change.Leave member) b has can is = consistent_unlinked (named of) member b has is

-- the object of the list is there after the links are set
module _ (c : Cells) (s : ListSort) (ch : Change) (l : List ℕ) where
  live_then : (k : Kind) (id : ℕ) → IsTrue (is_live (table_of k (block_of c)) id) → IsTrue (is_live (cells_of k (linked s ch l c)) id)
  live_then k id live = live_same c (linked s ch l c) (links_set s ch l c) k id ∙ sym (live_plain (seen k c) (cells_of k c) id) ∙ subst (λ t. IsTrue (is_live t id)) (table_shown c k) live

pub has_then : (of : ListOf) (ch : Change) (l : List ℕ) (c d : Cells) → HasList (named of) (block_of c) → d ≡ with_links (with_link (cell.sort_of of)) (link_at (cell.sort_of of)) ch l c → cell.HasList of d
has_then (list.Terms object) ch l c d has moved = subst (cell.HasList (list.Terms object)) (sym moved) (live_then c Terms ch l kind.Net object.0 has)
has_then (list.Wires object) ch l c d has moved = subst (cell.HasList (list.Wires object)) (sym moved) (live_then c Wires ch l kind.Net object.0 has)
has_then (list.Members object) ch l c d has moved = subst (cell.HasList (list.Members object)) (sym moved) (live_then c Members ch l kind.Group object.0 has)
has_then (list.Pins object) ch l c d has moved = subst (cell.HasList (list.Pins object)) (sym moved) (live_then c Pins ch l kind.BTerm object.0 has)
has_then (list.Groups object) ch l c d has moved = subst (cell.HasList (list.Groups object)) (sym moved) (live_then c Groups ch l kind.Region object.0 has)
has_then (list.Props kind.Inst id) ch l c d has moved = subst (cell.HasList (list.Props kind.Inst id)) (sym moved) (live_then c Props ch l kind.Inst id has)
has_then (list.Props kind.Net id) ch l c d has moved = subst (cell.HasList (list.Props kind.Net id)) (sym moved) (live_then c Props ch l kind.Net id has)
has_then (list.Props kind.Row id) ch l c d has moved = subst (cell.HasList (list.Props kind.Row id)) (sym moved) (live_then c Props ch l kind.Row id has)
has_then (list.Props kind.Region id) ch l c d has moved = subst (cell.HasList (list.Props kind.Region id)) (sym moved) (live_then c Props ch l kind.Region id has)
has_then (list.Props kind.Group id) ch l c d has moved = subst (cell.HasList (list.Props kind.Group id)) (sym moved) (live_then c Props ch l kind.Group id has)
has_then (list.Props k id) ch l c d has moved = absurd has
has_then (list.InstTerms inst) ch l c d has moved = absurd has

-- a list of the block changes where its links are set, and its head
pub become_linked : (of : ListOf) (ch : Change) (head : Head) (c d e : Cells) → IsBlock c → HasList (named of) (block_of c) → CanChangeIn ch (named of) (block_of c) → AreLinksSet (cell.sort_of of) ch head (list_at (named of) (block_of c)) c d → e ≡ with_head of head d → Become e (on_list (changed ch) (named of) (block_of c))
become_linked of ch head c d e lawful has can set moved =
    become_changed c d e lawful ch head of has (from_outside of ch c can) set moved (consistent_change of ch (block_of c) has can lawful.consistent)

-- every other list than the terminals of an instance is one of links
pub linked_unless : (of : ListOf) → ((inst : InstId) → of ≢ list.InstTerms inst) → IsLinked of
linked_unless (list.InstTerms inst) other = absurd (other inst refl)
linked_unless of other = tt
