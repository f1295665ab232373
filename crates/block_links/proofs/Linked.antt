-- Where a list changes by one member in the cells, it changes in the block.
use Rattle.std.proofs.Common.{◌≡◌, List, ℕ, IsTrue, refl, subst, sym}
use Rattle.slot_pool.specs.Mapped.{on_record}
use Rattle.slot_pool.specs.Table.{is_live, record_at}
use Rattle.odb_base.specs.declared.codes.kind.Kind.{Kind}
use Rattle.odb_base.specs.declared.codes.kind.Kind.TheVariants as kind
use Rattle.link_list.specs.declared.link.Head.{Head}
use Rattle.link_list.specs.Standing.{OthersStand, Stands}
use Rattle.linked_pool.specs.Changes.{changed, members_around, with_links}
use Rattle.linked_pool.specs.declared.changes.Change.{Change}
use Rattle.block_cells.specs.Cells.{Cell, Cells, cells_of, with_cells}
use Rattle.block_cells.specs.Lists.{is_cell, link_at, with_head, with_link, with_props}
use Rattle.block_cells.specs.Lists as cell
use Rattle.block_cells.specs.declared.list_of.ListOf.{ListOf}
use Rattle.block_cells.specs.declared.list_of.ListOf.TheVariants as list
use Rattle.block_store.specs.Block.{Block}
use Rattle.block_store.specs.Consistent.{Groups, IsConsistent, ListSort, Members, OwnLists, Pins, Props, Terms, Wires, lists_of, no_lists, of_sort, own_lists}
use Rattle.block_store.specs.Kinds.{Entry, table_of, with_table}
use Rattle.block_store.specs.Lists.{HasList, HasProps, list_at, on_list, on_props, props_at}
use Rattle.block_store.proofs.Consistency.{on_sort}
use Rattle.block_store.proofs.Joined.{list_seen_by}
use Rattle.block_links.specs.Standing.{block_of, entry, own_heads, sort_of}
use Rattle.block_links.specs.Stores.{IsBlock, named}
use Rattle.block_links.proofs.Listing.{ComesFromOutside, stands_listed, with_head_of}
use Rattle.block_links.proofs.Members.{own_link}
use Rattle.block_links.proofs.Moves.{Become, become}

-- the sort of a list; the terminals of an instance are no list here
abbrev pub sort_in : ListOf → ListSort
sort_in (list.Terms net) = Terms
sort_in (list.Wires net) = Wires
sort_in (list.Members group) = Members
sort_in (list.Pins bterm) = Pins
sort_in (list.Groups region) = Groups
sort_in (list.Props k id) = Props
sort_in (list.InstTerms inst) = Terms

-- over the cells with the links set, the head stands for the list with the change, and the other heads stand as before
pub record AreLinksSet (s : cell.Sort) (ch : Change) (head : Head) (l : List ℕ) (c d : Cells) : Type 0 where
  pub cells : d ≡ with_links (with_link s) (link_at s) ch l c
  pub list : Stands (is_cell s d) (link_at s d) head (changed ch l)
  pub others : OthersStand (is_cell s c) (link_at s c) (is_cell s d) (link_at s d) (members_around ch l)

module _ (c d e : Cells) (lawful : IsBlock c) (ch : Change) (head : Head) where
  abbrev b : Block
  b = block_of c

  become_list : (s : ListSort) (k : Kind) (id : ℕ) (of_cell : Cell k → Cell k) (of_entry : Entry k → Entry k) → ((x : Cell k) (l : OwnLists) → of_entry (entry k x l) ≡ entry k (of_cell x) (on_sort s (changed ch) l)) → ((x : Entry k) → own_lists k (of_entry x) ≡ on_sort s (changed ch) (own_lists k x)) → ((x : Cell k) → own_link k (of_cell x) ≡ own_link k x) → ((x : Cell k) → own_heads k (of_cell x) ≡ with_head_of s head (own_heads k x))
      → IsTrue (is_live (table_of k b) id) → ComesFromOutside ch s b → (l : List ℕ) → l ≡ of_sort s (lists_of b k id) → AreLinksSet (sort_of s) ch head l c d → e ≡ with_cells k (on_record of_cell id (cells_of k d)) d
      → IsConsistent (with_table k (on_record of_entry id (table_of k b)) b) → Become e (with_table k (on_record of_entry id (table_of k b)) b)
  become_list s k id of_cell of_entry same lists links heads live outside l here set moved is =
      let at = subst (λ l. AreLinksSet (sort_of s) ch head l c d) here set in
      let ids = of_sort s (lists_of b k id) in
      let linked = with_links (with_link (sort_of s)) (link_at (sort_of s)) ch ids c in
      let list = subst (λ d. Stands (is_cell (sort_of s) d) (link_at (sort_of s) d) head (changed ch ids)) at.cells at.list in
      let others = subst (λ d. OthersStand (is_cell (sort_of s) c) (link_at (sort_of s) c) (is_cell (sort_of s) d) (link_at (sort_of s) d) (members_around ch ids)) at.cells at.others in
      let there = subst (λ d. e ≡ with_cells k (on_record of_cell id (cells_of k d)) d) at.cells moved in
      subst (λ e. Become e (with_table k (on_record of_entry id (table_of k b)) b)) (sym there)
      (become (with_cells k (on_record of_cell id (cells_of k linked)) linked) (with_table k (on_record of_entry id (table_of k b)) b)
      (stands_listed c b lawful.stands lawful.consistent s k id live ch head of_cell of_entry same lists links heads outside list others) is)

  become_props : (k : Kind) (id : ℕ) → HasProps k id b → ComesFromOutside ch Props b → AreLinksSet cell.Props ch head (props_at k id b) c d → e ≡ with_props k id head d → IsConsistent (on_props (changed ch) k id b) → Become e (on_props (changed ch) k id b)
  become_props kind.Inst id has outside set moved is = become_list Props kind.Inst id (λ x. record x { value = record x.value { props = head } }) (λ x. record x { props = changed ch x.props }) (λ x l. refl) (λ x. refl) (λ x. refl) (λ x. refl) has outside _ (sym (list_seen_by (own_lists kind.Inst) no_lists (λ l. l.props) (record_at b.inst id) refl)) set moved is
  become_props kind.Net id has outside set moved is = become_list Props kind.Net id (λ x. record x { props = head }) (λ x. record x { props = changed ch x.props }) (λ x l. refl) (λ x. refl) (λ x. refl) (λ x. refl) has outside _ (sym (list_seen_by (own_lists kind.Net) no_lists (λ l. l.props) (record_at b.net id) refl)) set moved is
  become_props kind.Row id has outside set moved is = become_list Props kind.Row id (λ x. record x { props = head }) (λ x. record x { props = changed ch x.props }) (λ x l. refl) (λ x. refl) (λ x. refl) (λ x. refl) has outside _ (sym (list_seen_by (own_lists kind.Row) no_lists (λ l. l.props) (record_at b.row id) refl)) set moved is
  become_props kind.Region id has outside set moved is = become_list Props kind.Region id (λ x. record x { props = head }) (λ x. record x { props = changed ch x.props }) (λ x l. refl) (λ x. refl) (λ x. refl) (λ x. refl) has outside _ (sym (list_seen_by (own_lists kind.Region) no_lists (λ l. l.props) (record_at b.region id) refl)) set moved is
  become_props kind.Group id has outside set moved is = become_list Props kind.Group id (λ x. record x { value = record x.value { props = head } }) (λ x. record x { props = changed ch x.props }) (λ x l. refl) (λ x. refl) (λ x. refl) (λ x. refl) has outside _ (sym (list_seen_by (own_lists kind.Group) no_lists (λ l. l.props) (record_at b.group id) refl)) set moved is
  become_props k id has outside set moved is = absurd has

  -- the links of a list are set, and its head
  pub become_changed : (of : ListOf) → HasList (named of) b → ComesFromOutside ch (sort_in of) b → AreLinksSet (cell.sort_of of) ch head (list_at (named of) b) c d → e ≡ with_head of head d → IsConsistent (on_list (changed ch) (named of) b) → Become e (on_list (changed ch) (named of) b)
  become_changed (list.Terms object) has outside set moved is = become_list Terms kind.Net object.0 (λ x. record x { terms = head }) (λ x. record x { terms = changed ch x.terms }) (λ x l. refl) (λ x. refl) (λ x. refl) (λ x. refl) has outside _ (sym (list_seen_by (own_lists kind.Net) no_lists (λ l. l.terms) (record_at b.net object.0) refl)) set moved is
  become_changed (list.Wires object) has outside set moved is = become_list Wires kind.Net object.0 (λ x. record x { wires = head }) (λ x. record x { wires = changed ch x.wires }) (λ x l. refl) (λ x. refl) (λ x. refl) (λ x. refl) has outside _ (sym (list_seen_by (own_lists kind.Net) no_lists (λ l. l.wires) (record_at b.net object.0) refl)) set moved is
  become_changed (list.Members object) has outside set moved is = become_list Members kind.Group object.0 (λ x. record x { value = record x.value { members = head } }) (λ x. record x { members = changed ch x.members }) (λ x l. refl) (λ x. refl) (λ x. refl) (λ x. refl) has outside _ (sym (list_seen_by (own_lists kind.Group) no_lists (λ l. l.members) (record_at b.group object.0) refl)) set moved is
  become_changed (list.Pins object) has outside set moved is = become_list Pins kind.BTerm object.0 (λ x. record x { value = record x.value { pins = head } }) (λ x. record x { pins = changed ch x.pins }) (λ x l. refl) (λ x. refl) (λ x. refl) (λ x. refl) has outside _ (sym (list_seen_by (own_lists kind.BTerm) no_lists (λ l. l.pins) (record_at b.bterm object.0) refl)) set moved is
  become_changed (list.Groups object) has outside set moved is = become_list Groups kind.Region object.0 (λ x. record x { groups = head }) (λ x. record x { groups = changed ch x.groups }) (λ x l. refl) (λ x. refl) (λ x. refl) (λ x. refl) has outside _ (sym (list_seen_by (own_lists kind.Region) no_lists (λ l. l.groups) (record_at b.region object.0) refl)) set moved is
  become_changed (list.Props k id) has outside set moved is = become_props k id has outside set moved is
  become_changed (list.InstTerms inst) has outside set moved is = absurd has
