-- When the cells of a block stand for its tables.
use Rattle.std.specs.Prelude.{◌≡◌, List, ℕ, length}
use Rattle.std.specs.Option.{option_map, option_map_or}
use Rattle.slot_pool.specs.Mapped.{plain}
use Rattle.slot_pool.specs.Table.{Table, record_at}
use Rattle.odb_base.specs.declared.codes.kind.Kind.{Kind}
use Rattle.odb_base.specs.declared.codes.kind.Kind.TheVariants as kind
use Rattle.link_list.specs.declared.link.Head.{Head}
use Rattle.link_list.specs.Lists.{list_of}
use Rattle.link_list.specs.Standing.{Stands}
use Rattle.block_cells.specs.Cells.{Cell, Cells, cells_of, no_head}
use Rattle.block_cells.specs.Lists.{is_cell, link_at, most}
use Rattle.block_cells.specs.Lists as cell
use Rattle.block_store.specs.Block.{Block}
use Rattle.block_store.specs.Consistent.{Groups, ListSort, Members, OwnLists, Pins, Props, Terms, Wires, lists_in, of_sort}
use Rattle.block_store.specs.Kinds.{Entry, table_of}

-- the entry of a cell with these lists
abbrev pub entry : (k : Kind) → Cell k → OwnLists → Entry k
entry kind.Inst x l = record { fields = x.value.fields; props = l.props }
entry kind.ITerm x l = x.value
entry kind.Net x l = record { fields = x.fields; terms = l.terms; wires = l.wires; props = l.props }
entry kind.BTerm x l = record { fields = x.value.fields; pins = l.pins }
entry kind.Pin x l = x.value
entry kind.Row x l = record { fields = x.fields; props = l.props }
entry kind.Track x l = x
entry kind.Wire x l = x.value
entry kind.Blockage x l = x
entry kind.Region x l = record { fields = x.fields; groups = l.groups; props = l.props }
entry kind.Group x l = record { fields = x.value.fields; members = l.members; props = l.props }
entry kind.Prop x l = x.value

-- the heads of the lists that an object has; no head of a list that objects of its kind don't have
pub record OwnHeads : Type 0 where
  pub terms : Head
  pub wires : Head
  pub members : Head
  pub pins : Head
  pub groups : Head
  pub props : Head

abbrev pub no_heads : OwnHeads
no_heads = record { terms = no_head; wires = no_head; members = no_head; pins = no_head; groups = no_head; props = no_head }

abbrev pub own_heads : (k : Kind) → Cell k → OwnHeads
own_heads kind.Inst x = record no_heads { props = x.value.props }
own_heads kind.Net x = record no_heads { terms = x.terms; wires = x.wires; props = x.props }
own_heads kind.BTerm x = record no_heads { pins = x.value.pins }
own_heads kind.Row x = record no_heads { props = x.props }
own_heads kind.Region x = record no_heads { groups = x.groups; props = x.props }
own_heads kind.Group x = record no_heads { members = x.value.members; props = x.value.props }
own_heads other x = no_heads

abbrev pub head_of : ListSort → OwnHeads → Head
head_of Terms h = h.terms
head_of Wires h = h.wires
head_of Members h = h.members
head_of Pins h = h.pins
head_of Groups h = h.groups
head_of Props h = h.props

-- the heads of the object in a slot of a kind's table
abbrev pub heads_in : (k : Kind) → Table (Cell k) → ℕ → OwnHeads
heads_in k t id = option_map_or (own_heads k) (record_at t id) no_heads

-- the sort of cells of a sort of lists
abbrev pub sort_of : ListSort → cell.Sort
sort_of Terms = cell.Terms
sort_of Wires = cell.Wires
sort_of Members = cell.Members
sort_of Pins = cell.Pins
sort_of Groups = cell.Groups
sort_of Props = cell.Props

-- the lists that heads lead to
abbrev pub read_list : Cells → OwnHeads → ListSort → List ℕ
read_list c h s = list_of (link_at (sort_of s) c) (most (sort_of s) c) (head_of s h)

abbrev pub lists_by : Cells → OwnHeads → OwnLists
lists_by c h = record {
  terms = read_list c h Terms;
  wires = read_list c h Wires;
  members = read_list c h Members;
  pins = read_list c h Pins;
  groups = read_list c h Groups;
  props = read_list c h Props;
}

-- the table of a kind, each object with the lists that its heads lead to
abbrev pub shown : (k : Kind) → Cells → Table (Entry k)
shown k c = plain (λ x. entry k x (lists_by c (own_heads k x))) (cells_of k c)

-- the block
abbrev pub block_of : Cells → Block
block_of c = record {
  header = c.header;
  inst = shown kind.Inst c;
  iterm = shown kind.ITerm c;
  net = shown kind.Net c;
  bterm = shown kind.BTerm c;
  pin = shown kind.Pin c;
  row = shown kind.Row c;
  track = shown kind.Track c;
  wire = shown kind.Wire c;
  blockage = shown kind.Blockage c;
  region = shown kind.Region c;
  group = shown kind.Group c;
  prop = shown kind.Prop c;
}

-- a table of cells shows a table of entries, each with its own lists
pub record Shows (k : Kind) (t : Table (Cell k)) (u : Table (Entry k)) : Type 0 where
  pub slots : length t.slots ≡ length u.slots
  pub free : t.free ≡ u.free
  pub rows : (id : ℕ) → record_at u id ≡ option_map (λ x. entry k x (lists_in k u id)) (record_at t id)

-- the cells stand for a block: its tables are shown, and each head stands for the list of its object
pub record StandsFor (c : Cells) (b : Block) : Type 0 where
  pub header : c.header ≡ b.header
  pub tables : (k : Kind) → Shows k (cells_of k c) (table_of k b)
  pub lists : (s : ListSort) (k : Kind) (id : ℕ) → Stands (is_cell (sort_of s) c) (link_at (sort_of s) c) (head_of s (heads_in k (cells_of k c) id)) (of_sort s (lists_in k (table_of k b) id))
