-- The lists of objects as they lie in the cells: the head of each is in the cell of the object that has it, and the links
-- are in the cells of its members.
use Rattle.std.specs.Prelude.{◌/◌, ◌+◌, ◌*◌, Bool, false, List, ℕ, IsTrue, if◌then◌else◌, length}
use Rattle.std.specs.Option.{option_map_or}
use Rattle.slot_pool.specs.Table.{is_live, record_at}
use Rattle.odb_base.specs.declared.codes.kind.Kind.{Kind}
use Rattle.odb_base.specs.declared.codes.kind.Kind.TheVariants as kind
use Rattle.link_list.specs.declared.link.Head.{Head}
use Rattle.link_list.specs.declared.link.Link.{Link}
use Rattle.link_list.specs.Standing.{members_from}
use Rattle.linked_pool.specs.Linking.{no_link, relinked}
use Rattle.linked_pool.specs.Pairs.{is_first}
use Rattle.block_cells.specs.declared.list_of.ListOf.{ListOf}
use Rattle.block_cells.specs.declared.list_of.ListOf.TheVariants as list
use Rattle.block_cells.specs.Cells.{Cells, no_head, on_cell}

-- the sorts of lists, by what stands in them
pub data Sort : Type 0 where
  Terms : Sort
  Wires : Sort
  Members : Sort
  Pins : Sort
  Groups : Sort
  Props : Sort
  -- the terminals of instances are a field of the record, and no list of links
  None : Sort

abbrev pub sort_of : ListOf → Sort
sort_of (list.Terms net) = Terms
sort_of (list.Wires net) = Wires
sort_of (list.Members group) = Members
sort_of (list.Pins bterm) = Pins
sort_of (list.Groups region) = Groups
sort_of (list.Props k id) = Props
sort_of (list.InstTerms inst) = None

-- the list is one of links
abbrev pub IsLinked : ListOf → Type 0
IsLinked (list.InstTerms inst) = ⊥
IsLinked other = Unit {0}

-- the member of a list of the sort has a cell
abbrev pub is_cell : Sort → Cells → ℕ → Bool
is_cell Terms c member = if is_first member then is_live c.iterm (member / 2) else is_live c.bterm (member / 2)
is_cell Wires c member = is_live c.wire member
is_cell Members c member = is_live c.inst member
is_cell Pins c member = is_live c.pin member
is_cell Groups c member = is_live c.group member
is_cell Props c member = is_live c.prop member
is_cell None c member = false

-- its link, as the member of a list of the sort
abbrev pub link_at : Sort → Cells → ℕ → Link
link_at Terms c member = if is_first member then option_map_or (λ x. x.link) (record_at c.iterm (member / 2)) no_link else option_map_or (λ x. x.link) (record_at c.bterm (member / 2)) no_link
link_at Wires c member = option_map_or (λ x. x.link) (record_at c.wire member) no_link
link_at Members c member = option_map_or (λ x. x.link) (record_at c.inst member) no_link
link_at Pins c member = option_map_or (λ x. x.link) (record_at c.pin member) no_link
link_at Groups c member = option_map_or (λ x. x.link) (record_at c.group member) no_link
link_at Props c member = option_map_or (λ x. x.link) (record_at c.prop member) no_link
link_at None c member = no_link

-- the cells with another link for a member
abbrev pub with_link : Sort → Cells → ℕ → Link → Cells
with_link Terms c member link = if is_first member then on_cell kind.ITerm (relinked link) (member / 2) c else on_cell kind.BTerm (relinked link) (member / 2) c
with_link Wires c member link = on_cell kind.Wire (relinked link) member c
with_link Members c member link = on_cell kind.Inst (relinked link) member c
with_link Pins c member link = on_cell kind.Pin (relinked link) member c
with_link Groups c member link = on_cell kind.Group (relinked link) member c
with_link Props c member link = on_cell kind.Prop (relinked link) member c
with_link None c member link = c

-- the head of the properties of an object; no head where there is no object, or its kind has no properties
abbrev pub props_at : Kind → ℕ → Cells → Head
props_at kind.Inst id c = option_map_or (λ x. x.value.props) (record_at c.inst id) no_head
props_at kind.Net id c = option_map_or (λ x. x.props) (record_at c.net id) no_head
props_at kind.Row id c = option_map_or (λ x. x.props) (record_at c.row id) no_head
props_at kind.Region id c = option_map_or (λ x. x.props) (record_at c.region id) no_head
props_at kind.Group id c = option_map_or (λ x. x.value.props) (record_at c.group id) no_head
props_at other id c = no_head

-- the head of a list
abbrev pub head_at : ListOf → Cells → Head
head_at (list.Terms net) c = option_map_or (λ x. x.terms) (record_at c.net net.0) no_head
head_at (list.Wires net) c = option_map_or (λ x. x.wires) (record_at c.net net.0) no_head
head_at (list.Members group) c = option_map_or (λ x. x.value.members) (record_at c.group group.0) no_head
head_at (list.Pins bterm) c = option_map_or (λ x. x.value.pins) (record_at c.bterm bterm.0) no_head
head_at (list.Groups region) c = option_map_or (λ x. x.groups) (record_at c.region region.0) no_head
head_at (list.Props k id) c = props_at k id c
head_at (list.InstTerms inst) c = no_head

-- the cells with another head of the properties of an object
abbrev pub with_props : Kind → ℕ → Head → Cells → Cells
with_props kind.Inst id head c = on_cell kind.Inst (λ x. record x { value = record x.value { props = head } }) id c
with_props kind.Net id head c = on_cell kind.Net (λ x. record x { props = head }) id c
with_props kind.Row id head c = on_cell kind.Row (λ x. record x { props = head }) id c
with_props kind.Region id head c = on_cell kind.Region (λ x. record x { props = head }) id c
with_props kind.Group id head c = on_cell kind.Group (λ x. record x { value = record x.value { props = head } }) id c
with_props other id head c = c

-- the cells with another head of a list
abbrev pub with_head : ListOf → Head → Cells → Cells
with_head (list.Terms net) head c = on_cell kind.Net (λ x. record x { terms = head }) net.0 c
with_head (list.Wires net) head c = on_cell kind.Net (λ x. record x { wires = head }) net.0 c
with_head (list.Members group) head c = on_cell kind.Group (λ x. record x { value = record x.value { members = head } }) group.0 c
with_head (list.Pins bterm) head c = on_cell kind.BTerm (λ x. record x { value = record x.value { pins = head } }) bterm.0 c
with_head (list.Groups region) head c = on_cell kind.Region (λ x. record x { groups = head }) region.0 c
with_head (list.Props k id) head c = with_props k id head c
with_head (list.InstTerms inst) head c = c

-- an object of the kind is there, and objects of the kind have properties
abbrev pub HasProps : Kind → ℕ → Cells → Type 0
HasProps kind.Inst id c = IsTrue (is_live c.inst id)
HasProps kind.Net id c = IsTrue (is_live c.net id)
HasProps kind.Row id c = IsTrue (is_live c.row id)
HasProps kind.Region id c = IsTrue (is_live c.region id)
HasProps kind.Group id c = IsTrue (is_live c.group id)
HasProps other id c = ⊥

-- the object that has the list is there
abbrev pub HasList : ListOf → Cells → Type 0
HasList (list.Terms net) c = IsTrue (is_live c.net net.0)
HasList (list.Wires net) c = IsTrue (is_live c.net net.0)
HasList (list.Members group) c = IsTrue (is_live c.group group.0)
HasList (list.Pins bterm) c = IsTrue (is_live c.bterm bterm.0)
HasList (list.Groups region) c = IsTrue (is_live c.region region.0)
HasList (list.Props k id) c = HasProps k id c
HasList (list.InstTerms inst) c = ⊥

-- no cell of a member of a list of the sort is above this number
abbrev pub most : Sort → Cells → ℕ
most Terms c = 2 * length c.iterm.slots + 2 * length c.bterm.slots + 1
most Wires c = length c.wire.slots
most Members c = length c.inst.slots
most Pins c = length c.pin.slots
most Groups c = length c.group.slots
most Props c = length c.prop.slots
most None c = 0

-- the members from a number on, by the links
abbrev pub rest_from : Sort → Cells → ℕ → List ℕ
rest_from s c next = members_from (link_at s c) (most s c) next
