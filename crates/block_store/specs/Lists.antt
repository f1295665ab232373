-- The lists of objects, and what becomes of a block where one of them changes.
use Rattle.std.specs.Prelude.{◌+◌, ◌*◌, List, [], ℕ, Option, None, Some, IsTrue}
use Rattle.slot_pool.specs.Mapped.{on_record}
use Rattle.slot_pool.specs.Table.{is_live, record_at}
use Rattle.odb_base.specs.declared.codes.kind.Kind.{Kind}
use Rattle.odb_base.specs.declared.codes.kind.Kind.TheVariants as kind
use Rattle.block_store.specs.declared.list_of.ListOf.{ListOf}
use Rattle.block_store.specs.declared.list_of.ListOf.TheVariants as list
use Rattle.block_store.specs.Block.{Block}

module _ {A : Type 0} where
  -- a list that the object in a slot has; no list where there is no object
  abbrev pub list_in : (A → List ℕ) → Option A → List ℕ
  list_in list_of None = []
  list_in list_of (Some x) = list_of x

-- the number that stands for a terminal in the list of a net: twice the identifier, and one more for a terminal
-- of the block
abbrev pub iterm_number : ℕ → ℕ
iterm_number id = 2 * id

abbrev pub bterm_number : ℕ → ℕ
bterm_number id = 2 * id + 1

-- the number of a terminal of either kind
abbrev pub term_number : Kind → ℕ → ℕ
term_number kind.BTerm id = bterm_number id
term_number other id = iterm_number id

-- the properties of an object
abbrev pub props_at : Kind → ℕ → Block → List ℕ
props_at kind.Inst id b = list_in (λ e. e.props) (record_at b.inst id)
props_at kind.ITerm id b = []
props_at kind.Net id b = list_in (λ e. e.props) (record_at b.net id)
props_at kind.BTerm id b = []
props_at kind.Pin id b = []
props_at kind.Row id b = list_in (λ e. e.props) (record_at b.row id)
props_at kind.Track id b = []
props_at kind.Wire id b = []
props_at kind.Blockage id b = []
props_at kind.Region id b = list_in (λ e. e.props) (record_at b.region id)
props_at kind.Group id b = list_in (λ e. e.props) (record_at b.group id)
props_at kind.Prop id b = []

-- the members of a list
abbrev pub list_at : ListOf → Block → List ℕ
list_at (list.Terms net) b = list_in (λ e. e.terms) (record_at b.net net.0)
list_at (list.Wires net) b = list_in (λ e. e.wires) (record_at b.net net.0)
list_at (list.Members group) b = list_in (λ e. e.members) (record_at b.group group.0)
list_at (list.Pins bterm) b = list_in (λ e. e.pins) (record_at b.bterm bterm.0)
list_at (list.Groups region) b = list_in (λ e. e.groups) (record_at b.region region.0)
list_at (list.Props k id) b = props_at k id b
list_at (list.InstTerms inst) b = list_in (λ e. e.fields.terminals) (record_at b.inst inst.0)

-- the block with the properties of an object changed
abbrev pub on_props : (List ℕ → List ℕ) → Kind → ℕ → Block → Block
on_props change kind.Inst id b = record b { inst = on_record (λ e. record e { props = change e.props }) id b.inst }
on_props change kind.ITerm id b = b
on_props change kind.Net id b = record b { net = on_record (λ e. record e { props = change e.props }) id b.net }
on_props change kind.BTerm id b = b
on_props change kind.Pin id b = b
on_props change kind.Row id b = record b { row = on_record (λ e. record e { props = change e.props }) id b.row }
on_props change kind.Track id b = b
on_props change kind.Wire id b = b
on_props change kind.Blockage id b = b
on_props change kind.Region id b = record b { region = on_record (λ e. record e { props = change e.props }) id b.region }
on_props change kind.Group id b = record b { group = on_record (λ e. record e { props = change e.props }) id b.group }
on_props change kind.Prop id b = b

-- the block with a list changed; the terminals of an instance are a field of its record, and no list here
abbrev pub on_list : (List ℕ → List ℕ) → ListOf → Block → Block
on_list change (list.Terms net) b = record b { net = on_record (λ e. record e { terms = change e.terms }) net.0 b.net }
on_list change (list.Wires net) b = record b { net = on_record (λ e. record e { wires = change e.wires }) net.0 b.net }
on_list change (list.Members group) b = record b { group = on_record (λ e. record e { members = change e.members }) group.0 b.group }
on_list change (list.Pins bterm) b = record b { bterm = on_record (λ e. record e { pins = change e.pins }) bterm.0 b.bterm }
on_list change (list.Groups region) b = record b { region = on_record (λ e. record e { groups = change e.groups }) region.0 b.region }
on_list change (list.Props k id) b = on_props change k id b
on_list change (list.InstTerms inst) b = b

-- an object of the kind is there, and objects of the kind have properties
abbrev pub HasProps : Kind → ℕ → Block → Type 0
HasProps kind.Inst id b = IsTrue (is_live b.inst id)
HasProps kind.ITerm id b = ⊥
HasProps kind.Net id b = IsTrue (is_live b.net id)
HasProps kind.BTerm id b = ⊥
HasProps kind.Pin id b = ⊥
HasProps kind.Row id b = IsTrue (is_live b.row id)
HasProps kind.Track id b = ⊥
HasProps kind.Wire id b = ⊥
HasProps kind.Blockage id b = ⊥
HasProps kind.Region id b = IsTrue (is_live b.region id)
HasProps kind.Group id b = IsTrue (is_live b.group id)
HasProps kind.Prop id b = ⊥

-- the object that has the list is there
abbrev pub HasList : ListOf → Block → Type 0
HasList (list.Terms net) b = IsTrue (is_live b.net net.0)
HasList (list.Wires net) b = IsTrue (is_live b.net net.0)
HasList (list.Members group) b = IsTrue (is_live b.group group.0)
HasList (list.Pins bterm) b = IsTrue (is_live b.bterm bterm.0)
HasList (list.Groups region) b = IsTrue (is_live b.region region.0)
HasList (list.Props k id) b = HasProps k id b
HasList (list.InstTerms inst) b = ⊥
