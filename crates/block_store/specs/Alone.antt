-- What has to hold of an object before it goes or comes, or enters a list.
use Rattle.std.specs.Prelude.{◌≡◌, List, [], ℕ, Option, None, Some, IsTrue, false}
use Rattle.slot_pool.specs.Table.{is_live, record_at}
use Rattle.odb_base.specs.Ids.{holds}
use Rattle.odb_base.specs.declared.codes.kind.Kind.{Kind}
use Rattle.odb_base.specs.declared.codes.kind.Kind.TheVariants as kind
use Rattle.block_records.specs.Record.{kind_of, name_of}
use Rattle.block_records.specs.declared.record.Record.{Record}
use Rattle.block_store.specs.declared.list_of.ListOf.{ListOf}
use Rattle.block_store.specs.declared.list_of.ListOf.TheVariants as list
use Rattle.block_store.specs.Block.{Block}
use Rattle.block_store.specs.Lists.{HasList, bterm_number, iterm_number, list_in, props_at}
use Rattle.block_store.specs.Names.{IsFree}

-- no net has this number among its terminals
abbrev pub InNoTerms : ℕ → Block → Type 0
InNoTerms member b = (net : ℕ) → holds (list_in (λ e. e.terms) (record_at b.net net)) member ≡ false

-- no net has this wire
abbrev pub InNoWires : ℕ → Block → Type 0
InNoWires member b = (net : ℕ) → holds (list_in (λ e. e.wires) (record_at b.net net)) member ≡ false

-- no object of the kind has this property
abbrev pub InNoProps : Kind → ℕ → Block → Type 0
InNoProps k member b = (id : ℕ) → holds (props_at k id b) member ≡ false

-- no group has this member
abbrev pub InNoMembers : ℕ → Block → Type 0
InNoMembers member b = (group : ℕ) → holds (list_in (λ e. e.members) (record_at b.group group)) member ≡ false

-- no block terminal has this pin
abbrev pub InNoPins : ℕ → Block → Type 0
InNoPins member b = (bterm : ℕ) → holds (list_in (λ e. e.pins) (record_at b.bterm bterm)) member ≡ false

-- no region has this group
abbrev pub InNoGroups : ℕ → Block → Type 0
InNoGroups member b = (region : ℕ) → holds (list_in (λ e. e.groups) (record_at b.region region)) member ≡ false

-- the object stands in no list
abbrev pub IsApart : Kind → ℕ → Block → Type 0
IsApart kind.Inst id b = InNoMembers id b
IsApart kind.ITerm id b = InNoTerms (iterm_number id) b
IsApart kind.Net id b = Unit {0}
IsApart kind.BTerm id b = InNoTerms (bterm_number id) b
IsApart kind.Pin id b = InNoPins id b
IsApart kind.Row id b = Unit {0}
IsApart kind.Track id b = Unit {0}
IsApart kind.Wire id b = InNoWires id b
IsApart kind.Blockage id b = Unit {0}
IsApart kind.Region id b = Unit {0}
IsApart kind.Group id b = InNoGroups id b
IsApart kind.Prop id b = (k : Kind) → InNoProps k id b

-- the object's own lists are empty
abbrev pub IsBare : Kind → ℕ → Block → Type 0
IsBare kind.Inst id b = (list_in (λ e. e.props) (record_at b.inst id) ≡ [])
IsBare kind.ITerm id b = Unit {0}
IsBare kind.Net id b = (list_in (λ e. e.terms) (record_at b.net id) ≡ []) × (list_in (λ e. e.wires) (record_at b.net id) ≡ []) × (list_in (λ e. e.props) (record_at b.net id) ≡ [])
IsBare kind.BTerm id b = (list_in (λ e. e.pins) (record_at b.bterm id) ≡ [])
IsBare kind.Pin id b = Unit {0}
IsBare kind.Row id b = (list_in (λ e. e.props) (record_at b.row id) ≡ [])
IsBare kind.Track id b = Unit {0}
IsBare kind.Wire id b = Unit {0}
IsBare kind.Blockage id b = Unit {0}
IsBare kind.Region id b = (list_in (λ e. e.groups) (record_at b.region id) ≡ []) × (list_in (λ e. e.props) (record_at b.region id) ≡ [])
IsBare kind.Group id b = (list_in (λ e. e.members) (record_at b.group id) ≡ []) × (list_in (λ e. e.props) (record_at b.group id) ≡ [])
IsBare kind.Prop id b = Unit {0}

-- the object can go: it stands in no list, and its own lists are empty
pub record IsAlone (k : Kind) (id : ℕ) (b : Block) : Type 0 where
  pub apart : IsApart k id b
  pub bare : IsBare k id b

-- the name, if there is one, is held by no object of the kind
abbrev pub IsNameFree : Kind → Option (List ℕ) → Block → Type 0
IsNameFree k None b = Unit {0}
IsNameFree k (Some name) b = IsFree k name b

-- the record's name is held by no object of its kind
abbrev pub IsNew : Record → Block → Type 0
IsNew r b = IsNameFree (kind_of r) (name_of r) b

-- the number stands for a terminal that is there
pub data IsTerminal (b : Block) : ℕ → Type 0 where
  OfInst : (id : ℕ) → IsTrue (is_live b.iterm id) → IsTerminal b (iterm_number id)
  OfBlock : (id : ℕ) → IsTrue (is_live b.bterm id) → IsTerminal b (bterm_number id)

-- the member is there, and stands in no list of that sort; lists of properties are of one sort, whatever has them
abbrev pub IsOutside : ListOf → ℕ → Block → Type 0
IsOutside (list.Terms net) member b = IsTerminal b member × InNoTerms member b
IsOutside (list.Wires net) member b = IsTrue (is_live b.wire member) × InNoWires member b
IsOutside (list.Props k id) member b = IsTrue (is_live b.prop member) × ((j : Kind) → InNoProps j member b)
IsOutside (list.Members group) member b = IsTrue (is_live b.inst member) × InNoMembers member b
IsOutside (list.Pins bterm) member b = IsTrue (is_live b.pin member) × InNoPins member b
IsOutside (list.Groups region) member b = IsTrue (is_live b.group member) × InNoGroups member b
IsOutside (list.InstTerms inst) member b = ⊥

-- a member can enter the list: the object that has the list is there, and the member is in no list of the sort
pub record CanEnter (of : ListOf) (member : ℕ) (b : Block) : Type 0 where
  pub has : HasList of b
  pub outside : IsOutside of member b
