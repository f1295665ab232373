-- The fields of objects that the calls of a block set, and of which kinds they are.
use Rattle.std.specs.Prelude.{Bool, List, ℕ, Option, None, IsTrue, option_map}
use Rattle.slot_pool.specs.Table.{record_at}
use Rattle.odb_base.specs.declared.codes.direction.Direction.{Direction}
use Rattle.odb_base.specs.Kind.{has_place, has_usage, is_terminal}
use Rattle.odb_base.specs.declared.codes.kind.Kind.{Kind}
use Rattle.odb_base.specs.declared.codes.kind.Kind.TheVariants as kind
use Rattle.odb_base.specs.declared.codes.usage.Usage.{Usage}
use Rattle.odb_base.specs.declared.geometry.Placement.{Placement}
use Rattle.block_store.specs.Block.{Block}

-- the net that a terminal is joined to, 0 for none
abbrev pub net_in : Kind → ℕ → Block → Option ℕ
net_in kind.ITerm id b = option_map (λ e. e.net) (record_at b.iterm id)
net_in kind.BTerm id b = option_map (λ e. e.fields.net) (record_at b.bterm id)
net_in other id b = None

-- objects of the kind have this field
abbrev pub HasNet : Kind → Type 0
HasNet k = IsTrue (is_terminal k)

-- the placement of an instance or a pin
abbrev pub place_in : Kind → ℕ → Block → Option Placement
place_in kind.Inst id b = option_map (λ e. e.fields.place) (record_at b.inst id)
place_in kind.Pin id b = option_map (λ e. e.place) (record_at b.pin id)
place_in other id b = None

-- objects of the kind have this field
abbrev pub HasPlace : Kind → Type 0
HasPlace k = IsTrue (has_place k)

-- the use of a net or a block terminal
abbrev pub usage_in : Kind → ℕ → Block → Option Usage
usage_in kind.Net id b = option_map (λ e. e.fields.usage) (record_at b.net id)
usage_in kind.BTerm id b = option_map (λ e. e.fields.usage) (record_at b.bterm id)
usage_in other id b = None

-- objects of the kind have this field
abbrev pub HasUsage : Kind → Type 0
HasUsage k = IsTrue (has_usage k)

-- the direction of a block terminal
abbrev pub direction_in : ℕ → Block → Option Direction
direction_in id b = option_map (λ e. e.fields.direction) (record_at b.bterm id)

-- whether a net is special
abbrev pub special_in : ℕ → Block → Option Bool
special_in id b = option_map (λ e. e.fields.special) (record_at b.net id)

-- the number of the master of an instance
abbrev pub master_in : ℕ → Block → Option ℕ
master_in id b = option_map (λ e. e.fields.master) (record_at b.inst id)

-- the terminals of an instance
abbrev pub terminals_in : ℕ → Block → Option (List ℕ)
terminals_in id b = option_map (λ e. e.fields.terminals) (record_at b.inst id)

-- the place of an instance terminal among those of its instance
abbrev pub index_in : ℕ → Block → Option ℕ
index_in id b = option_map (λ e. e.index) (record_at b.iterm id)
