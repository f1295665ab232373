-- Cells with one field of an object's record set, and what the field was.
use Rattle.std.specs.Prelude.{Bool, List, ℕ, Option, None, option_map}
use Rattle.slot_pool.specs.Table.{record_at}
use Rattle.odb_base.specs.declared.codes.direction.Direction.{Direction}
use Rattle.odb_base.specs.declared.codes.kind.Kind.{Kind}
use Rattle.odb_base.specs.declared.codes.kind.Kind.TheVariants as kind
use Rattle.odb_base.specs.declared.codes.usage.Usage.{Usage}
use Rattle.odb_base.specs.declared.geometry.Placement.{Placement}
use Rattle.block_cells.specs.Cells.{Cells, on_cell}

-- the net that a terminal is joined to, 0 for none
abbrev pub net_in : Kind → ℕ → Cells → Option ℕ
net_in kind.ITerm id c = option_map (λ x. x.value.net) (record_at c.iterm id)
net_in kind.BTerm id c = option_map (λ x. x.value.fields.net) (record_at c.bterm id)
net_in other id c = None

abbrev pub with_net : Kind → ℕ → ℕ → Cells → Cells
with_net kind.ITerm id net c = on_cell kind.ITerm (λ x. record x { value = record x.value { net = net } }) id c
with_net kind.BTerm id net c = on_cell kind.BTerm (λ x. record x { value = record x.value { fields = record x.value.fields { net = net } } }) id c
with_net other id net c = c

-- the placement of an instance or a pin
abbrev pub place_in : Kind → ℕ → Cells → Option Placement
place_in kind.Inst id c = option_map (λ x. x.value.fields.place) (record_at c.inst id)
place_in kind.Pin id c = option_map (λ x. x.value.place) (record_at c.pin id)
place_in other id c = None

abbrev pub with_place : Kind → ℕ → Placement → Cells → Cells
with_place kind.Inst id place c = on_cell kind.Inst (λ x. record x { value = record x.value { fields = record x.value.fields { place = place } } }) id c
with_place kind.Pin id place c = on_cell kind.Pin (λ x. record x { value = record x.value { place = place } }) id c
with_place other id place c = c

-- the use of a net or a block terminal
abbrev pub usage_in : Kind → ℕ → Cells → Option Usage
usage_in kind.Net id c = option_map (λ x. x.fields.usage) (record_at c.net id)
usage_in kind.BTerm id c = option_map (λ x. x.value.fields.usage) (record_at c.bterm id)
usage_in other id c = None

abbrev pub with_usage : Kind → ℕ → Usage → Cells → Cells
with_usage kind.Net id usage c = on_cell kind.Net (λ x. record x { fields = record x.fields { usage = usage } }) id c
with_usage kind.BTerm id usage c = on_cell kind.BTerm (λ x. record x { value = record x.value { fields = record x.value.fields { usage = usage } } }) id c
with_usage other id usage c = c

-- the direction of a block terminal
abbrev pub direction_in : ℕ → Cells → Option Direction
direction_in id c = option_map (λ x. x.value.fields.direction) (record_at c.bterm id)

abbrev pub with_direction : ℕ → Direction → Cells → Cells
with_direction id direction c = on_cell kind.BTerm (λ x. record x { value = record x.value { fields = record x.value.fields { direction = direction } } }) id c

-- whether a net is special
abbrev pub special_in : ℕ → Cells → Option Bool
special_in id c = option_map (λ x. x.fields.special) (record_at c.net id)

abbrev pub with_special : ℕ → Bool → Cells → Cells
with_special id special c = on_cell kind.Net (λ x. record x { fields = record x.fields { special = special } }) id c

-- the number of the master of an instance
abbrev pub master_in : ℕ → Cells → Option ℕ
master_in id c = option_map (λ x. x.value.fields.master) (record_at c.inst id)

abbrev pub with_master : ℕ → ℕ → Cells → Cells
with_master id master c = on_cell kind.Inst (λ x. record x { value = record x.value { fields = record x.value.fields { master = master } } }) id c

-- the terminals of an instance
abbrev pub terminals_in : ℕ → Cells → Option (List ℕ)
terminals_in id c = option_map (λ x. x.value.fields.terminals) (record_at c.inst id)

abbrev pub with_terminals : ℕ → List ℕ → Cells → Cells
with_terminals id terminals c = on_cell kind.Inst (λ x. record x { value = record x.value { fields = record x.value.fields { terminals = terminals } } }) id c

-- the place of an instance terminal among those of its instance
abbrev pub index_in : ℕ → Cells → Option ℕ
index_in id c = option_map (λ x. x.value.index) (record_at c.iterm id)

abbrev pub with_index : ℕ → ℕ → Cells → Cells
with_index id index c = on_cell kind.ITerm (λ x. record x { value = record x.value { index = index } }) id c

-- the name of an object
abbrev pub with_name : Kind → ℕ → List ℕ → Cells → Cells
with_name kind.Inst id name c = on_cell kind.Inst (λ x. record x { value = record x.value { fields = record x.value.fields { name = name } } }) id c
with_name kind.Net id name c = on_cell kind.Net (λ x. record x { fields = record x.fields { name = name } }) id c
with_name kind.BTerm id name c = on_cell kind.BTerm (λ x. record x { value = record x.value { fields = record x.value.fields { name = name } } }) id c
with_name kind.Row id name c = on_cell kind.Row (λ x. record x { fields = record x.fields { name = name } }) id c
with_name kind.Region id name c = on_cell kind.Region (λ x. record x { fields = record x.fields { name = name } }) id c
with_name kind.Group id name c = on_cell kind.Group (λ x. record x { value = record x.value { fields = record x.value.fields { name = name } } }) id c
with_name other id name c = c
