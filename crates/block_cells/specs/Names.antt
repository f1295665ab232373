-- The names of the objects in their cells.
use Rattle.std.specs.Prelude.{◌≡◌, ◌≢◌, List, ℕ, Option, None, Some}
use Rattle.named_pool.specs.Names.{find_by, name_by}
use Rattle.odb_base.specs.declared.codes.kind.Kind.{Kind}
use Rattle.odb_base.specs.declared.codes.kind.Kind.TheVariants as kind
use Rattle.block_cells.specs.Cells.{Cells}

-- the name of an object; none of a kind without names
abbrev pub name_in : Kind → ℕ → Cells → Option (List ℕ)
name_in kind.Inst id c = name_by (λ x. x.value.fields.name) id c.inst
name_in kind.ITerm id c = None
name_in kind.Net id c = name_by (λ x. x.fields.name) id c.net
name_in kind.BTerm id c = name_by (λ x. x.value.fields.name) id c.bterm
name_in kind.Pin id c = None
name_in kind.Row id c = name_by (λ x. x.fields.name) id c.row
name_in kind.Track id c = None
name_in kind.Wire id c = None
name_in kind.Blockage id c = None
name_in kind.Region id c = name_by (λ x. x.fields.name) id c.region
name_in kind.Group id c = name_by (λ x. x.value.fields.name) id c.group
name_in kind.Prop id c = None

-- the object of a kind that has this name; none of a kind without names
abbrev pub find_in : Kind → List ℕ → Cells → Option ℕ
find_in kind.Inst name c = find_by (λ x. x.value.fields.name) name c.inst
find_in kind.ITerm name c = None
find_in kind.Net name c = find_by (λ x. x.fields.name) name c.net
find_in kind.BTerm name c = find_by (λ x. x.value.fields.name) name c.bterm
find_in kind.Pin name c = None
find_in kind.Row name c = find_by (λ x. x.fields.name) name c.row
find_in kind.Track name c = None
find_in kind.Wire name c = None
find_in kind.Blockage name c = None
find_in kind.Region name c = find_by (λ x. x.fields.name) name c.region
find_in kind.Group name c = find_by (λ x. x.value.fields.name) name c.group
find_in kind.Prop name c = None

-- no object of the kind has the name
abbrev pub IsFree : Kind → List ℕ → Cells → Type 0
IsFree k name c = (id : ℕ) → name_in k id c ≢ Some name

-- no other object of the kind has the name
abbrev pub IsFreeBut : Kind → ℕ → List ℕ → Cells → Type 0
IsFreeBut k id name c = (other : ℕ) → name_in k other c ≡ Some name → other ≡ id

-- the name, if there is one, is held by no object of the kind
abbrev pub IsNameFree : Kind → Option (List ℕ) → Cells → Type 0
IsNameFree k None c = Unit {0}
IsNameFree k (Some name) c = IsFree k name c
