-- Objects of a kind by their names.
use Rattle.std.specs.Prelude.{◌≡◌, ◌≢◌, List, ℕ, Option, None, Some, IsTrue}
use Rattle.odb_base.specs.Kind.{has_names}
use Rattle.odb_base.specs.declared.codes.kind.Kind.{Kind}
use Rattle.odb_base.specs.declared.codes.kind.Kind.TheVariants as kind
use Rattle.named_pool.specs.Names.{find_by, name_by}
use Rattle.block_store.specs.Block.{Block}

-- the first object of a kind that has this name; none of a kind without names
abbrev pub find_in : Kind → List ℕ → Block → Option ℕ
find_in kind.Inst name b = find_by (λ e. e.fields.name) name b.inst
find_in kind.ITerm name b = None
find_in kind.Net name b = find_by (λ e. e.fields.name) name b.net
find_in kind.BTerm name b = find_by (λ e. e.fields.name) name b.bterm
find_in kind.Pin name b = None
find_in kind.Row name b = find_by (λ e. e.fields.name) name b.row
find_in kind.Track name b = None
find_in kind.Wire name b = None
find_in kind.Blockage name b = None
find_in kind.Region name b = find_by (λ e. e.fields.name) name b.region
find_in kind.Group name b = find_by (λ e. e.fields.name) name b.group
find_in kind.Prop name b = None

-- the name of an object; none of a kind without names
abbrev pub name_in : Kind → ℕ → Block → Option (List ℕ)
name_in kind.Inst id b = name_by (λ e. e.fields.name) id b.inst
name_in kind.ITerm id b = None
name_in kind.Net id b = name_by (λ e. e.fields.name) id b.net
name_in kind.BTerm id b = name_by (λ e. e.fields.name) id b.bterm
name_in kind.Pin id b = None
name_in kind.Row id b = name_by (λ e. e.fields.name) id b.row
name_in kind.Track id b = None
name_in kind.Wire id b = None
name_in kind.Blockage id b = None
name_in kind.Region id b = name_by (λ e. e.fields.name) id b.region
name_in kind.Group id b = name_by (λ e. e.fields.name) id b.group
name_in kind.Prop id b = None

-- objects of the kind have names
abbrev pub HasNames : Kind → Type 0
HasNames k = IsTrue (has_names k)

-- no object of the kind has the name
abbrev pub IsFree : Kind → List ℕ → Block → Type 0
IsFree k name b = (id : ℕ) → name_in k id b ≢ Some name

-- no other object of the kind has the name
abbrev pub IsFreeBut : Kind → ℕ → List ℕ → Block → Type 0
IsFreeBut k id name b = (other : ℕ) → name_in k other b ≡ Some name → other ≡ id
