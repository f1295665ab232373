-- When a block is consistent: what its type keeps, whatever calls are made.
use Rattle.std.specs.Prelude.{◌≡◌, true, List, [], ℕ, IsTrue}
use Rattle.std.specs.Option.{option_map_or}
use Rattle.slot_pool.specs.Table.{IsGood, Table, is_live, record_at}
use Rattle.odb_base.specs.Ids.{IsDistinct, holds}
use Rattle.odb_base.specs.declared.codes.kind.Kind.{Kind}
use Rattle.odb_base.specs.declared.codes.kind.Kind.TheVariants as kind
use Rattle.block_store.specs.Alone.{IsTerminal}
use Rattle.block_store.specs.Block.{Block}
use Rattle.block_store.specs.Kinds.{Entry, table_of}
use Rattle.block_store.specs.Tables.{HasDistinctNames}
use Rattle.block_store.specs.View.{laws}

-- the lists of other objects that an object has; a list that objects of its kind don't have is empty
pub record OwnLists : Type 0 where
  pub terms : List ℕ
  pub wires : List ℕ
  pub members : List ℕ
  pub pins : List ℕ
  pub groups : List ℕ
  pub props : List ℕ

abbrev pub no_lists : OwnLists
no_lists = record { terms = []; wires = []; members = []; pins = []; groups = []; props = [] }

abbrev pub own_lists : (k : Kind) → Entry k → OwnLists
own_lists kind.Inst e = record no_lists { props = e.props }
own_lists kind.Net e = record no_lists { terms = e.terms; wires = e.wires; props = e.props }
own_lists kind.BTerm e = record no_lists { pins = e.pins }
own_lists kind.Row e = record no_lists { props = e.props }
own_lists kind.Region e = record no_lists { groups = e.groups; props = e.props }
own_lists kind.Group e = record no_lists { members = e.members; props = e.props }
own_lists other e = no_lists

-- the lists of the object in a slot of a kind's table; empty lists where there is no object
abbrev pub lists_in : (k : Kind) → Table (Entry k) → ℕ → OwnLists
lists_in k t id = option_map_or (own_lists k) (record_at t id) no_lists

abbrev pub lists_of : Block → (k : Kind) → ℕ → OwnLists
lists_of b k id = lists_in k (table_of k b) id

-- the sorts of lists, by what stands in them
pub data ListSort : Type 0 where
  Terms : ListSort
  Wires : ListSort
  Members : ListSort
  Pins : ListSort
  Groups : ListSort
  Props : ListSort

abbrev pub of_sort : ListSort → OwnLists → List ℕ
of_sort Terms lists = lists.terms
of_sort Wires lists = lists.wires
of_sort Members lists = lists.members
of_sort Pins lists = lists.pins
of_sort Groups lists = lists.groups
of_sort Props lists = lists.props

-- the object's list of the sort has this member
abbrev pub Holds : ListSort → (k : Kind) → ℕ → ℕ → Block → Type 0
Holds s k id member b = holds (of_sort s (lists_of b k id)) member ≡ true

-- the object for which a member of a list of the sort stands is there
abbrev pub IsThere : ListSort → ℕ → Block → Type 0
IsThere Terms member b = IsTerminal b member
IsThere Wires member b = IsTrue (is_live b.wire member)
IsThere Members member b = IsTrue (is_live b.inst member)
IsThere Pins member b = IsTrue (is_live b.pin member)
IsThere Groups member b = IsTrue (is_live b.group member)
IsThere Props member b = IsTrue (is_live b.prop member)

-- Each table is good, and no two objects of a kind have one name. Each member of a list is there, stands in the list
-- once, and in no other list of the sort.
pub record IsConsistent (b : Block) : Type 0 where
  pub good : (k : Kind) → IsGood (table_of k b)
  pub names : (k : Kind) → HasDistinctNames (laws k).name (table_of k b)
  pub there : (s : ListSort) (k : Kind) (id member : ℕ) → Holds s k id member b → IsThere s member b
  pub distinct : (s : ListSort) (k : Kind) (id : ℕ) → IsDistinct (of_sort s (lists_of b k id))
  pub one : (s : ListSort) (k j : Kind) (id other member : ℕ) → Holds s k id member b → Holds s j other member b → (k ≡ j) × (id ≡ other)
