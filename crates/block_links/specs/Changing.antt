-- When a list of a block can change by one member.
use Rattle.std.specs.Prelude.{IsTrue}
use Rattle.std.specs.Option.{IfSome}
use Rattle.odb_base.specs.Ids.{holds}
use Rattle.linked_pool.specs.declared.changes.Change.{Change}
use Rattle.linked_pool.specs.declared.changes.Change.TheVariants as change
use Rattle.block_store.specs.declared.list_of.ListOf.{ListOf}
use Rattle.block_store.specs.Alone.{IsOutside}
use Rattle.block_store.specs.Block.{Block}
use Rattle.block_store.specs.Lists.{list_at}

-- who enters is in no list of the sort; who leaves is a member, and so is whoever another one enters before
abbrev pub CanChangeIn : Change → ListOf → Block → Type 0
CanChangeIn (change.Enter member) of b = IsOutside of member b
CanChangeIn (change.Return member next) of b = IsOutside of member b × IfSome next (λ other. IsTrue (holds (list_at of b) other))
CanChangeIn (change.Leave member) of b = IsTrue (holds (list_at of b) member)
