-- Changes of a list by one member.
use Rattle.std.specs.Prelude.{◌≤◌, ◌+◌, List, ◌∷◌, ℕ, Option, None, IsTrue, length}
use Rattle.std.specs.Option.{IfSome}
use Rattle.odb_base.specs.Ids.{after, holds, placed, without}
use Rattle.block_store.specs.declared.ids.Change.{Change}
use Rattle.block_store.specs.declared.ids.Change.TheVariants as change

-- the list after the change
abbrev pub changed : Change → List ℕ → List ℕ
changed (change.Enter member) ids = member ∷ ids
changed (change.Return member next) ids = placed member next ids
changed (change.Leave member) ids = without member ids

-- the member that stood after one that left
abbrev pub next_after : Change → List ℕ → Option ℕ
next_after (change.Enter member) ids = None
next_after (change.Return member next) ids = None
next_after (change.Leave member) ids = after ids member

-- who leaves is a member, and so is whoever another one enters before; for who enters there is room
abbrev pub CanChange : Change → List ℕ → ℕ → Type 0
CanChange (change.Enter member) ids room = length ids + 1 ≤ room
CanChange (change.Return member next) ids room = (IfSome next (λ other. IsTrue (holds ids other))) × (length ids + 1 ≤ room)
CanChange (change.Leave member) ids room = IsTrue (holds ids member)
