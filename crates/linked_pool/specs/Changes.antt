-- Changes of a list by one member: what becomes of the list, and of the links.
use Rattle.std.specs.Prelude.{◌≡◌, Bool, false, List, ◌∷◌, ℕ, Option, None, IsTrue}
use Rattle.std.specs.Option.{IfSome}
use Rattle.link_list.specs.Links.{linked_in, linked_out}
use Rattle.link_list.specs.declared.link.Link.{Link}
use Rattle.odb_base.specs.Ids.{after, holds, placed, without}
use Rattle.linked_pool.specs.declared.changes.Change.{Change}
use Rattle.linked_pool.specs.declared.changes.Change.TheVariants as change

-- the list after the change
abbrev pub changed : Change → List ℕ → List ℕ
changed (change.Enter member) ids = member ∷ ids
changed (change.Return member next) ids = placed member next ids
changed (change.Leave member) ids = without member ids

-- the member that stood after one that left
abbrev pub next_after : Change → List ℕ → Option ℕ
next_after (change.Enter member) ids = None
next_after (change.Return member next) ids = None
next_after (change.Leave member) ids = after ids member

-- who enters is a cell and no member; who leaves is a member, and so is whoever another one enters before
abbrev pub CanChange : (ℕ → Bool) → Change → List ℕ → Type 0
CanChange cell (change.Enter member) ids = IsTrue (cell member) × (holds ids member ≡ false)
CanChange cell (change.Return member next) ids = IsTrue (cell member) × (holds ids member ≡ false) × IfSome next (λ other. IsTrue (holds ids other))
CanChange cell (change.Leave member) ids = IsTrue (holds ids member)

-- all that are members before the change or after it
abbrev pub members_around : Change → List ℕ → List ℕ
members_around (change.Enter member) ids = member ∷ ids
members_around (change.Return member next) ids = placed member next ids
members_around (change.Leave member) ids = ids

-- the cells with the links set that the change sets
abbrev pub with_links : {Cells : Type 0} → (Cells → ℕ → Link → Cells) → (Cells → ℕ → Link) → Change → List ℕ → Cells → Cells
with_links with_link link_of (change.Enter member) ids cells = linked_in with_link link_of (member ∷ ids) member cells
with_links with_link link_of (change.Return member next) ids cells = linked_in with_link link_of (placed member next ids) member cells
with_links with_link link_of (change.Leave member) ids cells = linked_out with_link link_of ids member cells
