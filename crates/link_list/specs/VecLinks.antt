-- Links in a vector: the cell of an identifier is the one at its place, counted from 1.
use Rattle.std.specs.Prelude.{Bool, false, List, ℕ, Option, Some, None, zero, suc, length, nat_lt, slice_index_or, slice_set}
use Rattle.std.proofs.Common.{◌≡◌, ◌≢◌, ◌<◌, ◌≤◌, true, ltb, refl, ap, arith, length-set, get_or-set_same, get_or-set_other}
use Rattle.std.proofs.lemmas.Bool.{ltb-true, false≢true}
use Rattle.link_list.specs.declared.link.Head.{Head}
use Rattle.link_list.specs.declared.link.Link.{Link}
use Rattle.odb_base.specs.Ids.{holds}
use Rattle.link_list.specs.Standing.{Stands, members_from}

-- the identifier has a place
abbrev pub cell : List Link → ℕ → Bool
cell links zero = false
cell links (suc place) = nat_lt place (length links)

-- a link to no members
abbrev pub none : Link
none = record { before = 0; after = 0 }

-- the link of an identifier; 0 has no place
abbrev pub link_of : List Link → ℕ → Link
link_of links zero = none
link_of links (suc place) = slice_index_or links place none

-- the links with another one for the identifier; 0 has no place
abbrev pub with_link : List Link → ℕ → Link → List Link
with_link links zero link = links
with_link links (suc place) link = slice_set links place link

-- the list that a head stands for
abbrev pub members : List Link → Head → List ℕ
members links head = members_from (link_of links) (length links) head.first

-- the head stands for some list
abbrev pub IsList : List Link → Head → Type 0
IsList links head = Stands (cell links) (link_of links) head (members links head)

-- an identifier may be put before this one, or last
abbrev pub is_place : List ℕ → Option ℕ → Bool
is_place ids None = true
is_place ids (Some next) = holds ids next

-- The laws of cells.

-- where a link is set, the identifiers with a place stay
pub cell-with_link : (links : List Link) (id other : ℕ) (link : Link) → cell links id ≡ true
    → cell (with_link links id link) other ≡ cell links other
cell-with_link links zero other link is = refl
cell-with_link links (suc place) zero link is = refl
cell-with_link links (suc place) (suc other) link is = ap (λ n. ltb other n) (length-set links place link)

-- the identifier's place lies within the vector
pub within : (links : List Link) (id : ℕ) → cell links id ≡ true → (0 < id) × (id ≤ length links)
within links zero is = absurd (false≢true is)
within links (suc place) is = (omega arith, omega (arith, ltb-true place (length links) is))

-- the link that is set is that of its identifier then
pub link_of-set : (links : List Link) (id : ℕ) (link : Link) → cell links id ≡ true
    → link_of (with_link links id link) id ≡ link
link_of-set links zero link is = absurd (false≢true is)
link_of-set links (suc place) link is =
    let h : place < length links = omega (arith, (within links (suc place) is).1) in
    get_or-set_same links place link none h

-- where a link is set, those of other identifiers stay
pub link_of-others : (links : List Link) (id other : ℕ) (link : Link) → cell links id ≡ true → other ≢ id
    → link_of (with_link links id link) other ≡ link_of links other
link_of-others links zero other link is ne = refl
link_of-others links (suc place) zero link is ne = refl
link_of-others links (suc place) (suc other) link is ne =
    get_or-set_other links place other link none (λ e. ne (ap suc e))
