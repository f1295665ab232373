-- When a head stands over cells for a list of identifiers.
use Rattle.std.specs.Prelude.{◌≡◌, ◌≢◌, ◌==◌, Bool, List, [], ◌∷◌, ℕ, zero, suc, Option, Some, None, IsTrue, if◌then◌else◌}
use Rattle.std.specs.Option.{unwrap_or}
use Rattle.link_list.specs.declared.link.Head.{Head}
use Rattle.link_list.specs.declared.link.Link.{Link}
use Rattle.link_list.specs.Ids.{before}
use Rattle.odb_base.specs.Ids.{AreApart, IsDistinct, first}

-- the number that a link or a head has for an identifier: 0 for none
abbrev pub number : Option ℕ → ℕ
number id = unwrap_or id 0

-- the identifier that a number of a link or a head stands for
abbrev pub named : ℕ → Option ℕ
named number = if number == 0 then None else Some number

-- a number names a cell, or it is 0
abbrev pub NamesCell : (ℕ → Bool) → ℕ → Type 0
NamesCell cell id = id ≢ 0 → IsTrue (cell id)

-- the number of the last member, or the one given where there is none
abbrev pub last_or : ℕ → List ℕ → ℕ
last_or number [] = number
last_or number (id ∷ ids) = last_or id ids

-- the number of the member after which an identifier comes that is put before another, or last
abbrev pub left_of : List ℕ → Option ℕ → ℕ
left_of ids None = last_or 0 ids
left_of ids (Some next) = number (before ids next)

-- The identifiers stand between two numbers: each names a cell, whose link has what stands before it and
-- what stands after it.
abbrev pub AreLinked : (ℕ → Bool) → (ℕ → Link) → ℕ → List ℕ → ℕ → Type 0
AreLinked cell link before [] after = Unit {0}
AreLinked cell link before (id ∷ ids) after =
    IsTrue (cell id)
    × (link id ≡ record { before = before; after = unwrap_or (first ids) after })
    × AreLinked cell link id ids after

-- a head stands over cells and their links for a list of identifiers, in order
pub record Stands (cell : ℕ → Bool) (link : ℕ → Link) (head : Head) (ids : List ℕ) : Type 0 where
  pub first_member : head.first ≡ number (first ids)
  pub linked : AreLinked cell link 0 ids 0
  pub distinct : IsDistinct ids

-- the lists of other heads, without a member among these, are as they were
abbrev pub OthersStand : (ℕ → Bool) → (ℕ → Link) → (ℕ → Bool) → (ℕ → Link) → List ℕ → Type 0
OthersStand cell link cell' link' ids =
    (other : Head) (members : List ℕ) → AreApart ids members → Stands cell link other members
    → Stands cell' link' other members

-- the members from a number on, by the links, and at most so many: the list that is read off the cells
abbrev pub members_from : (ℕ → Link) → ℕ → ℕ → List ℕ
members_from link zero id = []
members_from link (suc most) zero = []
members_from link (suc most) (suc id) = suc id ∷ members_from link most (link (suc id)).after
