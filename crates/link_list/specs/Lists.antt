-- The lists that the objects of a sort have over the same cells.
use Rattle.std.specs.Prelude.{◌≡◌, ◌≢◌, Bool, List, ℕ}
use Rattle.link_list.specs.declared.link.Head.{Head}
use Rattle.link_list.specs.declared.link.Link.{Link}
use Rattle.link_list.specs.Standing.{Stands, members_from}
use Rattle.odb_base.specs.Ids.{AreApart}

-- the list that a head leads to, where no identifier of a cell is above a greatest one
abbrev pub list_of : (ℕ → Link) → ℕ → Head → List ℕ
list_of link most head = members_from link most head.first

-- Each object's head stands for a list, and no two objects have a common member: each member is a cell, and
-- is in one place of one list.
pub record AreLists {O : Type 0} (cell : ℕ → Bool) (link : ℕ → Link) (most : ℕ) (heads : O → Head) : Type 0 where
  pub stands : (object : O) → Stands cell link (heads object) (list_of link most (heads object))
  pub apart : (object other : O) → object ≢ other
      → AreApart (list_of link most (heads object)) (list_of link most (heads other))

-- Over the new cells an object's list became these identifiers, and the others read as before.
pub record OneBecame {O : Type 0} (link : ℕ → Link) (most : ℕ) (heads : O → Head) (cell' : ℕ → Bool) (link' : ℕ → Link)
    (most' : ℕ) (heads' : O → Head) (object : O) (ids : List ℕ) : Type 0 where
  pub lists : AreLists cell' link' most' heads'
  pub became : list_of link' most' (heads' object) ≡ ids
  pub others : (other : O) → other ≢ object → list_of link' most' (heads' other) ≡ list_of link most (heads other)
