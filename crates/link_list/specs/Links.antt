-- Which links an entry into a list and a leaving set, and to what.
use Rattle.std.specs.Prelude.{◌==◌, List, ℕ, if◌then◌else◌}
use Rattle.link_list.specs.declared.link.Link.{Link}
use Rattle.odb_base.specs.Ids.{after}
use Rattle.link_list.specs.Ids.{before}
use Rattle.link_list.specs.Standing.{number}

module _ {Cells : Type 0} (with_link : Cells → ℕ → Link → Cells) (link_of : Cells → ℕ → Link) where
  -- the cells where a member has another before it; 0 names none, and nothing is set
  abbrev pub with_before : ℕ → ℕ → Cells → Cells
  with_before id other cells =
      if id == 0 then cells else with_link cells id (record { before = other; after = (link_of cells id).after })

  -- the cells where a member has another after it; 0 names none, and nothing is set
  abbrev pub with_after : ℕ → ℕ → Cells → Cells
  with_after id other cells =
      if id == 0 then cells else with_link cells id (record { before = (link_of cells id).before; after = other })

  -- the cells where an identifier is linked to the two numbers that it comes between, and they to it
  abbrev pub linked_between : ℕ → ℕ → ℕ → Cells → Cells
  linked_between id left right cells =
      with_before right id (with_after left id (with_link cells id (record { before = left; after = right })))

  -- the cells where the two numbers are linked to each other
  abbrev pub joined : ℕ → ℕ → Cells → Cells
  joined left right cells = with_before right left (with_after left right cells)

  -- the cells with the links of a member of the list and of those beside it set
  abbrev pub linked_in : List ℕ → ℕ → Cells → Cells
  linked_in ids id cells = linked_between id (number (before ids id)) (number (after ids id)) cells

  -- the cells with the links of those beside a member of the list set, as if it weren't there
  abbrev pub linked_out : List ℕ → ℕ → Cells → Cells
  linked_out ids id cells = joined (number (before ids id)) (number (after ids id)) cells
