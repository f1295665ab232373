-- Which word is due.
use Rattle.std.specs.Prelude.{List, []}
use Rattle.ld_forms.specs.declared.passing.Passing.{Passing}
use Rattle.ld_forms.specs.declared.place.Place.{Place}
use Rattle.ld_reader.specs.declared.due.Sort.{Sort}
use Rattle.ld_reader.specs.declared.due.Sort.TheVariants as sort

-- what the word belongs to, and what is left of the places of its statement
pub record DueOf (C S : Type 0) : Type 0 where
  pub sort : Sort C S
  pub places : List (Place C)

module _ {C S : Type 0} where
  -- the first word of a statement
  abbrev pub first : DueOf C S
  first = record { sort = sort.First; places = [] }

  -- a word of a statement that has these places left
  abbrev pub in_form : S → List (Place C) → DueOf C S
  in_form s places = record { sort = sort.In s; places = places }

  -- a word of a part that is passed over
  abbrev pub passing : Passing C → DueOf C S
  passing part = record { sort = sort.Passing part; places = [] }
