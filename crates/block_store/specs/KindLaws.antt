-- What a kind of objects states of its entries. Each kind's laws stand in a file of their own.
use Rattle.std.specs.Prelude.{Bool, List, ℕ, Option}
use Rattle.block_records.specs.declared.header.Header.{Header}
use Rattle.tech.specs.Technology.{Technology}
use Rattle.library.specs.declared.master.Master.{Master}
use Rattle.block_store.specs.Lens.{Lens}

-- the parts that objects name by their numbers: layers, vias and sites, masters, and what the header lists
pub record Parts : Type 0 where
  pub tech : Technology
  pub library : List Master
  pub header : Header

pub record KindLaws (Entry : Type 0) : Type 1 where
  -- objects of the kind can be made; of a kind that is still to come there are none, and its table is empty
  pub built : Bool
  -- what ties an object to others: the lists that it has and the objects that it names
  pub Links : Type 0
  pub see : Entry → Links
  -- the links of an identifier without an object
  pub none : Links
  -- the name, of a kind with names
  pub name : Option (Lens Entry (List ℕ))
  -- the entry is lawful by itself, beside these parts
  pub Is : Parts → Entry → Type 0
