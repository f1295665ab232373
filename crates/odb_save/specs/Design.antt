-- A technology and a library as parts that are entered one after the other.
use Rattle.std.specs.Prelude.{◌++◌, List, map}
use Rattle.tech.specs.Technology.{Technology}
use Rattle.library.specs.declared.master.Master.{Master}
use Rattle.lawful_parts.specs.Lawful.{IsLibrary, IsTechnology}
use Rattle.edit_words.specs.declared.part.TechPart.{TechPart}
use Rattle.edit_words.specs.declared.part.TechPart.TheVariants as part

-- a lawful technology, and a library that is lawful over it
pub record IsDesign (t : Technology) (masters : List Master) : Type 0 where
  pub tech : IsTechnology t
  pub library : IsLibrary t masters

-- layers, vias, sites and masters, in this order and each in the order of their identifiers
abbrev pub parts_of : Technology → List Master → List TechPart
parts_of t masters = map part.Layer t.layers ++ map part.Via t.vias ++ map part.Site t.sites ++ map part.Master masters
