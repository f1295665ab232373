-- When the parts of a technology and of a library are lawful: each value is in its set and its limit, and what a part
-- names is there.
use Rattle.std.specs.Prelude.{◌≡◌, ◌≤◌, ◌<◌, ◌^◌, List, ℕ, Option, Some, None, length, slice_get}
use Rattle.std.specs.List.{find}
use Rattle.std.specs.Str.{bytes_eq}
use Rattle.odb_base.specs.Geometry.{IsCoordinate, IsRect}
use Rattle.odb_base.specs.Name.{IsName}
use Rattle.odb_base.specs.Orient.{orient_word, orients}
use Rattle.odb_base.specs.declared.codes.orient.Orient.{Orient}
use Rattle.odb_base.specs.declared.geometry.Shape.{Shape}
use Rattle.tech.specs.Technology.{HasDistinctParts, HasFewParts, Technology}
use Rattle.tech.specs.declared.layer.Layer.{Layer}
use Rattle.tech.specs.declared.site.Site.{Site}
use Rattle.tech.specs.declared.via.TechVia.{TechVia}
use Rattle.library.specs.Masters.{HasDistinctNames}
use Rattle.library.specs.Terminals.{HasDistinctTerminals}
use Rattle.library.specs.declared.master.Master.{Master}
use Rattle.library.specs.declared.mterm.MTerm.{MTerm}

-- the identifier is that of one of so many things
abbrev pub IsIdAmong : ℕ → ℕ → Type 0
IsIdAmong count id = (1 ≤ id) × (id ≤ count)

-- each thing of a list is lawful
abbrev pub AreAll : {A : Type 0} → (A → Type 0) → List A → Type 0
AreAll {A} Is things = (place : ℕ) (thing : A) → slice_get things place ≡ Some thing → Is thing

-- a layer has a lawful name and lawful distances
pub record IsLayer (l : Layer) : Type 0 where
  pub name : IsName l.name
  pub pitch_x : IsCoordinate l.pitch_x
  pub pitch_y : IsCoordinate l.pitch_y
  pub width : IsCoordinate l.width
  pub spacing : IsCoordinate l.spacing

-- a shape is a rectangle on a layer of the technology
pub record IsShape (t : Technology) (s : Shape) : Type 0 where
  pub layer : IsIdAmong (length t.layers) s.layer.0
  pub rect : IsRect s.rect

-- shapes are at most 1,000,000 in one list
pub record AreShapes (t : Technology) (shapes : List Shape) : Type 0 where
  pub few : length shapes ≤ 1000000
  pub each : AreAll (IsShape t) shapes

-- the orientation of this word, if it is one
abbrev pub orient_of : List ℕ → Option Orient
orient_of word = find (λ value. bytes_eq (orient_word value) word) orients

-- the name of a via is lawful and isn't the word of an orientation, which may stand behind it in a path
pub record IsViaName (name : List ℕ) : Type 0 where
  pub lawful : IsName name
  pub no_orient : orient_of name ≡ None

-- a via of the technology has such a name and lawful shapes
pub record IsTechVia (t : Technology) (v : TechVia) : Type 0 where
  pub name : IsViaName v.name
  pub shapes : AreShapes t v.shapes

-- a site has a lawful name, lawful sizes and no more than the three bits of symmetry
pub record IsSite (s : Site) : Type 0 where
  pub name : IsName s.name
  pub symmetry : s.symmetry.0 < 8
  pub width : IsCoordinate s.width
  pub height : IsCoordinate s.height

-- A technology has lawful units and lawful parts, of which no two of a list have one name.
pub record IsTechnology (t : Technology) : Type 0 where
  pub units : t.units ≤ 100000
  pub layers : AreAll IsLayer t.layers
  pub vias : AreAll (IsTechVia t) t.vias
  pub sites : AreAll IsSite t.sites
  pub distinct : HasDistinctParts t
  pub few : HasFewParts 1000000 t

-- a terminal of a master has a lawful name and lawful shapes
pub record IsMTerm (t : Technology) (m : MTerm) : Type 0 where
  pub name : IsName m.name
  pub shapes : AreShapes t m.shapes

-- A master has a lawful name, texts of at most 2^32 - 1 bytes, lawful sizes, a site of the technology or none, terminals
-- of lawful and distinct names, of which there are at most 65,535, and lawful shapes.
pub record IsMaster (t : Technology) (m : Master) : Type 0 where
  pub name : IsName m.name
  pub class_short : length m.class < 2 ^ 32
  pub foreign_short : length m.foreign < 2 ^ 32
  pub origin_x : IsCoordinate m.origin_x
  pub origin_y : IsCoordinate m.origin_y
  pub width : IsCoordinate m.width
  pub height : IsCoordinate m.height
  pub symmetry : m.symmetry < 8
  pub site : m.site ≤ length t.sites
  pub few : length m.terminals ≤ 65535
  pub terminals : AreAll (IsMTerm t) m.terminals
  pub distinct : HasDistinctTerminals m
  pub obstructions : AreShapes t m.obstructions

-- each master of a library is lawful, and no two have one name
pub record IsLibrary (t : Technology) (library : List Master) : Type 0 where
  pub masters : AreAll (IsMaster t) library
  pub distinct : HasDistinctNames library
  pub few : length library ≤ 1000000
