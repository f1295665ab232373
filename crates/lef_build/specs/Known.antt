-- What a builder knows of the technology and the library with the parts entered: their units, and the names of what
-- the parts bring.
use Rattle.std.specs.Prelude.{◌≡◌, ◌++◌, ◌∷◌, [], Bool, false, List, ℕ, None, is_some, map}
use Rattle.named_list.specs.Naming.{place_named}
use Rattle.tech.specs.Technology.{Technology, find_layer, find_site, find_via}
use Rattle.library.specs.Masters.{find_master}
use Rattle.library.specs.declared.master.Master.{Master}
use Rattle.edit_words.specs.declared.part.TechPart.{TechPart}
use Rattle.edit_words.specs.declared.part.TechPart.TheVariants as part
use Rattle.lef_build.specs.declared.known.Known.{Known}
use Rattle.lef_build.specs.Building.{Build, with_masters, with_parts}

-- the names of one sort are those that stood, and then those of the parts
abbrev pub HasNames : {A : Type 0} → (A → List ℕ) → List A → List (List ℕ) → List A → Type 0
HasNames name_of stood names things = map name_of things ≡ map name_of stood ++ names

-- what is known of a technology and a library beside those that stood first
pub record IsKnownOf (stood : Technology) (library : List Master) (k : Known) (t : Technology) (all : List Master) : Type 0 where
  pub units : k.units ≡ t.units
  pub layers : HasNames (λ layer. layer.name) stood.layers k.layers t.layers
  pub vias : HasNames (λ via. via.name) stood.vias k.vias t.vias
  pub sites : HasNames (λ site. site.name) stood.sites k.sites t.sites
  pub masters : HasNames (λ master. master.name) library k.masters all

-- what is known once parts are entered
abbrev pub IsKnown : Technology → List Master → List TechPart → Known → Type 0
IsKnown t library parts k = IsKnownOf t library k (with_parts t parts) (with_masters library parts)

-- what is known, with what a part of the name brings
abbrev pub known_with : TechPart → List ℕ → Known → Known
known_with (part.Units n) name k = record k { units = n }
known_with (part.Layer layer) name k = record k { layers = k.layers ++ name ∷ [] }
known_with (part.Via via) name k = record k { vias = k.vias ++ name ∷ [] }
known_with (part.Site site) name k = record k { sites = k.sites ++ name ∷ [] }
known_with (part.Master master) name k = record k { masters = k.masters ++ name ∷ [] }

-- the name is that of the part; units have none
abbrev pub IsNamed : TechPart → List ℕ → Type 0
IsNamed (part.Units n) name = Unit {0}
IsNamed (part.Layer layer) name = layer.name ≡ name
IsNamed (part.Via via) name = via.name ≡ name
IsNamed (part.Site site) name = site.name ≡ name
IsNamed (part.Master master) name = master.name ≡ name

-- the name isn't known of a part of its sort
abbrev pub IsNewName : Known → TechPart → List ℕ → Type 0
IsNewName k (part.Units n) name = Unit {0}
IsNewName k (part.Layer layer) name = place_named (λ n. n) k.layers name ≡ None
IsNewName k (part.Via via) name = place_named (λ n. n) k.vias name ≡ None
IsNewName k (part.Site site) name = place_named (λ n. n) k.sites name ≡ None
IsNewName k (part.Master master) name = place_named (λ n. n) k.masters name ≡ None

-- something of the part's sort has the name
abbrev pub stands : Build → TechPart → List ℕ → Bool
stands b (part.Units n) name = false
stands b (part.Layer layer) name = is_some (find_layer b.tech name)
stands b (part.Via via) name = is_some (find_via b.tech name)
stands b (part.Site site) name = is_some (find_site b.tech name)
stands b (part.Master master) name = is_some (find_master b.library name)
