-- What stays lawful where a technology or a library grows.
use Rattle.std.specs.Prelude.{◌≡◌, ◌<◌, ◌≤◌, ◌++◌, ◌∷◌, [], List, ℕ, None, length}
use Rattle.tech.specs.Technology.{Technology, find_layer, find_site, find_via, with_layer, with_site, with_units, with_via}
use Rattle.tech.specs.declared.layer.Layer.{Layer}
use Rattle.tech.specs.declared.site.Site.{Site}
use Rattle.tech.specs.declared.via.TechVia.{TechVia}
use Rattle.library.specs.Masters.{find_master}
use Rattle.library.specs.declared.master.Master.{Master}
use Rattle.lawful_parts.specs.Lawful.{IsLayer, IsLibrary, IsMaster, IsSite, IsTechVia, IsTechnology}

-- the second technology has as many layers and sites as the first, or more
pub record HasGrown (t u : Technology) : Type 0 where
  pub layers : length t.layers ≤ length u.layers
  pub sites : length t.sites ≤ length u.sites

-- a library stays lawful where the technology grows,
abbrev pub GrowingKeepsLibraries : Technology → Technology → Type 0
GrowingKeepsLibraries t u = (library : List Master) → HasGrown t u → IsLibrary t library → IsLibrary u library

-- and where a lawful master of a new name is entered
abbrev pub EnteringKeepsLibraries : Technology → List Master → Type 0
EnteringKeepsLibraries t library = (m : Master)
    → IsLibrary t library → IsMaster t m → find_master library m.name ≡ None → length library < 1000000 → IsLibrary t (library ++ m ∷ [])

-- a technology stays lawful where other units are stated,
abbrev pub UnitsKeepLawful : Technology → Type 0
UnitsKeepLawful t = (n : ℕ) → IsTechnology t → n ≤ 100000 → IsTechnology (with_units n t)

-- and where a lawful layer, via, site of a new name is entered
abbrev pub LayersKeepLawful : Technology → Type 0
LayersKeepLawful t = (l : Layer)
    → IsTechnology t → IsLayer l → find_layer t l.name ≡ None → length t.layers < 1000000 → IsTechnology (with_layer l t)

abbrev pub ViasKeepLawful : Technology → Type 0
ViasKeepLawful t = (v : TechVia)
    → IsTechnology t → IsTechVia t v → find_via t v.name ≡ None → length t.vias < 1000000 → IsTechnology (with_via v t)

abbrev pub SitesKeepLawful : Technology → Type 0
SitesKeepLawful t = (s : Site)
    → IsTechnology t → IsSite s → find_site t s.name ≡ None → length t.sites < 1000000 → IsTechnology (with_site s t)
