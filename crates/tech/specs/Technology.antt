-- What a technology states.
use Rattle.std.specs.Prelude.{◌≤◌, ◌++◌, ◌∷◌, List, [], ℕ, Option, length}
use Rattle.named_list.specs.Naming.{AreNamesDistinct, at_id, id_named}
use Rattle.tech.specs.declared.layer.Layer.{Layer}
use Rattle.tech.specs.declared.site.Site.{Site}
use Rattle.tech.specs.declared.via.TechVia.{TechVia}

-- the number of database units per micron, 0 where none is stated; and layers, vias and sites in the order of their
-- identifiers
pub record Technology : Type 0 where
  pub units : ℕ
  pub layers : List Layer
  pub vias : List TechVia
  pub sites : List Site

-- nothing is stated
abbrev pub empty_technology : Technology
empty_technology = record { units = 0; layers = []; vias = []; sites = [] }

-- the technology with these units, or with one more layer, via, site
abbrev pub with_units : ℕ → Technology → Technology
with_units n t = record t { units = n }

abbrev pub with_layer : Layer → Technology → Technology
with_layer layer t = record t { layers = t.layers ++ layer ∷ [] }

abbrev pub with_via : TechVia → Technology → Technology
with_via via t = record t { vias = t.vias ++ via ∷ [] }

abbrev pub with_site : Site → Technology → Technology
with_site site t = record t { sites = t.sites ++ site ∷ [] }

-- the layer, the via, the site of an identifier
abbrev pub layer_at : Technology → ℕ → Option Layer
layer_at t id = at_id t.layers id

abbrev pub via_at : Technology → ℕ → Option TechVia
via_at t id = at_id t.vias id

abbrev pub site_at : Technology → ℕ → Option Site
site_at t id = at_id t.sites id

-- the identifier of the first layer, via, site of a name
abbrev pub find_layer : Technology → List ℕ → Option ℕ
find_layer t name = id_named (λ layer. layer.name) t.layers name

abbrev pub find_via : Technology → List ℕ → Option ℕ
find_via t name = id_named (λ via. via.name) t.vias name

abbrev pub find_site : Technology → List ℕ → Option ℕ
find_site t name = id_named (λ site. site.name) t.sites name

-- no two layers, no two vias and no two sites have one name
pub record HasDistinctParts (t : Technology) : Type 0 where
  pub layers : AreNamesDistinct (λ layer. layer.name) t.layers
  pub vias : AreNamesDistinct (λ via. via.name) t.vias
  pub sites : AreNamesDistinct (λ site. site.name) t.sites

-- each list has at most so many
pub record HasFewParts (limit : ℕ) (t : Technology) : Type 0 where
  pub layers : length t.layers ≤ limit
  pub vias : length t.vias ≤ limit
  pub sites : length t.sites ≤ limit
