-- Parts stay lawful where a technology or a library grows.
use Rattle.std.proofs.Common.{◌≡◌, ◌<◌, ◌≤◌, ◌++◌, ◌∷◌, [], List, ℕ, Some, length, slice_get, arith, inl, inr}
use Rattle.std.proofs.lemmas.List.{length_push}
use Rattle.odb_base.specs.declared.geometry.Shape.{Shape}
use Rattle.named_list.proofs.Ids.{entering_keeps_distinct}
use Rattle.named_list.proofs.Places.{push_cases}
use Rattle.tech.specs.Technology.{Technology, with_layer, with_site, with_units, with_via}
use Rattle.tech.specs.declared.layer.Layer.{Layer}
use Rattle.tech.specs.declared.site.Site.{Site}
use Rattle.tech.specs.declared.via.TechVia.{TechVia}
use Rattle.library.specs.declared.master.Master.{Master}
use Rattle.lawful_parts.specs.Laws.{EnteringKeepsLibraries, GrowingKeepsLibraries, HasGrown, LayersKeepLawful, SitesKeepLawful, UnitsKeepLawful, ViasKeepLawful}
use Rattle.lawful_parts.specs.Lawful.{AreAll, AreShapes, IsLayer, IsMTerm, IsMaster, IsSite, IsTechVia, IsTechnology}

module _ {A : Type 0} where
  -- each is lawful where each was and the last is
  all_pushed : (Is : A → Type 0) (things : List A) (thing : A) → AreAll Is things → Is thing → AreAll Is (things ++ thing ∷ [])
  all_pushed Is things thing are is place x at = elim (push_cases things thing place x at) [
    | inl before ↦ are place x before
    | inr last ↦ rw last.1 is
  ]

  all_along : (Is Will : A → Type 0) (things : List A) → ((x : A) → Is x → Will x) → AreAll Is things → AreAll Will things
  all_along Is Will things along are place x at = along x (are place x at)

-- shapes and vias ask of a technology its layers alone
module _ (t u : Technology) (layers : length t.layers ≤ length u.layers) where
  pub shapes_along : (shapes : List Shape) → AreShapes t shapes → AreShapes u shapes
  shapes_along shapes are = record {
    few = are.few;
    each = λ place s at. let is = are.each place s at in
        record { layer = (is.layer.0, omega (arith, is.layer.1, layers)); rect = is.rect };
  }

  pub via_along : (v : TechVia) → IsTechVia t v → IsTechVia u v
  via_along v is = record { name = is.name; shapes = shapes_along v.shapes is.shapes }

module _ (t u : Technology) (grown : HasGrown t u) where
  via_grown : (v : TechVia) → IsTechVia t v → IsTechVia u v
  via_grown v is = via_along t u grown.layers v is

  master_grown : (m : Master) → IsMaster t m → IsMaster u m
  master_grown m is = record {
    name = is.name;
    class_short = is.class_short;
    foreign_short = is.foreign_short;
    origin_x = is.origin_x;
    origin_y = is.origin_y;
    width = is.width;
    height = is.height;
    symmetry = is.symmetry;
    site = omega (arith, is.site, grown.sites);
    few = is.few;
    terminals = λ place m at. let was = is.terminals place m at in
        record { name = was.name; shapes = shapes_along t u grown.layers m.shapes was.shapes };
    distinct = is.distinct;
    obstructions = shapes_along t u grown.layers m.obstructions is.obstructions;
  }

pub growing_keeps_libraries : (t u : Technology) → GrowingKeepsLibraries t u
growing_keeps_libraries t u library grown is = record {
  masters = all_along _ _ library (master_grown t u grown) is.masters;
  distinct = is.distinct;
  few = is.few;
}

pub entering_keeps_libraries : (t : Technology) (library : List Master) → EnteringKeepsLibraries t library
entering_keeps_libraries t library m is lawful new room = record {
  masters = all_pushed _ library m is.masters lawful;
  distinct = entering_keeps_distinct (λ (m : Master). m.name) library m is.distinct new;
  few = let long = length_push library m in omega (arith, long, room);
}

pub units_have_grown : (t : Technology) (n : ℕ) → HasGrown t (with_units n t)
units_have_grown t n = record { layers = omega arith; sites = omega arith }

pub units_keep_lawful : (t : Technology) → UnitsKeepLawful t
units_keep_lawful t n is few = record {
  units = few;
  layers = is.layers;
  vias = all_along _ _ t.vias (via_grown t (with_units n t) (units_have_grown t n)) is.vias;
  sites = is.sites;
  distinct = record { layers = is.distinct.layers; vias = is.distinct.vias; sites = is.distinct.sites };
  few = record { layers = is.few.layers; vias = is.few.vias; sites = is.few.sites };
}

pub layer_has_grown : (t : Technology) (l : Layer) → HasGrown t (with_layer l t)
layer_has_grown t l = let long = length_push t.layers l in record { layers = omega (arith, long); sites = omega arith }

pub layers_keep_lawful : (t : Technology) → LayersKeepLawful t
layers_keep_lawful t l is lawful new room = record {
  units = is.units;
  layers = all_pushed _ t.layers l is.layers lawful;
  vias = all_along _ _ t.vias (via_grown t (with_layer l t) (layer_has_grown t l)) is.vias;
  sites = is.sites;
  distinct = record {
    layers = entering_keeps_distinct (λ (l : Layer). l.name) t.layers l is.distinct.layers new;
    vias = is.distinct.vias;
    sites = is.distinct.sites;
  };
  few = let long = length_push t.layers l in record { layers = omega (arith, long, room); vias = is.few.vias; sites = is.few.sites };
}

pub via_has_grown : (t : Technology) (v : TechVia) → HasGrown t (with_via v t)
via_has_grown t v = record { layers = omega arith; sites = omega arith }

pub vias_keep_lawful : (t : Technology) → ViasKeepLawful t
vias_keep_lawful t v is lawful new room = record {
  units = is.units;
  layers = is.layers;
  vias = all_along _ _ (t.vias ++ v ∷ []) (via_grown t (with_via v t) (via_has_grown t v)) (all_pushed _ t.vias v is.vias lawful);
  sites = is.sites;
  distinct = record {
    layers = is.distinct.layers;
    vias = entering_keeps_distinct (λ (v : TechVia). v.name) t.vias v is.distinct.vias new;
    sites = is.distinct.sites;
  };
  few = let long = length_push t.vias v in record { layers = is.few.layers; vias = omega (arith, long, room); sites = is.few.sites };
}

pub site_has_grown : (t : Technology) (s : Site) → HasGrown t (with_site s t)
site_has_grown t s = let long = length_push t.sites s in record { layers = omega arith; sites = omega (arith, long) }

pub sites_keep_lawful : (t : Technology) → SitesKeepLawful t
sites_keep_lawful t s is lawful new room = record {
  units = is.units;
  layers = is.layers;
  vias = all_along _ _ t.vias (via_grown t (with_site s t) (site_has_grown t s)) is.vias;
  sites = all_pushed _ t.sites s is.sites lawful;
  distinct = record {
    layers = is.distinct.layers;
    vias = is.distinct.vias;
    sites = entering_keeps_distinct (λ (s : Site). s.name) t.sites s is.distinct.sites new;
  };
  few = let long = length_push t.sites s in record { layers = is.few.layers; vias = is.few.vias; sites = omega (arith, long, room) };
}
