-- The tests of layers, vias and sites are true exactly where those are lawful.
use Rattle.std.proofs.Common.{◌≡◌, ◌&&◌, ◌↔◌, Bool, List, ℕ, nat_lt}
use Rattle.std.specs.Prelude.{IsTrue, is_none}
use Rattle.odb_base.specs.Geometry.{is_coordinate}
use Rattle.tech.specs.Technology.{Technology}
use Rattle.tech.specs.declared.layer.Layer.{Layer}
use Rattle.tech.specs.declared.site.Site.{Site}
use Rattle.tech.specs.declared.via.TechVia.{TechVia}
use Rattle.lawful_parts.specs.Lawful.{IsLayer, IsSite, IsTechVia, orient_of}
use Rattle.lawful_parts.specs.Tests.{are_shapes, is_layer, is_name, is_site, is_tech_via}
use Rattle.lawful_parts.proofs.ShapeTests.{shapes_are_tested}
use Rattle.odb_base.proofs.Coordinates.{coordinate_test}
use Rattle.lawful_parts.proofs.TestLemmas.{both, lt_test, name_test, none_test}

pub layer_is_tested : (l : Layer) → IsTrue (is_layer l) ↔ IsLayer l
unfolding is_layer
layer_is_tested l =
    let x = both (is_name l.name) (is_coordinate l.pitch_x) (name_test l.name) (coordinate_test l.pitch_x) in
    let y = both _ (is_coordinate l.pitch_y) x (coordinate_test l.pitch_y) in
    let width = both _ (is_coordinate l.width) y (coordinate_test l.width) in
    let all = both _ (is_coordinate l.spacing) width (coordinate_test l.spacing) in (
      λ h. let p = all.0 h in record { name = p.0.0.0.0; pitch_x = p.0.0.0.1; pitch_y = p.0.0.1; width = p.0.1; spacing = p.1 },
      λ is. all.1 ((((is.name, is.pitch_x), is.pitch_y), is.width), is.spacing),
    )

pub via_is_tested : (t : Technology) (v : TechVia) → IsTrue (is_tech_via t v) ↔ IsTechVia t v
unfolding is_tech_via
via_is_tested t v =
    let name = both (is_name v.name) (is_none (orient_of v.name)) (name_test v.name) (none_test (orient_of v.name)) in
    let all = both _ (are_shapes t v.shapes) name (shapes_are_tested t v.shapes) in (
      λ h. let p = all.0 h in record { name = record { lawful = p.0.0; no_orient = p.0.1 }; shapes = p.1 },
      λ is. all.1 ((is.name.lawful, is.name.no_orient), is.shapes),
    )

pub site_is_tested : (s : Site) → IsTrue (is_site s) ↔ IsSite s
unfolding is_site
site_is_tested s =
    let bits = both (is_name s.name) (nat_lt s.symmetry.0 8) (name_test s.name) (lt_test s.symmetry.0 8) in
    let width = both _ (is_coordinate s.width) bits (coordinate_test s.width) in
    let all = both _ (is_coordinate s.height) width (coordinate_test s.height) in (
      λ h. let p = all.0 h in record { name = p.0.0.0; symmetry = p.0.0.1; width = p.0.1; height = p.1 },
      λ is. all.1 (((is.name, is.symmetry), is.width), is.height),
    )
