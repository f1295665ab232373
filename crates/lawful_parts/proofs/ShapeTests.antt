-- The test of shapes is true exactly where they are lawful.
use Rattle.std.proofs.Common.{◌≡◌, ◌&&◌, ◌↔◌, Bool, List, ℕ, length, nat_le}
use Rattle.std.specs.Prelude.{IsTrue}
use Rattle.std.specs.List.{list_all}
use Rattle.odb_base.specs.Geometry.{IsRect, is_coordinate}
use Rattle.odb_base.specs.declared.geometry.Rect.{Rect}
use Rattle.odb_base.specs.declared.geometry.Shape.{Shape}
use Rattle.tech.specs.Technology.{Technology}
use Rattle.lawful_parts.specs.Lawful.{AreShapes, IsIdAmong, IsShape}
use Rattle.lawful_parts.specs.Tests.{are_shapes, has_lawful_corners, int_le, is_in_order, is_id_among, is_rect, is_shape}
use Rattle.odb_base.proofs.Coordinates.{coordinate_test}
use Rattle.lawful_parts.proofs.TestLemmas.{all_test, both, int_le_test, le_test}

rect_test : (r : Rect) → IsTrue (is_rect r) ↔ IsRect r
rect_test r =
    let low = both (is_coordinate r.xl) (is_coordinate r.yl) (coordinate_test r.xl) (coordinate_test r.yl) in
    let three = both _ (is_coordinate r.xh) low (coordinate_test r.xh) in
    let corners = both _ (is_coordinate r.yh) three (coordinate_test r.yh) in
    let sides = both (int_le r.xl r.xh) (int_le r.yl r.yh) (int_le_test r.xl r.xh) (int_le_test r.yl r.yh) in
    let all = both (has_lawful_corners r) (is_in_order r) corners sides in (
      λ h. let p = all.0 h in record { xl = p.0.0.0.0; yl = p.0.0.0.1; xh = p.0.0.1; yh = p.0.1; wide = p.1.0; high = p.1.1 },
      λ is. all.1 ((((is.xl, is.yl), is.xh), is.yh), (is.wide, is.high)),
    )

id_test : (count id : ℕ) → IsTrue (is_id_among count id) ↔ IsIdAmong count id
id_test count id = both (nat_le 1 id) (nat_le id count) (le_test 1 id) (le_test id count)

shape_test : (t : Technology) (s : Shape) → IsTrue (is_shape t s) ↔ IsShape t s
shape_test t s =
    let all = both (is_id_among (length t.layers) s.layer.0) (is_rect s.rect) (id_test (length t.layers) s.layer.0) (rect_test s.rect) in
    (λ h. let p = all.0 h in record { layer = p.0; rect = p.1 }, λ is. all.1 (is.layer, is.rect))

pub shapes_are_tested : (t : Technology) (shapes : List Shape) → IsTrue (are_shapes t shapes) ↔ AreShapes t shapes
unfolding are_shapes
shapes_are_tested t shapes =
    let all = both (nat_le (length shapes) 1000000) (list_all (is_shape t) shapes) (le_test (length shapes) 1000000) (all_test (is_shape t) (shape_test t) shapes) in
    (λ h. let p = all.0 h in record { few = p.0; each = p.1 }, λ is. all.1 (is.few, is.each))
