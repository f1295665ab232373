-- What is made of one item.
use Rattle.std.proofs.Common.{◌≡◌, ℕ, Some, Err, false, is_some, refl}
use Rattle.std.specs.Prelude.{IsTrue}
use Rattle.odb_base.specs.declared.geometry.Rect.{Rect}
use Rattle.odb_base.specs.declared.geometry.Shape.{Shape}
use Rattle.tech.specs.Technology.{Technology, find_layer, find_site, find_via}
use Rattle.library.specs.Masters.{find_master}
use Rattle.lef_tree.specs.declared.tree.LefItem.TheVariants as item
use Rattle.lef_tree.specs.declared.tree.LefLayer.{LefLayer}
use Rattle.lef_tree.specs.declared.tree.LefMacro.{LefMacro}
use Rattle.lef_tree.specs.declared.tree.LefShape.{LefShape}
use Rattle.lef_tree.specs.declared.tree.LefSite.{LefSite}
use Rattle.lef_tree.specs.declared.tree.LefVia.{LefVia}
use Rattle.lef_build.specs.declared.fault.BuildFault.{BuildFault}
use Rattle.lef_build.specs.Building.{Build, with_item}
use Rattle.lef_build.specs.Causes.{layer_fault, macro_fault, site_fault, via_fault}
use Rattle.lef_build.specs.Distances.{has_corners, rect_of}
use Rattle.lef_build.specs.Stated.{layer_number, layer_of, master_of, shape_of, site_of, via_of}

pub shape_made : (t : Technology) (s : LefShape) (units number : ℕ) (rect : Rect) → units ≡ t.units
    → IsTrue (has_corners units s.rect) × (rect ≡ rect_of units s.rect) → number ≡ layer_number t s.layer
    → IsTrue (has_corners t.units s.rect) × ((let made : Shape = record { layer = record { 0 = number }; rect = rect } in made) ≡ shape_of t s)
unfolding shape_of
shape_made t s units number rect e made n =
    let known : IsTrue (has_corners t.units s.rect) × (rect ≡ rect_of t.units s.rect) = rw e at made in
    (known.0, rw (n, known.1) refl)

-- the names of parts
pub layer_name : (units : ℕ) (l : LefLayer) → (layer_of units l).name ≡ l.name
unfolding layer_of
layer_name units l = refl

pub via_name : (t : Technology) (v : LefVia) → (via_of t v).name ≡ v.name
unfolding via_of
via_name t v = refl

pub site_name : (units : ℕ) (s : LefSite) → (site_of units s).name ≡ s.name
unfolding site_of
site_name units s = refl

pub master_name : (t : Technology) (m : LefMacro) → (master_of t m).name ≡ m.name
unfolding master_of
master_name t m = refl

-- an item that doesn't stand and has a fault
pub layer_fails : (b : Build) (l : LefLayer) (why : BuildFault) → is_some (find_layer b.tech l.name) ≡ false → layer_fault b.tech.units l ≡ Some why → with_item b (item.Layer l) ≡ Err why
unfolding with_item
layer_fails b l why new found = rw (new, found) refl

pub via_fails : (b : Build) (v : LefVia) (why : BuildFault) → is_some (find_via b.tech v.name) ≡ false → via_fault b.tech v ≡ Some why → with_item b (item.Via v) ≡ Err why
unfolding with_item
via_fails b v why new found = rw (new, found) refl

pub site_fails : (b : Build) (s : LefSite) (why : BuildFault) → is_some (find_site b.tech s.name) ≡ false → site_fault b.tech.units s ≡ Some why → with_item b (item.Site s) ≡ Err why
unfolding with_item
site_fails b s why new found = rw (new, found) refl

pub macro_fails : (b : Build) (m : LefMacro) (why : BuildFault) → is_some (find_master b.library m.name) ≡ false → macro_fault b.tech m ≡ Some why → with_item b (item.Macro m) ≡ Err why
unfolding with_item
macro_fails b m why new found = rw (new, found) refl
