-- What the parts of a LEF text say of each other and of the technology that they are entered into.
use Rattle.std.specs.Prelude.{◌≡◌, [], List, ℕ, Some, None, Ok, slice_get}
use Rattle.odb_base.specs.declared.geometry.Shape.{Shape}
use Rattle.tech.specs.Technology.{Technology, find_layer, find_site, find_via}
use Rattle.library.specs.Masters.{find_master}
use Rattle.library.specs.declared.master.Master.{Master}
use Rattle.lef_tree.specs.declared.tree.LefItem.{LefItem}
use Rattle.lef_tree.specs.declared.tree.LefItem.TheVariants as item
use Rattle.lef_tree.specs.declared.tree.LefLayer.{LefLayer}
use Rattle.lef_tree.specs.declared.tree.LefMacro.{LefMacro}
use Rattle.lef_tree.specs.declared.tree.LefShape.{LefShape}
use Rattle.lef_tree.specs.declared.tree.LefSite.{LefSite}
use Rattle.lef_tree.specs.declared.tree.LefVia.{LefVia}
use Rattle.lef_build.specs.Building.{Build, built_of, left_out, start, with_item, with_items, with_masters, with_parts}
use Rattle.lef_build.specs.Stated.{master_of, via_of}

-- a tree without items has no parts
abbrev pub NoItemsHaveNoParts : Technology → List Master → Type 0
NoItemsHaveNoParts t library = (passed : ℕ) → built_of t library (record { items = []; passed = passed }) ≡ Ok (record { parts = []; passed = passed })

-- a second layer of a name changes nothing but the count
abbrev pub SecondLayersAreLeftOut : Build → Type 0
SecondLayersAreLeftOut b = (c : Build) (l m : LefLayer) → with_item b (item.Layer l) ≡ Ok c → m.name ≡ l.name → with_item c (item.Layer m) ≡ Ok (left_out c)

-- a second via of a name changes nothing but the count
abbrev pub SecondViasAreLeftOut : Build → Type 0
SecondViasAreLeftOut b = (c : Build) (v w : LefVia) → with_item b (item.Via v) ≡ Ok c → w.name ≡ v.name → with_item c (item.Via w) ≡ Ok (left_out c)

-- a second site of a name changes nothing but the count
abbrev pub SecondSitesAreLeftOut : Build → Type 0
SecondSitesAreLeftOut b = (c : Build) (r s : LefSite) → with_item b (item.Site r) ≡ Ok c → s.name ≡ r.name → with_item c (item.Site s) ≡ Ok (left_out c)

-- a second macro of a name changes nothing but the count
abbrev pub SecondMacrosAreLeftOut : Build → Type 0
SecondMacrosAreLeftOut b = (c : Build) (m n : LefMacro) → with_item b (item.Macro m) ≡ Ok c → n.name ≡ m.name → with_item c (item.Macro n) ≡ Ok (left_out c)

-- what items lead to is the technology and the library with their parts entered
pub record IsEntered (t : Technology) (library : List Master) (b : Build) : Type 0 where
  pub tech : b.tech ≡ with_parts t b.parts
  pub masters : b.library ≡ with_masters library b.parts

-- items without a fault lead to the technology and the library with their parts entered
abbrev pub ItemsAreEntered : Technology → List Master → Type 0
ItemsAreEntered t library = (passed : ℕ) (items : List LefItem) (b : Build) → with_items (Ok (start t library passed)) items ≡ Ok b → IsEntered t library b

-- where a new via is taken, each of its shapes is on the layer that the technology so far has under the name
abbrev pub ViasAreOnLayers : Build → Type 0
ViasAreOnLayers b = (c : Build) (v : LefVia) → find_via b.tech v.name ≡ None → with_item b (item.Via v) ≡ Ok c
    → (place : ℕ) (s : LefShape) → slice_get v.shapes place ≡ Some s
    → (made : Shape) × (slice_get (via_of b.tech v).shapes place ≡ Some made) × (find_layer b.tech s.layer ≡ Some made.layer.0)

-- where a new macro is taken, its site is the one that the technology so far has under the name
abbrev pub MacrosHaveSites : Build → Type 0
MacrosHaveSites b = (c : Build) (m : LefMacro) (name : List ℕ) → find_master b.library m.name ≡ None → with_item b (item.Macro m) ≡ Ok c
    → m.site ≡ Some name → find_site b.tech name ≡ Some (master_of b.tech m).site
