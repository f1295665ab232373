-- Parts and the technology and the library that they are entered into.
use Rattle.std.proofs.Common.{◌≡◌, ◌==◌, ◌||◌, ◌∙◌, ◌∷◌, [], zero, suc, Bool, true, false, List, ℕ, Option, Some, None, Result, Ok, Err, is_some, if◌then◌else◌, map, slice_get, unwrap_or, refl, sym, ap, inl, inr}
use Rattle.std.specs.Option.{option_or}
use Rattle.tech.specs.Technology.{Technology, find_layer, find_site, find_via}
use Rattle.library.specs.Masters.{find_master}
use Rattle.library.specs.declared.master.Master.{Master}
use Rattle.edit_words.specs.declared.part.TechPart.{TechPart}
use Rattle.edit_words.specs.declared.part.TechPart.TheVariants as part
use Rattle.lef_tree.specs.declared.tree.LefItem.{LefItem}
use Rattle.lef_tree.specs.declared.tree.LefItem.TheVariants as item
use Rattle.lef_tree.specs.declared.tree.LefMacro.{LefMacro}
use Rattle.lef_tree.specs.declared.tree.LefVia.{LefVia}
use Rattle.lef_build.specs.declared.fault.BuildFault.{BuildFault}
use Rattle.lef_build.specs.declared.fault.BuildFault.TheVariants as fault
use Rattle.lef_build.specs.Building.{Build, entered, left_out, start, tried, with_item, with_items, with_master, with_part}
use Rattle.lef_build.specs.Causes.{are_good_shapes, bad_value, first_fault, has_shapes, is_good_macro, layer_fault, macro_fault, macro_states, no_units, site_fault, unknown_layer, unknown_layers, unknown_pin_layers, unknown_site, via_fault}
use Rattle.lef_build.specs.Laws.{IsEntered, ItemsAreEntered, MacrosHaveSites, ViasAreOnLayers}
use Rattle.lef_build.specs.Stated.{layer_of, master_of, shape_of, site_of, via_of}
use Rattle.lef_build.proofs.Entering.{with_masters-push, with_parts-push}
use Rattle.lef_build.proofs.Second.{taken_cases}

module _ (t : Technology) (library : List Master) where
  part_entered : (b : Build) (p : TechPart) → IsEntered t library b → IsEntered t library (entered p b)
  part_entered b p known = record {
    tech = ap (λ (u : Technology). with_part u p) known.tech ∙ sym (with_parts-push t b.parts p);
    masters = ap (λ (all : List Master). with_master all p) known.masters ∙ sym (with_masters-push library b.parts p);
  }

  choice_entered : (b c : Build) (stood : Bool) (found : Option BuildFault) (p : TechPart) → IsEntered t library b
      → (if stood then Ok (left_out b) else tried found p b) ≡ Ok c → IsEntered t library c
  choice_entered b c stood found p known h = elim (taken_cases b c stood found p h) [
    | inl old ↦ rw old.1 (record { tech = known.tech; masters = known.masters })
    | inr new ↦ rw new.2 (part_entered b p known)
  ]

  units_entered : (b c : Build) (n : ℕ) (same : Bool) → IsEntered t library b
      → (if same then Ok (entered (part.Units n) b) else Err (fault.UnitsChanged b.tech.units n)) ≡ Ok c → IsEntered t library c
  units_entered b c n true known h = let is : c ≡ entered (part.Units n) b = cc in rw is (part_entered b (part.Units n) known)
  units_entered b c n false known h = cc

  item_entered : (b c : Build) (i : LefItem) → IsEntered t library b → with_item b i ≡ Ok c → IsEntered t library c
  unfolding with_item
  item_entered b c (item.Units n) known h = units_entered b c n (b.tech.units == 0 || b.tech.units == n) known h
  item_entered b c (item.Layer l) known h = choice_entered b c (is_some (find_layer b.tech l.name)) (layer_fault b.tech.units l) (part.Layer (layer_of b.tech.units l)) known h
  item_entered b c (item.Via v) known h = choice_entered b c (is_some (find_via b.tech v.name)) (via_fault b.tech v) (part.Via (via_of b.tech v)) known h
  item_entered b c (item.Site s) known h = choice_entered b c (is_some (find_site b.tech s.name)) (site_fault b.tech.units s) (part.Site (site_of b.tech.units s)) known h
  item_entered b c (item.Macro m) known h = choice_entered b c (is_some (find_master b.library m.name)) (macro_fault b.tech m) (part.Master (master_of b.tech m)) known h

  items_entered : (items : List LefItem) (r : Result Build BuildFault) (c : Build) → ((b : Build) → r ≡ Ok b → IsEntered t library b)
      → with_items r items ≡ Ok c → IsEntered t library c
  items_entered items (Err why) c known h = cc
  items_entered [] (Ok b) c known h = known c h
  items_entered (i ∷ is) (Ok b) c known h = items_entered is (with_item b i) c (λ d f. item_entered b d i (known b refl) f) h

  start_entered : (passed : ℕ) (b : Build) → (let r : Result Build BuildFault = Ok (start t library passed) in r) ≡ Ok b → IsEntered t library b
  start_entered passed b h = let is : b ≡ start t library passed = cc in rw is (record { tech = refl; masters = refl })

  pub items_are_entered : ItemsAreEntered t library
  items_are_entered passed items b h = items_entered items (Ok (start t library passed)) b (start_entered passed) h

-- no first fault
or_none : (a b : Option BuildFault) → option_or a b ≡ None → (a ≡ None) × (b ≡ None)
or_none None b h = (refl, h)
or_none (Some why) b h = cc

no_fault_at : {A : Type 0} (fault_of : A → Option BuildFault) (xs : List A) (i : ℕ) (x : A) → first_fault fault_of xs ≡ None → slice_get xs i ≡ Some x → fault_of x ≡ None
no_fault_at fault_of [] i x none at = cc
no_fault_at fault_of (y ∷ ys) zero x none at = let same : y ≡ x = cc in ap fault_of (sym same) ∙ (or_none (fault_of y) (first_fault fault_of ys) none).0
no_fault_at fault_of (y ∷ ys) (suc i) x none at = no_fault_at fault_of ys i x (or_none (fault_of y) (first_fault fault_of ys) none).1 at

map_at : {A B : Type 0} (f : A → B) (xs : List A) (i : ℕ) (x : A) → slice_get xs i ≡ Some x → slice_get (map f xs) i ≡ Some (f x)
map_at f [] i x at = cc
map_at f (y ∷ ys) zero x at = let same : y ≡ x = cc in ap (λ z. Some (f z)) same
map_at f (y ∷ ys) (suc i) x at = map_at f ys i x at

-- what is looked up and not missing is there
is_there : (o : Option ℕ) (why : BuildFault) → (if is_some o then None else Some why) ≡ None → o ≡ Some (unwrap_or o 0)
is_there None why h = cc
is_there (Some n) why h = refl

taken_new : (b c : Build) (stood : Option ℕ) (found : Option BuildFault) (p : TechPart) → stood ≡ None → (if is_some stood then Ok (left_out b) else tried found p b) ≡ Ok c → found ≡ None
taken_new b c None None p new h = refl
taken_new b c None (Some why) p new h = cc
taken_new b c (Some n) found p new h = cc

via_is_good : (b c : Build) (v : LefVia) → find_via b.tech v.name ≡ None → with_item b (item.Via v) ≡ Ok c → unknown_layers b.tech v.shapes ≡ None
unfolding with_item via_fault
via_is_good b c v new taken =
    let none : via_fault b.tech v ≡ None = taken_new b c (find_via b.tech v.name) (via_fault b.tech v) (part.Via (via_of b.tech v)) new taken in
    let later = or_none (no_units (has_shapes v.shapes) b.tech.units) (option_or (unknown_layers b.tech v.shapes) (bad_value v.name (are_good_shapes b.tech.units v.shapes))) none in
    (or_none (unknown_layers b.tech v.shapes) (bad_value v.name (are_good_shapes b.tech.units v.shapes)) later.1).0

pub vias_are_on_layers : (b : Build) → ViasAreOnLayers b
unfolding shape_of via_of
vias_are_on_layers b c v new taken place s at =
    let known : unknown_layer b.tech s ≡ None = no_fault_at (unknown_layer b.tech) v.shapes place s (via_is_good b c v new taken) at in
    (shape_of b.tech s, map_at (shape_of b.tech) v.shapes place s at, is_there (find_layer b.tech s.layer) (fault.UnknownLayer s.layer) known)

macro_is_good : (b c : Build) (m : LefMacro) → find_master b.library m.name ≡ None → with_item b (item.Macro m) ≡ Ok c → unknown_site b.tech m.site ≡ None
unfolding with_item macro_fault
macro_is_good b c m new taken =
    let none : macro_fault b.tech m ≡ None = taken_new b c (find_master b.library m.name) (macro_fault b.tech m) (part.Master (master_of b.tech m)) new taken in
    let bad = bad_value m.name (is_good_macro b.tech.units m) in
    let site = option_or (unknown_site b.tech m.site) bad in
    let layers = option_or (unknown_layers b.tech m.obstructions) site in
    let one = or_none (no_units (macro_states m) b.tech.units) (option_or (unknown_pin_layers b.tech m.terminals) layers) none in
    let two = or_none (unknown_pin_layers b.tech m.terminals) layers one.1 in
    let three = or_none (unknown_layers b.tech m.obstructions) site two.1 in
    (or_none (unknown_site b.tech m.site) bad three.1).0

pub macros_have_sites : (b : Build) → MacrosHaveSites b
unfolding master_of
macros_have_sites b c m name new taken named =
    let known : unknown_site b.tech (Some name) ≡ None = rw named at (macro_is_good b c m new taken) in
    rw named (is_there (find_site b.tech name) (fault.UnknownSite name) known)
