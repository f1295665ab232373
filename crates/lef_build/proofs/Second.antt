-- A second item of a name.
use Rattle.std.proofs.Common.{◌≡◌, ◌⊎◌, ◌∙◌, ◌++◌, ◌∷◌, [], Bool, true, false, List, ℕ, Option, Some, None, Ok, is_some, length, if◌then◌else◌, refl, sym, inl, inr}
use Rattle.named_list.specs.Naming.{id_named, place_named}
use Rattle.named_list.proofs.Naming.{unfound, unnamed}
use Rattle.named_list.proofs.Places.{slice_get-last}
use Rattle.tech.specs.Technology.{find_layer, find_site, find_via}
use Rattle.tech.specs.declared.layer.Layer.{Layer}
use Rattle.tech.specs.declared.site.Site.{Site}
use Rattle.tech.specs.declared.via.TechVia.{TechVia}
use Rattle.library.specs.Masters.{find_master}
use Rattle.library.specs.declared.master.Master.{Master}
use Rattle.edit_words.specs.declared.part.TechPart.{TechPart}
use Rattle.edit_words.specs.declared.part.TechPart.TheVariants as part
use Rattle.lef_build.specs.declared.fault.BuildFault.{BuildFault}
use Rattle.lef_build.specs.Building.{Build, entered, left_out, tried, with_item}
use Rattle.lef_build.specs.Causes.{layer_fault, macro_fault, site_fault, via_fault}
use Rattle.lef_build.specs.Laws.{SecondLayersAreLeftOut, SecondMacrosAreLeftOut, SecondSitesAreLeftOut, SecondViasAreLeftOut}
use Rattle.lef_build.specs.Stated.{layer_of, master_of, site_of, via_of}
use Rattle.lef_build.proofs.OneItem.{layer_name, master_name, site_name, via_name}

some_of : {A : Type 0} (o : Option A) → (o ≡ None → ⊥) → is_some o ≡ true
some_of None h = absurd (h refl)
some_of (Some x) h = refl

-- what was put last is found by its name
last_is_found : {A : Type 0} (name_of : A → List ℕ) (xs : List A) (x : A) (name : List ℕ) → name ≡ name_of x → is_some (id_named name_of (xs ++ x ∷ []) name) ≡ true
last_is_found name_of xs x name named =
    some_of (id_named name_of (xs ++ x ∷ []) name)
    (λ none. unnamed name_of (xs ++ x ∷ []) name (length xs) x (unfound (place_named name_of (xs ++ x ∷ []) name) none) (slice_get-last xs x) named)

-- an item that was taken is left out, or its part is entered
pub taken_cases : (b c : Build) (stood : Bool) (found : Option BuildFault) (p : TechPart) → (if stood then Ok (left_out b) else tried found p b) ≡ Ok c
    → ((stood ≡ true) × (c ≡ left_out b)) ⊎ ((stood ≡ false) × (found ≡ None) × (c ≡ entered p b))
taken_cases b c true found p h = inl (refl, cc)
taken_cases b c false None p h = inr (refl, refl, cc)
taken_cases b c false (Some why) p h = cc

pub second_layers : (b : Build) → SecondLayersAreLeftOut b
unfolding with_item
second_layers b c l m taken named =
    let is : is_some (find_layer c.tech m.name) ≡ true =
    elim (taken_cases b c (is_some (find_layer b.tech l.name)) (layer_fault b.tech.units l) (part.Layer (layer_of b.tech.units l)) taken) [
      | inl old ↦ rw (old.1, named) old.0
      | inr new ↦ rw new.2 (last_is_found (λ (x : Layer). x.name) b.tech.layers (layer_of b.tech.units l) m.name (named ∙ sym (layer_name b.tech.units l)))
    ] in
    rw is refl

pub second_vias : (b : Build) → SecondViasAreLeftOut b
unfolding with_item
second_vias b c v w taken named =
    let is : is_some (find_via c.tech w.name) ≡ true =
    elim (taken_cases b c (is_some (find_via b.tech v.name)) (via_fault b.tech v) (part.Via (via_of b.tech v)) taken) [
      | inl old ↦ rw (old.1, named) old.0
      | inr new ↦ rw new.2 (last_is_found (λ (x : TechVia). x.name) b.tech.vias (via_of b.tech v) w.name (named ∙ sym (via_name b.tech v)))
    ] in
    rw is refl

pub second_sites : (b : Build) → SecondSitesAreLeftOut b
unfolding with_item
second_sites b c r s taken named =
    let is : is_some (find_site c.tech s.name) ≡ true =
    elim (taken_cases b c (is_some (find_site b.tech r.name)) (site_fault b.tech.units r) (part.Site (site_of b.tech.units r)) taken) [
      | inl old ↦ rw (old.1, named) old.0
      | inr new ↦ rw new.2 (last_is_found (λ (x : Site). x.name) b.tech.sites (site_of b.tech.units r) s.name (named ∙ sym (site_name b.tech.units r)))
    ] in
    rw is refl

pub second_macros : (b : Build) → SecondMacrosAreLeftOut b
unfolding with_item
second_macros b c m n taken named =
    let is : is_some (find_master c.library n.name) ≡ true =
    elim (taken_cases b c (is_some (find_master b.library m.name)) (macro_fault b.tech m) (part.Master (master_of b.tech m)) taken) [
      | inl old ↦ rw (old.1, named) old.0
      | inr new ↦ rw new.2 (last_is_found (λ (x : Master). x.name) b.library (master_of b.tech m) n.name (named ∙ sym (master_name b.tech m)))
    ] in
    rw is refl
