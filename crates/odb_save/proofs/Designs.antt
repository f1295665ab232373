-- The parts of a technology and a library can be entered, all of them, just where both are lawful.
use Rattle.std.proofs.Common.{◌≡◌, ◌+◌, ◌<◌, ◌≤◌, ◌++◌, ◌∷◌, [], List, ℕ, Bool, true, false, Option, None, Some, Result, Ok, map, length, length-append, slice_get, nat_le, refl, sym, ap, subst, ◌∙◌, append_assoc, append-nil, inl, inr, arith}
use Rattle.std.specs.Prelude.{is_some}
use Rattle.std.specs.Option.{option_map}
use Rattle.std.proofs.lemmas.Bool.Decides.{nat_tests}
use Rattle.std.proofs.lemmas.Option.{slice_get_within}
use Rattle.named_list.specs.Naming.{AreNamesDistinct, id_named, place_named}
use Rattle.named_list.proofs.Naming.{found_is_named}
use Rattle.named_list.proofs.Places.{slice_get-append}
use Rattle.tech.specs.Technology.{Technology}
use Rattle.tech.specs.declared.layer.Layer.{Layer}
use Rattle.tech.specs.declared.site.Site.{Site}
use Rattle.tech.specs.declared.via.TechVia.{TechVia}
use Rattle.library.specs.declared.master.Master.{Master}
use Rattle.lawful_parts.specs.Lawful.{AreAll}
use Rattle.lawful_parts.proofs.Growing.{via_along}
use Rattle.lawful_parts.proofs.MasterTests.{master_is_tested}
use Rattle.lawful_parts.proofs.PartTests.{layer_is_tested, site_is_tested, via_is_tested}
use Rattle.edit_words.specs.declared.part.TechPart.{TechPart}
use Rattle.edit_words.specs.declared.part.TechPart.TheVariants as part
use Rattle.block_store.specs.Database.{Database}
use Rattle.tech_parts.specs.Adding.{IsFault, cause_of, first_cause, goes_on, with_part, with_parts}
use Rattle.tech_parts.specs.declared.fault.PartCause.{PartCause}
use Rattle.tech_parts.specs.declared.fault.PartFault.{PartFault}
use Rattle.tech_parts.specs.declared.fault.PartFault.TheVariants as fault
use Rattle.tech_parts.proofs.Entered.{parts-append}
use Rattle.odb_save.specs.Design.{IsDesign, parts_of}
use Rattle.odb_save.specs.LoadFaults.{of_part}
use Rattle.odb_save.specs.Loading.{IsDesignFault}

-- ---- what was entered

-- the database with all of these parts
abbrev pub with_all : List TechPart → Database → Database
with_all [] d = d
with_all (p ∷ parts) d = with_all parts (with_part p d)

entered_by : (before : ℕ) (p : TechPart) (parts : List TechPart) (d e : Database) (cause : Option PartCause)
    → ((e' : Database) → with_parts (before + 1) parts (with_part p d) ≡ Ok e' → e' ≡ with_all parts (with_part p d))
    → goes_on (before + 1) cause (with_parts (before + 1) parts (with_part p d)) ≡ Ok e → e ≡ with_all parts (with_part p d)
entered_by before p parts d e None rest h = rest e h
entered_by before p parts d e (Some why) rest h = absurd cc

-- where parts are entered, the database has all of them
pub all_entered : (before : ℕ) (parts : List TechPart) (d e : Database) → with_parts before parts d ≡ Ok e → e ≡ with_all parts d
all_entered before [] d e h = cc
all_entered before (p ∷ parts) d e h = entered_by before p parts d e (cause_of d p) (λ e' g. all_entered (before + 1) parts (with_part p d) e' g) h

all-append : (xs ys : List TechPart) (d : Database) → with_all (xs ++ ys) d ≡ with_all ys (with_all xs d)
all-append [] ys d = refl
all-append (x ∷ xs) ys d = all-append xs ys (with_part x d)

-- parts of one sort: how one is entered, and what the database is with a list of them
module _ {A : Type 0} (wrap : A → TechPart) (having : List A → Database) (step : (xs : List A) (x : A) → with_part (wrap x) (having xs) ≡ having (xs ++ x ∷ [])) where
  -- all of a list are entered
  all_of_sort : (xs ys : List A) → with_all (map wrap ys) (having xs) ≡ having (xs ++ ys)
  all_of_sort xs [] = ap having (sym (append-nil xs))
  all_of_sort xs (y ∷ ys) = ap (with_all (map wrap ys)) (step xs y) ∙ all_of_sort (xs ++ y ∷ []) ys ∙ ap having (append_assoc xs (y ∷ []) ys)

  -- each can be entered behind those before it
  module _ (all : List A) (may : (xs : List A) (x : A) (ys : List A) → xs ++ x ∷ ys ≡ all → cause_of (having xs) (wrap x) ≡ None) where
    sort_entered : (before : ℕ) (xs ys : List A) → xs ++ ys ≡ all → with_parts before (map wrap ys) (having xs) ≡ Ok (having all)
    sort_entered before xs [] whole = ap (λ (l : List A). Ok (having l)) (sym (append-nil xs) ∙ whole)
    sort_entered before xs (y ∷ ys) whole =
        let none = may xs y ys whole in
        rw none (ap (with_parts (before + 1) (map wrap ys)) (step xs y) ∙ sort_entered (before + 1) (xs ++ y ∷ []) ys (append_assoc xs (y ∷ []) ys ∙ whole))

-- ---- what can be entered

-- a thing stands at the place that those before it leave
stands : {A : Type 0} (before more : List A) (x : A) → slice_get (before ++ x ∷ more) (length before) ≡ Some x
stands [] more x = refl
stands (y ∷ before) more x = stands before more x

-- the name of a thing of a list in which names are distinct is that of none before it
unplaced : {A : Type 0} (name_of : A → List ℕ) (before more : List A) (x : A) → AreNamesDistinct name_of (before ++ x ∷ more) → (o : Option ℕ) → place_named name_of before (name_of x) ≡ o → o ≡ None
unplaced name_of before more x apart None e = refl
unplaced name_of before more x apart (Some i) e =
    let found = found_is_named name_of before (name_of x) i e in
    let one : i ≡ length before = apart i (length before) found.0 x (slice_get-append before (x ∷ more) i found.0 found.1) (stands before more x) found.2 in
    let within = slice_get_within before i found.0 found.1 in
    absurd (omega (arith, one, within))

-- its name is new, it is lawful, and there is room
record Fits {A : Type 0} (name_of : A → List ℕ) (Is : A → Type 0) (limit : ℕ) (before : List A) (x : A) : Type 0 where
  new : id_named name_of before (name_of x) ≡ None
  lawful : Is x
  room : length before < limit

fits : {A : Type 0} (name_of : A → List ℕ) (Is : A → Type 0) (limit : ℕ) (all before : List A) (x : A) (more : List A)
    → AreAll Is all → AreNamesDistinct name_of all → length all ≤ limit → before ++ x ∷ more ≡ all → Fits name_of Is limit before x
fits {A} name_of Is limit all before x more are apart few whole =
    let at : slice_get all (length before) ≡ Some x = ap (λ (l : List A). slice_get l (length before)) (sym whole) ∙ stands before more x in
    let distinct = subst (λ (l : List A). AreNamesDistinct name_of l) (sym whole) apart in
    let long = length-append before (x ∷ more) in
    let size = ap length whole in
    record {
      new = ap (option_map (λ place. place + 1)) (unplaced name_of before more x distinct (place_named name_of before (name_of x)) refl);
      lawful = are (length before) x at;
      room = omega (arith, long, size, few);
    }

-- what is new, lawful and has room isn't refused
none_of : (found : Option ℕ) (lawful : Bool) (limit count : ℕ) → found ≡ None → lawful ≡ true → count < limit → first_cause (is_some found) lawful (nat_le limit count) ≡ None
none_of found lawful limit count new is room =
    let free : nat_le limit count ≡ false = grind (arith, nat_tests, room) in
    rw (new, is, free) refl

-- ---- a design

module _ (t : Technology) (masters : List Master) (b : Database) where
  -- the databases on the way: with layers, then vias, then sites, then masters
  abbrev layered : List Layer → Database
  layered layers = record b { tech = record { units = t.units; layers = layers; vias = []; sites = [] }; library = [] }

  abbrev viaed : List TechVia → Database
  viaed vias = record b { tech = record { units = t.units; layers = t.layers; vias = vias; sites = [] }; library = [] }

  abbrev sited : List Site → Database
  sited sites = record b { tech = record { units = t.units; layers = t.layers; vias = t.vias; sites = sites }; library = [] }

  abbrev stocked : List Master → Database
  stocked library = record b { tech = t; library = library }

  layers_may : IsDesign t masters → (before : List Layer) (x : Layer) (more : List Layer) → before ++ x ∷ more ≡ t.layers → cause_of (layered before) (part.Layer x) ≡ None
  unfolding cause_of
  layers_may is before x more whole =
      let f = fits (λ (l : Layer). l.name) _ 1000000 t.layers before x more is.tech.layers is.tech.distinct.layers is.tech.few.layers whole in
      none_of _ _ 1000000 (length before) f.new ((layer_is_tested x).1 f.lawful) f.room

  vias_may : IsDesign t masters → (before : List TechVia) (x : TechVia) (more : List TechVia) → before ++ x ∷ more ≡ t.vias → cause_of (viaed before) (part.Via x) ≡ None
  unfolding cause_of
  vias_may is before x more whole =
      let f = fits (λ (v : TechVia). v.name) _ 1000000 t.vias before x more is.tech.vias is.tech.distinct.vias is.tech.few.vias whole in
      let lawful = via_along t (viaed before).tech (omega arith) x f.lawful in
      none_of _ _ 1000000 (length before) f.new ((via_is_tested (viaed before).tech x).1 lawful) f.room

  sites_may : IsDesign t masters → (before : List Site) (x : Site) (more : List Site) → before ++ x ∷ more ≡ t.sites → cause_of (sited before) (part.Site x) ≡ None
  unfolding cause_of
  sites_may is before x more whole =
      let f = fits (λ (s : Site). s.name) _ 1000000 t.sites before x more is.tech.sites is.tech.distinct.sites is.tech.few.sites whole in
      none_of _ _ 1000000 (length before) f.new ((site_is_tested x).1 f.lawful) f.room

  masters_may : IsDesign t masters → (before : List Master) (x : Master) (more : List Master) → before ++ x ∷ more ≡ masters → cause_of (stocked before) (part.Master x) ≡ None
  unfolding cause_of
  masters_may is before x more whole =
      let f = fits (λ (m : Master). m.name) _ 1000000 masters before x more is.library.masters is.library.distinct is.library.few whole in
      none_of _ _ 1000000 (length before) f.new ((master_is_tested t x).1 f.lawful) f.room

  abbrev layer_parts : List TechPart
  layer_parts = map part.Layer t.layers

  abbrev via_parts : List TechPart
  via_parts = map part.Via t.vias

  abbrev site_parts : List TechPart
  site_parts = map part.Site t.sites

  abbrev master_parts : List TechPart
  master_parts = map part.Master masters

  -- all parts of a lawful design are entered
  design_enters : IsDesign t masters → with_parts 0 (parts_of t masters) (layered []) ≡ Ok (stocked masters)
  design_enters is =
      let layers = sort_entered part.Layer layered (λ xs x. refl) t.layers (layers_may is) 0 [] t.layers refl in
      let vias = sort_entered part.Via viaed (λ xs x. refl) t.vias (vias_may is) (0 + length layer_parts) [] t.vias refl in
      let sites = sort_entered part.Site sited (λ xs x. refl) t.sites (sites_may is) (0 + length (layer_parts ++ via_parts)) [] t.sites refl in
      let library = sort_entered part.Master stocked (λ xs x. refl) masters (masters_may is) (0 + length (layer_parts ++ via_parts ++ site_parts)) [] masters refl in
      let with_vias = parts-append 0 layer_parts via_parts (layered []) (layered t.layers) layers ∙ vias in
      let with_sites = parts-append 0 (layer_parts ++ via_parts) site_parts (layered []) (viaed t.vias) with_vias ∙ sites in
      parts-append 0 (layer_parts ++ via_parts ++ site_parts) master_parts (layered []) (sited t.sites) with_sites ∙ library

  -- and what is entered has just these parts
  design_is : (e : Database) → with_parts 0 (parts_of t masters) (layered []) ≡ Ok e → e ≡ stocked masters
  design_is e h =
      let layers = all_of_sort part.Layer layered (λ xs x. refl) [] t.layers in
      let vias = all_of_sort part.Via viaed (λ xs x. refl) [] t.vias in
      let sites = all_of_sort part.Site sited (λ xs x. refl) [] t.sites in
      let library = all_of_sort part.Master stocked (λ xs x. refl) [] masters in
      let with_vias = all-append layer_parts via_parts (layered []) ∙ ap (with_all via_parts) layers ∙ vias in
      let with_sites = all-append (layer_parts ++ via_parts) site_parts (layered []) ∙ ap (with_all site_parts) with_vias ∙ sites in
      all_entered 0 (parts_of t masters) (layered []) e h
      ∙ all-append (layer_parts ++ via_parts ++ site_parts) master_parts (layered [])
      ∙ ap (with_all master_parts) with_sites
      ∙ library

  -- where a part is refused, the design isn't lawful
  design_refused : (why : PartFault) → IsFault (with_parts 0 (parts_of t masters) (layered [])) why → (why ≡ fault.Memory → ⊥) → ¬ (IsDesign t masters)
  design_refused why (inl none) other is = other none
  design_refused why (inr refused) other is = let entered = design_enters is in absurd cc

  design_fault : (why : PartFault) → IsFault (with_parts 0 (parts_of t masters) (layered [])) why → IsDesignFault t masters (of_part why)
  design_fault fault.Memory h = tt
  design_fault why h = (refl, design_refused why h (λ e. cc))

  -- what entering the parts into the database without any comes to
  module _ (parts : List TechPart) (old : Database) (all : parts ≡ parts_of t masters) (none : old ≡ layered []) where
    same_parts : with_parts 0 parts old ≡ with_parts 0 (parts_of t masters) (layered [])
    same_parts = ap (λ (l : List TechPart). with_parts 0 l old) all ∙ ap (with_parts 0 (parts_of t masters)) none

    pub entered_design : (e : Database) → with_parts 0 parts old ≡ Ok e → e ≡ stocked masters
    entered_design e h = design_is e (sym same_parts ∙ h)

    pub refused_design : (why : PartFault) → IsFault (with_parts 0 parts old) why → IsDesignFault t masters (of_part why)
    refused_design why h = design_fault why (subst (λ (r : Result Database PartFault). IsFault r why) same_parts h)
