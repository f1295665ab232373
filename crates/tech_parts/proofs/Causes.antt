-- What may be entered where nothing speaks against it.
use Rattle.std.proofs.Common.{◌≡◌, ◌≤◌, ◌<◌, Bool, true, false, ℕ, Option, Some, None, length, nat_le, refl, inl, inr, arith}
use Rattle.std.specs.Prelude.{is_some}
use Rattle.std.specs.Option.{option_map}
use Rattle.std.proofs.lemmas.Bool.{and_parts, cases_Bool, leb-true}
use Rattle.std.proofs.lemmas.Bool.Decides.{nat_tests}
use Rattle.tech.specs.Technology.{find_layer, find_site, find_via}
use Rattle.tech.specs.declared.layer.Layer.{Layer}
use Rattle.tech.specs.declared.site.Site.{Site}
use Rattle.tech.specs.declared.via.TechVia.{TechVia}
use Rattle.library.specs.Masters.{find_master}
use Rattle.library.specs.declared.master.Master.{Master}
use Rattle.lawful_parts.specs.Lawful.{IsLayer, IsMaster, IsSite, IsTechVia}
use Rattle.lawful_parts.proofs.MasterTests.{master_is_tested}
use Rattle.lawful_parts.proofs.PartTests.{layer_is_tested, site_is_tested, via_is_tested}
use Rattle.edit_words.specs.declared.part.TechPart.TheVariants as part
use Rattle.block_store.specs.Database.{Database}
use Rattle.tech_parts.specs.Adding.{are_changed, are_units, cause_of, first_cause, units_cause}

-- nothing speaks against it: the name is new, the part is lawful, and there is room
record MayEnter (taken : Option ℕ) (passes : Bool) (limit count : ℕ) : Type 0 where
  new : taken ≡ None
  lawful : passes ≡ true
  room : count < limit

may_enter : (taken : Option ℕ) (lawful : Bool) (limit count : ℕ) → first_cause (is_some taken) lawful (nat_le limit count) ≡ None → MayEnter taken lawful limit count
may_enter (Some id) lawful limit count h = absurd cc
may_enter None false limit count h = absurd cc
may_enter None true limit count h = elim (cases_Bool (nat_le limit count)) [
  | inl e ↦ let full = rw e at h in absurd cc
  | inr e ↦ record { new = refl; lawful = refl; room = grind (arith, nat_tests, e) }
]

units_may : (had n : ℕ) → units_cause had n ≡ None → n ≤ 100000
units_may had n h = elim (cases_Bool (are_changed had n)) [
  | inl changed ↦ let some = rw changed at h in absurd cc
  | inr same ↦ elim (cases_Bool (are_units n)) [
    | inl are ↦ leb-true n 100000 (and_parts (nat_le 1 n) (nat_le n 100000) are).1
    | inr not ↦ let some = rw (same, not) at h in absurd cc
  ]
]

pub units_are_few : (d : Database) (n : ℕ) → cause_of d (part.Units n) ≡ None → n ≤ 100000
unfolding cause_of
units_are_few d n h = units_may d.tech.units n h

pub record LayerMay (d : Database) (l : Layer) : Type 0 where
  pub lawful : IsLayer l
  pub new : find_layer d.tech l.name ≡ None
  pub room : length d.tech.layers < 1000000

pub layer_may : (d : Database) (l : Layer) → cause_of d (part.Layer l) ≡ None → LayerMay d l
unfolding cause_of
layer_may d l h =
    let m = may_enter _ _ _ _ h in
    record { lawful = (layer_is_tested l).0 m.lawful; new = m.new; room = m.room }

pub record ViaMay (d : Database) (v : TechVia) : Type 0 where
  pub lawful : IsTechVia d.tech v
  pub new : find_via d.tech v.name ≡ None
  pub room : length d.tech.vias < 1000000

pub via_may : (d : Database) (v : TechVia) → cause_of d (part.Via v) ≡ None → ViaMay d v
unfolding cause_of
via_may d v h =
    let m = may_enter _ _ _ _ h in
    record { lawful = (via_is_tested d.tech v).0 m.lawful; new = m.new; room = m.room }

pub record SiteMay (d : Database) (s : Site) : Type 0 where
  pub lawful : IsSite s
  pub new : find_site d.tech s.name ≡ None
  pub room : length d.tech.sites < 1000000

pub site_may : (d : Database) (s : Site) → cause_of d (part.Site s) ≡ None → SiteMay d s
unfolding cause_of
site_may d s h =
    let m = may_enter _ _ _ _ h in
    record { lawful = (site_is_tested s).0 m.lawful; new = m.new; room = m.room }

pub record MasterMay (d : Database) (m : Master) : Type 0 where
  pub lawful : IsMaster d.tech m
  pub new : find_master d.library m.name ≡ None
  pub room : length d.library < 1000000

pub master_may : (d : Database) (m : Master) → cause_of d (part.Master m) ≡ None → MasterMay d m
unfolding cause_of
master_may d m h =
    let may = may_enter _ _ _ _ h in
    record { lawful = (master_is_tested d.tech m).0 may.lawful; new = may.new; room = may.room }

-- what is found by a name, where what is made of it is
pub found_some : {A : Type 0} (f : A → ℕ) (o : Option A) (found : Option ℕ) → option_map f o ≡ found → is_some o ≡ is_some found
found_some f None None h = refl
found_some f None (Some n) h = cc
found_some f (Some x) None h = cc
found_some f (Some x) (Some n) h = refl
