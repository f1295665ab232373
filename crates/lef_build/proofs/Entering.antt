-- What one more part makes of what is known and of the build.
use Rattle.std.proofs.Common.{◌≡◌, ◌∙◌, ◌++◌, ◌∷◌, [], List, ℕ, None, false, is_some, map, append_assoc, refl, ap}
use Rattle.std.proofs.lemmas.List.{map-append}
use Rattle.std.proofs.lemmas.List.Sums.{fold-append}
use Rattle.named_list.specs.Naming.{id_named, place_named}
use Rattle.tech.specs.Technology.{Technology}
use Rattle.tech.specs.declared.layer.Layer.{Layer}
use Rattle.tech.specs.declared.site.Site.{Site}
use Rattle.tech.specs.declared.via.TechVia.{TechVia}
use Rattle.library.specs.declared.master.Master.{Master}
use Rattle.edit_words.specs.declared.part.TechPart.{TechPart}
use Rattle.edit_words.specs.declared.part.TechPart.TheVariants as part
use Rattle.lef_build.specs.declared.known.Known.{Known}
use Rattle.lef_build.specs.Building.{build_of, entered, with_master, with_masters, with_part, with_parts}
use Rattle.lef_build.specs.Known.{HasNames, IsKnown, IsKnownOf, IsNamed, IsNewName, known_with, stands}
use Rattle.lef_build.proofs.NameLists.{none_of, part_is_new}

pub with_parts-push : (t : Technology) (parts : List TechPart) (p : TechPart) → with_parts t (parts ++ p ∷ []) ≡ with_part (with_parts t parts) p
with_parts-push t parts p = fold-append with_part t parts (p ∷ [])

pub with_masters-push : (library : List Master) (parts : List TechPart) (p : TechPart) → with_masters library (parts ++ p ∷ []) ≡ with_master (with_masters library parts) p
with_masters-push library parts p = fold-append with_master library parts (p ∷ [])

-- one more part is entered
pub one_more : (t : Technology) (library : List Master) (parts after : List TechPart) (p : TechPart) (passed : ℕ)
    → after ≡ parts ++ p ∷ [] → build_of t library after passed ≡ entered p (build_of t library parts passed)
one_more t library parts after p passed e =
    rw (e, with_parts-push t parts p, with_masters-push library parts p) refl

names_more : {A : Type 0} (name_of : A → List ℕ) (stood things : List A) (names : List (List ℕ)) (x : A) (name : List ℕ)
    → HasNames name_of stood names things → name_of x ≡ name → HasNames name_of stood (names ++ name ∷ []) (things ++ x ∷ [])
names_more name_of stood things names x name known named =
    map-append name_of things (x ∷ []) ∙ ap (λ ns. ns ++ name_of x ∷ []) known ∙ append_assoc (map name_of stood) names (name_of x ∷ []) ∙ ap (λ n. map name_of stood ++ (names ++ n ∷ [])) named

-- what is known of one more part
part_known : (stood : Technology) (library : List Master) (k : Known) (t : Technology) (all : List Master) (p : TechPart) (name : List ℕ)
    → IsKnownOf stood library k t all → IsNamed p name → IsKnownOf stood library (known_with p name k) (with_part t p) (with_master all p)
part_known stood library k t all (part.Units n) name known named = record { units = refl; layers = known.layers; vias = known.vias; sites = known.sites; masters = known.masters }
part_known stood library k t all (part.Layer layer) name known named = record {
  units = known.units;
  layers = names_more (λ (l : Layer). l.name) stood.layers t.layers k.layers layer name known.layers named;
  vias = known.vias;
  sites = known.sites;
  masters = known.masters;
}
part_known stood library k t all (part.Via via) name known named = record {
  units = known.units;
  layers = known.layers;
  vias = names_more (λ (v : TechVia). v.name) stood.vias t.vias k.vias via name known.vias named;
  sites = known.sites;
  masters = known.masters;
}
part_known stood library k t all (part.Site site) name known named = record {
  units = known.units;
  layers = known.layers;
  vias = known.vias;
  sites = names_more (λ (s : Site). s.name) stood.sites t.sites k.sites site name known.sites named;
  masters = known.masters;
}
part_known stood library k t all (part.Master master) name known named = record {
  units = known.units;
  layers = known.layers;
  vias = known.vias;
  sites = known.sites;
  masters = names_more (λ (m : Master). m.name) library all k.masters master name known.masters named;
}

-- the same where the parts are as they were,
pub known_stays : (t : Technology) (library : List Master) (parts after : List TechPart) (k same : Known)
    → IsKnown t library parts k → after ≡ parts → same ≡ k → IsKnown t library after same
known_stays t library parts after k same known e f = rw (e, f) known

-- and where there is one more
pub known_more : (t : Technology) (library : List Master) (parts room after : List TechPart) (k more : Known) (p : TechPart) (name : List ℕ)
    → IsKnown t library parts k → IsNamed p name → more ≡ known_with p name k → room ≡ parts → after ≡ room ++ p ∷ [] → IsKnown t library after more
known_more t library parts room after k more p name known named f r e =
    rw (f, e, r, with_parts-push t parts p, with_masters-push library parts p)
    (part_known t library k (with_parts t parts) (with_masters library parts) p name known named)

fresh : {A : Type 0} (name_of : A → List ℕ) (stood things : List A) (names : List (List ℕ)) (name : List ℕ)
    → HasNames name_of stood names things → is_some (id_named name_of things name) ≡ false → place_named (λ n. n) names name ≡ None
fresh name_of stood things names name known h = part_is_new name_of stood things names name known (none_of (id_named name_of things name) h)

-- a part that doesn't stand has a name that isn't known
pub new_is_new : (t : Technology) (library : List Master) (parts : List TechPart) (passed : ℕ) (k : Known) (p : TechPart) (name : List ℕ)
    → IsKnown t library parts k → stands (build_of t library parts passed) p name ≡ false → IsNewName k p name
new_is_new t library parts passed k (part.Units n) name known h = tt
new_is_new t library parts passed k (part.Layer layer) name known h = fresh (λ (l : Layer). l.name) t.layers (with_parts t parts).layers k.layers name known.layers h
new_is_new t library parts passed k (part.Via via) name known h = fresh (λ (v : TechVia). v.name) t.vias (with_parts t parts).vias k.vias name known.vias h
new_is_new t library parts passed k (part.Site site) name known h = fresh (λ (s : Site). s.name) t.sites (with_parts t parts).sites k.sites name known.sites h
new_is_new t library parts passed k (part.Master master) name known h = fresh (λ (m : Master). m.name) library (with_masters library parts) k.masters name known.masters h
