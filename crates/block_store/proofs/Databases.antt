-- The empty database is sound, and a sound one stays sound where its library grows.
use Rattle.std.proofs.Common.{◌≡◌, ◌≤◌, ◌<◌, ◌-◌, ◌++◌, ◌∷◌, false, eqb, List, [], ℕ, Option, Some, None, length, refl, ap, ◌∙◌, arith, slice_get}
use Rattle.std.specs.Option.{option_map, option_map_or}
use Rattle.std.proofs.lemmas.Bool.Decides.{nat_tests}
use Rattle.odb_base.specs.declared.codes.kind.Kind.{Kind}
use Rattle.odb_base.specs.declared.codes.kind.Kind.TheVariants as kind
use Rattle.block_records.specs.Header.{new_header}
use Rattle.block_records.specs.declared.header.Header.{Header}
use Rattle.library.specs.Masters.{find_master, master_at}
use Rattle.library.specs.declared.master.Master.{Master}
use Rattle.named_list.proofs.Ids.{growing_keeps_ids, placed}
use Rattle.tech.specs.Technology.{Technology, find_layer, find_site, find_via, with_layer, with_site, with_units, with_via}
use Rattle.tech.specs.declared.layer.Layer.{Layer}
use Rattle.tech.specs.declared.site.Site.{Site}
use Rattle.tech.specs.declared.via.TechVia.{TechVia}
use Rattle.lawful_parts.specs.Laws.{HasGrown}
use Rattle.lawful_parts.specs.Lawful.{IsLayer, IsLibrary, IsMaster, IsSite, IsTechVia, IsTechnology}
use Rattle.lawful_parts.proofs.Growing.{entering_keeps_libraries, growing_keeps_libraries, layer_has_grown, layers_keep_lawful, site_has_grown, sites_keep_lawful, units_have_grown, units_keep_lawful, via_has_grown, vias_keep_lawful}
use Rattle.block_store.specs.Block.{Block, empty_block}
use Rattle.block_store.specs.Database.{Database, IsSoundDatabase, empty_database, with_master, with_tech}
use Rattle.block_store.specs.KindLaws.{Parts}
use Rattle.block_store.specs.Kinds.{Entry, table_of}
use Rattle.block_store.specs.Instances.{term_count}
use Rattle.block_store.specs.Sorts.{AreHeld, sort}
use Rattle.block_store.specs.Sound.{HasLawfulMasters, IsKind, IsSound}
use Rattle.block_store.specs.View.{laws, view}
use Rattle.block_store.proofs.Changed.{kind_empty, parts_by}
use Rattle.block_store.proofs.TableLemmas.{none_in_empty}
use Rattle.block_store.proofs.Memberships.{no_list, no_name}
use Rattle.block_store.specs.TermPlaces.{ArePlaced}

-- nothing is held, and nothing names anything
held_empty : (list : ℕ → List ℕ) (number owner : ℕ → ℕ) → ((object : ℕ) → list object ≡ []) → ((member : ℕ) → owner member ≡ 0) → AreHeld list number owner
held_empty list number owner none nobody = λ object member some.
    let ne : eqb 0 object ≡ false = grind (arith, nat_tests, some) in
    rw (none object, nobody member, ne) refl

placed_empty : (list : ℕ → List ℕ) (place : ℕ → Option (ℕ × ℕ)) → ((object : ℕ) → list object ≡ []) → ((part : ℕ) → place part ≡ None) → ArePlaced list place
placed_empty list place none nowhere = λ object k part. (
  λ found. let e = none object in let at : slice_get (list object) k ≡ None = ap (λ l. slice_get l k) e in cc,
  λ found. let e = nowhere part in cc,
)

module _ (parts : Parts) (cap : ℕ) where
  kinds_empty : (header : Header) (k : Kind) → IsKind parts cap k (table_of k (empty_block header))
  kinds_empty header kind.Inst = kind_empty parts cap kind.Inst
  kinds_empty header k = kind_empty parts cap k

-- a block without objects shows nothing
view_empty : (header : Header) (k : Kind) (id : ℕ) → view (empty_block header) k id ≡ (laws k).none
view_empty header kind.Inst id = ap (λ o. option_map_or (laws kind.Inst).see o (laws kind.Inst).none) (none_in_empty id)
view_empty header k id = ap (λ o. option_map_or (laws k).see o (laws k).none) (none_in_empty id)

-- and is sound
pub sound_empty : (tech : Technology) (library : List Master) (cap : ℕ) → HasLawfulMasters library → IsSound tech library cap (empty_block new_header)
sound_empty tech library cap lawful = record {
  masters = lawful;
  header = refl;
  kinds = kinds_empty (parts_by tech library new_header) cap new_header;
  joined = record {
    held = λ s. held_empty _ _ _ (λ object. ap (sort s).list_seen (view_empty new_header (sort s).owner object) ∙ no_list s) (λ member. ap (sort s).names_seen (view_empty new_header (sort s).member member) ∙ no_name s);
    placed = placed_empty _ _ (λ inst. ap (λ links. links.terminals) (view_empty new_header kind.Inst inst)) (λ id. ap (λ links. links.place) (view_empty new_header kind.ITerm id));
  };
}

-- an empty library has no master
pub no_master : (id : ℕ) (m : Master) → master_at [] id ≡ Some m → ⊥
no_master id m found = let at = (placed [] id m found).at in cc

-- the masters of a lawful library are lawful
lawful_masters : (t : Technology) (library : List Master) → IsLibrary t library → HasLawfulMasters library
lawful_masters t library is id m found = (is.masters (id - 1) m (placed library id m found).at).distinct

-- the database without masters and objects is sound
pub sound_database : (cap : ℕ) → cap ≤ 16777215 → IsSoundDatabase (empty_database cap)
sound_database cap within = record {
  tech = record {
    units = omega arith;
    layers = λ place l found. cc;
    vias = λ place v found. cc;
    sites = λ place s found. cc;
    distinct = record { layers = λ i j a b here there same. cc; vias = λ i j a b here there same. cc; sites = λ i j a b here there same. cc };
    few = record { layers = omega arith; vias = omega arith; sites = omega arith };
  };
  library = record { masters = λ place m found. cc; distinct = λ i j a b here there same. cc; few = omega arith };
  block = sound_empty _ [] cap (λ id m found. absurd (no_master id m found));
  capped = within;
}

-- more masters leave what the instances have
fitted_by : (library more : List Master) (id n : ℕ) (m : Option Master) → master_at library id ≡ m → option_map (λ (m : Master). length m.terminals) m ≡ Some n → term_count (library ++ more) id ≡ Some n
fitted_by library more id n None is h = cc
fitted_by library more id n (Some m) is h = ap (option_map (λ (m : Master). length m.terminals)) (growing_keeps_ids library more id m is) ∙ h

fitted_grown : (library more : List Master) (id n : ℕ) → term_count library id ≡ Some n → term_count (library ++ more) id ≡ Some n
fitted_grown library more id n h = fitted_by library more id n (master_at library id) refl h

-- entries stay lawful where a master comes last, and where a technology grows
lawful_beside_masters : (tech : Technology) (library more : List Master) (header : Header) (k : Kind) (x : Entry k) → (laws k).Is (parts_by tech library header) x → (laws k).Is (parts_by tech (library ++ more) header) x
lawful_beside_masters tech library more header kind.Inst x is = record {
  name = is.name;
  place = is.place;
  fitted = fitted_grown library more x.fields.master _ is.fitted;
  group = is.group;
  kept = is.kept;
  props = is.props;
}
lawful_beside_masters tech library more header k x is = is

lawful_beside_tech : (tech new : Technology) (library : List Master) (header : Header) (k : Kind) (x : Entry k) → HasGrown tech new → (laws k).Is (parts_by tech library header) x → (laws k).Is (parts_by new library header) x
lawful_beside_tech tech new library header kind.Inst x grown is = is
lawful_beside_tech tech new library header kind.Row x grown is = record {
  fields = record {
    name = is.fields.name;
    site_from_one = is.fields.site_from_one;
    site = omega (arith, is.fields.site, grown.sites);
    x = is.fields.x;
    y = is.fields.y;
    nx = is.fields.nx;
    ny = is.fields.ny;
    sx = is.fields.sx;
    sy = is.fields.sy;
    repeated = is.fields.repeated;
  };
  props = is.props;
}
lawful_beside_tech tech new library header k x grown is = is

-- a block stays sound beside other parts, where its entries stay lawful
sound_over : (tech new : Technology) (library more : List Master) (cap : ℕ) (b : Block) → HasLawfulMasters more → ((k : Kind) (x : Entry k) → (laws k).Is (parts_by tech library b.header) x → (laws k).Is (parts_by new more b.header) x) → IsSound tech library cap b → IsSound new more cap b
sound_over tech new library more cap b masters lawful sound = record {
  masters = masters;
  header = sound.header;
  kinds = λ k. record {
    table = (sound.kinds k).table;
    each = λ id x found. lawful k x ((sound.kinds k).each id x found);
    named = (sound.kinds k).named;
    coming = (sound.kinds k).coming;
  };
  joined = sound.joined;
}

-- a lawful master of a new name comes last
pub sound_with_master : (d : Database) (m : Master) → IsSoundDatabase d → IsMaster d.tech m → find_master d.library m.name ≡ None → length d.library < 1000000 → IsSoundDatabase (with_master m d)
sound_with_master d m sound lawful new room =
    let grown = entering_keeps_libraries d.tech d.library m sound.library lawful new room in
    record {
      tech = sound.tech;
      library = grown;
      block = sound_over d.tech d.tech d.library (d.library ++ m ∷ []) d.cap d.block (lawful_masters d.tech _ grown) (lawful_beside_masters d.tech d.library (m ∷ []) d.block.header) sound.block;
      capped = sound.capped;
    }

-- another lawful technology with as many layers and sites, or more
sound_with_tech : (d : Database) (t : Technology) → IsSoundDatabase d → IsTechnology t → HasGrown d.tech t → IsSoundDatabase (with_tech t d)
sound_with_tech d t sound lawful grown = record {
  tech = lawful;
  library = growing_keeps_libraries d.tech t d.library grown sound.library;
  block = sound_over d.tech t d.library d.library d.cap d.block sound.block.masters (λ k x is. lawful_beside_tech d.tech t d.library d.block.header k x grown is) sound.block;
  capped = sound.capped;
}

pub sound_with_units : (d : Database) (n : ℕ) → IsSoundDatabase d → n ≤ 100000 → IsSoundDatabase (with_tech (with_units n d.tech) d)
sound_with_units d n sound few = sound_with_tech d (with_units n d.tech) sound (units_keep_lawful d.tech n sound.tech few) (units_have_grown d.tech n)

pub sound_with_layer : (d : Database) (l : Layer) → IsSoundDatabase d → IsLayer l → find_layer d.tech l.name ≡ None → length d.tech.layers < 1000000 → IsSoundDatabase (with_tech (with_layer l d.tech) d)
sound_with_layer d l sound lawful new room = sound_with_tech d (with_layer l d.tech) sound (layers_keep_lawful d.tech l sound.tech lawful new room) (layer_has_grown d.tech l)

pub sound_with_via : (d : Database) (v : TechVia) → IsSoundDatabase d → IsTechVia d.tech v → find_via d.tech v.name ≡ None → length d.tech.vias < 1000000 → IsSoundDatabase (with_tech (with_via v d.tech) d)
sound_with_via d v sound lawful new room = sound_with_tech d (with_via v d.tech) sound (vias_keep_lawful d.tech v sound.tech lawful new room) (via_has_grown d.tech v)

pub sound_with_site : (d : Database) (s : Site) → IsSoundDatabase d → IsSite s → find_site d.tech s.name ≡ None → length d.tech.sites < 1000000 → IsSoundDatabase (with_tech (with_site s d.tech) d)
sound_with_site d s sound lawful new room = sound_with_tech d (with_site s d.tech) sound (sites_keep_lawful d.tech s sound.tech lawful new room) (site_has_grown d.tech s)
