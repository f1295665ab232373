-- The fields of a sound database are lawful, each by itself. What soundness says is read here alone.
use Rattle.std.proofs.Common.{◌≡◌, ◌&&◌, Bool, false, ◌<◌, ◌≤◌, ◌^◌, ◌+◌, ◌*◌, ◌-◌, ◌/◌, ◌⊎◌, true, eqb, leb, ℕ, zero, suc, ℤ, pos, negsuc, List, [], ◌∷◌, length, slice_get, Option, Some, None, is_some, refl, sym, ap, subst, ◌∙◌, arith, inl, inr}
use Rattle.std.specs.Prelude.{FitsSigned, is_none}
use Rattle.std.specs.Int.{w32}
use Rattle.std.specs.List.{AllByRecursion}
use Rattle.std.specs.Option.{option_map}
use Rattle.std.proofs.lemmas.Bool.{cases_Bool, cases_eq, eqb-true, le-leb, or_right}
use Rattle.std.proofs.lemmas.Bool.Decides.{nat_tests}
use Rattle.std.proofs.lemmas.Int.{fits_signed_from_abs, ints}
use Rattle.std.proofs.lemmas.Option.{get_or_from_slice_get, slice_get_within}
use Rattle.odb_base.specs.Geometry.{IsCoordinate, IsRect, is_coordinate}
use Rattle.odb_base.specs.Ids.{holds}
use Rattle.odb_base.specs.Name.{IsName, name_fault}
use Rattle.odb_base.specs.declared.codes.direction.Direction.{Direction}
use Rattle.odb_base.specs.declared.codes.direction.Direction.TheVariants as direction
use Rattle.odb_base.specs.declared.codes.kind.Kind.{Kind}
use Rattle.odb_base.specs.declared.codes.kind.Kind.TheVariants as kind
use Rattle.odb_base.specs.declared.codes.orient.Orient.{Orient}
use Rattle.odb_base.specs.declared.codes.place_status.PlaceStatus.{PlaceStatus}
use Rattle.odb_base.specs.declared.codes.place_status.PlaceStatus.TheVariants as status
use Rattle.odb_base.specs.declared.codes.row_form.RowForm.{RowForm}
use Rattle.odb_base.specs.declared.codes.row_form.RowForm.TheVariants as form
use Rattle.odb_base.specs.declared.geometry.Placement.{Placement}
use Rattle.odb_base.specs.declared.geometry.Rect.{Rect}
use Rattle.odb_base.specs.declared.geometry.Shape.{Shape}
use Rattle.odb_base.proofs.Names.{name_is_short}
use Rattle.odb_base.proofs.Splits.{eqb-refl}
use Rattle.odb_base.proofs.Distinct.{AreUpTo, length-distinct}
use Rattle.block_records.specs.Header.{new_header}
use Rattle.block_records.specs.declared.header.Header.{Header}
use Rattle.block_records.specs.declared.iterm.ITermRec.{ITermRec}
use Rattle.block_store.specs.Block.{Block, empty_table, free_in}
use Rattle.block_store.specs.declared.entry.BTermEntry.{BTermEntry}
use Rattle.block_store.specs.declared.entry.InstEntry.{InstEntry}
use Rattle.block_store.specs.declared.entry.NetEntry.{NetEntry}
use Rattle.block_store.specs.Database.{Database, IsSoundDatabase}
use Rattle.lawful_parts.specs.Lawful.{AreShapes, IsLayer, IsLibrary, IsMTerm, IsMaster, IsShape, IsSite, IsTechVia, IsTechnology}
use Rattle.lawful_parts.specs.Tests.{int_le}
use Rattle.lawful_parts.proofs.TestLemmas.{int_le_test}
use Rattle.tech.specs.Technology.{Technology}
use Rattle.tech.specs.declared.layer.Layer.{Layer}
use Rattle.tech.specs.declared.site.Site.{Site}
use Rattle.tech.specs.declared.via.TechVia.{TechVia}
use Rattle.block_store.specs.Kinds.{table_of}
use Rattle.block_store.specs.Lists.{bterm_number, iterm_number, list_in}
use Rattle.block_store.specs.Instances.{term_count}
use Rattle.block_store.specs.Placements.{IsPlacement, unplaced}
use Rattle.block_store.specs.Sound.{IsSound, bterm_net, inst_terms, iterm_net, iterm_place, net_terms}
use Rattle.block_store.specs.Tables.{AreEach, IsTable}
use Rattle.block_store.specs.View.{is_built, laws}
use Rattle.block_store.proofs.TableLemmas.{none_in_empty}
use Rattle.block_store.proofs.Held.{times_held}
use Rattle.block_store.proofs.Joined.{bterm_inside, bterms_held, iterm_inside, iterms_held, net_of_member, number_is, shown_by, terms_distinct, terms_placed}
use Rattle.block_store.proofs.Shown.{from_one, live_by}
use Rattle.named_pool.proofs.Finding.{record_at_place}
use Rattle.library.specs.Masters.{master_at}
use Rattle.library.specs.declared.master.Master.{Master}
use Rattle.library.specs.declared.mterm.MTerm.{MTerm}
use Rattle.slot_pool.specs.Table.{Table, is_vacant, once_if, record_at, times}
use Rattle.slot_pool.proofs.Counts.{live_within, vacant_within}
use Rattle.block_store.specs.Rows.{IsRepeated, IsSiteCount}
use Rattle.saved_fields.specs.Sites.{may_step}
use Rattle.saved_fields.specs.Fields as field
use Rattle.saved_fields.specs.Parts.{may_have}
use Rattle.odb_save.specs.Kinds.{saved_as}
use Rattle.odb_save.specs.Spelled.{spelled}
use Rattle.slot_pool.proofs.Counted.{fewer_free}
use Rattle.saved_reader.specs.Fits.{IsShort}
use Rattle.saved_reader.specs.Header.{header_format}
use Rattle.saved_fields.specs.Lawful.{IsDistance, IsId, IsList, IsNameText, IsNumber, IsOption, IsPlacementFields, IsRectFields, IsSites, IsSmall, IsTableOf, IsTerm, IsText}
use Rattle.saved_reader.specs.Library.{extent_field, extent_of, library_format, master_format, mterm_format}
use Rattle.saved_reader.specs.Objects.{block_direction_field, bterm_format, inst_format, iterm_format, net_format}
use Rattle.saved_fields.specs.PartFormats.{shape_format}
use Rattle.saved_reader.specs.Physical.{row_format}
use Rattle.saved_reader.specs.Saved.{block_format, block_parts, built_format, others_format}
use Rattle.saved_reader.specs.Technology.{layer_format, site_format, tech_format, via_format, via_name_field}
use Rattle.odb_save.proofs.Fitting.{few_terminals, named_within, once_true}
use Rattle.odb_save.proofs.Whole.{IsSavedFields}

-- ---- lists

each_by : {A : Type 0} (P : A → Type 0) (xs : List A) → ((i : ℕ) (x : A) → slice_get xs i ≡ Some x → P x) → AllByRecursion P xs
each_by P [] h = tt
each_by P (x ∷ xs) h = (h zero x refl, each_by P xs (λ i y at. h (suc i) y at))

each_held : (P : ℕ → Type 0) (ids : List ℕ) → ((id : ℕ) → holds ids id ≡ true → P id) → AllByRecursion P ids
each_held P [] h = tt
each_held P (x ∷ xs) h = (h x (rw (eqb-refl x) refl), each_held P xs (λ id inside. h id (or_right (eqb x id) (holds xs id) inside)))

-- ---- numbers and texts

both_true : (a b : Bool) → a ≡ true → b ≡ true → (a && b) ≡ true
both_true a b p q = rw (p, q) refl

between : (least most n : ℕ) → least ≤ n → n ≤ most → field.is_between least most n ≡ true
between least most n low high = both_true (leb least n) (leb n most) (le-leb least n low) (le-leb n most high)

number : (least most n : ℕ) → least ≤ n → n ≤ most → most < 2 ^ 32 → IsNumber least most n
number least most n low high small = (between least most n low high, omega arith)

zero_is : (n : ℕ) → n ≡ 0 → IsNumber 0 0 n
zero_is n e = number 0 0 n (omega arith) (omega arith) (omega arith)

any_text : (bytes : List ℕ) → length bytes < 2 ^ 32 → IsText 0 4294967295 bytes
any_text bytes short = (number 0 4294967295 (length bytes) (omega arith) (omega (arith, short)) (omega arith), tt)

no_text : (bytes : List ℕ) → bytes ≡ [] → IsText 0 0 bytes
no_text bytes none = (zero_is (length bytes) (ap length none), tt)

-- no identifiers yet
no_ids : (ids : List ℕ) → ids ≡ [] → IsList 0 IsId ids
no_ids ids none = (zero_is (length ids) (ap length none), (let P : List ℕ → Type 0 = AllByRecursion IsId in subst P (sym none) tt))

name_some : (bytes : List ℕ) → IsName bytes → 1 ≤ length bytes
unfolding name_fault
name_some [] h = absurd cc
name_some (b ∷ bytes) h = omega arith

name_text : (bytes : List ℕ) → IsName bytes → IsNameText bytes
name_text bytes name = (ap is_none name, (number 1 4095 (length bytes) (name_some bytes name) (name_is_short bytes name) (omega arith), tt))

coordinate_is : (z : ℤ) → IsCoordinate z → (is_coordinate z ≡ true) × FitsSigned w32 z
coordinate_is (pos n) h =
    let low : n ≤ 2000000000 = omega (arith, ints, h.1) in
    (grind (arith, nat_tests, low), fits_signed_from_abs w32 (pos n) (grind (arith, ints, low)))
coordinate_is (negsuc n) h =
    let low : n < 2000000000 = omega (arith, ints, h.0) in
    (grind (arith, nat_tests, low), fits_signed_from_abs w32 (negsuc n) (grind (arith, ints, low)))

-- ---- placements

zero_fits : FitsSigned w32 (pos 0)
zero_fits = fits_signed_from_abs w32 (pos 0) (omega arith)

unplaced_fields : IsPlacementFields unplaced
unplaced_fields = (((tt, (refl, zero_fits)), (refl, zero_fits)), (refl, tt))

-- a placed object stands at lawful coordinates, turned anyhow
placement_by : (s : PlaceStatus) (x y : ℤ) (o : Orient) → IsCoordinate x → IsCoordinate y → (s ≡ status.Unplaced → ⊥)
    → IsPlacementFields (record { status = s; x = x; y = y; orientation = o })
placement_by status.Unplaced x y o at_x at_y placed = absurd (placed refl)
placement_by status.Placed x y o at_x at_y placed = (((tt, coordinate_is x at_x), coordinate_is y at_y), (refl, tt))
placement_by status.Fixed x y o at_x at_y placed = (((tt, coordinate_is x at_x), coordinate_is y at_y), (refl, tt))
placement_by status.Cover x y o at_x at_y placed = (((tt, coordinate_is x at_x), coordinate_is y at_y), (refl, tt))

is_unplaced : (s : PlaceStatus) → (s ≡ status.Unplaced) ⊎ (s ≡ status.Unplaced → ⊥)
is_unplaced status.Unplaced = inl refl
is_unplaced status.Placed = inr (λ e. cc)
is_unplaced status.Fixed = inr (λ e. cc)
is_unplaced status.Cover = inr (λ e. cc)

placement_fields : (p : Placement) → IsPlacement p → IsPlacementFields p
placement_fields p is = elim (is_unplaced p.status) [
  | inl e ↦ (let P : Placement → Type 0 = λ q. IsPlacementFields q in subst P (sym (is.unplaced e)) unplaced_fields)
  | inr placed ↦ placement_by p.status p.x p.y p.orientation is.x is.y placed
]

-- ---- rectangles on layers

-- a coordinate that isn't below another one
from : (least z : ℤ) → IsCoordinate z → int_le least z ≡ true → (field.is_from least z ≡ true) × FitsSigned w32 z
from (pos least) (pos n) h low = let c = coordinate_is (pos n) h in (both_true (leb least n) (is_coordinate (pos n)) low c.0, c.1)
from (pos least) (negsuc n) h low = absurd cc
from (negsuc least) (pos n) h low = coordinate_is (pos n) h
from (negsuc least) (negsuc n) h low = let c = coordinate_is (negsuc n) h in (both_true (leb n least) (is_coordinate (negsuc n)) low c.0, c.1)

rect_fields : (r : Rect) → IsRect r → IsRectFields r
rect_fields r is =
    let wide = (int_le_test r.xl r.xh).1 is.wide in
    let high = (int_le_test r.yl r.yh).1 is.high in
    (((coordinate_is r.xl is.xl, coordinate_is r.yl is.yl), from r.xl r.xh is.xh wide), from r.yl r.yh is.yh high)

module _ (t : Technology) (lawful : IsTechnology t) where
  shape_fields : (s : Shape) → IsShape t s → shape_format.Has s
  unfolding shape_format
  shape_fields s is = (omega (arith, is.layer.1, lawful.few.layers), rect_fields s.rect is.rect)

  shapes_fields : (shapes : List Shape) → AreShapes t shapes → IsList 1000000 shape_format.Has shapes
  shapes_fields shapes are =
      (number 0 1000000 (length shapes) (omega arith) are.few (omega arith), each_by shape_format.Has shapes (λ i s at. shape_fields s (are.each i s at)))

  -- ---- the technology

  layer_fields : (l : Layer) → IsLayer l → layer_format.Has l
  unfolding layer_format
  layer_fields l is =
      ((((((name_text l.name is.name, tt), tt), coordinate_is l.pitch_x is.pitch_x), coordinate_is l.pitch_y is.pitch_y), coordinate_is l.width is.width), coordinate_is l.spacing is.spacing)

  via_fields : (v : TechVia) → IsTechVia t v → via_format.Has v
  unfolding via_format via_name_field
  via_fields v is = (((ap is_none is.name.no_orient, name_text v.name is.name.lawful), tt), shapes_fields v.shapes is.shapes)

  site_fields : (s : Site) → IsSite s → site_format.Has s
  unfolding site_format
  site_fields s is =
      ((((name_text s.name is.name, tt), (between 0 7 s.symmetry.0 (omega arith) (omega (arith, is.symmetry)), omega (arith, is.symmetry))), coordinate_is s.width is.width), coordinate_is s.height is.height)

  tech_fields : tech_format.Has t
  unfolding tech_format
  tech_fields = (
    (
      (
        number 0 100000 t.units (omega arith) lawful.units (omega arith),
        (number 0 1000000 (length t.layers) (omega arith) lawful.few.layers (omega arith), each_by layer_format.Has t.layers (λ i l at. layer_fields l (lawful.layers i l at))),
      ),
      (number 0 1000000 (length t.vias) (omega arith) lawful.few.vias (omega arith), each_by via_format.Has t.vias (λ i v at. via_fields v (lawful.vias i v at))),
    ),
    (number 0 1000000 (length t.sites) (omega arith) lawful.few.sites (omega arith), each_by site_format.Has t.sites (λ i s at. site_fields s (lawful.sites i s at))),
  )

  -- ---- masters

  mterm_fields : (m : MTerm) → IsMTerm t m → mterm_format.Has m
  unfolding mterm_format
  mterm_fields m is = (((name_text m.name is.name, tt), tt), shapes_fields m.shapes is.shapes)

  master_fields : (m : Master) → IsMaster t m → master_format.Has m
  unfolding master_format extent_field
  master_fields m is =
      let small : IsSmall 7 m.symmetry = (between 0 7 m.symmetry (omega arith) (omega (arith, is.symmetry)), omega (arith, is.symmetry)) in
      let extent : extent_field.Has (extent_of m) = (((coordinate_is m.origin_x is.origin_x, coordinate_is m.origin_y is.origin_y), coordinate_is m.width is.width), coordinate_is m.height is.height) in
      let terminals : IsList 65535 mterm_format.Has m.terminals = (number 0 65535 (length m.terminals) (omega arith) is.few (omega arith), each_by mterm_format.Has m.terminals (λ i x at. mterm_fields x (is.terminals i x at))) in (
        ((((((name_text m.name is.name, any_text m.class is.class_short), extent), small), omega (arith, is.site, lawful.few.sites)), any_text m.foreign is.foreign_short), terminals),
        shapes_fields m.obstructions is.obstructions,
      )

  library_fields : (library : List Master) → IsLibrary t library → library_format.Has library
  unfolding library_format
  library_fields library is =
      (number 0 1000000 (length library) (omega arith) is.few (omega arith), each_by master_format.Has library (λ i m at. master_fields m (is.masters i m at)))

-- ---- tables

module _ {A : Type 0} (Fits : A → Type 0) (t : Table A) (each : AreEach Fits t) where
  option_fields : (id : ℕ) (o : Option A) → record_at t id ≡ o → IsOption Fits o
  option_fields id None e = tt
  option_fields id (Some x) e = each id x e

  slots_fields : AllByRecursion (λ o. Unit {0} × IsOption Fits o) t.slots
  slots_fields = each_by (λ o. Unit {0} × IsOption Fits o) t.slots (λ i o at. (tt, option_fields (i + 1) o (record_at_place t i ∙ get_or_from_slice_get t.slots i o None at)))

free_fields : {A : Type 0} (t : Table A) (cap : ℕ) → IsTable cap t → cap ≤ 16777215 → AllByRecursion IsId t.free
free_fields t cap is small = each_held IsId t.free (λ id inside.
    let held = times_held t.free id inside in
    let vacant = once_true (is_vacant t.slots id) (omega (arith, is.good id, held)) in
    let within = vacant_within t.slots id vacant in
    omega (arith, within.1, is.within, small))

may : (built : Bool) (n : ℕ) → built ≡ true → may_have built n ≡ true
may built n is = rw is refl

table_fields : {A : Type 0} (built : Bool) (cap : ℕ) (Fits : A → Type 0) (t : Table A) → built ≡ true → cap ≤ 16777215 → IsTable cap t → AreEach Fits t → IsTableOf built cap Fits t
table_fields built cap Fits t so small is each =
    let few = fewer_free t is.good in (
      ((may built (length t.slots) so, (is.within, omega (arith, is.within, small))), slots_fields Fits t each),
      ((may built (length t.free) so, omega (arith, few, is.within, small)), free_fields t cap is small),
    )

-- any kind may have nothing
zero_may : (built : Bool) → may_have built 0 ≡ true
zero_may true = refl
zero_may false = refl

-- a table without slots and free identifiers is one of any records
empty_fields : {A : Type 0} (built : Bool) (cap : ℕ) (Fits : A → Type 0) (t : Table A) → t ≡ empty_table → IsTableOf built cap Fits t
empty_fields {A} built cap Fits t is =
    let P : Table A → Type 0 = IsTableOf built cap Fits in
    let empty : P empty_table = (((zero_may built, (omega arith, omega arith)), tt), ((zero_may built, omega arith), tt)) in
    subst P (sym is) empty

-- ---- records

-- an object that is there has an identifier within the cap
live_id : {A : Type 0} (cap : ℕ) (t : Table A) (id : ℕ) → cap ≤ 16777215 → IsTable cap t → is_some (record_at t id) ≡ true → IsId id
live_id cap t id small is live = let within = live_within t.slots id live in omega (arith, within.1, is.within, small)

found_live : {A : Type 0} (t : Table A) (id : ℕ) (x : A) → record_at t id ≡ Some x → is_some (record_at t id) ≡ true
found_live t id x found = ap is_some found

master_within : (library : List Master) (id : ℕ) (m : Master) → master_at library id ≡ Some m → id ≤ length library
master_within library id m found = elim (cases_Bool (eqb id 0)) [
  | inl none ↦ omega (arith, eqb-true id 0 none)
  | inr some ↦ (let within = slice_get_within library (id - 1) m (rw some at found) in omega (arith, within))
]

master_id : (library : List Master) (id n : ℕ) → length library ≤ 1000000 → term_count library id ≡ Some n → IsId id
master_id library id n few counted =
    let shown = shown_by (λ m. length m.terminals) (master_at library id) n counted in
    omega (arith, master_within library id shown.value shown.is, few)

-- nothing stands in an empty list
none_in : (i x : ℕ) → slice_get [] i ≡ Some x → ⊥
none_in zero x at = cc
none_in (suc i) x at = cc

-- a step of 0
no_step : (f : RowForm) (z : ℤ) → IsCoordinate z → may_step f (pos 0) ≡ true → z ≡ pos 0 → IsDistance (may_step f) z
no_step f z within may none = (ap (may_step f) none ∙ may, (coordinate_is z within).1)

-- the sites of a row
sites_lawful : (f : RowForm) (nx ny : ℕ) (sx sy : ℤ) → IsSiteCount nx → IsSiteCount ny → IsCoordinate sx → IsCoordinate sy → IsRepeated f nx ny sx sy → IsSites ((((f, nx), ny), sx), sy)
sites_lawful form.Bare nx ny sx sy cx cy dx dy once =
    let along_x = once.0 in
    let along_y = once.1 in
    ((((tt, number 1 1 nx (cx.some) (omega (arith, along_x)) (omega arith)), number 1 1 ny (cy.some) (omega (arith, along_y)) (omega arith)), no_step form.Bare sx dx refl once.2), no_step form.Bare sy dy refl once.3)
sites_lawful form.Do nx ny sx sy cx cy dx dy once =
    ((((tt, number 1 1000000 nx cx.some cx.few (omega arith)), number 1 1000000 ny cy.some cy.few (omega arith)), no_step form.Do sx dx refl once.0), no_step form.Do sy dy refl once.1)
sites_lawful form.DoStep nx ny sx sy cx cy dx dy once =
    ((((tt, number 1 1000000 nx cx.some cx.few (omega arith)), number 1 1000000 ny cy.some cy.few (omega arith)), coordinate_is sx dx), coordinate_is sy dy)

-- ---- the header

header_is : (h : Header) → h ≡ new_header → header_format.Has h
unfolding header_format
header_is h new =
    let P : Header → Type 0 = λ g. header_format.Has g in
    subst P (sym new) (((((no_text [] refl, (refl, (number 1 1 1 (omega arith) (omega arith) (omega arith), tt))), (refl, (number 2 2 2 (omega arith) (omega arith) (omega arith), tt))), refl), refl), refl)

-- ---- tables without slots

empty_each : {A : Type 0} (Is : A → Type 0) (id : ℕ) (x : A) → record_at (empty_table {A = A}) id ≡ Some x → Is x
empty_each {A} Is id x found = let none : record_at (empty_table {A = A}) id ≡ None = none_in_empty id in absurd cc

-- no object of a table without slots is anything else than lawful
none_each : {A : Type 0} (Is : A → Type 0) (t : Table A) → t ≡ empty_table → AreEach Is t
none_each {A} Is t empty = let P : Table A → Type 0 = AreEach Is in subst P (sym empty) (empty_each Is)

table_few : {A : Type 0} (cap : ℕ) (t : Table A) → IsTable cap t → length t.free ≤ cap
table_few cap t is = omega (arith, fewer_free t is.good, is.within)

-- ---- terminals of nets

module _ (tech : Technology) (library : List Master) (cap : ℕ) (b : Block) (sound : IsSound tech library cap b) where
  -- the numbers of the terminals of a net
  pub terms_up_to : (net : ℕ) → 1 ≤ net → AreUpTo (2 * cap + 1) (net_terms b net)
  terms_up_to net some number inside =
      let held = times_held (net_terms b net) number inside in
      elim (number_is number) [
        | inl even ↦
            let times_is : times number (net_terms b net) ≡ once_if (eqb (iterm_net b (number / 2)) net) = ap (λ n. times n (net_terms b net)) even ∙ iterms_held tech library cap b sound net (number / 2) some in
            let named = eqb-true (iterm_net b (number / 2)) net (once_true (eqb (iterm_net b (number / 2)) net) (omega (arith, held, times_is))) in
            let within = named_within (λ r. r.net) b.iterm (number / 2) net some named in
            (omega (arith, within.0, even), omega (arith, within.1, (sound.kinds kind.ITerm).table.within, even))
        | inr odd ↦
            let times_is : times number (net_terms b net) ≡ once_if (eqb (bterm_net b (number / 2)) net) = ap (λ n. times n (net_terms b net)) odd ∙ bterms_held tech library cap b sound net (number / 2) some in
            let named = eqb-true (bterm_net b (number / 2)) net (once_true (eqb (bterm_net b (number / 2)) net) (omega (arith, held, times_is))) in
            let within = named_within (λ e. e.fields.net) b.bterm (number / 2) net some named in
            (omega (arith, within.0, odd), omega (arith, within.1, (sound.kinds kind.BTerm).table.within, odd))
      ]

  pub terms_few : (net : ℕ) → 1 ≤ net → length (net_terms b net) ≤ 2 * cap + 1
  terms_few net some = length-distinct (2 * cap + 1) (net_terms b net) (terms_distinct tech library cap b sound net some) (terms_up_to net some)

-- ---- objects

-- each object of a block has lawful fields
abbrev pub AreLawful : Block → Type 0
AreLawful b = (k : Kind) → AreEach (saved_as k).Has (table_of k b)

-- the kinds that saved bytes may have are those that are built
built_is : (k : Kind) → is_built k ≡ (laws k).built
built_is kind.Inst = refl
built_is k = refl

module _ (d : Database) (sound : IsSoundDatabase d) where
  inst_fields : AreEach inst_format.Has d.block.inst
  unfolding inst_format
  inst_fields id e found =
      let is = (sound.block.kinds kind.Inst).each id e found in
      let few = few_terminals d.tech d.library e.fields.master (length e.fields.terminals) sound.library is.fitted in
      let here : inst_terms d.block id ≡ e.fields.terminals = ap (list_in (λ (x : InstEntry). x.fields.terminals)) found in
      let terminals : AllByRecursion IsId e.fields.terminals = each_by IsId e.fields.terminals (λ k part at.
      let placed = (terms_placed d.tech d.library d.cap d.block sound.block id k part).0 (ap (λ (ids : List ℕ). slice_get ids k) here ∙ at) in
      let shown = shown_by (λ (r : ITermRec). (r.inst, r.index)) (record_at d.block.iterm part) (id, k) placed in
      live_id d.cap d.block.iterm part sound.capped (sound.block.kinds kind.ITerm).table (found_live d.block.iterm part shown.value shown.is))
      in (
        (
          (
            (
              ((name_text e.fields.name is.name, master_id d.library e.fields.master (length e.fields.terminals) sound.library.few is.fitted), placement_fields e.fields.place is.place),
              zero_is e.fields.group is.group,
            ),
            (number 0 4294967295 (length e.fields.terminals) (omega arith) (omega (arith, few)) (omega arith), terminals),
          ),
          no_ids e.props is.props,
        ),
        no_text e.fields.kept is.kept,
      )

  -- a list that has a part at a place is that of an instance that is there
  inst_live : (inst index part : ℕ) (o : Option InstEntry) → record_at d.block.inst inst ≡ o → slice_get (list_in (λ x. x.fields.terminals) o) index ≡ Some part → IsId inst × IsId index
  inst_live inst index part None is at = absurd (none_in index part at)
  inst_live inst index part (Some e) is at =
      let few = few_terminals d.tech d.library e.fields.master (length e.fields.terminals) sound.library ((sound.block.kinds kind.Inst).each inst e is).fitted in
      let within = slice_get_within e.fields.terminals index part at in
      (live_id d.cap d.block.inst inst sound.capped (sound.block.kinds kind.Inst).table (found_live d.block.inst inst e is), omega (arith, few, within))

  net_id : (net number : ℕ) → holds (net_terms d.block net) number ≡ true → IsId net
  net_id net number inside =
      live_id d.cap d.block.net net sound.capped (sound.block.kinds kind.Net).table (net_of_member d.tech d.library d.cap d.block net number inside)

  iterm_fields : AreEach iterm_format.Has d.block.iterm
  unfolding iterm_format
  iterm_fields id r found =
      let place_is : iterm_place d.block id ≡ Some (r.inst, r.index) = ap (option_map (λ (r : ITermRec). (r.inst, r.index))) found in
      let at = (terms_placed d.tech d.library d.cap d.block sound.block r.inst r.index id).1 place_is in
      let inst = inst_live r.inst r.index id (record_at d.block.inst r.inst) refl at in
      let joined : option_map (λ r. r.net) (record_at d.block.iterm id) ≡ Some r.net = ap (option_map (λ (r : ITermRec). r.net)) found in (
        inst,
        elim (cases_eq r.net 0) [
          | inl none ↦ omega (arith, none)
          | inr some ↦ net_id r.net (iterm_number id) (iterm_inside d.tech d.library d.cap d.block sound.block id r.net (omega (arith, some)) joined)
        ],
      )

  net_fields : AreEach net_format.Has d.block.net
  unfolding net_format
  net_fields id e found =
      let is = (sound.block.kinds kind.Net).each id e found in
      let some = from_one d.block.net id (live_by d.block.net id e found) in
      let here : net_terms d.block id ≡ e.terms = ap (list_in (λ (x : NetEntry). x.terms)) found in
      let few = terms_few d.tech d.library d.cap d.block sound.block id some in
      let upto = terms_up_to d.tech d.library d.cap d.block sound.block id some in
      let P : List ℕ → Type 0 = IsList 4294967295 IsTerm in
      let terms : P (net_terms d.block id) = (
        number 0 4294967295 (length (net_terms d.block id)) (omega arith) (omega (arith, few, sound.capped)) (omega arith),
        each_held IsTerm (net_terms d.block id) (λ n inside. let u = upto n inside in (u.0, omega (arith, u.1, sound.capped))),
      ) in
      (((((((name_text e.fields.name is.name, tt), tt), subst P here terms), no_ids e.wires is.wires), no_ids e.props is.props), no_text e.fields.kept is.kept), no_text e.fields.special_kept is.special_kept)

  bterm_fields : AreEach bterm_format.Has d.block.bterm
  unfolding bterm_format block_direction_field
  bterm_fields id e found =
      let is = (sound.block.kinds kind.BTerm).each id e found in
      let joined : option_map (λ x. x.fields.net) (record_at d.block.bterm id) ≡ Some e.fields.net = ap (option_map (λ (x : BTermEntry). x.fields.net)) found in
      let net : IsId e.fields.net = elim (cases_eq e.fields.net 0) [
        | inl none ↦ omega (arith, none)
        | inr some ↦ net_id e.fields.net (bterm_number id) (bterm_inside d.tech d.library d.cap d.block sound.block id e.fields.net (omega (arith, some)) joined)
      ] in
      (((((name_text e.fields.name is.name, net), (is.direction, tt)), tt), no_ids e.pins is.pins), no_text e.fields.kept is.kept)

  row_fields : AreEach row_format.Has d.block.row
  unfolding row_format
  row_fields id e found =
      let is = (sound.block.kinds kind.Row).each id e found in
      let f = is.fields in
      let r = e.fields in
      let site : IsId r.site = omega (arith, f.site, sound.tech.few.sites) in
      (((((((name_text r.name f.name, site), coordinate_is r.x f.x), coordinate_is r.y f.y), tt), sites_lawful r.form r.nx r.ny r.sx r.sy f.nx f.ny f.sx f.sy f.repeated), no_ids e.props is.props))

  -- each object of a sound database has lawful fields
  pub objects_lawful : AreLawful d.block
  objects_lawful kind.Inst = inst_fields
  objects_lawful kind.ITerm = iterm_fields
  objects_lawful kind.Net = net_fields
  objects_lawful kind.BTerm = bterm_fields
  objects_lawful kind.Row = row_fields
  objects_lawful k = none_each (saved_as k).Has (table_of k d.block) ((sound.block.kinds k).coming refl)

  table_is : (k : Kind) → IsTableOf (is_built k) d.cap (saved_as k).Has (table_of k d.block)
  table_is k = elim (cases_Bool (is_built k)) [
    | inl built ↦ table_fields (is_built k) d.cap (saved_as k).Has (table_of k d.block) built sound.capped (sound.block.kinds k).table (objects_lawful k)
    | inr unbuilt ↦ empty_fields (is_built k) d.cap (saved_as k).Has (table_of k d.block) ((sound.block.kinds k).coming (sym (built_is k) ∙ unbuilt))
  ]

  built_fields : (built_format d.cap).Has (((d.block.inst, d.block.iterm), d.block.net), d.block.bterm)
  unfolding built_format
  built_fields = (((table_is kind.Inst, table_is kind.ITerm), table_is kind.Net), table_is kind.BTerm)

  others_fields : (others_format d.cap).Has (block_parts d.block).1
  unfolding others_format
  others_fields =
      (((((((table_is kind.Pin, table_is kind.Row), table_is kind.Track), table_is kind.Wire), table_is kind.Blockage), table_is kind.Region), table_is kind.Group), table_is kind.Prop)

  block_fields : (block_format d.cap).Has d.block
  unfolding block_format
  block_fields = ((header_is d.block.header sound.block.header, built_fields), others_fields)

-- what a sound database spells is lawful, field by field
pub saved_fields : (d : Database) → IsSoundDatabase d → IsSavedFields d.cap (spelled d)
saved_fields d sound = ((((tt, tt), tech_fields d.tech sound.tech), library_fields d.tech sound.tech d.library sound.library), block_fields d sound)

-- ---- free identifiers

-- no more identifiers are free than the cap
free_few : (cap : ℕ) (b : Block) (k : Kind) → IsTable cap (table_of k b) → length (free_in k b) ≤ cap
free_few cap b kind.Inst is = table_few cap b.inst is
free_few cap b k is = table_few cap (table_of k b) is

pub free_short : (d : Database) (k : Kind) → IsSoundDatabase d → IsShort (free_in k d.block)
free_short d k sound = let few = free_few d.cap d.block k (sound.block.kinds k).table in omega (arith, few, sound.capped)
