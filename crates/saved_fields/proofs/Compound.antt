-- Codecs of placements, rectangles, what isn't there yet, and tables.
use Rattle.std.proofs.Common.{Bool, ◌≡◌, ◌<◌, ◌^◌, false, eqb, ltb, ℕ, ℤ, List, Option, Some, None, Ok, refl, sym, ap, ◌∙◌, arith, inl, inr}
use Rattle.std.proofs.lemmas.Bool.{cases_Bool, eqb-true, le-ltb}
use Rattle.odb_base.specs.Geometry.{is_coordinate}
use Rattle.odb_base.specs.Orient.{orient_code, orients}
use Rattle.odb_base.specs.PlaceStatus.{place_status_code, place_statuses}
use Rattle.odb_base.specs.declared.codes.kind.Kind.{Kind}
use Rattle.odb_base.specs.declared.codes.orient.Orient.{Orient}
use Rattle.odb_base.specs.declared.codes.place_status.PlaceStatus.{PlaceStatus}
use Rattle.odb_base.specs.declared.codes.place_status.PlaceStatus.TheVariants as status
use Rattle.odb_base.specs.declared.geometry.Placement.{Placement}
use Rattle.odb_base.specs.declared.geometry.Rect.{Rect}
use Rattle.odb_fields.specs.Fields.{i32_bytes, u32_bytes, u8_bytes}
use Rattle.odb_fields.specs.Reading.{Cursor, u32_at, u8_at, ◌>>=◌}
use Rattle.odb_fields.proofs.Inputs.{bind_ok}
use Rattle.slot_pool.specs.Table.{Table}
use Rattle.saved_fields.specs.Bytes.{option_bytes, place_bytes, rect_bytes, table_bytes}
use Rattle.saved_fields.specs.Fields.{coded_at, distance_at, id_at, is_from}
use Rattle.saved_fields.specs.Parts.{absent_at, free_count_at, may_be_turned, may_have, may_stand, none_if_0, option_at, place_at, placement_of, rect_at, rect_of, slot_count_at, table_at, table_of, turn_at, within_cap}
use Rattle.saved_fields.specs.Reading.{Reading, plain}
use Rattle.saved_fields.specs.Lawful.{IsDistance, IsFreeCount, IsId, IsOption, IsPlacementFields, IsRectFields, IsSlotCount, IsTableOf, IsTurn, IsWithin}
use Rattle.saved_fields.proofs.Codec.{IsCodec, and_codec, judged_codec, record_codec, same_codec, then_codec}
use Rattle.saved_fields.proofs.Counted.{counted_codec, option_codec}
use Rattle.saved_fields.proofs.Sets.{orients_set}
use Rattle.saved_fields.proofs.FaultPlaces.{EndsIn, IsIn, bind_in}
use Rattle.saved_fields.proofs.Single.{IsSet, coded_codec, distance_codec, id_codec, such_codec, u32_codec, u8_codec}

-- ---- placements

pub statuses_set : IsSet place_status_code place_statuses
statuses_set = record {
  again = elim [ status.Unplaced ↦ refl | status.Placed ↦ refl | status.Fixed ↦ refl | status.Cover ↦ refl ];
  small = elim [ status.Unplaced ↦ omega arith | status.Placed ↦ omega arith | status.Fixed ↦ omega arith | status.Cover ↦ omega arith ];
}

turn_codec : (placed : PlaceStatus) → IsCodec (turn_at placed) (λ o. u8_bytes (orient_code o)) (IsTurn placed)
unfolding turn_at
turn_codec placed = such_codec (may_be_turned placed) (coded_at orient_code orients) (λ o. u8_bytes (orient_code o)) (λ o. Unit {0}) (coded_codec orient_code orients orients_set)

abbrev pub placement_parts : Placement → ((PlaceStatus × ℤ) × ℤ) × Orient
placement_parts p = (((p.status, p.x), p.y), p.orientation)

pub place_codec : IsCodec place_at place_bytes IsPlacementFields
unfolding place_at place_bytes
place_codec =
    let status = coded_codec place_status_code place_statuses statuses_set in
    let x = then_codec _ (λ placed. distance_at (may_stand placed)) _ i32_bytes _ (λ placed. IsDistance (may_stand placed)) status (λ placed. distance_codec (may_stand placed)) in
    let y = then_codec _ (λ (t : PlaceStatus × ℤ). distance_at (may_stand t.0)) _ i32_bytes _ (λ t. IsDistance (may_stand t.0)) x (λ t. distance_codec (may_stand t.0)) in
    let turn = then_codec _ (λ (t : (PlaceStatus × ℤ) × ℤ). turn_at t.0.0) _ (λ o. u8_bytes (orient_code o)) _ (λ t. IsTurn t.0.0) y (λ t. turn_codec t.0.0) in
    record_codec placement_of placement_parts _ _ _ (λ p. refl) (λ t. refl) turn

-- ---- rectangles

abbrev pub rect_parts : Rect → ((ℤ × ℤ) × ℤ) × ℤ
rect_parts r = (((r.xl, r.yl), r.xh), r.yh)

pub rect_codec : IsCodec rect_at rect_bytes IsRectFields
unfolding rect_at rect_bytes
rect_codec =
    let coordinate = distance_codec is_coordinate in
    let corner = and_codec _ _ i32_bytes i32_bytes _ _ coordinate coordinate in
    let xh = then_codec _ (λ (t : ℤ × ℤ). distance_at (is_from t.0)) _ i32_bytes _ (λ t. IsDistance (is_from t.0)) corner (λ t. distance_codec (is_from t.0)) in
    let yh = then_codec _ (λ (t : (ℤ × ℤ) × ℤ). distance_at (is_from t.0.1)) _ i32_bytes _ (λ t. IsDistance (is_from t.0.1)) xh (λ t. distance_codec (is_from t.0.1)) in
    record_codec rect_of rect_parts _ _ _ (λ r. refl) (λ t. refl) yh

-- ---- what isn't there yet

zero_if_none : {A : Type 0} (n : ℕ) (o : Option A) → none_if_0 n ≡ Some o → n ≡ 0
zero_if_none n o e = elim (cases_Bool (eqb n 0)) [
  | inl zero ↦ eqb-true n 0 zero
  | inr some ↦ absurd (let h = rw some at e in cc)
]

-- nothing is stated
pub absent_codec : {A : Type 0} (writes : A → List ℕ) → IsCodec absent_at (option_bytes writes) (λ o. o ≡ None)
unfolding absent_at option_bytes
absent_codec {A} writes =
    same_codec absent_at (λ (o : Option A). u8_bytes 0) (option_bytes writes) (λ o. o ≡ None) (λ o none. ap (option_bytes writes) (sym none))
    (judged_codec none_if_0 (λ (o : Option A). 0) (plain u8_at) u8_bytes (λ n. n < 2 ^ 8) (λ o. o ≡ None) (λ o none. ap Some (sym none)) zero_if_none (λ o none. omega arith) u8_codec)

-- ---- tables

within_ok : (k : Kind) (cap : ℕ) (p q : ℕ × Cursor) → within_cap k cap p ≡ Ok q → p ≡ q
within_ok k cap p q e = elim (cases_Bool (ltb cap p.0)) [
  | inl over ↦ absurd (let h = rw over at e in cc)
  | inr fits ↦ (let h = rw fits at e in cc)
]

within_stays : (k : Kind) (cap n : ℕ) (p : ℕ × Cursor) → IsIn n p.1 → EndsIn n (within_cap k cap p)
within_stays k cap n p is = elim (cases_Bool (ltb cap p.0)) [
  | inl over ↦ rw over (omega arith)
  | inr fits ↦ rw fits is
]

within_codec : (k : Kind) (cap : ℕ) → IsCodec (λ i. plain u32_at i >>= within_cap k cap) u32_bytes (IsWithin cap)
within_codec k cap = record {
  back = λ n fits input rest e.
      let a = u32_codec.back n fits.1 input rest e in
      let few : ltb cap n ≡ false = le-ltb cap n fits.0 in
      (rw (a.0, few) refl, a.1);
  only = λ old new n are e fits.
      let u = bind_ok (plain u32_at old) (within_cap k cap) (n, new) e in
      u32_codec.only old new n are (u.1 ∙ ap (λ (p : ℕ × Cursor). Ok p) (within_ok k cap u.0 (n, new) u.2)) fits.1;
  stays = λ n old is. bind_in n (plain u32_at old) (within_cap k cap) (u32_codec.stays n old is) (within_stays k cap n);
}

slot_count_codec : (built : Bool) (k : Kind) (cap : ℕ) → IsCodec (slot_count_at built k cap) u32_bytes (IsSlotCount built cap)
unfolding slot_count_at
slot_count_codec built k cap = such_codec (may_have built) (λ i. plain u32_at i >>= within_cap k cap) u32_bytes (IsWithin cap) (within_codec k cap)

free_count_codec : (built : Bool) → IsCodec (free_count_at built) u32_bytes (IsFreeCount built)
unfolding free_count_at
free_count_codec built = such_codec (may_have built) (plain u32_at) u32_bytes (λ n. n < 2 ^ 32) u32_codec

abbrev pub table_parts : {A : Type 0} → Table A → List (Option A) × List ℕ
table_parts t = (t.slots, t.free)

pub table_codec : {A : Type 0} (built : Bool) (k : Kind) (cap : ℕ) (each : Reading A) (writes : A → List ℕ) (Fits : A → Type 0) → IsCodec each writes Fits → IsCodec (table_at built k cap each) (table_bytes writes) (IsTableOf built cap Fits)
unfolding table_at table_bytes
table_codec {A} built k cap each writes Fits codec =
    let slots = counted_codec (option_at each) (option_bytes writes) (λ o. Unit {0} × IsOption Fits o) (option_codec each writes Fits codec) (slot_count_at built k cap) (IsSlotCount built cap) (slot_count_codec built k cap) in
    let free = counted_codec id_at u32_bytes IsId id_codec (free_count_at built) (IsFreeCount built) (free_count_codec built) in
    record_codec table_of table_parts _ _ _ (λ t. refl) (λ t. refl) (and_codec _ _ _ _ _ _ slots free)
