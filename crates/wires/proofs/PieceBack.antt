-- An element that was written is read back, whatever follows it.
use Rattle.std.proofs.Common.{◌≡◌, ◌==◌, ◌&&◌, ◌<◌, ◌^◌, Bool, true, false, ℕ, ℤ, pos, List, Option, Some, None, refl, arith}
use Rattle.std.proofs.lemmas.Bool.{and_parts}
use Rattle.odb_base.specs.declared.codes.orient.Orient.{Orient}
use Rattle.odb_base.specs.declared.codes.orient.Orient.TheVariants as orient
use Rattle.odb_fields.specs.Fields.{i32_bytes, text_bytes, u32_bytes, u8_bytes}
use Rattle.odb_fields.specs.Reading.{ReadsBack, i32_at, text_at, u32_at, u8_at}
use Rattle.odb_fields.proofs.Inputs.{made_back}
use Rattle.odb_fields.proofs.Numbers.{i32_back, u32_back, u8_back}
use Rattle.odb_fields.proofs.Texts.{text_back}
use Rattle.wires.specs.declared.fields.TextSort.{TextSort}
use Rattle.wires.specs.declared.fields.TextSort.TheVariants as sort
use Rattle.wires.specs.declared.limits.Limits.{Limits}
use Rattle.wires.specs.declared.elements.Due.{Due}
use Rattle.wires.specs.declared.elements.Due.TheVariants as due
use Rattle.wires.specs.Fields.{field_at, is_between, is_from_to, text_fits}
use Rattle.wires.specs.Pieces.{Layer, Piece, Point, Rect, Via, AreNumbers, ext_bytes, field_bytes, flag_of, is_coordinate, is_ext, kind_of, orient_of, orient_byte, piece_bytes, piece_fits, rule_sort, vias_of}
use Rattle.wires.specs.Reading.{FitsAt, coordinate_at, ext_at, fields_at, item_at, kinds, layer_at, point_at, rect_at, stated_at, via_at}
use Rattle.wires.proofs.OneField.{chain_back, field_back}
use Rattle.wires.proofs.Ranges.{between_below, coordinate_fits, size_fits, text_short}

-- ---- fields under their rules

byte_back : (least most n : ℕ) → most < 256 → is_between least most n ≡ true → ReadsBack (field_at u8_at (is_between least most)) (u8_bytes n) n
byte_back least most n small h = let p = between_below least most n h in field_back u8_at (is_between least most) (u8_bytes n) n h (u8_back n (omega arith))

id_back : (most n : ℕ) → most < 2 ^ 32 → is_between 1 most n ≡ true → ReadsBack (field_at u32_at (is_between 1 most)) (u32_bytes n) n
id_back most n small h = let p = between_below 1 most n h in field_back u32_at (is_between 1 most) (u32_bytes n) n h (u32_back n (omega arith))

size_back : (z : ℤ) → is_from_to (pos 0) z ≡ true → ReadsBack (field_at i32_at (is_from_to (pos 0))) (i32_bytes z) z
size_back z h = field_back i32_at (is_from_to (pos 0)) (i32_bytes z) z h (i32_back z (size_fits z h))

coordinate_back : (z : ℤ) → is_coordinate z ≡ true → ReadsBack coordinate_at (i32_bytes z) z
unfolding coordinate_at
coordinate_back z h = field_back i32_at is_coordinate (i32_bytes z) z h (i32_back z (coordinate_fits z h))

text_in_back : (s : TextSort) (bytes : List ℕ) → text_fits s bytes ≡ true → ReadsBack (field_at text_at (text_fits s)) (text_bytes bytes) bytes
text_in_back s bytes h = field_back text_at (text_fits s) (text_bytes bytes) bytes h (text_back bytes (text_short s bytes h))

-- ---- layers

layer_back : (limits : Limits) (layer : ℕ) (width : ℤ) (shape : List ℕ) (taper : ℕ) (rule : List ℕ) → AreNumbers limits → piece_fits limits (Layer layer width shape taper rule) ≡ true
    → ReadsBack (layer_at limits) (field_bytes (Layer layer width shape taper rule)) (Layer layer width shape taper rule)
unfolding layer_at field_bytes piece_fits
layer_back limits layer width shape taper rule small h =
    let a = and_parts (is_between 1 limits.layers layer) (is_from_to (pos 0) width && (text_fits sort.NameOrEmpty shape && (is_between 0 2 taper && text_fits (rule_sort taper) rule))) h in
    let b = and_parts (is_from_to (pos 0) width) (text_fits sort.NameOrEmpty shape && (is_between 0 2 taper && text_fits (rule_sort taper) rule)) a.1 in
    let c = and_parts (text_fits sort.NameOrEmpty shape) (is_between 0 2 taper && text_fits (rule_sort taper) rule) b.1 in
    let d = and_parts (is_between 0 2 taper) (text_fits (rule_sort taper) rule) c.1 in
    chain_back _ _ (u32_bytes layer) _ layer _ (id_back limits.layers layer small.layers a.0)
    (chain_back _ _ (i32_bytes width) _ width _ (size_back width b.0)
    (chain_back _ _ (text_bytes shape) _ shape _ (text_in_back sort.NameOrEmpty shape c.0)
    (chain_back _ _ (u8_bytes taper) _ taper _ (byte_back 0 2 taper (omega arith) d.0)
    (made_back (field_at text_at (text_fits (rule_sort taper))) (λ r. Layer layer width shape taper r) (text_bytes rule) rule (text_in_back (rule_sort taper) rule d.1)))))

-- ---- points

stated_back : (z : ℤ) → is_from_to (pos 0) z ≡ true → ReadsBack ext_at (ext_bytes (Some z)) (Some z)
unfolding ext_at stated_at
stated_back z h =
    chain_back _ _ (u8_bytes 1) _ 1 _ (byte_back 0 1 1 (omega arith) refl)
    (made_back (field_at i32_at (is_from_to (pos 0))) (λ e. Some e) (i32_bytes z) z (size_back z h))

ext_back : (ext : Option ℤ) → is_ext ext ≡ true → ReadsBack ext_at (ext_bytes ext) ext
unfolding ext_at stated_at
ext_back None h input rest e = let a = byte_back 0 1 0 (omega arith) refl input rest e in (rw (a.0) refl, a.1)
ext_back (Some z) h input rest e = stated_back z h input rest e

point_back : (limits : Limits) (x y : ℤ) (ext : Option ℤ) → piece_fits limits (Point x y ext) ≡ true → ReadsBack point_at (field_bytes (Point x y ext)) (Point x y ext)
unfolding point_at field_bytes piece_fits
point_back limits x y ext h =
    let a = and_parts (is_coordinate x) (is_coordinate y && is_ext ext) h in
    let b = and_parts (is_coordinate y) (is_ext ext) a.1 in
    chain_back _ _ (i32_bytes x) _ x _ (coordinate_back x a.0)
    (chain_back _ _ (i32_bytes y) _ y _ (coordinate_back y b.0)
    (made_back ext_at (λ e. Point x y e) (ext_bytes ext) ext (ext_back ext b.1)))

-- ---- vias

flag_back : (block : Bool) → ReadsBack (field_at u8_at (is_between 0 1)) (u8_bytes (flag_of block)) (flag_of block)
flag_back true = byte_back 0 1 1 (omega arith) refl
flag_back false = byte_back 0 1 0 (omega arith) refl

flag_is : (block : Bool) → (flag_of block == 1) ≡ block
flag_is true = refl
flag_is false = refl

pub orient_is : (o : Option Orient) → (is_between 0 8 (orient_byte o) ≡ true) × (orient_of (orient_byte o) ≡ o)
orient_is None = (refl, refl)
orient_is (Some orient.N) = (refl, refl)
orient_is (Some orient.S) = (refl, refl)
orient_is (Some orient.W) = (refl, refl)
orient_is (Some orient.E) = (refl, refl)
orient_is (Some orient.FN) = (refl, refl)
orient_is (Some orient.FS) = (refl, refl)
orient_is (Some orient.FW) = (refl, refl)
orient_is (Some orient.FE) = (refl, refl)

pub most_small : (limits : Limits) (block : Bool) → AreNumbers limits → vias_of limits block < 2 ^ 32
most_small limits true small = small.block_vias
most_small limits false small = small.tech_vias

via_back : (limits : Limits) (block : Bool) (via : ℕ) (o : Option Orient) → AreNumbers limits → piece_fits limits (Via block via o) ≡ true → ReadsBack (via_at limits) (field_bytes (Via block via o)) (Via block via o)
unfolding via_at field_bytes piece_fits
via_back limits block via o small h =
    let turned = made_back (field_at u8_at (is_between 0 8)) (λ t. Via block via (orient_of t)) (u8_bytes (orient_byte o)) (orient_byte o) (byte_back 0 8 (orient_byte o) (omega arith) (orient_is o).0) in
    chain_back _ _ (u8_bytes (flag_of block)) _ (flag_of block) _ (flag_back block)
    (rw (flag_is block)
    (chain_back _ _ (u32_bytes via) _ via _ (id_back (vias_of limits block) via (most_small limits block small) h)
    (rw ((orient_is o).1) at turned)))

-- ---- rectangles

rect_back : (limits : Limits) (dx1 dy1 dx2 dy2 : ℤ) → piece_fits limits (Rect dx1 dy1 dx2 dy2) ≡ true → ReadsBack rect_at (field_bytes (Rect dx1 dy1 dx2 dy2)) (Rect dx1 dy1 dx2 dy2)
unfolding rect_at field_bytes piece_fits
rect_back limits dx1 dy1 dx2 dy2 h =
    let a = and_parts (is_coordinate dx1) (is_coordinate dy1 && (is_coordinate dx2 && is_coordinate dy2)) h in
    let b = and_parts (is_coordinate dy1) (is_coordinate dx2 && is_coordinate dy2) a.1 in
    let c = and_parts (is_coordinate dx2) (is_coordinate dy2) b.1 in
    chain_back _ _ (i32_bytes dx1) _ dx1 _ (coordinate_back dx1 a.0)
    (chain_back _ _ (i32_bytes dy1) _ dy1 _ (coordinate_back dy1 b.0)
    (chain_back _ _ (i32_bytes dx2) _ dx2 _ (coordinate_back dx2 c.0)
    (made_back coordinate_at (λ d. Rect dx1 dy1 dx2 d) (i32_bytes dy2) dy2 (coordinate_back dy2 c.1))))

-- ---- all of them

fields_back : (limits : Limits) (piece : Piece) → AreNumbers limits → piece_fits limits piece ≡ true → ReadsBack (fields_at limits (kind_of piece)) (field_bytes piece) piece
fields_back limits (Layer layer width shape taper rule) small h = layer_back limits layer width shape taper rule small h
fields_back limits (Point x y ext) small h = point_back limits x y ext h
fields_back limits (Via block via o) small h = via_back limits block via o small h
fields_back limits (Rect dx1 dy1 dx2 dy2) small h = rect_back limits dx1 dy1 dx2 dy2 h

-- the kinds that may stand are below 5
kinds_small : (due : Due) → (kinds due).1 < 256
kinds_small due.Layer = omega arith
kinds_small due.Point = omega arith
kinds_small due.Any = omega arith

-- an element that may stand there and is lawful is read back
pub item_back : (limits : Limits) (due : Due) (piece : Piece) → AreNumbers limits → FitsAt limits due piece → ReadsBack (item_at limits due) (piece_bytes piece) piece
unfolding item_at
item_back limits due piece small fits =
    chain_back _ _ (u8_bytes (kind_of piece)) _ (kind_of piece) _ (byte_back (kinds due).0 (kinds due).1 (kind_of piece) (kinds_small due) fits.stands)
    (fields_back limits piece small fits.fits)
