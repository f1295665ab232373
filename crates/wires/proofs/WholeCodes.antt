-- Whole codes: they are read back, have no second spelling, and are read by wider limits too.
use Rattle.std.proofs.Common.{◌≡◌, ◌-◌, ◌&&◌, ◌<◌, ◌^◌, Bool, true, false, ℕ, pos, List, [], ◌∷◌, length, leb, Result, Ok, Err, refl, ap, ◌∙◌, arith}
use Rattle.std.specs.Prelude.{is_ok}
use Rattle.std.proofs.lemmas.Bool.{and_from, and_parts, le-leb}
use Rattle.odb_fields.specs.Bytes.{AreBytes}
use Rattle.wires.specs.declared.fault.WireFault.{WireFault}
use Rattle.wires.specs.declared.fields.TextSort.TheVariants as sort
use Rattle.wires.specs.declared.limits.Limits.{Limits}
use Rattle.wires.specs.declared.elements.Due.{Due}
use Rattle.wires.specs.declared.elements.Due.TheVariants as due
use Rattle.wires.specs.Fields.{is_between, is_from_to, text_fits}
use Rattle.wires.specs.Pieces.{AreNumbers, Layer, Piece, Point, Rect, Via, code_of, piece_fits, taper_fits, vias_of, widest}
use Rattle.wires.specs.Reading.{AreItems, due_after, items_left, items_of}
use Rattle.wires.proofs.AllPieces.{IsWithin, items_back, items_only}
use Rattle.wires.proofs.Ranges.{between_below}

-- a code whose elements are lawful and in order is read back
pub codes_back : (limits : Limits) (pieces : List Piece) → AreNumbers limits → AreItems limits due.Layer pieces → items_of limits (code_of pieces) ≡ Ok pieces
unfolding items_left
codes_back limits pieces small items =
    let code = code_of pieces in
    items_back (length code - 0) limits due.Layer pieces (record { bytes = code; place = 0 }) small items refl (omega arith) (omega arith)

-- a code that is read has just the bytes of its elements, which are lawful and in order
pub codes_only : (limits : Limits) (code : List ℕ) (pieces : List Piece) → AreBytes code → items_of limits code ≡ Ok pieces → (code ≡ code_of pieces) × AreItems limits due.Layer pieces
unfolding items_left
codes_only limits code pieces are e =
    let inside : IsWithin (record { bytes = code; place = 0 }) = record { are = are; within = omega arith } in
    let o = items_only (length code - 0) limits due.Layer (record { bytes = code; place = 0 }) pieces inside (omega arith) e in
    o

-- ---- wider limits

wider : (most n : ℕ) → most < 2 ^ 32 → is_between 1 most n ≡ true → is_between 1 (2 ^ 32 - 1) n ≡ true
wider most n small h =
    let p = between_below 1 most n h in
    and_from (leb 1 n) (leb n (2 ^ 32 - 1)) (le-leb 1 n p.0) (le-leb n (2 ^ 32 - 1) (omega arith))

widest_vias : (block : Bool) → vias_of widest block ≡ 2 ^ 32 - 1
widest_vias true = refl
widest_vias false = refl

small_vias : (limits : Limits) (block : Bool) → AreNumbers limits → vias_of limits block < 2 ^ 32
small_vias limits true small = small.block_vias
small_vias limits false small = small.tech_vias

widened : (limits : Limits) (piece : Piece) → AreNumbers limits → piece_fits limits piece ≡ true → piece_fits widest piece ≡ true
unfolding piece_fits
widened limits (Layer layer width shape taper rule) small h =
    let a = and_parts (is_between 1 limits.layers layer) (is_from_to (pos 0) width && (text_fits sort.NameOrEmpty shape && taper_fits taper rule)) h in
    and_from (is_between 1 (2 ^ 32 - 1) layer) (is_from_to (pos 0) width && (text_fits sort.NameOrEmpty shape && taper_fits taper rule)) (wider limits.layers layer small.layers a.0) a.1
widened limits (Point x y ext) small h = h
widened limits (Via block via orient) small h = rw (widest_vias block) (wider (vias_of limits block) via (small_vias limits block small) h)
widened limits (Rect dx1 dy1 dx2 dy2) small h = h

all_widened : (limits : Limits) (state : Due) (pieces : List Piece) → AreNumbers limits → AreItems limits state pieces → AreItems widest state pieces
all_widened limits state [] small items = items
all_widened limits state (piece ∷ pieces) small items =
    (record { stands = items.0.stands; fits = widened limits piece small items.0.fits }, all_widened limits (due_after piece) pieces small items.1)

-- each limit of the widest is a number of four bytes
widest_small : AreNumbers widest
widest_small = record { layers = omega arith; tech_vias = omega arith; block_vias = omega arith }

-- a code that is read by some limits is read alike by the widest
pub read_by_widest : (limits : Limits) (code : List ℕ) (pieces : List Piece) → AreNumbers limits → AreBytes code → items_of limits code ≡ Ok pieces → items_of widest code ≡ Ok pieces
read_by_widest limits code pieces small are e =
    let o = codes_only limits code pieces are e in
    let back = codes_back widest pieces widest_small (all_widened limits due.Layer pieces small o.1) in
    ap (items_of widest) (o.0) ∙ back

-- the value of an answer that is one
pub ok_value : (r : Result (List Piece) WireFault) → is_ok r ≡ true → (pieces : List Piece) × (r ≡ Ok pieces)
ok_value (Ok pieces) h = (pieces, refl)
ok_value (Err f) h = absurd cc
