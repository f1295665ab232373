-- Two lists of elements with one code are one.
use Rattle.std.proofs.Common.{◌≡◌, ◌&&◌, ◌<◌, ◌^◌, Bool, true, false, ℕ, ℤ, pos, List, [], ◌∷◌, ◌++◌, length, Option, Some, None, Result, refl, sym, ap, subst, ◌∙◌, append_assoc, length-append, arith}
use Rattle.std.specs.Prelude.{FitsSigned, IfSome}
use Rattle.std.specs.Int.{w32}
use Rattle.std.specs.List.{AllByRecursion}
use Rattle.std.proofs.lemmas.Bool.{and_parts}
use Rattle.odb_base.specs.declared.codes.orient.Orient.{Orient}
use Rattle.odb_fields.specs.declared.get.Cut.{Cut}
use Rattle.odb_fields.specs.Fields.{i32_bytes, text_bytes, u32_bytes, u8_bytes}
use Rattle.odb_fields.specs.Reading.{Cursor, ReadsBack, i32_at, past, text_at, u32_at, u8_at, unread}
use Rattle.odb_fields.proofs.Inputs.{ok_is}
use Rattle.odb_fields.proofs.Numbers.{i32_back, length-u8_bytes, u32_back, u8_back}
use Rattle.odb_fields.proofs.Texts.{text_back}
use Rattle.wires.specs.declared.fields.TextSort.TheVariants as sort
use Rattle.wires.specs.declared.limits.Limits.{Limits}
use Rattle.wires.specs.declared.elements.Due.{Due}
use Rattle.wires.specs.declared.elements.Due.TheVariants as due
use Rattle.wires.specs.Fields.{is_between, is_from_to, text_fits}
use Rattle.wires.specs.Laws.{AcceptedCodesAreDecoded, IsHeld}
use Rattle.wires.specs.Pieces.{AreNumbers, Layer, Piece, Point, Rect, Via, code_of, ext_bytes, field_bytes, flag_of, is_coordinate, is_ext, kind_of, orient_byte, orient_of, piece_bytes, piece_fits, rule_sort, taper_fits, vias_of}
use Rattle.wires.specs.Paths.{paths_bytes, pieces_of}
use Rattle.wires.specs.Reading.{AreItems, due_after}
use Rattle.wires.proofs.Grouped.{paths_out}
use Rattle.wires.proofs.PathPieces.{code_of-pieces}
use Rattle.wires.proofs.PieceBack.{most_small, orient_is}
use Rattle.wires.proofs.Ranges.{between_below, coordinate_fits, size_fits, text_short}
use Rattle.wires.proofs.WholeCodes.{codes_only}

-- ---- one field

-- a field in front of some bytes and one in front of others, where all bytes are the same
same_field : {A : Type 0} (read : Cursor → Result (A × Cursor) Cut) (x y r s : List ℕ) (v w : A) → ReadsBack read x v → ReadsBack read y w → x ++ r ≡ y ++ s → (v ≡ w) × (r ≡ s)
same_field {A} read x y r s v w first second e =
    let input : Cursor = record { bytes = x ++ r; place = 0 } in
    let a = first input r refl in
    let b = second input s e in
    let both : (v, past (length x) input) ≡ (w, past (length y) input) = ok_is (v, past (length x) input) (w, past (length y) input) (sym a.0 ∙ b.0) in
    (ap (λ (p : A × Cursor). p.0) both, sym a.1 ∙ ap (λ (p : A × Cursor). unread p.1) both ∙ b.1)

same_byte : (m n : ℕ) (r s : List ℕ) → m < 2 ^ 8 → n < 2 ^ 8 → u8_bytes m ++ r ≡ u8_bytes n ++ s → (m ≡ n) × (r ≡ s)
same_byte m n r s p q e = same_field u8_at (u8_bytes m) (u8_bytes n) r s m n (u8_back m p) (u8_back n q) e

same_id : (m n : ℕ) (r s : List ℕ) → m < 2 ^ 32 → n < 2 ^ 32 → u32_bytes m ++ r ≡ u32_bytes n ++ s → (m ≡ n) × (r ≡ s)
same_id m n r s p q e = same_field u32_at (u32_bytes m) (u32_bytes n) r s m n (u32_back m p) (u32_back n q) e

same_distance : (y z : ℤ) (r s : List ℕ) → FitsSigned w32 y → FitsSigned w32 z → i32_bytes y ++ r ≡ i32_bytes z ++ s → (y ≡ z) × (r ≡ s)
same_distance y z r s p q e = same_field i32_at (i32_bytes y) (i32_bytes z) r s y z (i32_back y p) (i32_back z q) e

same_text : (t u : List ℕ) (r s : List ℕ) → length t < 2 ^ 32 → length u < 2 ^ 32 → text_bytes t ++ r ≡ text_bytes u ++ s → (t ≡ u) × (r ≡ s)
same_text t u r s p q e = same_field text_at (text_bytes t) (text_bytes u) r s t u (text_back t p) (text_back u q) e

-- a field and then others, in front of some bytes
then : (x y r z : List ℕ) → (x ++ y) ++ r ≡ z → x ++ (y ++ r) ≡ z
then x y r z e = sym (append_assoc x y r) ∙ e

both_then : (x y r v w s : List ℕ) → (x ++ y) ++ r ≡ (v ++ w) ++ s → x ++ (y ++ r) ≡ v ++ (w ++ s)
both_then x y r v w s e = sym (append_assoc x y r) ∙ e ∙ append_assoc v w s

-- ---- lawful elements are held

ext_held : (ext : Option ℤ) → is_ext ext ≡ true → IfSome ext (FitsSigned w32)
ext_held None h = tt
ext_held (Some z) h = size_fits z h

held : (limits : Limits) (piece : Piece) → AreNumbers limits → piece_fits limits piece ≡ true → IsHeld piece
unfolding piece_fits
held limits (Layer layer width shape taper rule) small h =
    let a = and_parts (is_between 1 limits.layers layer) (is_from_to (pos 0) width && (text_fits sort.NameOrEmpty shape && taper_fits taper rule)) h in
    let b = and_parts (is_from_to (pos 0) width) (text_fits sort.NameOrEmpty shape && taper_fits taper rule) a.1 in
    let c = and_parts (text_fits sort.NameOrEmpty shape) (taper_fits taper rule) b.1 in
    let d = and_parts (is_between 0 2 taper) (text_fits (rule_sort taper) rule) c.1 in
    let most = between_below 1 limits.layers layer a.0 in
    let two = between_below 0 2 taper d.0 in
    let layers = small.layers in
    (omega arith, size_fits width b.0, text_short sort.NameOrEmpty shape c.0, omega arith, text_short (rule_sort taper) rule d.1)
held limits (Point x y ext) small h =
    let a = and_parts (is_coordinate x) (is_coordinate y && is_ext ext) h in
    let b = and_parts (is_coordinate y) (is_ext ext) a.1 in
    (coordinate_fits x a.0, coordinate_fits y b.0, ext_held ext b.1)
held limits (Via block via o) small h =
    let most = between_below 1 (vias_of limits block) via h in
    let few = most_small limits block small in
    omega arith
held limits (Rect dx1 dy1 dx2 dy2) small h =
    let a = and_parts (is_coordinate dx1) (is_coordinate dy1 && (is_coordinate dx2 && is_coordinate dy2)) h in
    let b = and_parts (is_coordinate dy1) (is_coordinate dx2 && is_coordinate dy2) a.1 in
    let c = and_parts (is_coordinate dx2) (is_coordinate dy2) b.1 in
    (coordinate_fits dx1 a.0, coordinate_fits dy1 b.0, coordinate_fits dx2 c.0, coordinate_fits dy2 c.1)

-- ---- one element

same_ext : (e f : Option ℤ) (r s : List ℕ) → IfSome e (FitsSigned w32) → IfSome f (FitsSigned w32) → ext_bytes e ++ r ≡ ext_bytes f ++ s → (e ≡ f) × (r ≡ s)
same_ext None None r s p q e = (refl, (same_byte 0 0 r s (omega arith) (omega arith) e).1)
same_ext None (Some z) r s p q e = absurd (let b = same_byte 0 1 r (i32_bytes z ++ s) (omega arith) (omega arith) (e ∙ append_assoc (u8_bytes 1) (i32_bytes z) s) in omega arith)
same_ext (Some y) None r s p q e = absurd (let b = same_byte 1 0 (i32_bytes y ++ r) s (omega arith) (omega arith) (then (u8_bytes 1) (i32_bytes y) r (u8_bytes 0 ++ s) e) in omega arith)
same_ext (Some y) (Some z) r s p q e =
    let b = same_byte 1 1 (i32_bytes y ++ r) (i32_bytes z ++ s) (omega arith) (omega arith) (both_then (u8_bytes 1) (i32_bytes y) r (u8_bytes 1) (i32_bytes z) s e) in
    let d = same_distance y z r s p q b.1 in
    (ap Some d.0, d.1)

orient_small : (o : Option Orient) → orient_byte o < 2 ^ 8
orient_small o = let p = between_below 0 8 (orient_byte o) (orient_is o).0 in omega arith

flag_small : (block : Bool) → flag_of block < 2 ^ 8
flag_small true = omega arith
flag_small false = omega arith

same_flag : (b c : Bool) → flag_of b ≡ flag_of c → b ≡ c
same_flag true true e = refl
same_flag false false e = refl
same_flag true false e = absurd (omega arith)
same_flag false true e = absurd (omega arith)

kind_small : (x : Piece) → kind_of x < 2 ^ 8
kind_small (Layer layer width shape taper rule) = omega arith
kind_small (Point x y ext) = omega arith
kind_small (Via block via o) = omega arith
kind_small (Rect dx1 dy1 dx2 dy2) = omega arith

-- the fields of elements of one kind
same_fields : (x y : Piece) (r s : List ℕ) → IsHeld x → IsHeld y → kind_of x ≡ kind_of y → field_bytes x ++ r ≡ field_bytes y ++ s → (x ≡ y) × (r ≡ s)
unfolding field_bytes
same_fields (Layer l w t c u) (Layer l' w' t' c' u') r s p q k e =
    let a = same_id l l' _ _ p.0 q.0 (both_then (u32_bytes l) _ r (u32_bytes l') _ s e) in
    let b = same_distance w w' _ _ p.1 q.1 (both_then (i32_bytes w) _ r (i32_bytes w') _ s a.1) in
    let d = same_text t t' _ _ p.2 q.2 (both_then (text_bytes t) _ r (text_bytes t') _ s b.1) in
    let f = same_byte c c' _ _ p.3 q.3 (both_then (u8_bytes c) _ r (u8_bytes c') _ s d.1) in
    let g = same_text u u' r s p.4 q.4 f.1 in
    (rw (a.0, b.0, d.0, f.0, g.0) refl, g.1)
same_fields (Point x y f) (Point x' y' f') r s p q k e =
    let a = same_distance x x' _ _ p.0 q.0 (both_then (i32_bytes x) _ r (i32_bytes x') _ s e) in
    let b = same_distance y y' _ _ p.1 q.1 (both_then (i32_bytes y) _ r (i32_bytes y') _ s a.1) in
    let d = same_ext f f' r s p.2 q.2 b.1 in
    (rw (a.0, b.0, d.0) refl, d.1)
same_fields (Via b v o) (Via b' v' o') r s p q k e =
    let a = same_byte (flag_of b) (flag_of b') _ _ (flag_small b) (flag_small b') (both_then (u8_bytes (flag_of b)) _ r (u8_bytes (flag_of b')) _ s e) in
    let d = same_id v v' _ _ p q (both_then (u32_bytes v) _ r (u32_bytes v') _ s a.1) in
    let f = same_byte (orient_byte o) (orient_byte o') r s (orient_small o) (orient_small o') d.1 in
    let turned : o ≡ o' = sym (orient_is o).1 ∙ ap orient_of f.0 ∙ (orient_is o').1 in
    (rw (same_flag b b' a.0, d.0, turned) refl, f.1)
same_fields (Rect a b c d) (Rect a' b' c' d') r s p q k e =
    let f = same_distance a a' _ _ p.0 q.0 (both_then (i32_bytes a) _ r (i32_bytes a') _ s e) in
    let g = same_distance b b' _ _ p.1 q.1 (both_then (i32_bytes b) _ r (i32_bytes b') _ s f.1) in
    let h = same_distance c c' _ _ p.2 q.2 (both_then (i32_bytes c) _ r (i32_bytes c') _ s g.1) in
    let i = same_distance d d' r s p.3 q.3 h.1 in
    (rw (f.0, g.0, h.0, i.0) refl, i.1)
same_fields x y r s p q k e = absurd (omega arith)

-- ---- all elements

same_piece : (x y : Piece) (r s : List ℕ) → IsHeld x → IsHeld y → piece_bytes x ++ r ≡ piece_bytes y ++ s → (x ≡ y) × (r ≡ s)
same_piece x y r s p q e =
    let k = same_byte (kind_of x) (kind_of y) _ _ (kind_small x) (kind_small y) (both_then (u8_bytes (kind_of x)) (field_bytes x) r (u8_bytes (kind_of y)) (field_bytes y) s e) in
    same_fields x y r s p q k.0 k.1

piece_some : (x : Piece) (r : List ℕ) → piece_bytes x ++ r ≡ [] → ⊥
piece_some x r e = omega (arith, ap length e, length-append (piece_bytes x) r, length-append (u8_bytes (kind_of x)) (field_bytes x), length-u8_bytes (kind_of x))

same_code : (limits : Limits) (state : Due) (xs ys : List Piece) → AreNumbers limits → AllByRecursion IsHeld xs → AreItems limits state ys → code_of xs ≡ code_of ys → xs ≡ ys
same_code limits state [] [] small p q e = refl
same_code limits state [] (y ∷ ys) small p q e = absurd (piece_some y (code_of ys) (sym e))
same_code limits state (x ∷ xs) [] small p q e = absurd (piece_some x (code_of xs) e)
same_code limits state (x ∷ xs) (y ∷ ys) small p q e =
    let one = same_piece x y (code_of xs) (code_of ys) p.0 (held limits y small q.0.fits) e in
    let others = same_code limits (due_after y) xs ys small p.1 q.1 one.1 in
    rw (one.0, others) refl

pub accepted_codes : AcceptedCodesAreDecoded
accepted_codes limits paths pieces small is_held are e =
    let o = codes_only limits (paths_bytes paths) pieces are e in
    let same : pieces_of paths ≡ pieces = same_code limits due.Layer (pieces_of paths) pieces small is_held o.1 (code_of-pieces paths ∙ o.0) in
    (sym same, paths_out limits paths (let P : List Piece → Type 0 = λ xs. AreItems limits due.Layer xs in subst P (sym same) o.1))
