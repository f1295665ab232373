-- An element is read back, and has no second spelling.
use Rattle.std.proofs.Common.{◌≡◌, ◌==◌, ◌⊎◌, true, ℕ, zero, suc, ℤ, pos, Option, Some, None, Ok, refl, subst, arith, inl, inr}
use Rattle.std.proofs.lemmas.Bool.{and_from}
use Rattle.odb_fields.specs.Bytes.{AreBytes}
use Rattle.odb_fields.specs.Fields.{i32_bytes, text_bytes, u32_bytes, u8_bytes}
use Rattle.odb_fields.specs.Reading.{Cursor, ReadsOnly, Takes, i32_at, text_at, u32_at, u8_at}
use Rattle.odb_fields.proofs.Inputs.{Takes-append, ok_is}
use Rattle.odb_fields.proofs.Numbers.{i32_only, u32_only, u8_only}
use Rattle.odb_fields.proofs.Texts.{text_only}
use Rattle.wires.specs.declared.fields.TextSort.TheVariants as sort
use Rattle.wires.specs.declared.limits.Limits.{Limits}
use Rattle.wires.specs.Fields.{field_at, is_between, is_from_to, text_fits}
use Rattle.wires.specs.declared.elements.Due.{Due}
use Rattle.wires.specs.declared.elements.Due.TheVariants as due
use Rattle.wires.specs.Pieces.{Layer, Piece, Point, Rect, Via, ext_bytes, field_bytes, flag_of, is_coordinate, is_ext, kind_of, orient_of, orient_byte, piece_bytes, piece_fits, rule_sort, vias_of}
use Rattle.wires.specs.Reading.{FitsAt, coordinate_at, ext_at, fields_at, item_at, kinds, layer_at, point_at, rect_at, stated_at, via_at}
use Rattle.wires.proofs.Ranges.{between_below}
use Rattle.wires.proofs.OneField.{field_only, step_only}

-- a layer has no second spelling
pub layer_only : (limits : Limits) → ReadsOnly (layer_at limits) field_bytes (λ piece. (kind_of piece ≡ 1) × (piece_fits limits piece ≡ true))
unfolding layer_at field_bytes piece_fits
layer_only limits old new piece are e =
    let a = step_only (field_at u32_at (is_between 1 limits.layers)) _ u32_bytes (λ n. is_between 1 limits.layers n ≡ true) old new piece (field_only u32_at _ u32_bytes _ u32_only) are e in
    let b = step_only (field_at i32_at (is_from_to (pos 0))) _ i32_bytes (λ z. is_from_to (pos 0) z ≡ true) a.mid new piece (field_only i32_at _ i32_bytes _ i32_only) a.are a.rest in
    let c = step_only (field_at text_at (text_fits sort.NameOrEmpty)) _ text_bytes (λ t. text_fits sort.NameOrEmpty t ≡ true) b.mid new piece (field_only text_at _ text_bytes _ text_only) b.are b.rest in
    let d = step_only (field_at u8_at (is_between 0 2)) _ u8_bytes (λ n. is_between 0 2 n ≡ true) c.mid new piece (field_only u8_at _ u8_bytes _ u8_only) c.are c.rest in
    let r = step_only (field_at text_at (text_fits (rule_sort d.value))) _ text_bytes (λ t. text_fits (rule_sort d.value) t ≡ true) d.mid new piece (field_only text_at _ text_bytes _ text_only) d.are d.rest in
    let is = ok_is (Layer a.value b.value c.value d.value r.value, r.mid) (piece, new) r.rest in
    let P : Piece × Cursor → Type 0 = λ p. Takes old (field_bytes p.0) p.1 × ((kind_of p.0 ≡ 1) × (piece_fits limits p.0 ≡ true)) in
    subst P is (
      Takes-append old a.mid r.mid _ _ a.takes (Takes-append a.mid b.mid r.mid _ _ b.takes (Takes-append b.mid c.mid r.mid _ _ c.takes (Takes-append c.mid d.mid r.mid _ _ d.takes r.takes))),
      (refl, and_from _ _ a.fits (and_from _ _ b.fits (and_from _ _ c.fits (and_from _ _ d.fits r.fits)))),
    )

-- ---- points

-- a coordinate has no second spelling
coordinate_only : ReadsOnly coordinate_at i32_bytes (λ z. is_coordinate z ≡ true)
unfolding coordinate_at
coordinate_only = field_only i32_at is_coordinate i32_bytes _ i32_only

-- an extension that is stated has no second spelling
stated_only : (old new : Cursor) (ext : Option ℤ) → AreBytes old.bytes → stated_at old ≡ Ok (ext, new)
    → (z : ℤ) × (ext ≡ Some z) × Takes old (i32_bytes z) new × (is_from_to (pos 0) z ≡ true)
unfolding stated_at
stated_only old new ext are e =
    let a = step_only (field_at i32_at (is_from_to (pos 0))) _ i32_bytes (λ z. is_from_to (pos 0) z ≡ true) old new ext (field_only i32_at _ i32_bytes _ i32_only) are e in
    let is = ok_is (Some a.value, a.mid) (ext, new) a.rest in
    let P : Option ℤ × Cursor → Type 0 = λ p. (p.0 ≡ Some a.value) × Takes old (i32_bytes a.value) p.1 in
    let t = subst P is (refl, a.takes) in
    (a.value, t.0, t.1, a.fits)

-- a number up to 1 is one of two
zero_or_one : (n : ℕ) → is_between 0 1 n ≡ true → (n ≡ 0) ⊎ (n ≡ 1)
zero_or_one zero h = inl refl
zero_or_one (suc zero) h = inr refl
zero_or_one (suc (suc n)) h = absurd (let p = between_below 0 1 (suc (suc n)) h in omega arith)

-- a flag and an extension have no second spelling
ext_only : ReadsOnly ext_at ext_bytes (λ ext. is_ext ext ≡ true)
unfolding ext_at
ext_only old new ext are e =
    let a = step_only (field_at u8_at (is_between 0 1)) _ u8_bytes (λ n. is_between 0 1 n ≡ true) old new ext (field_only u8_at _ u8_bytes _ u8_only) are e in
    elim (zero_or_one a.value a.fits) [
      | inl none ↦
          let is = ok_is (None, a.mid) (ext, new) (rw none at a.rest) in
          let P : Option ℤ × Cursor → Type 0 = λ p. Takes old (ext_bytes p.0) p.1 × (is_ext p.0 ≡ true) in
          subst P is (rw none at a.takes, refl)
      | inr one ↦
          let s = stated_only a.mid new ext a.are (rw one at a.rest) in
          rw (s.1) (Takes-append old a.mid new (u8_bytes 1) (i32_bytes s.0) (rw one at a.takes) s.2, s.3)
    ]

-- a point has no second spelling
pub point_only : (limits : Limits) → ReadsOnly point_at field_bytes (λ piece. (kind_of piece ≡ 2) × (piece_fits limits piece ≡ true))
unfolding point_at field_bytes piece_fits
point_only limits old new piece are e =
    let a = step_only coordinate_at _ i32_bytes (λ z. is_coordinate z ≡ true) old new piece coordinate_only are e in
    let b = step_only coordinate_at _ i32_bytes (λ z. is_coordinate z ≡ true) a.mid new piece coordinate_only a.are a.rest in
    let c = step_only ext_at _ ext_bytes (λ ext. is_ext ext ≡ true) b.mid new piece ext_only b.are b.rest in
    let is = ok_is (Point a.value b.value c.value, c.mid) (piece, new) c.rest in
    let P : Piece × Cursor → Type 0 = λ p. Takes old (field_bytes p.0) p.1 × ((kind_of p.0 ≡ 2) × (piece_fits limits p.0 ≡ true)) in
    subst P is (
      Takes-append old a.mid c.mid _ _ a.takes (Takes-append a.mid b.mid c.mid _ _ b.takes c.takes),
      (refl, and_from _ _ a.fits (and_from _ _ b.fits c.fits)),
    )

-- ---- vias

-- each byte up to 8 is that of its orientation
orient_spelled : (byte : ℕ) → is_between 0 8 byte ≡ true → orient_byte (orient_of byte) ≡ byte
orient_spelled zero h = refl
orient_spelled (suc zero) h = refl
orient_spelled (suc (suc zero)) h = refl
orient_spelled (suc (suc (suc zero))) h = refl
orient_spelled (suc (suc (suc (suc zero)))) h = refl
orient_spelled (suc (suc (suc (suc (suc zero))))) h = refl
orient_spelled (suc (suc (suc (suc (suc (suc zero)))))) h = refl
orient_spelled (suc (suc (suc (suc (suc (suc (suc zero))))))) h = refl
orient_spelled (suc (suc (suc (suc (suc (suc (suc (suc zero)))))))) h = refl
orient_spelled (suc (suc (suc (suc (suc (suc (suc (suc (suc n))))))))) h = absurd (let p = between_below 0 8 (suc (suc (suc (suc (suc (suc (suc (suc (suc n))))))))) h in omega arith)

-- a flag is that of the via's sort
flag_spelled : (n : ℕ) → is_between 0 1 n ≡ true → flag_of (n == 1) ≡ n
flag_spelled zero h = refl
flag_spelled (suc zero) h = refl
flag_spelled (suc (suc n)) h = absurd (let p = between_below 0 1 (suc (suc n)) h in omega arith)

-- a via has no second spelling
pub via_only : (limits : Limits) → ReadsOnly (via_at limits) field_bytes (λ piece. (kind_of piece ≡ 3) × (piece_fits limits piece ≡ true))
unfolding via_at field_bytes piece_fits
via_only limits old new piece are e =
    let a = step_only (field_at u8_at (is_between 0 1)) _ u8_bytes (λ n. is_between 0 1 n ≡ true) old new piece (field_only u8_at _ u8_bytes _ u8_only) are e in
    let most = vias_of limits (a.value == 1) in
    let b = step_only (field_at u32_at (is_between 1 most)) _ u32_bytes (λ n. is_between 1 most n ≡ true) a.mid new piece (field_only u32_at _ u32_bytes _ u32_only) a.are a.rest in
    let c = step_only (field_at u8_at (is_between 0 8)) _ u8_bytes (λ n. is_between 0 8 n ≡ true) b.mid new piece (field_only u8_at _ u8_bytes _ u8_only) b.are b.rest in
    let is = ok_is (Via (a.value == 1) b.value (orient_of c.value), c.mid) (piece, new) c.rest in
    let P : Piece × Cursor → Type 0 = λ p. Takes old (field_bytes p.0) p.1 × ((kind_of p.0 ≡ 3) × (piece_fits limits p.0 ≡ true)) in
    let first : Takes old (u8_bytes (flag_of (a.value == 1))) a.mid = rw (flag_spelled a.value a.fits) a.takes in
    let last : Takes b.mid (u8_bytes (orient_byte (orient_of c.value))) c.mid = rw (orient_spelled c.value c.fits) c.takes in
    subst P is (
      Takes-append old a.mid c.mid _ _ first (Takes-append a.mid b.mid c.mid _ _ b.takes last),
      (refl, b.fits),
    )

-- ---- rectangles

-- a rectangle has no second spelling
pub rect_only : (limits : Limits) → ReadsOnly rect_at field_bytes (λ piece. (kind_of piece ≡ 4) × (piece_fits limits piece ≡ true))
unfolding rect_at field_bytes piece_fits
rect_only limits old new piece are e =
    let a = step_only coordinate_at _ i32_bytes (λ z. is_coordinate z ≡ true) old new piece coordinate_only are e in
    let b = step_only coordinate_at _ i32_bytes (λ z. is_coordinate z ≡ true) a.mid new piece coordinate_only a.are a.rest in
    let c = step_only coordinate_at _ i32_bytes (λ z. is_coordinate z ≡ true) b.mid new piece coordinate_only b.are b.rest in
    let d = step_only coordinate_at _ i32_bytes (λ z. is_coordinate z ≡ true) c.mid new piece coordinate_only c.are c.rest in
    let is = ok_is (Rect a.value b.value c.value d.value, d.mid) (piece, new) d.rest in
    let P : Piece × Cursor → Type 0 = λ p. Takes old (field_bytes p.0) p.1 × ((kind_of p.0 ≡ 4) × (piece_fits limits p.0 ≡ true)) in
    subst P is (
      Takes-append old a.mid d.mid _ _ a.takes (Takes-append a.mid b.mid d.mid _ _ b.takes (Takes-append b.mid c.mid d.mid _ _ c.takes d.takes)),
      (refl, and_from _ _ a.fits (and_from _ _ b.fits (and_from _ _ c.fits d.fits))),
    )

-- ---- all of them

kind_from : (due : Due) (kind : ℕ) → is_between (kinds due).0 (kinds due).1 kind ≡ true → (kind ≡ 1) ⊎ ((kind ≡ 2) ⊎ ((kind ≡ 3) ⊎ (kind ≡ 4)))
kind_from due.Layer kind h = inl (let p = between_below 1 1 kind h in omega arith)
kind_from due.Point kind h = inr (inl (let p = between_below 2 2 kind h in omega arith))
kind_from due.Any zero h = absurd (let p = between_below 1 4 zero h in omega arith)
kind_from due.Any (suc zero) h = inl refl
kind_from due.Any (suc (suc zero)) h = inr (inl refl)
kind_from due.Any (suc (suc (suc zero))) h = inr (inr (inl refl))
kind_from due.Any (suc (suc (suc (suc zero)))) h = inr (inr (inr refl))
kind_from due.Any (suc (suc (suc (suc (suc n))))) h = absurd (let p = between_below 1 4 (suc (suc (suc (suc (suc n))))) h in omega arith)

-- the fields behind a kind
fields_only : (limits : Limits) (due : Due) (kind : ℕ) → is_between (kinds due).0 (kinds due).1 kind ≡ true → (old new : Cursor) (piece : Piece) → AreBytes old.bytes → fields_at limits kind old ≡ Ok (piece, new)
    → Takes old (field_bytes piece) new × ((kind_of piece ≡ kind) × (piece_fits limits piece ≡ true))
fields_only limits due kind h old new piece are e =
    elim (kind_from due kind h) [
      | inl k ↦ rw k (layer_only limits old new piece are (rw k at e))
      | inr (inl k) ↦ rw k (point_only limits old new piece are (rw k at e))
      | inr (inr (inl k)) ↦ rw k (via_only limits old new piece are (rw k at e))
      | inr (inr (inr k)) ↦ rw k (rect_only limits old new piece are (rw k at e))
    ]

-- an element has no second spelling
pub item_only : (limits : Limits) (due : Due) → ReadsOnly (item_at limits due) piece_bytes (FitsAt limits due)
unfolding item_at
item_only limits due old new piece are e =
    let may = is_between (kinds due).0 (kinds due).1 in
    let a = step_only (field_at u8_at may) _ u8_bytes (λ n. may n ≡ true) old new piece (field_only u8_at _ u8_bytes _ u8_only) are e in
    let f = fields_only limits due a.value a.fits a.mid new piece a.are a.rest in
    let first : Takes old (u8_bytes (kind_of piece)) a.mid = rw (f.1.0) a.takes in
    (Takes-append old a.mid new _ _ first f.0, record { stands = rw (f.1.0) a.fits; fits = f.1.1 })
