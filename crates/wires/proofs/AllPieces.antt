-- The elements of a code are read back, and have no second spelling.
use Rattle.std.proofs.Common.{◌≡◌, ◌+◌, ◌-◌, ◌≤◌, ◌<◌, true, false, ℕ, zero, suc, List, [], ◌∷◌, length, drop, eqb, Option, Some, None, Result, Ok, Err, ◌++◌, refl, ap, subst, ◌∙◌, arith, inl, inr, length-append, length-drop}
use Rattle.std.proofs.lemmas.Bool.{cases_Bool, eq-eqb, eqb-true, ne_eqb}
use Rattle.std.proofs.lemmas.List.{drop_all}
use Rattle.odb_fields.specs.Bytes.{AreBytes}
use Rattle.odb_fields.specs.Fields.{u8_bytes}
use Rattle.odb_fields.specs.Reading.{Cursor, Takes, past, unread, ◌>>=◌}
use Rattle.odb_fields.proofs.Inputs.{AreBytes-taken, bind_ok}
use Rattle.odb_fields.proofs.Numbers.{length-u8_bytes}
use Rattle.wires.specs.declared.fault.WireFault.{WireFault}
use Rattle.wires.specs.declared.limits.Limits.{Limits}
use Rattle.wires.specs.declared.elements.Due.{Due}
use Rattle.wires.specs.declared.elements.Due.TheVariants as due
use Rattle.wires.specs.Pieces.{AreNumbers, Piece, code_of, field_bytes, kind_of, piece_bytes}
use Rattle.wires.specs.declared.item.Item.{Item}
use Rattle.wires.specs.Reading.{AreItems, Ends, FitsAt, GivesItem, due_after, end_at, item_at, items_in, items_left, with_piece}
use Rattle.wires.proofs.OnePiece.{item_only}
use Rattle.wires.proofs.PieceBack.{item_back}

-- a place within an input of bytes
pub record IsWithin (input : Cursor) : Type 0 where
  pub are : AreBytes input.bytes
  pub within : input.place ≤ length input.bytes

-- an element has at least a byte
piece_long : (piece : Piece) → 1 ≤ length (piece_bytes piece)
piece_long piece = omega (arith, length-append (u8_bytes (kind_of piece)) (field_bytes piece), length-u8_bytes (kind_of piece))

-- where an element was read
pub record Moved (limits : Limits) (state : Due) (old : Cursor) (piece : Piece) (new : Cursor) : Type 0 where
  pub takes : Takes old (piece_bytes piece) new
  pub fits : FitsAt limits state piece
  pub inside : IsWithin new
  pub bytes : new.bytes ≡ old.bytes
  pub more : old.place < new.place

pub moved : (limits : Limits) (state : Due) (old new : Cursor) (piece : Piece) → IsWithin old → item_at limits state old ≡ Ok (piece, new) → Moved limits state old piece new
moved limits state old new piece inside e =
    let o = item_only limits state old new piece inside.are e in
    let n = length (piece_bytes piece) in
    let place : new.place ≡ old.place + n = ap (λ (c : Cursor). c.place) (o.0.moved) in
    let bytes : new.bytes ≡ old.bytes = ap (λ (c : Cursor). c.bytes) (o.0.moved) in
    let len : length (drop old.place old.bytes) ≡ n + length (drop new.place new.bytes) = ap length (o.0.parts) ∙ length-append (piece_bytes piece) (unread new) in
    let size : length new.bytes ≡ length old.bytes = ap length bytes in
    let some = piece_long piece in
    record {
      takes = o.0;
      fits = o.1;
      inside = record { are = AreBytes-taken old new (piece_bytes piece) o.0 inside.are; within = omega (arith, length-drop old.place old.bytes, length-drop new.place new.bytes, inside.within) };
      bytes = bytes;
      more = omega arith;
    }

-- an element in front of what was read
with_piece_ok : (piece : Piece) (r : Result (List Piece) WireFault) (xs : List Piece) → with_piece piece r ≡ Ok xs → (ys : List Piece) × (r ≡ Ok ys) × (piece ∷ ys ≡ xs)
with_piece_ok piece (Ok ys) xs e = (ys, refl, cc)
with_piece_ok piece (Err f) xs e = absurd cc

-- ---- no second spelling

-- the end of a code
end_only : (limits : Limits) (state : Due) (input : Cursor) (xs : List Piece) → length input.bytes ≤ input.place → end_at state input ≡ Ok xs → (unread input ≡ code_of xs) × AreItems limits state xs
end_only limits due.Layer input xs past e = absurd cc
end_only limits due.Point input xs past e = absurd cc
end_only limits due.Any input xs past e =
    let none : [] ≡ xs = cc in
    let P : List Piece → Type 0 = λ ys. (unread input ≡ code_of ys) × AreItems limits due.Any ys in
    subst P none (drop_all input.place input.bytes past, refl)

pub items_only : (n : ℕ) (limits : Limits) (state : Due) (input : Cursor) (xs : List Piece) → IsWithin input → length input.bytes ≤ n + input.place → items_in limits n state input ≡ Ok xs
    → (unread input ≡ code_of xs) × AreItems limits state xs
unfolding items_in
items_only zero limits state input xs inside enough e = end_only limits state input xs (omega arith) e
items_only (suc n) limits state input xs inside enough e =
    elim (cases_Bool (eqb input.place (length input.bytes))) [
      | inl ended ↦ let at = eqb-true input.place (length input.bytes) ended in end_only limits state input xs (omega arith) (rw ended at e)
      | inr more ↦
          let b = bind_ok (item_at limits state input) _ xs (rw more at e) in
          let piece = b.0.0 in
          let next = b.0.1 in
          let m = moved limits state input next piece inside b.1 in
          let w = with_piece_ok piece (items_in limits n (due_after piece) next) xs b.2 in
          let size : length next.bytes ≡ length input.bytes = ap length m.bytes in
          let far = m.more in
          let rest = items_only n limits (due_after piece) next w.0 m.inside (omega arith) w.1 in
          let P : List Piece → Type 0 = λ ys. (unread input ≡ code_of ys) × AreItems limits state ys in
          subst P w.2 (m.takes.parts ∙ ap (λ (t : List ℕ). piece_bytes piece ++ t) rest.0, (m.fits, rest.1))
    ]

-- ---- read back

pub items_back : (n : ℕ) (limits : Limits) (state : Due) (xs : List Piece) (input : Cursor) → AreNumbers limits → AreItems limits state xs → unread input ≡ code_of xs
    → input.place ≤ length input.bytes → length input.bytes ≤ n + input.place → items_in limits n state input ≡ Ok xs
unfolding items_in
items_back zero limits state [] input small items is within enough = rw items refl
items_back zero limits state (x ∷ xs) input small items is within enough =
    absurd (omega (arith, ap length is, length-append (piece_bytes x) (code_of xs), piece_long x, length-drop input.place input.bytes))
items_back (suc n) limits state [] input small items is within enough =
    let none : length (drop input.place input.bytes) ≡ 0 = ap length is in
    let at : eqb input.place (length input.bytes) ≡ true = eq-eqb input.place (length input.bytes) (omega (arith, length-drop input.place input.bytes)) in
    rw (at, items) refl
items_back (suc n) limits state (x ∷ xs) input small items is within enough =
    let len : length (drop input.place input.bytes) ≡ length (piece_bytes x) + length (code_of xs) = ap length is ∙ length-append (piece_bytes x) (code_of xs) in
    let long = piece_long x in
    let size = length-drop input.place input.bytes in
    let more : eqb input.place (length input.bytes) ≡ false = ne_eqb input.place (length input.bytes) (λ same. omega arith) in
    let back = item_back limits state x small items.0 input (code_of xs) is in
    let next = past (length (piece_bytes x)) input in
    let rest = items_back n limits (due_after x) xs next small items.1 back.1 (omega arith) (omega arith) in
    rw (more, back.0, rest) refl

-- ---- as many steps as there are bytes are enough

same_items : (n m : ℕ) (limits : Limits) (state : Due) (input : Cursor) → IsWithin input → length input.bytes ≤ n + input.place → length input.bytes ≤ m + input.place
    → items_in limits n state input ≡ items_in limits m state input
unfolding items_in
same_items zero zero limits state input inside p q = refl
same_items zero (suc m) limits state input inside p q =
    let within = inside.within in
    let at : eqb input.place (length input.bytes) ≡ true = eq-eqb input.place (length input.bytes) (omega arith) in rw at refl
same_items (suc n) zero limits state input inside p q =
    let within = inside.within in
    let at : eqb input.place (length input.bytes) ≡ true = eq-eqb input.place (length input.bytes) (omega arith) in rw at refl
same_items (suc n) (suc m) limits state input inside p q =
    elim (cases_Bool (eqb input.place (length input.bytes))) [
      | inl ended ↦ rw ended refl
      | inr more ↦
          let go : (r : Result (Piece × Cursor) WireFault) → item_at limits state input ≡ r
          → (r >>= λ p. with_piece p.0 (items_in limits n (due_after p.0) p.1)) ≡ (r >>= λ p. with_piece p.0 (items_in limits m (due_after p.0) p.1))
          = λ r. elim r as (λ r. item_at limits state input ≡ r
          → (r >>= λ p. with_piece p.0 (items_in limits n (due_after p.0) p.1)) ≡ (r >>= λ p. with_piece p.0 (items_in limits m (due_after p.0) p.1))) [
            | Ok x ↦ λ e.
                let moves = moved limits state input x.1 x.0 inside e in
                let far = moves.more in
                let size : length x.1.bytes ≡ length input.bytes = ap length moves.bytes in
                ap (with_piece x.0) (same_items n m limits (due_after x.0) x.1 moves.inside (omega arith) (omega arith))
            | Err f ↦ λ e. refl
          ] in
          rw more (go (item_at limits state input) refl)
    ]

-- ---- one element, and those behind it

ended_in : (n : ℕ) (limits : Limits) (state : Due) (input : Cursor) → input.place ≡ length input.bytes → items_in limits n state input ≡ end_at state input
unfolding items_in
ended_in zero limits state input e = refl
ended_in (suc n) limits state input e = let at : eqb input.place (length input.bytes) ≡ true = eq-eqb input.place (length input.bytes) e in rw at refl

-- at the end of a code none are left
pub left_at_end : (limits : Limits) (state : Due) (input : Cursor) (r : Result (Option Item) WireFault) → input.place ≡ length input.bytes → Ends state input r → GivesItem limits state input r state input
unfolding items_left
left_at_end limits state input (Ok (Some item)) e ends = absurd ends
left_at_end limits state input (Ok None) e ends = ended_in (length input.bytes - input.place) limits state input e ∙ ends
left_at_end limits state input (Err f) e ends = ended_in (length input.bytes - input.place) limits state input e ∙ ends

-- before the end: what is there, and those behind it
left_before_end : (limits : Limits) (state : Due) (input : Cursor) → IsWithin input → (input.place ≡ length input.bytes → ⊥)
    → items_left limits state input ≡ (item_at limits state input >>= λ p. with_piece p.0 (items_in limits (length input.bytes) (due_after p.0) p.1))
unfolding items_in items_left
left_before_end limits state input inside more =
    let not_at : eqb input.place (length input.bytes) ≡ false = ne_eqb input.place (length input.bytes) more in
    let within = inside.within in
    same_items (length input.bytes - input.place) (suc (length input.bytes)) limits state input inside (omega arith) (omega arith) ∙ rw not_at refl

pub left_item : (limits : Limits) (state : Due) (input next : Cursor) (piece : Piece) → IsWithin input → (input.place ≡ length input.bytes → ⊥) → item_at limits state input ≡ Ok (piece, next)
    → items_left limits state input ≡ with_piece piece (items_left limits (due_after piece) next)
unfolding items_left
left_item limits state input next piece inside more e =
    let m = moved limits state input next piece inside e in
    let size : length next.bytes ≡ length input.bytes = ap length m.bytes in
    let within = m.inside.within in
    left_before_end limits state input inside more
    ∙ rw e (ap (with_piece piece) (same_items (length input.bytes) (length next.bytes - next.place) limits (due_after piece) next m.inside (omega arith) (omega arith)))

pub left_fault : (limits : Limits) (state : Due) (input : Cursor) (f : WireFault) → IsWithin input → (input.place ≡ length input.bytes → ⊥) → item_at limits state input ≡ Err f → items_left limits state input ≡ Err f
left_fault limits state input f inside more e = left_before_end limits state input inside more ∙ rw e refl
