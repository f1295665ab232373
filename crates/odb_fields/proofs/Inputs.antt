-- Inputs, the bytes at their places, and readings one after another.
use Rattle.std.proofs.Common.{◌≡◌, ℕ, ◌+◌, ◌≤◌, Bool, true, false, cond, ltb, List, ◌++◌, length, take, drop, Result, Ok, Err, refl, sym, ap, subst, ◌∙◌, append_assoc, arith, inl, inr}
use Rattle.std.proofs.lemmas.Bool.{cases_lt, ltb-false, le-ltb}
use Rattle.std.proofs.lemmas.List.{take_at, drop_at, drop-drop, take-append-drop, length-append, length-take, get_or-drop, get_or-take, get_or_past}
use Rattle.odb_fields.specs.declared.get.Cut.{Cut}
use Rattle.odb_fields.specs.Bytes.{AreBytes}
use Rattle.odb_fields.specs.Reading.{Cursor, ReadsBack, Takes, bytes_at, cut_of, past, unread, with_fault, ◌>>=◌}

-- ---- bytes

-- the bytes after the first n are bytes
pub AreBytes-drop : (n : ℕ) (bytes : List ℕ) → AreBytes bytes → AreBytes (drop n bytes)
AreBytes-drop n bytes h i = rw get_or-drop (h (n + i))

-- the first n bytes are bytes
pub AreBytes-take : (n : ℕ) (bytes : List ℕ) → AreBytes bytes → AreBytes (take n bytes)
AreBytes-take n bytes h i =
    elim (cases_lt i n) [
      | inl lt ↦ rw (get_or-take n bytes i 0 lt) (h i)
      | inr le ↦ rw (get_or_past (take n bytes) i 0 (omega (arith, length-take n bytes))) (omega arith)
    ]

-- ---- steps that may fail

-- the value of a step that did not fail
pub bind_ok : {A B E : Type 0} (r : Result A E) (next : A → Result B E) (y : B) → (r >>= next) ≡ Ok y → (x : A) × (r ≡ Ok x) × (next x ≡ Ok y)
bind_ok (Ok x) next y e = (x, refl, e)
bind_ok (Err d) next y e = absurd cc

-- a test that did not fail
pub guard_ok : {A E : Type 0} (b : Bool) (d : E) (x y : A) → cond b (Err d) (Ok x) ≡ Ok y → (b ≡ false) × (x ≡ y)
guard_ok true d x y e = absurd cc
guard_ok false d x y e = (refl, cc)

-- the value of an answer
pub ok_is : {A E : Type 0} (x y : A) → ◌≡◌ {A = Result A E} (Ok x) (Ok y) → x ≡ y
ok_is x y e = cc

-- ---- places

-- the place behind some bytes and then others
pub past-append : (input : Cursor) (x y : List ℕ) → past (length (x ++ y)) input ≡ past (length y) (past (length x) input)
past-append input x y = ap (λ (n : ℕ). record { bytes = input.bytes; place = n }) (omega (arith, length-append x y))

-- behind the bytes that stand at the place comes what follows them
pub unread-past : (input : Cursor) (bytes rest : List ℕ) → unread input ≡ bytes ++ rest → unread (past (length bytes) input) ≡ rest
unread-past input bytes rest e =
    sym (drop-drop (length bytes) input.place input.bytes) ∙ ap (drop (length bytes)) e ∙ drop_at bytes rest (length bytes) refl

-- an input keeps its bytes
pub AreBytes-taken : (old new : Cursor) (bytes : List ℕ) → Takes old bytes new → AreBytes old.bytes → AreBytes new.bytes
AreBytes-taken old new bytes taken are = rw taken.moved are

-- some bytes were taken and then others
pub Takes-append : (a b c : Cursor) (x y : List ℕ) → Takes a x b → Takes b y c → Takes a (x ++ y) c
Takes-append a b c x y first second = record {
  parts = first.parts ∙ ap (λ (t : List ℕ). x ++ t) second.parts ∙ sym (append_assoc x y (unread c));
  moved = second.moved ∙ ap (past (length y)) first.moved ∙ sym (past-append a x y);
}

-- ---- n bytes

-- n bytes that were read were taken, and are the first of those that were unread
pub bytes_only : (n : ℕ) (old new : Cursor) (bytes : List ℕ) → bytes_at n old ≡ Ok (bytes, new) → Takes old bytes new × (length bytes ≡ n) × (bytes ≡ take n (unread old))
bytes_only n old new bytes e =
    let g = guard_ok (ltb (length (unread old)) n) (cut_of old) (take n (unread old), past n old) (bytes, new) e in
    let long : n ≤ length (unread old) = ltb-false _ _ g.0 in
    let bytes-is : take n (unread old) ≡ bytes = ap (λ (p : List ℕ × Cursor). p.0) g.1 in
    let new-is : past n old ≡ new = ap (λ (p : List ℕ × Cursor). p.1) g.1 in
    let len : length bytes ≡ n = rw (← bytes-is) (omega (arith, length-take n (unread old))) in
    let parts : unread old ≡ take n (unread old) ++ unread (past n old) =
    sym (take-append-drop n (unread old)) ∙ ap (λ (t : List ℕ). take n (unread old) ++ t) (drop-drop n old.place old.bytes) in
    (record { parts = rw (← bytes-is, ← new-is) parts; moved = rw len (sym new-is) }, len, sym bytes-is)

-- bytes that stand at the place are read back
pub bytes_back : (bytes : List ℕ) → ReadsBack (bytes_at (length bytes)) bytes bytes
bytes_back bytes input rest e =
    let long : ltb (length (unread input)) (length bytes) ≡ false = le-ltb _ _ (rw e (omega (arith, length-append bytes rest))) in
    let front : take (length bytes) (unread input) ≡ bytes = ap (take (length bytes)) e ∙ take_at bytes rest (length bytes) refl in
    (rw (long, front) refl, unread-past input bytes rest e)

-- ---- fields read back one after another

-- a field and then another, which may depend on the value of the first
pub then_back : {A B E : Type 0} (read : Cursor → Result (A × Cursor) E) (next : A → Cursor → Result (B × Cursor) E) (x y : List ℕ) (v : A) (w : B)
    → ReadsBack read x v → ReadsBack (next v) y w → ReadsBack (λ input. read input >>= λ p. next p.0 p.1) (x ++ y) w
then_back {B} {E} read next x y v w first second input rest e =
    let a = first input (y ++ rest) (e ∙ append_assoc x y rest) in
    let b = second (past (length x) input) rest a.1 in
    let P : Cursor → Type 0 = λ after. ((read input >>= λ p. next p.0 p.1) ≡ Ok (w, after)) × (unread after ≡ rest) in
    subst P (sym (past-append input x y)) (rw a.0 b.0, b.1)

-- what is made of a field's value
pub made_back : {A B E : Type 0} (read : Cursor → Result (A × Cursor) E) (make : A → B) (x : List ℕ) (v : A)
    → ReadsBack read x v → ReadsBack (λ input. read input >>= λ p. Ok (make p.0, p.1)) x (make v)
made_back read make x v back input rest e =
    let a = back input rest e in
    (rw a.0 refl, a.1)

-- the same field, where a format tells the fault in its own words
pub with_fault_back : {A E : Type 0} (told : Cut → E) (read : Cursor → Result (A × Cursor) Cut) (x : List ℕ) (v : A) → ReadsBack read x v → ReadsBack (λ input. with_fault told (read input)) x v
with_fault_back told read x v back input rest e =
    let a = back input rest e in
    (rw a.0 refl, a.1)

-- what was read where the fault would be told in a format's own words
pub with_fault_ok : {A E : Type 0} (told : Cut → E) (r : Result A Cut) (x : A) → with_fault told r ≡ Ok x → r ≡ Ok x
with_fault_ok told (Ok y) x e = cc
with_fault_ok told (Err d) x e = absurd cc
