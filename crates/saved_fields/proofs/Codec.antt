-- Codecs: a reading and a spelling, each the way back of the other, and how they are put together.
use Rattle.std.proofs.Common.{◌≡◌, ℕ, List, ◌++◌, Option, Some, None, Result, Ok, refl, sym, ap, subst, ◌∙◌}
use Rattle.odb_fields.specs.declared.get.Cut.{Cut}
use Rattle.odb_fields.specs.Bytes.{AreBytes}
use Rattle.odb_fields.specs.Reading.{Cursor, ReadsBack, ReadsOnly, Takes, ◌>>=◌}
use Rattle.odb_fields.proofs.Inputs.{AreBytes-taken, Takes-append, bind_ok, made_back, ok_is, then_back, with_fault_back, with_fault_ok}
use Rattle.saved_fields.specs.Fault as fault
use Rattle.saved_fields.specs.Reading.{Reading, both, given, judged, made, plain, ◌by◌, ◌then◌}
use Rattle.saved_fields.proofs.FaultPlaces.{StaysIn, by_stays, judged_stays, made_stays, then_stays}

-- Of the values that fit: where its bytes stand, the value is read; and a value that was read has just these bytes. Reading stays
-- within the input.
pub record IsCodec {A : Type 0} (reads : Reading A) (writes : A → List ℕ) (Fits : A → Type 0) : Type 0 where
  pub back : (x : A) → Fits x → ReadsBack reads (writes x) x
  pub only : (old new : Cursor) (x : A) → AreBytes old.bytes → reads old ≡ Ok (x, new) → Fits x → Takes old (writes x) new
  pub stays : StaysIn reads

-- ---- single fields

-- a field of which only the end of the input is at fault
pub plain_codec : {A : Type 0} (read : Cursor → Result (A × Cursor) Cut) (writes : A → List ℕ) (Fits : A → Type 0)
    → ((x : A) → Fits x → ReadsBack read (writes x) x) → ReadsOnly read writes Fits → StaysIn (plain read) → IsCodec (plain read) writes Fits
plain_codec read writes Fits back only stays = record {
  back = λ x fits. with_fault_back (λ cut. fault.Cut cut.at) read (writes x) x (back x fits);
  only = λ old new x are e fits. (only old new x are (with_fault_ok (λ cut. fault.Cut cut.at) (read old) (x, new) e)).0;
  stays = stays;
}

-- a value that was given is the one that there was
pub given_ok : {A : Type 0} (at : ℕ) (o : Option A) (after new : Cursor) (x : A) → given at o after ≡ Ok (x, new) → (o ≡ Some x) × (after ≡ new)
given_ok {A} at (Some y) after new x e =
    let same : (y, after) ≡ (x, new) = ok_is (y, after) (x, new) e in
    (ap (λ (p : A × Cursor). Some p.0) same, ap (λ (p : A × Cursor). p.1) same)
given_ok at None after new x e = absurd cc

-- a field that is judged: `spelling` leads from the meaning back to the field
pub judged_codec : {A B : Type 0} (meaning : A → Option B) (spelling : B → A) (reads : Reading A) (writes : A → List ℕ) (Fields : A → Type 0) (Fits : B → Type 0)
    → ((y : B) → Fits y → meaning (spelling y) ≡ Some y) → ((x : A) (y : B) → meaning x ≡ Some y → x ≡ spelling y) → ((y : B) → Fits y → Fields (spelling y))
    → IsCodec reads writes Fields → IsCodec (judged meaning reads) (λ y. writes (spelling y)) Fits
judged_codec {A} {B} meaning spelling reads writes Fields Fits means spelled fitting codec = record {
  back = λ y fits input rest e.
      let a = codec.back (spelling y) (fitting y fits) input rest e in
      (rw (a.0, means y fits) refl, a.1);
  only = λ old new y are e fits.
      let u = bind_ok (reads old) (λ p. given old.place (meaning p.0) p.1) (y, new) e in
      let g = given_ok old.place (meaning u.0.0) u.0.1 new y u.2 in
      let is : u.0.0 ≡ spelling y = spelled u.0.0 y g.0 in
      let P : A × Cursor → Type 0 = λ p. reads old ≡ Ok p in
      let read : reads old ≡ Ok (spelling y, new) = u.1 ∙ ap (λ (x : A). Ok (x, u.0.1)) is ∙ ap (λ (c : Cursor). Ok (spelling y, c)) g.1 in
      codec.only old new (spelling y) are read (fitting y fits);
  stays = judged_stays meaning reads codec.stays;
}

-- ---- several readings

-- what is made of a value, with the way back to its parts
pub made_codec : {A B : Type 0} (value : A → B) (parts : B → A) (reads : Reading A) (writes : A → List ℕ) (Parts : A → Type 0) (Fits : B → Type 0)
    → ((y : B) → Fits y → value (parts y) ≡ y) → ((x : A) → Fits (value x) → parts (value x) ≡ x) → ((y : B) → Fits y → Parts (parts y))
    → IsCodec reads writes Parts → IsCodec (made value reads) (λ y. writes (parts y)) Fits
made_codec {A} {B} value parts reads writes Parts Fits again apart fitting codec = record {
  back = λ y fits.
      let P : B → Type 0 = λ z. ReadsBack (made value reads) (writes (parts y)) z in
      subst P (again y fits) (made_back reads value (writes (parts y)) (parts y) (codec.back (parts y) (fitting y fits)));
  only = λ old new y are e fits.
      let u = bind_ok (reads old) (λ p. Ok (value p.0, p.1)) (y, new) e in
      let P : B × Cursor → Type 0 = λ t. Fits t.0 → Takes old (writes (parts t.0)) t.1 in
      let Q : A → Type 0 = λ x. reads old ≡ Ok (x, u.0.1) in
      let whole : P (value u.0.0, u.0.1) = λ f.
      codec.only old u.0.1 (parts (value u.0.0)) are (subst Q (sym (apart u.0.0 f)) u.1) (fitting (value u.0.0) f)
      in
      subst P (ok_is (value u.0.0, u.0.1) (y, new) u.2) whole fits;
  stays = made_stays value reads codec.stays;
}

-- a record of fields is as good as the fields
pub record_codec : {A B : Type 0} (value : A → B) (parts : B → A) (reads : Reading A) (writes : A → List ℕ) (Parts : A → Type 0)
    → ((y : B) → value (parts y) ≡ y) → ((x : A) → parts (value x) ≡ x)
    → IsCodec reads writes Parts → IsCodec (made value reads) (λ y. writes (parts y)) (λ y. Parts (parts y))
record_codec value parts reads writes Parts again apart codec =
    made_codec value parts reads writes Parts (λ y. Parts (parts y)) (λ y fits. again y) (λ x fits. apart x) (λ y fits. fits) codec

-- a reading that goes by what the one before it gave
pub then_codec : {A B : Type 0} (first : Reading A) (next : A → Reading B) (wa : A → List ℕ) (wb : B → List ℕ) (Fa : A → Type 0) (Fb : A → B → Type 0)
    → IsCodec first wa Fa → ((x : A) → IsCodec (next x) wb (Fb x)) → IsCodec (first then next) (λ p. wa p.0 ++ wb p.1) (λ p. Fa p.0 × Fb p.0 p.1)
then_codec {A} {B} first next wa wb Fa Fb a b = record {
  back = λ p fits.
      then_back first (λ x i. next x i >>= λ q. Ok ((x, q.0), q.1)) (wa p.0) (wb p.1) p.0 p (a.back p.0 fits.0)
      (made_back (next p.0) (λ y. (p.0, y)) (wb p.1) p.1 ((b p.0).back p.1 fits.1));
  only = λ old new p are e fits.
      let u = bind_ok (first old) (λ u. next u.0 u.1 >>= λ q. Ok ((u.0, q.0), q.1)) (p, new) e in
      let v = bind_ok (next u.0.0 u.0.1) (λ q. Ok ((u.0.0, q.0), q.1)) (p, new) u.2 in
      let P : (A × B) × Cursor → Type 0 = λ t. Fa t.0.0 × Fb t.0.0 t.0.1 → Takes old (wa t.0.0 ++ wb t.0.1) t.1 in
      let whole : P ((u.0.0, v.0.0), v.0.1) = λ f.
      let one = a.only old u.0.1 u.0.0 are u.1 f.0 in
      let two = (b u.0.0).only u.0.1 v.0.1 v.0.0 (AreBytes-taken old u.0.1 (wa u.0.0) one are) v.1 f.1 in
      Takes-append old u.0.1 v.0.1 (wa u.0.0) (wb v.0.0) one two
      in
      subst P (ok_is ((u.0.0, v.0.0), v.0.1) (p, new) v.2) whole fits;
  stays = then_stays first next a.stays (λ x. (b x).stays);
}

-- one reading and another
pub and_codec : {A B : Type 0} (first : Reading A) (second : Reading B) (wa : A → List ℕ) (wb : B → List ℕ) (Fa : A → Type 0) (Fb : B → Type 0)
    → IsCodec first wa Fa → IsCodec second wb Fb → IsCodec (both first second) (λ p. wa p.0 ++ wb p.1) (λ p. Fa p.0 × Fb p.1)
and_codec first second wa wb Fa Fb a b = then_codec first (λ _. second) wa wb Fa (λ _. Fb) a (λ _. b)

-- a reading that goes by what the one before it gave, which the value tells too
pub by_codec : {A B : Type 0} (first : Reading A) (next : A → Reading B) (wa : A → List ℕ) (wb : B → List ℕ) (Fa : A → Type 0) (Fb : B → Type 0) (told : B → A)
    → IsCodec first wa Fa → ((y : B) → Fb y → ReadsBack (next (told y)) (wb y) y)
    → ((x : A) (old new : Cursor) (y : B) → next x old ≡ Ok (y, new) → x ≡ told y)
    → ((x : A) (old new : Cursor) (y : B) → AreBytes old.bytes → next x old ≡ Ok (y, new) → Fb y → Takes old (wb y) new)
    → ((x : A) → StaysIn (next x))
    → IsCodec (first by next) (λ y. wa (told y) ++ wb y) (λ y. Fa (told y) × Fb y)
by_codec {A} {B} first next wa wb Fa Fb told a back tells only stays = record {
  back = λ y fits. then_back first next (wa (told y)) (wb y) (told y) y (a.back (told y) fits.0) (back y fits.1);
  only = λ old new y are e fits.
      let u = bind_ok (first old) (λ u. next u.0 u.1) (y, new) e in
      let is : u.0.0 ≡ told y = tells u.0.0 u.0.1 new y u.2 in
      let Q : A → Type 0 = λ x. first old ≡ Ok (x, u.0.1) in
      let one = a.only old u.0.1 (told y) are (subst Q is u.1) fits.0 in
      let two = only u.0.0 u.0.1 new y (AreBytes-taken old u.0.1 (wa (told y)) one are) u.2 fits.1 in
      Takes-append old u.0.1 new (wa (told y)) (wb y) one two;
  stays = by_stays first next a.stays stays;
}

-- the same bytes in other words
pub same_codec : {A : Type 0} (reads : Reading A) (writes writes' : A → List ℕ) (Fits : A → Type 0) → ((x : A) → Fits x → writes x ≡ writes' x) → IsCodec reads writes Fits → IsCodec reads writes' Fits
same_codec reads writes writes' Fits same codec = record {
  back = λ x fits. let P : List ℕ → Type 0 = λ bytes. ReadsBack reads bytes x in subst P (same x fits) (codec.back x fits);
  only = λ old new x are e fits. let P : List ℕ → Type 0 = λ bytes. Takes old bytes new in subst P (same x fits) (codec.only old new x are e fits);
  stays = codec.stays;
}
