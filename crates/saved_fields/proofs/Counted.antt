-- Codecs of lists, of what may be absent, and of tables.
use Rattle.std.proofs.Common.{◌≡◌, Bool, true, false, leb, ℕ, zero, suc, List, [], ◌∷◌, ◌++◌, length, Option, Some, None, is_some, Ok, refl, sym, ap, subst, ◌∙◌, arith, append-nil}
use Rattle.std.specs.List.{AllByRecursion, flat_map}
use Rattle.std.proofs.lemmas.Bool.{and_parts}
use Rattle.std.proofs.lemmas.Bool.Decides.{nat_tests}
use Rattle.odb_fields.specs.Bytes.{AreBytes}
use Rattle.odb_fields.specs.Fields.{u32_bytes, u8_bytes}
use Rattle.odb_fields.specs.Reading.{Cursor, ReadsBack, Takes, unread, u32_at}
use Rattle.odb_fields.proofs.Inputs.{AreBytes-taken, Takes-append, bind_ok, made_back, ok_is, then_back}
use Rattle.saved_fields.specs.Bytes.{list_bytes, option_bytes}
use Rattle.saved_fields.specs.Fields.{flag_at, is_between, number_at}
use Rattle.saved_fields.specs.Parts.{filled_list_at, list_at, no_list_at, option_at, stated_at}
use Rattle.saved_fields.specs.Reading.{Reading, made, many_at, plain, with_first, ◌by◌}
use Rattle.saved_fields.specs.Lawful.{IsFilledList, IsList, IsNumber, IsOption}
use Rattle.saved_fields.proofs.Codec.{IsCodec, by_codec, same_codec}
use Rattle.saved_fields.proofs.FaultPlaces.{StaysIn, made_stays, many_stays}
use Rattle.saved_fields.proofs.Single.{flag_codec, flag_number, number_codec, such_passes}

-- nothing is taken
Takes-none : (input : Cursor) → Takes input [] input
Takes-none input = record { parts = refl; moved = ap (λ (n : ℕ). record { bytes = input.bytes; place = n }) (omega arith) }

-- as many are read as were asked for
pub many_count : {A : Type 0} (each : Reading A) (n : ℕ) (old new : Cursor) (xs : List A) → many_at n each old ≡ Ok (xs, new) → n ≡ length xs
unfolding many_at
many_count {A} each zero old new xs e = ap length (ap (λ (p : List A × Cursor). p.0) (ok_is ([], old) (xs, new) e))
many_count {A} each (suc n) old new xs e =
    let u = bind_ok (each old) (λ p. with_first p.0 (many_at n each p.1)) (xs, new) e in
    let v = bind_ok (many_at n each u.0.1) (λ p. Ok (u.0.0 ∷ p.0, p.1)) (xs, new) u.2 in
    let is : u.0.0 ∷ v.0.0 ≡ xs = ap (λ (p : List A × Cursor). p.0) (ok_is (u.0.0 ∷ v.0.0, v.0.1) (xs, new) v.2) in
    ap suc (many_count each n u.0.1 v.0.1 v.0.0 v.1) ∙ ap length is

module _ {A : Type 0} (each : Reading A) (writes : A → List ℕ) (Fits : A → Type 0) (codec : IsCodec each writes Fits) where
  pub many_back : (xs : List A) → AllByRecursion Fits xs → ReadsBack (many_at (length xs) each) (flat_map writes xs) xs
  unfolding many_at
  many_back [] fits = λ input rest e. (ap (λ (c : Cursor). Ok ([], c)) (Takes-none input).moved, ap unread (sym (Takes-none input).moved) ∙ e)
  many_back (x ∷ xs) fits =
      then_back each (λ y i. with_first y (many_at (length xs) each i)) (writes x) (flat_map writes xs) x (x ∷ xs) (codec.back x fits.0)
      (made_back (many_at (length xs) each) (λ ys. x ∷ ys) (flat_map writes xs) xs (many_back xs fits.1))

  pub many_only : (n : ℕ) (old new : Cursor) (xs : List A) → AreBytes old.bytes → many_at n each old ≡ Ok (xs, new) → AllByRecursion Fits xs → Takes old (flat_map writes xs) new
  unfolding many_at
  many_only zero old new xs are e fits =
      let P : List A × Cursor → Type 0 = λ t. Takes old (flat_map writes t.0) t.1 in
      subst P (ok_is ([], old) (xs, new) e) (Takes-none old)
  many_only (suc n) old new xs are e fits =
      let u = bind_ok (each old) (λ p. with_first p.0 (many_at n each p.1)) (xs, new) e in
      let v = bind_ok (many_at n each u.0.1) (λ p. Ok (u.0.0 ∷ p.0, p.1)) (xs, new) u.2 in
      let P : List A × Cursor → Type 0 = λ t. AllByRecursion Fits t.0 → Takes old (flat_map writes t.0) t.1 in
      let whole : P (u.0.0 ∷ v.0.0, v.0.1) = λ f.
      let one = codec.only old u.0.1 u.0.0 are u.1 f.0 in
      let others = many_only n u.0.1 v.0.1 v.0.0 (AreBytes-taken old u.0.1 (writes u.0.0) one are) v.1 f.1 in
      Takes-append old u.0.1 v.0.1 (writes u.0.0) (flat_map writes v.0.0) one others
      in
      subst P (ok_is (u.0.0 ∷ v.0.0, v.0.1) (xs, new) v.2) whole fits

  -- a count, read by any reading, and so many items
  pub counted_codec : (count : Reading ℕ) (IsCount : ℕ → Type 0) → IsCodec count u32_bytes IsCount
      → IsCodec (count by λ n. many_at n each) (list_bytes writes) (λ xs. IsCount (length xs) × AllByRecursion Fits xs)
  unfolding list_bytes
  counted_codec count IsCount counts =
      by_codec count (λ n. many_at n each) u32_bytes (flat_map writes) IsCount (AllByRecursion Fits) length counts many_back (many_count each) many_only (many_stays each codec.stays)

-- the bytes behind the flag
abbrev pub stated_bytes : {A : Type 0} → (A → List ℕ) → Option A → List ℕ
stated_bytes writes None = []
stated_bytes writes (Some x) = writes x

module _ {A : Type 0} (each : Reading A) (writes : A → List ℕ) (Fits : A → Type 0) (codec : IsCodec each writes Fits) where
  pub list_codec : (most : ℕ) → IsCodec (list_at most each) (list_bytes writes) (IsList most Fits)
  unfolding list_at
  list_codec most = counted_codec each writes Fits codec (number_at 0 most) (IsNumber 0 most) (number_codec 0 most)

  pub filled_list_codec : (most : ℕ) → IsCodec (filled_list_at most each) (list_bytes writes) (IsFilledList most Fits)
  unfolding filled_list_at
  filled_list_codec most = counted_codec each writes Fits codec (number_at 1 most) (IsNumber 1 most) (number_codec 1 most)

  stated_back : (o : Option A) → IsOption Fits o → ReadsBack (stated_at each (is_some o)) (stated_bytes writes o) o
  stated_back None fits = λ input rest e. (ap (λ (c : Cursor). Ok (None, c)) (Takes-none input).moved, ap unread (sym (Takes-none input).moved) ∙ e)
  stated_back (Some x) fits = made_back each Some (writes x) x (codec.back x fits)

  stated_told : (b : Bool) (old new : Cursor) (o : Option A) → stated_at each b old ≡ Ok (o, new) → b ≡ is_some o
  stated_told false old new o e = ap is_some (ap (λ (p : Option A × Cursor). p.0) (ok_is (None, old) (o, new) e))
  stated_told true old new o e =
      let u = bind_ok (each old) (λ p. Ok (Some p.0, p.1)) (o, new) e in
      ap is_some (ap (λ (p : Option A × Cursor). p.0) (ok_is (Some u.0.0, u.0.1) (o, new) u.2))

  stated_only : (b : Bool) (old new : Cursor) (o : Option A) → AreBytes old.bytes → stated_at each b old ≡ Ok (o, new) → IsOption Fits o → Takes old (stated_bytes writes o) new
  stated_only false old new o are e fits =
      let P : Option A × Cursor → Type 0 = λ t. Takes old (stated_bytes writes t.0) t.1 in
      subst P (ok_is (None, old) (o, new) e) (Takes-none old)
  stated_only true old new o are e fits =
      let u = bind_ok (each old) (λ p. Ok (Some p.0, p.1)) (o, new) e in
      let P : Option A × Cursor → Type 0 = λ t. IsOption Fits t.0 → Takes old (stated_bytes writes t.0) t.1 in
      let whole : P (Some u.0.0, u.0.1) = λ f. codec.only old u.0.1 u.0.0 are u.1 f in
      subst P (ok_is (Some u.0.0, u.0.1) (o, new) u.2) whole fits

  stated_stays : (b : Bool) → StaysIn (stated_at each b)
  stated_stays false n old is = is
  stated_stays true n old is = made_stays Some each codec.stays n old is

  option_is : (o : Option A) → u8_bytes (flag_number (is_some o)) ++ stated_bytes writes o ≡ option_bytes writes o
  unfolding option_bytes u8_bytes
  option_is None = refl
  option_is (Some x) = refl

  pub option_codec : IsCodec (option_at each) (option_bytes writes) (λ o. Unit {0} × IsOption Fits o)
  unfolding option_at
  option_codec = same_codec (option_at each) (λ o. u8_bytes (flag_number (is_some o)) ++ stated_bytes writes o) (option_bytes writes) (λ o. Unit {0} × IsOption Fits o) (λ o fits. option_is o) (by_codec flag_at (stated_at each) (λ b. u8_bytes (flag_number b)) (stated_bytes writes) (λ b. Unit {0}) (IsOption Fits) is_some flag_codec stated_back stated_told stated_only stated_stays)

-- no items, whatever the number
abbrev none_of : {A : Type 0} → ℕ → List A
none_of n = []

-- nothing, where a count says so
nothing_codec : {A : Type 0} (count : Reading ℕ) (IsCount : ℕ → Type 0) (writes : A → List ℕ) → IsCodec count u32_bytes IsCount → IsCount 0
    → ((old new : Cursor) (n : ℕ) → count old ≡ Ok (n, new) → n ≡ 0)
    → IsCodec (made (λ n. []) count) (λ xs. u32_bytes (length xs) ++ flat_map writes xs) (λ xs. xs ≡ [])
nothing_codec {A} count IsCount writes counts zeros none = record {
  back = λ xs fits.
      let P : List ℕ → Type 0 = λ bytes. ReadsBack (made (none_of {A = A}) count) bytes [] in
      let Q : List A → Type 0 = λ ys. ReadsBack (made (none_of {A = A}) count) (u32_bytes (length ys) ++ flat_map writes ys) ys in
      let empty : Q [] = subst P (sym (append-nil (u32_bytes 0))) (made_back count (none_of {A = A}) (u32_bytes 0) 0 (counts.back 0 zeros)) in
      subst Q (sym fits) empty;
  only = λ old new xs are e fits.
      let u = bind_ok (count old) (λ p. Ok (none_of {A = A} p.0, p.1)) (xs, new) e in
      let zero_is : u.0.0 ≡ 0 = none old u.0.1 u.0.0 u.1 in
      let Q : ℕ → Type 0 = λ n. count old ≡ Ok (n, u.0.1) in
      let taken : Takes old (u32_bytes 0) u.0.1 = counts.only old u.0.1 0 are (subst Q zero_is u.1) zeros in
      let R : List ℕ → Type 0 = λ bytes. Takes old bytes u.0.1 in
      let P : List A × Cursor → Type 0 = λ t. Takes old (u32_bytes (length t.0) ++ flat_map writes t.0) t.1 in
      let whole : P ([], u.0.1) = subst R (sym (append-nil (u32_bytes 0))) taken in
      subst P (ok_is ([], u.0.1) (xs, new) u.2) whole;
  stays = made_stays none_of count counts.stays;
}

below_none : (n : ℕ) → is_between 0 0 n ≡ true → n ≡ 0
below_none n h = let p = and_parts (leb 0 n) (leb n 0) h in grind (arith, nat_tests, p.1)

-- a list that has no items yet
pub no_list_codec : {A : Type 0} (writes : A → List ℕ) → IsCodec no_list_at (list_bytes writes) (λ xs. xs ≡ [])
unfolding no_list_at number_at list_bytes
no_list_codec writes =
    nothing_codec (number_at 0 0) (IsNumber 0 0) writes (number_codec 0 0) (refl, omega arith)
    (λ old new n e. below_none n (such_passes (is_between 0 0) (plain u32_at) old new n e))
