-- Fields under a rule: they are read back, and have no second spelling.
use Rattle.std.proofs.Common.{◌≡◌, Bool, true, ℕ, List, Result, Ok, Err, ◌++◌, refl, inl, inr}
use Rattle.std.proofs.lemmas.Bool.{cases_Bool}
use Rattle.odb_fields.specs.declared.get.Cut.{Cut}
use Rattle.odb_fields.specs.Bytes.{AreBytes}
use Rattle.odb_fields.specs.Reading.{Cursor, ReadsBack, ReadsOnly, Takes, ◌>>=◌}
use Rattle.odb_fields.proofs.Inputs.{AreBytes-taken, bind_ok, then_back}
use Rattle.wires.specs.Fields.{field_at, judged}
use Rattle.wires.specs.declared.fault.WireFault.{WireFault}

-- a field that was accepted was read, and passes
judged_ok : {A : Type 0} (fits : A → Bool) (input : Cursor) (r : Result (A × Cursor) Cut) (p : A × Cursor) → judged fits input r ≡ Ok p → (r ≡ Ok p) × (fits p.0 ≡ true)
judged_ok fits input (Ok q) p e =
    elim (cases_Bool (fits q.0)) [
      | inl t ↦ let same : q ≡ p = (let h = rw t at e in cc) in (rw same refl, rw (← same) t)
      | inr f ↦ absurd (let h = rw f at e in cc)
    ]
judged_ok fits input (Err cut) p e = absurd cc

-- a field that passes is read back
pub field_back : {A : Type 0} (read : Cursor → Result (A × Cursor) Cut) (fits : A → Bool) (x : List ℕ) (v : A) → fits v ≡ true → ReadsBack read x v → ReadsBack (field_at read fits) x v
unfolding field_at
field_back read fits x v passes back input rest e = let a = back input rest e in (rw (a.0, passes) refl, a.1)

-- a field under a rule has no second spelling
pub field_only : {A : Type 0} (read : Cursor → Result (A × Cursor) Cut) (fits : A → Bool) (x : A → List ℕ) (Fits : A → Type 0)
    → ReadsOnly read x Fits → ReadsOnly (field_at read fits) x (λ v. fits v ≡ true)
unfolding field_at
field_only read fits x Fits only old new v are e =
    let j = judged_ok fits old (read old) (v, new) e in
    let o = only old new v are j.0 in
    (o.0, j.1)

-- the first of some readings, and where it led
pub record Step {A B : Type 0} (next : A × Cursor → Result (B × Cursor) WireFault) (x : A → List ℕ) (Fits : A → Type 0) (old new : Cursor) (w : B) : Type 0 where
  pub value : A
  pub mid : Cursor
  pub takes : Takes old (x value) mid
  pub fits : Fits value
  pub are : AreBytes mid.bytes
  pub rest : next (value, mid) ≡ Ok (w, new)

pub step_only : {A B : Type 0} (read : Cursor → Result (A × Cursor) WireFault) (next : A × Cursor → Result (B × Cursor) WireFault) (x : A → List ℕ) (Fits : A → Type 0) (old new : Cursor) (w : B)
    → ReadsOnly read x Fits → AreBytes old.bytes → (read old >>= next) ≡ Ok (w, new) → Step next x Fits old new w
step_only read next x Fits old new w only are e =
    let b = bind_ok (read old) next (w, new) e in
    let o = only old b.0.1 b.0.0 are b.1 in
    record { value = b.0.0; mid = b.0.1; takes = o.0; fits = o.1; are = AreBytes-taken old b.0.1 (x b.0.0) o.0 are; rest = b.2 }

-- a field and then the others
pub chain_back : {A B : Type 0} (read : Cursor → Result (A × Cursor) WireFault) (next : A × Cursor → Result (B × Cursor) WireFault) (x y : List ℕ) (v : A) (w : B)
    → ReadsBack read x v → ReadsBack (λ input. next (v, input)) y w → ReadsBack (λ input. read input >>= next) (x ++ y) w
chain_back read next x y v w first second = then_back read (λ u input. next (u, input)) x y v w first second
