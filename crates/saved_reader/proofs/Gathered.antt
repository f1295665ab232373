-- Reading items one after another, as a loop does.
use Rattle.std.proofs.Common.{◌≡◌, ℕ, suc, ◌-◌, ◌+◌, ◌≤◌, ◌<◌, List, [], ◌∷◌, ◌++◌, Result, Ok, Err, refl, sym, ap, ◌∙◌, append_assoc, append-nil, arith}
use Rattle.odb_fields.specs.Reading.{Cursor, ◌>>=◌}
use Rattle.saved_fields.specs.declared.fault.ReadFault.{ReadFault}
use Rattle.saved_fields.specs.declared.fault.ReadFault.TheVariants as told
use Rattle.saved_fields.specs.Fault as fault
use Rattle.saved_fields.specs.Fault.{Fault}
use Rattle.saved_fields.specs.Reading.{Fails, Reading, many_at, with_first}

-- a fault of a part is that of the whole
pub fails_as : {A B : Type 0} (f : ReadFault) (part : Result A Fault) (whole : Result B Fault) → ((g : Fault) → part ≡ Err g → whole ≡ Err g) → Fails f part → Fails f whole
fails_as told.Memory part whole same h = tt
fails_as told.NotSaved part whole same h = same fault.NotSaved h
fails_as (told.Version got) part whole same h = same (fault.Version got) h
fails_as (told.Cut at) part whole same h = same (fault.Cut at) h
fails_as (told.BadField at) part whole same h = same (fault.BadField at) h
fails_as (told.OverCap kind) part whole same h = same (fault.OverCap kind) h
fails_as (told.Trailing at) part whole same h = same (fault.Trailing at) h

-- what was read before, and what is still read
abbrev pub with_front : {A : Type 0} → List A → Result (List A × Cursor) Fault → Result (List A × Cursor) Fault
with_front front read = read >>= λ p. Ok (front ++ p.0, p.1)

regroup : {A : Type 0} (front : List A) (x : A) (read : Result (List A × Cursor) Fault) → with_front front (with_first x read) ≡ with_front (front ++ x ∷ []) read
regroup {A} front x (Ok p) = ap (λ (xs : List A). Ok (xs, p.1)) (simp append_assoc)
regroup front x (Err f) = refl

module _ {A : Type 0} (each : Reading A) where
  pub goes_on : (front : List A) (count i : ℕ) (input after : Cursor) (x : A) (total : Result (List A × Cursor) Fault) → i < count → each input ≡ Ok (x, after)
      → with_front front (many_at (count - i) each input) ≡ total → with_front (front ++ x ∷ []) (many_at (count - (i + 1)) each after) ≡ total
  unfolding many_at
  goes_on front count i input after x total lt h so_far =
      let k : count - i ≡ suc (count - (i + 1)) = omega arith in
      let one : with_front front (many_at (count - i) each input) ≡ with_front (front ++ x ∷ []) (many_at (count - (i + 1)) each after) = rw (k, h) (regroup front x (many_at (count - (i + 1)) each after)) in
      sym one ∙ so_far

  pub ends : (f : ReadFault) (front : List A) (count i : ℕ) (input : Cursor) (total : Result (List A × Cursor) Fault) → i < count → Fails f (each input)
      → with_front front (many_at (count - i) each input) ≡ total → Fails f total
  unfolding many_at
  ends f front count i input total lt h so_far =
      let k : count - i ≡ suc (count - (i + 1)) = omega arith in
      fails_as f (each input) total (λ g e. let one : with_front front (many_at (count - i) each input) ≡ Err g = rw (k, e) refl in sym so_far ∙ one) h

  pub is_done : (front : List A) (count i : ℕ) (input : Cursor) (total : Result (List A × Cursor) Fault) → count ≤ i → with_front front (many_at (count - i) each input) ≡ total → total ≡ Ok (front, input)
  unfolding many_at
  is_done front count i input total le so_far =
      let k : count - i ≡ 0 = omega arith in
      let one : with_front front (many_at (count - i) each input) ≡ Ok (front, input) = rw k (ap (λ (xs : List A). Ok (xs, input)) (append-nil front)) in
      sym so_far ∙ one
