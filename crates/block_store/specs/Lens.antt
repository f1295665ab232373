-- A field of a record, or a field of a field.
use Rattle.std.specs.Prelude.{◌≡◌}

-- A field that can be read and set. What was set is read; setting what stands changes nothing; of two values that
-- are set the later stands.
pub record Lens (S A : Type 0) : Type 0 where
  pub get : S → A
  pub set : A → S → S
  pub set_get : (v : A) (x : S) → get (set v x) ≡ v
  pub get_set : (x : S) → set (get x) x ≡ x
  pub set_set : (new old : A) (x : S) → set new (set old x) ≡ set new x

-- the record with the field changed
abbrev pub over : {S A : Type 0} → Lens S A → (A → A) → S → S
over part change x = part.set (change (part.get x)) x
