-- Formats: of the values of a type, which may be saved, their bytes, and how they are read. A record is one table of the
-- formats of its fields, from which all three follow.
use Rattle.std.specs.Prelude.{◌≡◌, ◌++◌, Bool, true, List, ℕ}
use Rattle.saved_fields.specs.Bytes.{list_bytes}
use Rattle.saved_fields.specs.Fields.{such}
use Rattle.saved_fields.specs.Lawful.{IsFilledList, IsList}
use Rattle.saved_fields.specs.Parts.{filled_list_at, list_at}
use Rattle.saved_fields.specs.Reading.{Reading, both, judged, made}

-- the format of values: which of them may be saved, their bytes, and how they are read
pub record Format (A : Type 0) : Type 1 where
  pub Has : A → Type 0
  pub bytes : A → List ℕ
  pub at : Reading A

-- one field, and another behind it
infixl 10 ◌&◌
abbrev pub ◌&◌ : {A B : Type 0} → Format A → Format B → Format (A × B)
first & second = record {
  Has = λ p. first.Has p.0 × second.Has p.1;
  bytes = λ p. first.bytes p.0 ++ second.bytes p.1;
  at = both first.at second.at;
}

-- what is made of fields, and goes apart into them
abbrev pub fields : {A B : Type 0} → (A → B) → (B → A) → Format A → Format B
fields whole parts format = record {
  Has = λ y. format.Has (parts y);
  bytes = λ y. format.bytes (parts y);
  at = made whole format.at;
}

-- of a format, the values that pass
abbrev pub passing : {A : Type 0} → (A → Bool) → Format A → Format A
passing passes format = record {
  Has = λ x. (passes x ≡ true) × format.Has x;
  bytes = format.bytes;
  at = judged (such passes) format.at;
}

-- a list of at most so many items
abbrev pub list : {A : Type 0} → ℕ → Format A → Format (List A)
list most each = record { Has = IsList most each.Has; bytes = list_bytes each.bytes; at = list_at most each.at }

-- a list of at least one item, and of at most so many
abbrev pub filled_list : {A : Type 0} → ℕ → Format A → Format (List A)
filled_list most each = record { Has = IsFilledList most each.Has; bytes = list_bytes each.bytes; at = filled_list_at most each.at }
