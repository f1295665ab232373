-- What a list keeps: each thing under the bytes of its name.
use Rattle.std.specs.Prelude.{◌≡◌, ◌<◌, ◌^◌, List, ℕ, Vec, length, map}
use Rattle.std.specs.Map.{values_of}
use Rattle.named_list.specs.Naming.{AreNamesDistinct}

-- what holds of the entries of every list
pub record IsKept {A Z : Type 0} (name_of : A → List ℕ) (entries : List (Vec ℕ Z × A)) : Type 0 where
  -- the key of a thing has the bytes of its name,
  pub keyed : map (λ entry. entry.0.items) entries ≡ map (λ entry. name_of entry.1) entries
  -- no two things have one name,
  pub distinct : AreNamesDistinct name_of (values_of entries)
  -- and there are fewer than 2^32.
  pub few : length entries < 2 ^ 32
