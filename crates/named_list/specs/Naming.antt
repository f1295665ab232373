-- Lists of things that have names, by identifier and by name. The identifier of a thing is its place from 1.
use Rattle.std.specs.Prelude.{◌≡◌, ◌==◌, ◌+◌, ◌-◌, List, ℕ, Option, Some, None, if◌then◌else◌, position, slice_get}
use Rattle.std.specs.Option.{option_map}
use Rattle.std.specs.Str.{bytes_eq}

-- the thing of an identifier
abbrev pub at_id : {A : Type 0} → List A → ℕ → Option A
at_id things id = if id == 0 then None else slice_get things (id - 1)

module _ {A : Type 0} (name_of : A → List ℕ) where
  -- the place, from 0, of the first thing of this name
  abbrev pub place_named : List A → List ℕ → Option ℕ
  place_named things name = position (λ thing. bytes_eq name (name_of thing)) things

  -- the identifier of the first thing of this name
  abbrev pub id_named : List A → List ℕ → Option ℕ
  id_named things name = option_map (λ place. place + 1) (place_named things name)

  -- no two places have things of one name
  abbrev pub AreNamesDistinct : List A → Type 0
  AreNamesDistinct things = (i j : ℕ) (a b : A)
      → slice_get things i ≡ Some a → slice_get things j ≡ Some b → name_of a ≡ name_of b → i ≡ j
