-- The pins of a macro and their names.
use Rattle.std.specs.Prelude.{◌≡◌, Bool, List, ℕ, Vec, map}
use Rattle.std.specs.List.{list_any}
use Rattle.std.specs.Str.{bytes_eq}
use Rattle.lef_tree.specs.declared.tree.LefPin.{LefPin}

-- a pin has the name
abbrev pub has_pin : List ℕ → List LefPin → Bool
has_pin name pins = list_any (λ pin. bytes_eq name pin.name) pins

module _ {Z : Type 0} where
  -- the names that keys are
  abbrev pub names_of : List (Vec ℕ Z) → List (List ℕ)
  names_of keys = map (λ key. key.items) keys

  -- a key is the name
  abbrev pub has_key : List ℕ → List (Vec ℕ Z) → Bool
  has_key name keys = list_any (λ key. bytes_eq name key.items) keys

  -- the keys are the names of the pins
  pub record IsIndexed (keys : List (Vec ℕ Z)) (pins : List LefPin) : Type 0 where
    pub named : names_of keys ≡ map (λ pin. pin.name) pins
