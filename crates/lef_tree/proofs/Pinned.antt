-- The index of the pins' names.
use Rattle.std.proofs.Common.{◌≡◌, ℕ, Bool, false, List, [], ◌∷◌, ◌++◌, ◌||◌, Vec, length, map, take, refl, sym, ap, ◌∙◌}
use Rattle.std.proofs.lemmas.List.{length-map, map-append, take-map}
use Rattle.std.proofs.Math.Seq.{take-append_seam}
use Rattle.std.specs.List.{list_any}
use Rattle.std.specs.Str.{bytes_eq}
use Rattle.indexmap.specs.IndexSet.{insert_key}
use Rattle.lef_tree.specs.declared.tree.LefPin.{LefPin}
use Rattle.lef_tree.specs.Pins.{IsIndexed, has_key, has_pin, names_of}

any_of_map : {A B : Type 0} (test : B → Bool) (f : A → B) (xs : List A) → list_any test (map f xs) ≡ list_any (λ x. test (f x)) xs
any_of_map test f [] = refl
any_of_map test f (x ∷ xs) = ap (λ b. test (f x) || b) (any_of_map test f xs)

module _ {Z : Type 0} where
  -- a name is among the keys exactly where a pin has it
  pub key-found : (name : List ℕ) (keys : List (Vec ℕ Z)) (pins : List LefPin) → IsIndexed keys pins → has_key name keys ≡ has_pin name pins
  key-found name keys pins indexed =
      sym (any_of_map (bytes_eq name) (λ key. key.items) keys) ∙ ap (list_any (bytes_eq name)) indexed.named ∙ any_of_map (bytes_eq name) (λ pin. pin.name) pins

  -- a new name goes last
  pub name-grows : (key : Vec ℕ Z) (name : List ℕ) (keys : List (Vec ℕ Z)) → has_key name keys ≡ false → key.items ≡ name
      → names_of (insert_key (λ a b. bytes_eq a.items b.items) keys key) ≡ names_of keys ++ name ∷ []
  name-grows key name keys new named =
      let absent : has_key key.items keys ≡ false = rw named new in
      rw absent (map-append (λ k. k.items) keys (key ∷ []) ∙ ap (λ n. names_of keys ++ n ∷ []) named)

  -- and is taken off again
  pub names-cut : (keys grown : List (Vec ℕ Z)) (pins : List LefPin) (name : List ℕ) → IsIndexed keys pins → names_of grown ≡ names_of keys ++ name ∷ []
      → IsIndexed (take (length pins) grown) pins
  names-cut keys grown pins name indexed more =
      let count : length pins ≡ length (names_of keys) = sym (ap length indexed.named ∙ length-map pins (λ pin. pin.name)) in
      record {
        named = sym (take-map (λ k. k.items) (length pins) grown) ∙ ap (take (length pins)) more
            ∙ ap (λ n. take n (names_of keys ++ name ∷ [])) count ∙ take-append_seam (names_of keys) (name ∷ []) ∙ indexed.named;
      }
