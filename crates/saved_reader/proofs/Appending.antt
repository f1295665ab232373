-- Bytes that were appended one after another, and what is still to be written.
use Rattle.std.proofs.Common.{◌≡◌, List, [], ◌++◌, ℕ, sym, ap, ◌∙◌, length, append-nil, append_assoc}
use Rattle.std.specs.List.{flat_map}
use Rattle.odb_fields.specs.Fields.{u32_bytes}
use Rattle.saved_fields.specs.Bytes.{list_bytes}

-- a part was appended, and the rest is still to be written
pub one_appended : (was now part rest whole all : List ℕ) → now ≡ was ++ part → whole ≡ part ++ rest → was ++ whole ≡ all → now ++ rest ≡ all
one_appended was now part rest whole all appended parts before =
    ap (λ l. l ++ rest) appended ∙ append_assoc was part rest ∙ ap (λ l. was ++ l) (sym parts) ∙ before

-- nothing is still to be written
pub all_appended : (now rest all : List ℕ) → rest ≡ [] → now ++ rest ≡ all → now ≡ all
all_appended now rest all none before = sym (append-nil now) ∙ ap (λ l. now ++ l) (sym none) ∙ before

-- a count was appended and then each item, and no item is left
pub list_appended : {A : Type 0} (each : A → List ℕ) (xs rest : List A) (n : ℕ) (a x y : List ℕ) → rest ≡ [] → n ≡ length xs → x ≡ a ++ u32_bytes n
    → y ++ flat_map each rest ≡ x ++ flat_map each xs → y ≡ a ++ list_bytes each xs
unfolding list_bytes
list_appended each xs rest n a x y none count counted items =
    all_appended y (flat_map each rest) (x ++ flat_map each xs) (ap (flat_map each) none) items
    ∙ ap (λ l. l ++ flat_map each xs) counted ∙ append_assoc a (u32_bytes n) (flat_map each xs)
    ∙ ap (λ k. a ++ (u32_bytes k ++ flat_map each xs)) count
