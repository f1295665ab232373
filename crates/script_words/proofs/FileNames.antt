-- The name of a file is text.
use Rattle.std.proofs.Common.{◌≡◌, ◌<◌, ◌&&◌, Bool, true, false, ℕ, zero, suc, List, [], ◌∷◌, refl, arith}
use Rattle.std.specs.List.{list_all, slice_index}
use Rattle.std.specs.Str.{IsUtf8}
use Rattle.std.proofs.lemmas.Bool.{false≢true}
use Rattle.std.proofs.lemmas.Str.{IsUtf8-from_ascii}
use Rattle.script_words.specs.Forms.{is_file_byte, is_file_name}

small : (b : ℕ) → is_file_byte b ≡ true → b < 128
small b is = grind arith

first-is : (a b : Bool) → (a && b) ≡ true → a ≡ true
first-is true b is = refl
first-is false b is = absurd (false≢true is)

then-is : (a b : Bool) → (a && b) ≡ true → b ≡ true
then-is true b is = is
then-is false b is = absurd (false≢true is)

ascii : (word : List ℕ) → list_all is_file_byte word ≡ true → (i : ℕ) → slice_index word i < 128
ascii [] all i = omega arith
ascii (b ∷ word) all zero = small b (first-is _ _ all)
ascii (b ∷ word) all (suc i) = ascii word (then-is _ _ all) i

pub is_text : (word : List ℕ) → is_file_name word ≡ true → IsUtf8 word
is_text [] is = absurd (false≢true is)
is_text (b ∷ word) is = IsUtf8-from_ascii (b ∷ word) (ascii (b ∷ word) (then-is _ _ is))
