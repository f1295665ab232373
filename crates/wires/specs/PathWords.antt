-- The words of paths as texts have them: keywords, names, numbers, and how words are parted.
use Rattle.std.specs.Prelude.{◌+◌, ◌-◌, ◌*◌, ◌==◌, ◌&&◌, ◌||◌, Bool, List, [], ◌∷◌, ℕ, ℤ, pos, neg_ℤ, Option, Some, None, if◌then◌else◌, codes, drop, find, fold, length, nat_le, slice_index}
use Rattle.std.specs.List.{list_all}
use Rattle.std.specs.Str.{bytes_eq}
use Rattle.odb_base.specs.Digits.{is_digit, is_negative, with_digit}
use Rattle.odb_base.specs.declared.codes.orient.Orient.{Orient}
use Rattle.odb_base.specs.Orient.{orient_word, orients}
use Rattle.wires.specs.declared.path_word.PathWord.{PathWord}
use Rattle.wires.specs.declared.path_word.PathWord.TheVariants as word

-- ---- words

-- the word in front with one more byte
abbrev pub onto_first : ℕ → List (List ℕ) → List (List ℕ)
onto_first b [] = (b ∷ []) ∷ []
onto_first b (first ∷ words) = (b ∷ first) ∷ words

-- the words of bytes, which single spaces part: one more than there are spaces
abbrev pub words_of : List ℕ → List (List ℕ)
words_of [] = [] ∷ []
words_of (b ∷ bytes) = if b == 32 then [] ∷ words_of bytes else onto_first b (words_of bytes)

-- the text of a keyword
abbrev pub text_of : PathWord → List ℕ
text_of word.New = codes "NEW"
text_of word.Taper = codes "TAPER"
text_of word.TaperRule = codes "TAPERRULE"
text_of word.Plus = codes "+"
text_of word.Shape = codes "SHAPE"
text_of word.Open = codes "("
text_of word.Close = codes ")"
text_of word.Star = codes "*"
text_of word.Rect = codes "RECT"
text_of word.Mask = codes "MASK"
text_of word.Style = codes "STYLE"
text_of word.Virtual = codes "VIRTUAL"
text_of word.Do = codes "DO"

-- the bytes are this keyword
unfoldable pub is : PathWord → List ℕ → Bool
is keyword bytes = bytes_eq bytes (text_of keyword)

-- a word by which something begins that paths here can't have
unfoldable pub is_unsupported : List ℕ → Bool
is_unsupported bytes = is word.Mask bytes || is word.Style bytes || is word.Virtual bytes || is word.Do bytes

-- the orientation of a word
unfoldable pub orient_from : List ℕ → Option Orient
orient_from bytes = find (λ orient. bytes_eq (orient_word orient) bytes) orients

-- ---- numbers

-- the number with these digits behind its own, where they are digits and it is within the limit of coordinates
abbrev pub number_with : ℕ → List ℕ → Option ℕ
number_with n digits =
    if list_all is_digit digits && nat_le (fold with_digit n digits) 2000000000 then Some (fold with_digit n digits) else None

-- one digit or more, as a number
abbrev pub magnitude_of : List ℕ → Option ℕ
magnitude_of digits = if length digits == 0 then None else number_with 0 digits

-- what stands behind an optional minus
abbrev pub unsigned : List ℕ → List ℕ
unsigned bytes = if is_negative bytes then drop 1 bytes else bytes

-- a number, negative or not
abbrev pub signed : Bool → ℕ → ℤ
signed negative n = if negative then neg_ℤ (pos n) else pos n

-- a number, where there is one, negative or not
abbrev pub signed_option : Bool → Option ℕ → Option ℤ
signed_option negative (Some n) = Some (signed negative n)
signed_option negative None = None

-- the number of a word: an optional minus and digits, within the limit of coordinates
unfoldable pub number_of : List ℕ → Option ℤ
number_of bytes = signed_option (is_negative bytes) (magnitude_of (unsigned bytes))
