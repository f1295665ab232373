-- The forms of words in script lines, and the words of a line taken one after another.
use Rattle.std.specs.Prelude.{◌==◌, ◌&&◌, ◌||◌, Bool, false, List, [], ◌∷◌, ℕ, ℤ, pos, negsuc, neg_ℤ, int_le, Option, None, Some, Result, Ok, Err, if◌then◌else◌, nat_le, not, option_and_then, codes, drop, length, slice_index}
use Rattle.std.specs.Char.{is_ascii_alphanumeric}
use Rattle.std.specs.List.{list_all, find}
use Rattle.std.specs.Option.{option_map}
use Rattle.std.specs.Str.{bytes_eq}
use Rattle.odb_base.specs.Digits.{is_digit, is_negative, number_of}
use Rattle.odb_base.specs.Direction.{direction_word, directions}
use Rattle.odb_base.specs.Kind.{has_names, kind_word, kinds}
use Rattle.odb_base.specs.LayerType.{layer_type_word, layer_types}
use Rattle.odb_base.specs.Name.{name_fault}
use Rattle.odb_base.specs.Orient.{orient_word, orients}
use Rattle.odb_base.specs.PlaceStatus.{place_status_word, place_statuses}
use Rattle.odb_base.specs.SiteClass.{site_class_word, site_classes}
use Rattle.odb_base.specs.Usage.{usage_word, usages}
use Rattle.odb_base.specs.declared.codes.direction.Direction.{Direction}
use Rattle.odb_base.specs.declared.codes.kind.Kind.{Kind}
use Rattle.odb_base.specs.declared.codes.layer_type.LayerType.{LayerType}
use Rattle.odb_base.specs.declared.codes.orient.Orient.{Orient}
use Rattle.odb_base.specs.declared.codes.place_status.PlaceStatus.{PlaceStatus}
use Rattle.odb_base.specs.declared.codes.site_class.SiteClass.{SiteClass}
use Rattle.odb_base.specs.declared.codes.usage.Usage.{Usage}
use Rattle.odb_base.specs.declared.name.NameFault.{NameFault}
use Rattle.script_words.specs.declared.fault.LineFault.{LineFault}
use Rattle.script_words.specs.declared.fault.LineFault.TheVariants as fault

-- a question, and then a second one which goes on with what the first gave
infixl 10 ◌>>=◌
abbrev pub ◌>>=◌ : {A B : Type 0} → Result A LineFault → (A → Result B LineFault) → Result B LineFault
(Ok x) >>= next = next x
(Err why) >>= next = Err why

abbrev pub Words : Type 0
Words = List (List ℕ)

-- what was taken, and the words behind it
abbrev pub Taken : Type 0 → Type 0
Taken A = Result (A × Words) LineFault

-- The forms of one word: what it means, or nothing where it isn't of the form.

-- of a set whose values have words
unfoldable pub value_named : {A : Type 0} → List A → (A → List ℕ) → List ℕ → Option A
value_named every word_of word = find (λ value. bytes_eq (word_of value) word) every

-- a digit 1 to 9 and at most 17 further digits
abbrev pub is_positive : List ℕ → Bool
is_positive word = nat_le 49 (slice_index word 0) && nat_le (length word) 18 && list_all is_digit word

-- the number of a digit 1 to 9 and at most 17 further digits
unfoldable pub positive_named : List ℕ → Option ℕ
positive_named word = if is_positive word then Some (number_of word) else None

-- a number: `0`, or a digit 1 to 9 and at most 17 further digits, with or without a minus sign in front
unfoldable pub number_named : List ℕ → Option ℤ
number_named word =
    if bytes_eq word (codes "0") then Some (pos 0)
    else if is_negative word then option_map (λ number. neg_ℤ (pos number)) (positive_named (drop 1 word))
    else option_map pos (positive_named word)

-- a number that is an identifier
abbrev pub identifier : ℤ → Option ℕ
identifier (pos number) = if nat_le number 4294967295 then Some number else None
identifier (negsuc number) = None

unfoldable pub id_named : List ℕ → Option ℕ
id_named word = option_and_then identifier (number_named word)

-- a number that 32 bits with a sign hold
abbrev pub fitting : ℤ → Option ℤ
fitting number = if int_le (negsuc 2147483647) number && int_le number (pos 2147483647) then Some number else None

unfoldable pub size_named : List ℕ → Option ℤ
size_named word = option_and_then fitting (number_named word)

abbrev pub lawful : List ℕ → Option NameFault → Option (List ℕ)
lawful word None = Some word
lawful word (Some fault) = None

-- a lawful name
unfoldable pub name_named : List ℕ → Option (List ℕ)
name_named word = lawful word (name_fault word)

-- a letter, a digit, `.`, `_` or `-`
abbrev pub is_file_byte : ℕ → Bool
is_file_byte b = is_ascii_alphanumeric b || b == 46 || b == 95 || b == 45

-- `.` or `-`
abbrev pub is_mark : ℕ → Bool
is_mark b = b == 46 || b == 45

-- 1 to 255 letters, digits, `.`, `_` and `-`, the first neither `.` nor `-`
abbrev pub is_file_name : List ℕ → Bool
is_file_name [] = false
is_file_name (first ∷ rest) = not (is_mark first) && nat_le (length (first ∷ rest)) 255 && list_all is_file_byte (first ∷ rest)

-- the name of a file
unfoldable pub file_named : List ℕ → Option (List ℕ)
file_named word = if is_file_name word then Some word else None

-- a kind whose objects have names
abbrev pub with_names : Kind → Option Kind
with_names kind = if has_names kind then Some kind else None

unfoldable pub named_kind : List ℕ → Option Kind
named_kind word = option_and_then with_names (value_named kinds kind_word word)

-- Words are taken from the first on.

-- the next word
unfoldable pub word_at : Words → Taken (List ℕ)
word_at [] = Err fault.BadWords
word_at (word ∷ words) = Ok (word, words)

-- no more words
unfoldable pub end_at : Words → Result (Unit {0}) LineFault
end_at [] = Ok tt
end_at (word ∷ words) = Err fault.BadWords

-- what a word means, and the words behind it
abbrev pub formed : {A : Type 0} → Option A → Words → Taken A
formed None words = Err fault.BadWords
formed (Some x) words = Ok (x, words)

-- the next word, which has a form that means something
unfoldable pub form_at : {A : Type 0} → (List ℕ → Option A) → Words → Taken A
form_at form words = do
  (word, words) ← word_at words
  formed (form word) words

-- a word of a set
abbrev pub value_at : {A : Type 0} → List A → (A → List ℕ) → Words → Taken A
value_at every word_of words = form_at (value_named every word_of) words

abbrev pub kind_at : Words → Taken Kind
kind_at words = value_at kinds kind_word words

abbrev pub status_at : Words → Taken PlaceStatus
status_at words = value_at place_statuses place_status_word words

abbrev pub orient_at : Words → Taken Orient
orient_at words = value_at orients orient_word words

abbrev pub usage_at : Words → Taken Usage
usage_at words = value_at usages usage_word words

abbrev pub direction_at : Words → Taken Direction
direction_at words = value_at directions direction_word words

abbrev pub layer_type_at : Words → Taken LayerType
layer_type_at words = value_at layer_types layer_type_word words

abbrev pub site_class_at : Words → Taken SiteClass
site_class_at words = value_at site_classes site_class_word words

-- a kind whose objects have names
abbrev pub named_kind_at : Words → Taken Kind
named_kind_at words = form_at named_kind words

-- a number
abbrev pub number_at : Words → Taken ℤ
number_at words = form_at number_named words

-- an identifier
abbrev pub id_at : Words → Taken ℕ
id_at words = form_at id_named words

-- the kind and the identifier of an object
unfoldable pub object_at : Words → Taken (Kind × ℕ)
object_at words = do
  (kind, words) ← kind_at words
  (id, words) ← id_at words
  Ok ((kind, id), words)

-- a number that 32 bits with a sign hold
abbrev pub size_at : Words → Taken ℤ
size_at words = form_at size_named words

-- a lawful name
abbrev pub name_at : Words → Taken (List ℕ)
name_at words = form_at name_named words

-- the name of a file
abbrev pub file_at : Words → Taken (List ℕ)
file_at words = form_at file_named words
