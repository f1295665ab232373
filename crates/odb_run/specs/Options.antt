-- The command line.
use Rattle.std.specs.Prelude.{◌&&◌, List, [], ◌∷◌, ℕ, ℤ, pos, negsuc, Option, None, Some, if◌then◌else◌, codes, nat_le}
use Rattle.std.specs.Str.{bytes_eq}
use Rattle.script_words.specs.Forms.{number_named}

-- a number of slots, from 1 to the greatest that a table may have
abbrev pub slots_from : Option ℤ → Option ℕ
slots_from None = None
slots_from (Some (pos n)) = if nat_le 1 n && nat_le n 16777215 then Some n else None
slots_from (Some (negsuc n)) = None

-- the greatest number of slots that two words of the command line give, of which the first is `--slots`
abbrev pub slots_after : List ℕ → List ℕ → Option ℕ
slots_after name word = if bytes_eq name (codes "--slots") then slots_from (number_named word) else None

-- the greatest number of slots of a table, by the words of the command line; nothing where it isn't lawful
abbrev pub slots_of : List (List ℕ) → Option ℕ
slots_of [] = Some 16777215
slots_of (name ∷ []) = None
slots_of (name ∷ word ∷ []) = slots_after name word
slots_of (name ∷ word ∷ more ∷ words) = None
