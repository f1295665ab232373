-- The words of a text with their lines, and how the text ends.
use Rattle.std.specs.Prelude.{◌+◌, ◌==◌, ◌||◌, ◌++◌, Bool, List, [], ◌∷◌, ℕ, if◌then◌else◌, length, count_by}
use Rattle.ld_words.specs.declared.word.Word.{Word}
use Rattle.ld_words.specs.declared.word.WordFault.{WordFault}
use Rattle.ld_words.specs.declared.word.WordFault.TheVariants as fault

-- a line ends with a line feed
abbrev pub is_line_feed : ℕ → Bool
is_line_feed b = b == 10

-- the bytes that part words: space, tab, carriage return and line feed
abbrev pub is_blank : ℕ → Bool
is_blank b = b == 32 || b == 9 || b == 13 || b == 10

-- as the first byte of a word, a number sign opens a comment, which ends with its line
abbrev pub opens_comment : ℕ → Bool
opens_comment b = b == 35

-- as the first byte of a word, a quote opens a quoted word, which ends with the next quote
abbrev pub is_quote : ℕ → Bool
is_quote b = b == 34

-- how many line feeds some bytes have
abbrev pub line_feeds : List ℕ → ℕ
line_feeds bytes = count_by is_line_feed bytes

-- how a text ends: on this line, or by its first fault
pub data Ending : Type 0 where
  Done : ℕ → Ending
  Faulty : WordFault → Ending

-- the words of a text, each with the line on which it begins, and how the text ends
pub record Reading : Type 0 where
  pub words : List Word
  pub ending : Ending

-- no more words, and the text ends on this line
abbrev pub done : ℕ → Reading
done line = record { words = []; ending = Done line }

-- no more words, since there is this fault
abbrev pub faulty : WordFault → Reading
faulty f = record { words = []; ending = Faulty f }

-- the word, and then the rest
abbrev pub with_word : Word → Reading → Reading
with_word word rest = record { words = word ∷ rest.words; ending = rest.ending }

-- where in a text a byte stands: between words, in a comment, in a plain word or in a quoted one, of which
-- there are these bytes
pub data Place : Type 0 where
  Between : Place
  Comment : Place
  Plain : Word → Place
  Quoted : Word → Place

-- what a byte does: the next byte stands at a place, or a word has ended, or a word gets too long
pub data Step : Type 0 where
  Goes : Place → Step
  Ends : Word → Step
  Long : Word → Step

-- a word without bytes yet
abbrev pub word_on : ℕ → Word
word_on line = record { bytes = []; line = line }

-- the word with more bytes at its end
abbrev pub longer : Word → List ℕ → Word
longer word more = record word { bytes = word.bytes ++ more }

-- one more byte of a word that has at most 65535 of them
abbrev pub grown : Word → ℕ → (Word → Step) → Step
grown word b next = if length word.bytes == 65535 then Long word else next (longer word (b ∷ []))

-- the first byte of a comment or a word
abbrev pub begun : ℕ → ℕ → Step
begun line b =
    if opens_comment b then Goes Comment
    else if is_quote b then Goes (Quoted (longer (word_on line) (b ∷ [])))
    else Goes (Plain (longer (word_on line) (b ∷ [])))

abbrev pub step : Place → ℕ → ℕ → Step
step Between line b = if is_blank b then Goes Between else begun line b
step Comment line b = if is_line_feed b then Goes Between else Goes Comment
step (Plain word) line b = if is_blank b then Ends word else grown word b (λ w. Goes (Plain w))
step (Quoted word) line b = grown word b (λ w. if is_quote b then Ends w else Goes (Quoted w))

-- the line of the byte after this one
abbrev pub line_after : ℕ → ℕ → ℕ
line_after line b = if is_line_feed b then line + 1 else line

-- what is read from a byte on that does this, where `taken` bytes stand before it. A word that gets too long
-- is the fault even where the text gets too long at the same byte
abbrev pub reading_of : Step → ℕ → ℕ → (Place → Reading) → Reading
reading_of (Long word) line taken next = faulty (fault.LongWord word.line)
reading_of (Goes place) line taken next =
    if taken == 4294967295 then faulty (fault.TooLong line) else next place
reading_of (Ends word) line taken next =
    if taken == 4294967295 then faulty (fault.TooLong line) else with_word word (next Between)

-- what is read where the text ends
abbrev pub at_end : Place → ℕ → Reading
at_end Between line = done line
at_end Comment line = done line
at_end (Plain word) line = with_word word (done line)
at_end (Quoted word) line = faulty (fault.OpenQuote word.line)

-- what is read of the bytes from a place on, which is on a line and has `taken` bytes before it
unfoldable pub read : Place → ℕ → ℕ → List ℕ → Reading
read place line taken [] = at_end place line
read place line taken (b ∷ bytes) =
    reading_of (step place line b) line taken (λ next. read next (line_after line b) (taken + 1) bytes)

-- the words of a text with their lines, and its first fault, or the line on which it ends
abbrev pub words_of : List ℕ → Reading
words_of bytes = read Between 1 0 bytes
