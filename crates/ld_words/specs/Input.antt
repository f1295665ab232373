-- What is read of an input from the place on at which it stands.
use Rattle.std.specs.Prelude.{◌≡◌, ◌+◌, ◌<◌, ◌≤◌, ◌++◌, Bool, false, true, List, [], ◌∷◌, ℕ, Option, Some, None, length, take, drop, slice_get}
use Rattle.std.specs.Option.{option_map}
use Rattle.ld_words.specs.declared.input.Fill.{Fill}
use Rattle.ld_words.specs.declared.input.Fill.TheVariants.{More, End, Past}
use Rattle.ld_words.specs.declared.input.Input.{Input}
use Rattle.ld_words.specs.declared.scan.Span.{Span}
use Rattle.ld_words.specs.Reading.{Between, Comment, Place, Reading, done, is_blank, is_quote, opens_comment, read, with_word}
use Rattle.ld_words.specs.Told.{SameIfTold, ahead}

-- what is read from the input's place on, where the source tells its bytes
abbrev pub reading_at : {S : Type 0} → (S → Option (List ℕ)) → Place → Input S → Option Reading
reading_at left place input =
    option_map (λ l. read place input.line input.taken (input.window ++ l)) (left input.source)

-- what is read behind the first bytes at hand
abbrev pub reading_behind : {S : Type 0} → (S → Option (List ℕ)) → Input S → Span → Option Reading
reading_behind left input span =
    option_map (λ l. read Between (input.line + span.lines) (input.taken + span.bytes) (drop span.bytes input.window ++ l)) (left input.source)

-- what is read where the first bytes at hand are a word with so many line feeds
abbrev pub reading_with : {S : Type 0} → (S → Option (List ℕ)) → Input S → ℕ → ℕ → Option Reading
reading_with left input count lines =
    option_map (λ l. with_word (record { bytes = take count input.window; line = input.line })
    (read Between (input.line + lines) (input.taken + count) (drop count input.window ++ l))) (left input.source)

-- the first bytes at hand were used up, and the line is later by so many
pub record Moved {S : Type 0} (old new : Input S) (count lines : ℕ) : Type 0 where
  pub source : new.source ≡ old.source
  pub window : new.window ≡ drop count old.window
  pub taken : new.taken ≡ old.taken + count
  pub line : new.line ≡ old.line + lines

-- the input stands where it stood
pub record Stays {S : Type 0} (old new : Input S) : Type 0 where
  pub taken : new.taken ≡ old.taken
  pub line : new.line ≡ old.line

-- more bytes are at hand
pub record Grew {S : Type 0} (left : S → Option (List ℕ)) (old new : Input S) : Type 0 where
  pub kept : take (length old.window) new.window ≡ old.window
  pub grown : length old.window < length new.window
  pub bytes : SameIfTold (ahead old.window (left old.source)) (ahead new.window (left new.source))

-- the bytes at hand are the last ones
pub record IsLast {S : Type 0} (left : S → Option (List ℕ)) (old new : Input S) : Type 0 where
  pub window : new.window ≡ old.window
  pub bytes : SameIfTold (ahead old.window (left old.source)) (Some old.window)
  pub rest : SameIfTold (left old.source) (left new.source)

-- after the bytes at hand, which are as many as a text may have, there is this one
pub record IsPast {S : Type 0} (left : S → Option (List ℕ)) (old new : Input S) (byte : ℕ) : Type 0 where
  pub window : new.window ≡ old.window
  pub full : old.taken + length old.window ≡ 4294967295
  pub bytes : SameIfTold (ahead old.window (left old.source)) (ahead (old.window ++ byte ∷ []) (left new.source))

-- what a read behind the bytes at hand gave
abbrev pub Fills : {S : Type 0} → (S → Option (List ℕ)) → Input S → Input S → Fill → Type 0
Fills left old new More = Grew left old new
Fills left old new End = IsLast left old new
Fills left old new (Past byte) = IsPast left old new byte

-- more bytes came to hand
pub record Continues {S : Type 0} (left : S → Option (List ℕ)) (old new : Input S) : Type 0 where
  pub some : 0 < length new.window
  pub reading : (place : Place) → SameIfTold (reading_at left place old) (reading_at left place new)

-- the text has ended, in a comment or not
pub record Finishes {S : Type 0} (left : S → Option (List ℕ)) (old new : Input S) : Type 0 where
  pub reading : SameIfTold (reading_at left Between old) (reading_at left Between new)
  pub comment : SameIfTold (reading_at left Comment old) (reading_at left Between new)
  pub ends : SameIfTold (reading_at left Between old) (Some (done new.line))

-- whether more bytes came to hand
abbrev pub GoesOn : {S : Type 0} → (S → Option (List ℕ)) → Input S → Input S → Bool → Type 0
GoesOn left old new true = Continues left old new
GoesOn left old new false = Finishes left old new

-- the input stands at the first byte of a word
pub record IsAtWord {S : Type 0} (left : S → Option (List ℕ)) (old new : Input S) (first : ℕ) : Type 0 where
  pub reading : SameIfTold (reading_at left Between old) (reading_at left Between new)
  pub first_is : slice_get new.window 0 ≡ Some first
  pub no_blank : is_blank first ≡ false
  pub no_comment : opens_comment first ≡ false

-- there is no further word
pub record IsAtEnd {S : Type 0} (left : S → Option (List ℕ)) (old new : Input S) : Type 0 where
  pub reading : SameIfTold (reading_at left Between old) (reading_at left Between new)
  pub ends : SameIfTold (reading_at left Between old) (Some (done new.line))

-- where the input stands after blanks and comments
abbrev pub ComesTo : {S : Type 0} → (S → Option (List ℕ)) → Input S → Input S → Option ℕ → Type 0
ComesTo left old new None = IsAtEnd left old new
ComesTo left old new (Some first) = IsAtWord left old new first

-- the first bytes at hand are a word with so many line feeds
pub record HasWord {S : Type 0} (left : S → Option (List ℕ)) (old new : Input S) (count lines : ℕ) : Type 0 where
  pub some : 0 < count
  pub within : count ≤ length new.window
  pub reading : SameIfTold (reading_at left Between old) (reading_with left new count lines)

-- the first byte opens a comment
abbrev pub BeginsComment : List ℕ → Type 0
BeginsComment [] = ⊥
BeginsComment (b ∷ bytes) = opens_comment b ≡ true

-- the first byte begins a plain word
abbrev pub BeginsPlain : List ℕ → Type 0
BeginsPlain [] = ⊥
BeginsPlain (b ∷ bytes) = (is_blank b ≡ false) × (opens_comment b ≡ false) × (is_quote b ≡ false)

-- the first byte begins a quoted word
abbrev pub BeginsQuoted : List ℕ → Type 0
BeginsQuoted [] = ⊥
BeginsQuoted (b ∷ bytes) = is_quote b ≡ true

-- the first bytes at hand are the next word, or there is none
pub record HasSpan {S : Type 0} (left : S → Option (List ℕ)) (old new : Input S) (span : Span) : Type 0 where
  pub word : HasWord left old new span.bytes span.lines
  pub lines : span.lines ≤ span.bytes

-- what is found: the next word, or that there is none
abbrev pub Finds : {S : Type 0} → (S → Option (List ℕ)) → Input S → Input S → Option Span → Type 0
Finds left old new None = IsAtEnd left old new
Finds left old new (Some span) = HasSpan left old new span
