-- What the words of a text mean that a source gives.
use Rattle.std.specs.Prelude.{◌≡◌, ◌+◌, ◌-◌, Bool, true, false, ℕ, Option, Some, None, Result, Ok, Err, take}
use Rattle.std.specs.Option.{option_map}
use Rattle.odb_outside.specs.declared.source.Source.{Ghosts}
use Rattle.ld_words.specs.declared.word.Word.{Word}
use Rattle.ld_words.specs.declared.word.WordFault.{WordFault}
use Rattle.ld_words.specs.declared.words.Words.{Words}
use Rattle.ld_words.specs.Input.{reading_behind}
use Rattle.ld_words.specs.Reading.{Reading, done, faulty, with_word}
use Rattle.ld_words.specs.Told.{SameIfTold, ShowsFault}

-- the source as it stands
abbrev pub source_of : {S : Type 0} {g : Ghosts S} → Words S g → S
source_of words = words.input.source

-- the line of the byte behind the word at hand
abbrev pub line_of : {S : Type 0} {g : Ghosts S} → Words S g → ℕ
line_of words = words.input.line + words.at_hand.lines

-- the word at hand
abbrev pub word_of : {S : Type 0} {g : Ghosts S} → Words S g → Word
word_of words = record { bytes = take words.at_hand.bytes words.input.window; line = words.input.line }

-- the fault that was answered, and is answered from then on
abbrev pub fault_of : {S : Type 0} {g : Ghosts S} → Words S g → Option WordFault
fault_of words = words.fault

-- how many more bytes the text may have; each word lowers it
abbrev pub room_of : {S : Type 0} {g : Ghosts S} → Words S g → ℕ
room_of words = 4294967295 - (words.input.taken + words.at_hand.bytes)

-- the fault that is kept, or the reading of what is left
abbrev pub reading_after : Option WordFault → Option Reading → Option Reading
reading_after None reading = reading
reading_after (Some f) reading = Some (faulty f)

-- the words behind the word at hand and how they end, where the source tells its bytes or a fault is kept
abbrev pub reading_left : {S : Type 0} {g : Ghosts S} → Words S g → Option Reading
reading_left {S} {g} words = reading_after words.fault (reading_behind g.left words.input words.at_hand)

-- what an answer says of the words that were left, and of those that are left now, where the next word is lent.
-- That word is the first of them. There is none where they end on this line. A fault of the text is the first one.
-- Each fault is kept
abbrev pub LendsWord : Option Reading → Option Reading → Word → ℕ → Result Bool WordFault → Type 0
LendsWord before after word line (Ok true) = SameIfTold before (option_map (with_word word) after)
LendsWord before after word line (Ok false) = SameIfTold before (Some (done line)) × SameIfTold before after
LendsWord before after word line (Err f) = ShowsFault before f × (after ≡ Some (faulty f))

-- what an answer says of the words that were left, and of those that are left now. A word is the first of
-- them. There is none where they end on this line. A fault of the text is the first one. Each fault is kept
abbrev pub GivesWord : Option Reading → Option Reading → ℕ → Result (Option Word) WordFault → Type 0
GivesWord before after line (Ok (Some word)) = SameIfTold before (option_map (with_word word) after)
GivesWord before after line (Ok None) = SameIfTold before (Some (done line)) × SameIfTold before after
GivesWord before after line (Err f) = ShowsFault before f × (after ≡ Some (faulty f))
