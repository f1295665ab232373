-- The answer for a text is never a fault of the call.
use Rattle.std.proofs.Common.{◌+◌, ◌==◌, true, false, List, [], ◌∷◌, ℕ, Result, Ok, Err, IsOk, if◌then◌else◌, refl}
use Rattle.ld_words.specs.declared.word.Word.{Word}
use Rattle.ld_words.specs.declared.word.WordFault.TheVariants as word
use Rattle.ld_words.specs.Reading.{Between, Comment, Done, Ending, Ends, Faulty, Goes, Long, Place, Plain, Quoted, Reading, Step, faulty, line_after, read, reading_of, step, with_word, words_of}
use Rattle.ld_reader.specs.declared.fault.TextFault.{TextFault}
use Rattle.ld_reader.specs.declared.fault.TextFault.TheVariants as fault
use Rattle.ld_reader.specs.declared.reader.Reader.{Reader}
use Rattle.ld_reader.specs.Reading.{after_step, at, at_ending, is_done, may_end, read_from, step_of}
use Rattle.lef_forms.specs.declared.class.Class.{Class}
use Rattle.lef_forms.specs.declared.form.Statement.{Statement}
use Rattle.lef_forms.specs.declared.kind.LefKind.{LefKind}
use Rattle.lef_forms.specs.declared.kind.LefKind.TheVariants as found
use Rattle.lef_reader.specs.declared.so_far.SoFar.{SoFar}
use Rattle.lef_reader.specs.Reading.{rules, start, tree_in}
use Rattle.lef_files.specs.Texts.{TextsHaveOutcomes, outcome_of, word_outcome}

-- the end of a text is no fault of the call
abbrev EndsText : Ending → Type 0
EndsText (Done line) = Unit {0}
EndsText (Faulty f) = IsOk (word_outcome f)

step-ends : (s : Step) (line taken : ℕ) (next : Place → Reading) → ((place : Place) → EndsText (next place).ending) → EndsText (reading_of s line taken next).ending
step-ends (Long w) line taken next ends = refl
step-ends (Goes place) line taken next ends =
    let late : Reading = faulty (word.TooLong line) in
    elim (taken == 4294967295) as (λ b. EndsText (if b then late else next place).ending) [ true ↦ refl | false ↦ ends place ]
step-ends (Ends w) line taken next ends =
    let late : Reading = faulty (word.TooLong line) in
    elim (taken == 4294967295) as (λ b. EndsText (if b then late else with_word w (next Between)).ending) [ true ↦ refl | false ↦ ends Between ]

text-ends : (place : Place) (line taken : ℕ) (bytes : List ℕ) → EndsText (read place line taken bytes).ending
unfolding read
text-ends Between line taken [] = tt
text-ends Comment line taken [] = tt
text-ends (Plain w) line taken [] = tt
text-ends (Quoted w) line taken [] = refl
text-ends place line taken (b ∷ bytes) =
    step-ends (step place line b) line taken (λ next. read next (line_after line b) (taken + 1) bytes) (λ next. text-ends next (line_after line b) (taken + 1) bytes)

-- a reader of a LEF text
abbrev LefReader : Type 0
LefReader = Reader SoFar Class Statement

-- what a reader or a fault gives is no fault of the call
abbrev Gives : Result LefReader (TextFault LefKind) → Type 0
Gives given = IsOk (outcome_of (tree_in given))

ending-is : (r : LefReader) (e : Ending) → EndsText e → Gives (at_ending rules r e)
ending-is r (Done line) ends =
    let read : Result LefReader (TextFault LefKind) = Ok r in
    let cut : Result LefReader (TextFault LefKind) = Err (fault.At line found.Cut) in
    elim (may_end rules r) as (λ b. Gives (if b then read else cut)) [ true ↦ refl | false ↦ refl ]
ending-is r (Faulty f) ends =
    let read : Result LefReader (TextFault LefKind) = Ok r in
    let here : Result LefReader (TextFault LefKind) = Err (fault.Word f) in
    elim (is_done rules r) as (λ b. Gives (if b then read else here)) [ true ↦ refl | false ↦ ends ]

after-is : (line : ℕ) (next : Result LefReader LefKind) (rest : LefReader → Result LefReader (TextFault LefKind)) → ((r : LefReader) → Gives (rest r)) → Gives (after_step rules line next rest)
after-is line (Ok r) rest has = has r
after-is line (Err k) rest has = refl

answer-is : (r : LefReader) (words : List Word) (e : Ending) → EndsText e → Gives (read_from rules r words e)
unfolding read_from
answer-is r [] e ends = ending-is r e ends
answer-is r (w ∷ words) e ends =
    let read : Result LefReader (TextFault LefKind) = Ok r in
    let rest : Result LefReader (TextFault LefKind) = after_step rules w.line (step_of rules r w.bytes) (λ next. read_from rules next words e) in
    let has = after-is w.line (step_of rules r w.bytes) (λ next. read_from rules next words e) (λ next. answer-is next words e ends) in
    elim (is_done rules r) as (λ b. Gives (if b then read else rest)) [ true ↦ refl | false ↦ has ]

pub texts-have : TextsHaveOutcomes
texts-have bytes = answer-is (at start) (words_of bytes).words (words_of bytes).ending (text-ends Between 1 0 bytes)
