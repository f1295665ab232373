-- Reading a text word by word by the rules of its language. Each word is taken by its place, with no view of later words.
use Rattle.std.specs.Prelude.{◌++◌, ◌&&◌, ◌||◌, Bool, true, false, List, [], ◌∷◌, ℕ, Option, Some, None, Result, Ok, Err, if◌then◌else◌}
use Rattle.ld_forms.specs.declared.passing.Passed.{Passed}
use Rattle.ld_forms.specs.declared.passing.Passed.TheVariants as passed
use Rattle.ld_forms.specs.declared.passing.Passing.{Passing}
use Rattle.ld_forms.specs.declared.passing.Passing.TheVariants as passing
use Rattle.ld_forms.specs.declared.place.Fit.{Fit}
use Rattle.ld_forms.specs.declared.place.Fit.TheVariants as fit
use Rattle.ld_forms.specs.declared.place.Place.{Place}
use Rattle.ld_forms.specs.Passing.{pass_step, passing_of}
use Rattle.ld_forms.specs.Places.{Word, due, fit_in, is_semicolon}
use Rattle.ld_words.specs.declared.word.Word.{Word as WordOn}
use Rattle.ld_words.specs.Reading.{Done, Ending, Faulty, Reading as WordsRead}
use Rattle.ld_reader.specs.declared.fault.TextFault.{TextFault}
use Rattle.ld_reader.specs.declared.fault.TextFault.TheVariants as fault
use Rattle.ld_reader.specs.declared.language.Begun.{Begun}
use Rattle.ld_reader.specs.declared.language.Begun.TheVariants as begun
use Rattle.ld_reader.specs.declared.reader.Reader.{Reader}
use Rattle.ld_reader.specs.declared.due.Sort.{Sort}
use Rattle.ld_reader.specs.declared.due.Sort.TheVariants as sort
use Rattle.ld_reader.specs.Due as due_word
use Rattle.ld_reader.specs.Due.{DueOf}
use Rattle.ld_reader.specs.Rules.{Rules}

module _ {T C S : Type 0} where
  -- what was read so far, the words that are kept, and which word is due
  abbrev pub reader : T → List Word → DueOf C S → Reader T C S
  reader t kept d = record { so_far = t; kept = kept; due = d }

  -- between statements
  abbrev pub at : T → Reader T C S
  at t = reader t [] due_word.first

  -- a part is passed over from a word on
  abbrev pub passed_on : T → Word → Reader T C S
  passed_on t word = reader t [] (if is_semicolon word then due_word.first else due_word.passing passing.Statement)

module _ {T C S K : Type 0} (g : Rules T C S K) where
  -- ---- statements

  -- behind a statement that set this
  abbrev pub on_set : Result T K → Result (Reader T C S) K
  on_set (Ok t) = Ok (at t)
  on_set (Err k) = Err k

  -- a statement is whole
  unfoldable pub whole : T → List Word → S → Result (Reader T C S) K
  whole t kept s = on_set (g.set t s kept)

  -- behind a place of a statement, with these places behind it
  unfoldable pub moved : T → List Word → S → List (Place C) → Result (Reader T C S) K
  moved t kept s [] = whole t kept s
  moved t kept s (p ∷ places) = Ok (reader t kept (due_word.in_form s (p ∷ places)))

  -- a word that doesn't belong to its statement
  abbrev pub misfit : T → Word → Result (Reader T C S) K
  misfit t word = if g.is_strict t then Err g.unexpected else Ok (passed_on (g.counted t) word)

  -- a word that is a fault in its place; but where the language isn't strict a `;` ends its statement
  abbrev pub bad : T → K → Word → Result (Reader T C S) K
  bad t k word =
      if g.is_strict t then Err k
      else if is_semicolon word then Ok (passed_on (g.counted t) word)
      else Err k

  -- what a word does in the first of some places, with the later ones behind it
  unfoldable pub by_fit : T → List Word → S → List (Place C) → List (Place C) → Fit K → Word → Result (Reader T C S) K
  by_fit t kept s places later fit.Kept word = moved t (kept ++ word ∷ []) s later
  by_fit t kept s places later fit.Taken word = moved t kept s later
  by_fit t kept s places later fit.KeptHere word = Ok (reader t (kept ++ word ∷ []) (due_word.in_form s places))
  by_fit t kept s places later fit.Here word = Ok (reader t kept (due_word.in_form s places))
  by_fit t kept s places later fit.Ends word = whole t kept s
  by_fit t kept s places later fit.Misfit word = misfit t word
  by_fit t kept s places later (fit.Bad k) word = bad t k word

  -- a first word of a statement that takes the first of these places
  abbrev pub within : T → List Word → S → List (Place C) → Word → Result (Reader T C S) K
  within t kept s [] word = misfit t word
  within t kept s (p ∷ later) word = by_fit t kept s (p ∷ later) later (fit_in g.judged p word) word

  -- what a first word begins
  abbrev pub begun_by : T → List Word → Word → Begun C S K → Result (Reader T C S) K
  begun_by t kept word (begun.Taken s) = moved t kept s (g.places s)
  begun_by t kept word (begun.Within s) = within t kept s (due g.judged (g.places s) word) word
  begun_by t kept word (begun.Passed extent) = Ok (reader (g.counted t) kept (due_word.passing (passing_of extent)))
  begun_by t kept word (begun.Bad k) = Err k

  -- a first word
  unfoldable pub between : T → List Word → Word → Result (Reader T C S) K
  between t kept word = begun_by t kept word (g.begun t word)

  -- on from a reader, or its fault
  abbrev pub after : Result (Reader T C S) K → (Reader T C S → Result (Reader T C S) K) → Result (Reader T C S) K
  after (Ok next) rest = rest next
  after (Err k) rest = Err k

  -- no more word is due
  abbrev pub is_done : Reader T C S → Bool
  is_done r = g.is_done r.so_far

  -- a first word, if one is due
  abbrev pub unless_done : Reader T C S → Word → Result (Reader T C S) K
  unless_done r word = if is_done r then Ok r else between r.so_far r.kept word

  -- a word behind the last place ends the statement, and is the first word of the next
  abbrev pub by_places : T → List Word → S → List (Place C) → Word → Result (Reader T C S) K
  by_places t kept s [] word = after (whole t kept s) (λ r. unless_done r word)
  by_places t kept s (p ∷ later) word = by_fit t kept s (p ∷ later) later (fit_in g.judged p word) word

  -- a word of a statement that has these places left
  unfoldable pub in_form : T → List Word → S → List (Place C) → Word → Result (Reader T C S) K
  in_form t kept s places word = by_places t kept s (due g.judged places word) word

  -- ---- parts that are passed over

  -- behind a word of a part, by whether the part goes on, ends with it, or ended before it
  abbrev pub by_passed : T → List Word → Word → Passed C → Result (Reader T C S) K
  by_passed t kept word (passed.Goes p) = Ok (reader t kept (due_word.passing p))
  by_passed t kept word (passed.Names p) = Ok (reader t (kept ++ word ∷ []) (due_word.passing p))
  by_passed t kept word passed.Ends = Ok (at t)
  by_passed t kept word passed.Behind = between t kept word

  -- a word of a part
  unfoldable pub in_passing : T → List Word → Passing C → Word → Result (Reader T C S) K
  in_passing t kept p word = by_passed t kept word (pass_step g.judged p kept word)

  -- ---- words

  -- a word, by which one is due
  abbrev pub by_sort : T → List Word → List (Place C) → Word → Sort C S → Result (Reader T C S) K
  by_sort t kept places word sort.First = between t kept word
  by_sort t kept places word (sort.In s) = in_form t kept s places word
  by_sort t kept places word (sort.Passing p) = in_passing t kept p word

  -- a word
  unfoldable pub step_of : Reader T C S → Word → Result (Reader T C S) K
  step_of r word = by_sort r.so_far r.kept r.due.places word r.due.sort

  -- ---- texts

  -- the first word of a statement is due
  abbrev pub is_first : Sort C S → Bool
  is_first sort.First = true
  is_first (sort.In s) = false
  is_first (sort.Passing p) = false

  -- the text may end here
  abbrev pub may_end : Reader T C S → Bool
  may_end r = is_done r || is_first r.due.sort && g.may_end r.so_far

  -- an answer for a text: what was read of it, or its fault
  abbrev pub Answer : Type 0
  Answer = Result (Reader T C S) (TextFault K)

  -- the text ends on this line, or where a word has a fault
  abbrev pub at_ending : Reader T C S → Ending → Answer
  at_ending r (Done line) = if may_end r then Ok r else Err (fault.At line g.cut)
  at_ending r (Faulty f) = if is_done r then Ok r else Err (fault.Word f)

  -- on with the next reader, or the fault of the word on this line
  abbrev pub after_step : ℕ → Result (Reader T C S) K → (Reader T C S → Answer) → Answer
  after_step line (Ok next) rest = rest next
  after_step line (Err k) rest = Err (fault.At line k)

  -- the answer for the words that are left and how they end
  unfoldable pub read_from : Reader T C S → List WordOn → Ending → Answer
  read_from r [] ending = at_ending r ending
  read_from r (word ∷ words) ending =
      if is_done r then Ok r
      else after_step word.line (step_of r word.bytes) (λ next. read_from next words ending)

  -- the answer for a text from a reader on
  abbrev pub text_from : Reader T C S → WordsRead → Answer
  text_from r text = read_from r text.words text.ending

  -- the answer for a text
  abbrev pub text_of : T → WordsRead → Answer
  text_of t text = text_from (at t) text

  -- ---- the word at fault

  -- on with the next reader, or this word, which its place doesn't take
  abbrev pub blamed_after : Word → Result (Reader T C S) K → (Reader T C S → Option Word) → Option Word
  blamed_after word (Ok next) rest = rest next
  blamed_after word (Err k) rest = Some word

  -- the first of these words that its place doesn't take, if there is one
  unfoldable pub blamed_in : Reader T C S → List WordOn → Option Word
  blamed_in r [] = None
  blamed_in r (word ∷ words) =
      if is_done r then None
      else blamed_after word.bytes (step_of r word.bytes) (λ next. blamed_in next words)

  abbrev pub blamed_from : Reader T C S → WordsRead → Option Word
  blamed_from r text = blamed_in r text.words

  abbrev pub blamed_of : T → WordsRead → Option Word
  blamed_of t text = blamed_from (at t) text

  -- ---- what is left

  -- on with the next reader, or these words behind the one at fault
  abbrev pub left_after : List WordOn → Ending → Result (Reader T C S) K → (Reader T C S → WordsRead) → WordsRead
  left_after words ending (Ok next) rest = rest next
  left_after words ending (Err k) rest = record { words = words; ending = ending }

  -- what is left of a text where its reading ends: what stands behind its last word or behind the word at fault, or how
  -- the text ends
  unfoldable pub left_behind : Reader T C S → List WordOn → Ending → WordsRead
  left_behind r [] ending = record { words = []; ending = ending }
  left_behind r (word ∷ words) ending =
      if is_done r then record { words = word ∷ words; ending = ending }
      else left_after words ending (step_of r word.bytes) (λ next. left_behind next words ending)

  abbrev pub left_from : Reader T C S → WordsRead → WordsRead
  left_from r text = left_behind r text.words text.ending

  abbrev pub left_of : T → WordsRead → WordsRead
  left_of t text = left_from (at t) text
