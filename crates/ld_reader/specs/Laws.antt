-- Laws of every language of statements: what a statement does whose words fill its places, or fill a front of them.
use Rattle.std.specs.Prelude.{◌≡◌, ◌++◌, ◌||◌, true, false, List, [], ◌∷◌, ℕ, Option, Some, None, Result, Ok, Err, if◌then◌else◌, is_some, map, not}
use Rattle.ld_words.specs.declared.word.Word.{Word as WordOn}
use Rattle.ld_words.specs.Reading.{Ending}
use Rattle.ld_forms.specs.declared.place.Fit.{Fit}
use Rattle.ld_forms.specs.declared.place.Fit.TheVariants as fit
use Rattle.ld_forms.specs.declared.place.Judged.{Judged}
use Rattle.ld_forms.specs.declared.place.Place.{Place}
use Rattle.ld_forms.specs.Filling.{Fills}
use Rattle.ld_forms.specs.Places.{Word, due, fit_in, is_semicolon}
use Rattle.ld_reader.specs.declared.fault.TextFault.TheVariants as fault
use Rattle.ld_reader.specs.declared.language.Begun.TheVariants as begun
use Rattle.ld_reader.specs.declared.reader.Reader.{Reader}
use Rattle.ld_reader.specs.Reading.{after, at, blamed_in, is_done, left_behind, read_from, step_of}
use Rattle.ld_reader.specs.Rules.{Rules}

module _ {T C S K : Type 0} (g : Rules T C S K) where
  -- one word after another, without their lines, as long as one is due
  unfoldable pub run : Reader T C S → List Word → Result (Reader T C S) K
  run r [] = Ok r
  run r (word ∷ words) = if is_done g r then Ok r else after g (step_of g r word) (λ next. run next words)

-- what a word does in the first of some places
abbrev pub first_fit : {C K : Type 0} → (C → Word → Judged K) → List (Place C) → Word → Option (Fit K)
first_fit judge [] word = None
first_fit judge (p ∷ places) word = Some (fit_in judge p word)

-- what a word does in the place that it is to take
abbrev pub fit_of : {C K : Type 0} → (C → Word → Judged K) → List (Place C) → Word → Option (Fit K)
fit_of judge places word = first_fit judge (due judge places word) word

-- these words go through the next `;`, and leave those
pub data GoesThrough : List Word → List Word → Type 0 where
  Here : {word : Word} {rest : List Word} → is_semicolon word ≡ true → GoesThrough (word ∷ rest) rest
  There : {word : Word} {words rest : List Word} → is_semicolon word ≡ false → GoesThrough words rest → GoesThrough (word ∷ words) rest

-- these words begin with the first one of the statement, and those are to fill its places: the words behind it, or it as
-- well where it takes one of them
pub data Begins {T C S K : Type 0} (g : Rules T C S K) (t : T) (s : S) : List Word → List Word → Type 0 where
  Behind : {first : Word} {words : List Word} → g.begun t first ≡ begun.Taken s → Begins g t s (first ∷ words) words
  With : {first : Word} {words : List Word} → g.begun t first ≡ begun.Within s → is_some (fit_of g.judged (g.places s) first) ≡ true
      → Begins g t s (first ∷ words) (first ∷ words)

module _ {T C S K : Type 0} (g : Rules T C S K) where
  -- words that fill the places of a statement set what it sets
  abbrev pub FilledIsSet : Type 0
  FilledIsSet = (t u : T) (s : S) (words filling kept rest : List Word) → g.is_done t ≡ false
      → Begins g t s words filling → Fills g.judged (g.places s) filling kept [] rest → g.set t s kept ≡ Ok u
      → run g (at t) words ≡ run g (at u) rest

  -- words that fill a front of them, and then one that doesn't belong there, have the statement passed over and counted
  abbrev pub StrayIsPassedOver : Type 0
  StrayIsPassedOver = (t : T) (s : S) (words filling kept : List Word) (places : List (Place C)) (stray : Word) (more rest : List Word)
      → g.is_done t ≡ false → g.is_done (g.counted t) ≡ false → g.is_strict t ≡ false
      → Begins g t s words filling → Fills g.judged (g.places s) filling kept places (stray ∷ more)
      → fit_of g.judged places stray ≡ Some fit.Misfit → GoesThrough (stray ∷ more) rest
      → run g (at t) words ≡ run g (at (g.counted t)) rest

  -- words that fill a front of them, and then one that is no number or name, are that fault; but where the language isn't
  -- strict no `;` is one
  abbrev pub BadIsFault : Type 0
  BadIsFault = (t : T) (s : S) (words filling kept : List Word) (places : List (Place C)) (word : Word) (more : List Word) (k : K)
      → g.is_done t ≡ false → (g.is_strict t || not (is_semicolon word)) ≡ true
      → Begins g t s words filling → Fills g.judged (g.places s) filling kept places (word ∷ more)
      → fit_of g.judged places word ≡ Some (fit.Bad k)
      → run g (at t) words ≡ Err k

  -- where the language is strict, a word that doesn't belong there is a fault too
  abbrev pub StrictStrayIsFault : Type 0
  StrictStrayIsFault = (t : T) (s : S) (words filling kept : List Word) (places : List (Place C)) (stray : Word) (more : List Word)
      → g.is_done t ≡ false → g.is_strict t ≡ true
      → Begins g t s words filling → Fills g.judged (g.places s) filling kept places (stray ∷ more)
      → fit_of g.judged places stray ≡ Some fit.Misfit
      → run g (at t) words ≡ Err g.unexpected

  -- the lines of words say nothing but where a fault is
  abbrev pub LinesSayNothing : Type 0
  LinesSayNothing = (r next : Reader T C S) (words more : List WordOn) (ending : Ending)
      → run g r (map (λ w. w.bytes) words) ≡ Ok next → read_from g r (words ++ more) ending ≡ read_from g next more ending

  -- the first word that its place doesn't take is the fault, on its line
  abbrev pub FaultIsOnItsLine : Type 0
  FaultIsOnItsLine = (r next : Reader T C S) (words : List WordOn) (word : WordOn) (more : List WordOn) (ending : Ending) (k : K) → is_done g next ≡ false
      → run g r (map (λ w. w.bytes) words) ≡ Ok next → step_of g next word.bytes ≡ Err k
      → read_from g r (words ++ word ∷ more) ending ≡ Err (fault.At word.line k)

  -- where no word is at fault the text ends too early
  abbrev pub EndIsCut : Type 0
  EndIsCut = (r : Reader T C S) (words : List WordOn) (ending : Ending) (line : ℕ) (k : K)
      → read_from g r words ending ≡ Err (fault.At line k) → blamed_in g r words ≡ None → k ≡ g.cut

  -- words that lead to a reader for which more are due leave what stands behind them
  abbrev pub WordsBehindAreLeft : Type 0
  WordsBehindAreLeft = (r next : Reader T C S) (words more : List WordOn) (ending : Ending) → is_done g next ≡ false
      → run g r (map (λ w. w.bytes) words) ≡ Ok next → left_behind g r (words ++ more) ending ≡ left_behind g next more ending
