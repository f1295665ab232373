-- From the words that are left to the answer for the text.
use Rattle.std.proofs.Common.{◌≡◌, ℕ, Bool, true, false, List, [], ◌∷◌, Option, Some, None, Ok, Err, if◌then◌else◌, inl, inr, refl, sym, ap, ◌∙◌, Result}
use Rattle.std.specs.Option.{option_map}
use Rattle.std.proofs.lemmas.Bool.{cases_Bool}
use Rattle.ld_words.specs.declared.word.Word.{Word}
use Rattle.ld_words.specs.declared.word.WordFault.{WordFault}
use Rattle.ld_words.specs.declared.word.WordFault.TheVariants as word
use Rattle.ld_words.specs.Reading.{Done, Ending, Faulty, Reading, done, with_word}
use Rattle.ld_words.specs.Told.{SameIfTold, ShowsFault}
use Rattle.ld_words.specs.Words.{reading_after}
use Rattle.ld_reader.specs.declared.fault.TextFault.{TextFault}
use Rattle.ld_reader.specs.declared.fault.TextFault.TheVariants as fault
use Rattle.ld_reader.specs.declared.reader.Reader.{Reader}
use Rattle.ld_reader.specs.Answers.{IsAnswer, IsAtHand, IsBlamed, IsLeft, Stops, fault_in}
use Rattle.ld_reader.specs.Reading.{after_step, at_ending, blamed_after, blamed_from, blamed_in, is_done, left_behind, left_from, may_end, read_from, step_of, text_from}
use Rattle.ld_reader.specs.Rules.{Rules}

-- told before a step and after it
pub told_on : {A : Type 0} (a b c : Option A) → SameIfTold a b → SameIfTold b c → SameIfTold a c
told_on None b c h k = tt
told_on (Some a) None c h k = absurd h
told_on (Some a) (Some b) None h k = absurd k
told_on (Some a) (Some b) (Some c) h k = k ∙ h

pub told_self : {A : Type 0} (a : Option A) → SameIfTold a a
told_self None = tt
told_self (Some a) = refl

-- the answer for a text whose reading is known by another name
told_map : {A B : Type 0} (f g : A → B) (a b : Option A) → SameIfTold a b → ((x : A) → g x ≡ f x) → SameIfTold (option_map f a) (option_map g b)
told_map f g None b h e = tt
told_map f g (Some x) None h e = absurd h
told_map f g (Some x) (Some y) h e = e y ∙ ap f h

-- what a text with one more word at its front gives
told_word : {B : Type 0} (f g : Reading → B) (w : Word) (before after : Option Reading) → ((text : Reading) → f (with_word w text) ≡ g text)
    → SameIfTold before (option_map (with_word w) after) → SameIfTold (option_map f before) (option_map g after)
told_word f g w None after first told = tt
told_word f g w (Some before) None first told = absurd told
told_word f g w (Some before) (Some after) first told = sym (first after) ∙ ap f told

-- an answer for what is left is one for the whole
pub answer_on : {A K : Type 0} (a b : Option (Result A (TextFault K))) (answer : Result A (TextFault K)) → SameIfTold a b → IsAnswer b answer → IsAnswer a answer
answer_on a b (Ok read) h k = told_on a b _ h k
answer_on a b (Err (fault.At line kind)) h k = told_on a b _ h k
answer_on a b (Err (fault.Word (word.OpenQuote line))) h k = told_on a b _ h k
answer_on a b (Err (fault.Word (word.LongWord line))) h k = told_on a b _ h k
answer_on a b (Err (fault.Word (word.TooLong line))) h k = told_on a b _ h k
answer_on a b (Err (fault.Word word.ReadFault)) h k = tt
answer_on a b (Err (fault.Word word.Memory)) h k = k
answer_on a b (Err fault.Memory) h k = tt

-- no fault stood where a word was given
pub none-stood : {T : Type 0} (stood : Option WordFault) (given : T) → ((f : WordFault) → stood ≡ Some f → Ok given ≡ Err f) → stood ≡ None
none-stood None given kept = refl
none-stood (Some f) given kept = let e = kept f refl in cc

-- a fault of a word is what is left
pub fault-left : {A K : Type 0} (answer : Result A (TextFault K)) (whole reading : Option Reading) (kept : Option WordFault) (f : WordFault) → kept ≡ Some f → answer ≡ Err (fault_in f) → IsLeft whole (reading_after kept reading) answer
fault-left answer whole reading kept (word.OpenQuote line) h is = rw (is, h) refl
fault-left answer whole reading kept (word.LongWord line) h is = rw (is, h) refl
fault-left answer whole reading kept (word.TooLong line) h is = rw (is, h) refl
fault-left answer whole reading kept word.ReadFault h is = rw (is, h) refl
fault-left answer whole reading kept word.Memory h is = rw is tt

module _ {T C S K : Type 0} (g : Rules T C S K) where
  at-end : (ends : Bool) (r : Reader T C S) (l line : ℕ) (k : K) → (if ends then Ok r else Err (fault.At l g.cut)) ≡ Err (fault.At line k) → k ≡ g.cut
  at-end true r l line k stops = cc
  at-end false r l line k stops = cc

  no-at : (done : Bool) (r : Reader T C S) (f : WordFault) (line : ℕ) (k : K) → (if done then Ok r else Err (fault.Word f)) ≡ Err (fault.At line k) → k ≡ g.cut
  no-at true r f line k stops = cc
  no-at false r f line k stops = cc

  on-cut : (step : Result (Reader T C S) K) (w : Word) (words : List Word) (ending : Ending) (line : ℕ) (k : K)
      → ((next : Reader T C S) → read_from g next words ending ≡ Err (fault.At line k) → blamed_in g next words ≡ None → k ≡ g.cut)
      → after_step g w.line step (λ next. read_from g next words ending) ≡ Err (fault.At line k)
      → blamed_after g w.bytes step (λ next. blamed_in g next words) ≡ None → k ≡ g.cut
  on-cut (Ok next) w words ending line k on stops none = on next stops none
  on-cut (Err f) w words ending line k on stops none = cc

  -- what a word gives is what is read from the next reader on
  pub word-read : (r s : Reader T C S) (w : Word) (before after : Option Reading) → is_done g r ≡ false → step_of g r w.bytes ≡ Ok s
      → SameIfTold before (option_map (with_word w) after) → SameIfTold (option_map (text_from g r) before) (option_map (text_from g s) after)
  unfolding read_from
  word-read r s w before after due given told = told_word (text_from g r) (text_from g s) w before after (λ text. rw (due, given) refl) told

  -- and so is what is left
  pub word-left : (r s : Reader T C S) (w : Word) (before after : Option Reading) → is_done g r ≡ false → step_of g r w.bytes ≡ Ok s
      → SameIfTold before (option_map (with_word w) after) → SameIfTold (option_map (left_from g r) before) (option_map (left_from g s) after)
  unfolding left_behind
  word-left r s w before after due given told = told_word (left_from g r) (left_from g s) w before after (λ text. rw (due, given) refl) told

  -- a word that its place doesn't take is the fault of the text
  pub word-stops : (r : Reader T C S) (w : Word) (k : K) (before after : Option Reading) → is_done g r ≡ false → step_of g r w.bytes ≡ Err k
      → SameIfTold before (option_map (with_word w) after) → SameIfTold (option_map (text_from g r) before) (Some (Err (fault.At w.line k)))
  unfolding read_from
  word-stops r w k None after due given told = tt
  word-stops r w k (Some before) None due given told = absurd told
  word-stops r w k (Some before) (Some after) due given told =
      let first : text_from g r (with_word w after) ≡ Err (fault.At w.line k) = rw (due, given) refl in
      sym first ∙ ap (text_from g r) told

  -- the text ends here
  pub end-read : (r : Reader T C S) (line : ℕ) (before : Option Reading) → SameIfTold before (Some (done line))
      → SameIfTold (option_map (text_from g r) before) (Some (at_ending g r (Done line)))
  unfolding read_from
  end-read r line None told = tt
  end-read r line (Some before) told = ap (text_from g r) told

  -- where no more word is due all is read
  pub done-read : (r : Reader T C S) (words : List Word) (ending : Ending) → is_done g r ≡ true → read_from g r words ending ≡ Ok r
  unfolding read_from
  done-read r [] (Done line) h = rw h refl
  done-read r [] (Faulty f) h = rw h refl
  done-read r (w ∷ words) ending h = rw h refl

  pub text-read : (r : Reader T C S) (before : Option Reading) → is_done g r ≡ true → SameIfTold (option_map (text_from g r) before) (Some (Ok r))
  text-read r None h = tt
  text-read r (Some before) h = sym (done-read r before.words before.ending h)

  -- a fault of the words
  pub fault-read : (r : Reader T C S) (f : WordFault) (before : Option Reading) → is_done g r ≡ false → ShowsFault before f
      → IsAnswer (option_map (text_from g r) before) (Err (fault_in f))
  unfolding read_from
  fault-read r (word.OpenQuote line) None due told = tt
  fault-read r (word.OpenQuote line) (Some before) due told = rw due at (ap (text_from g r) told)
  fault-read r (word.LongWord line) None due told = tt
  fault-read r (word.LongWord line) (Some before) due told = rw due at (ap (text_from g r) told)
  fault-read r (word.TooLong line) None due told = tt
  fault-read r (word.TooLong line) (Some before) due told = rw due at (ap (text_from g r) told)
  fault-read r word.ReadFault before due told = tt
  fault-read r word.Memory before due told = tt

  -- the answer where a word isn't taken
  pub stop-answer : (r : Reader T C S) (w : Word) (f : TextFault K) (before after : Option Reading) → is_done g r ≡ false → Stops w.line (step_of g r w.bytes) f
      → SameIfTold before (option_map (with_word w) after) → IsAnswer (option_map (text_from g r) before) (Err f)
  stop-answer r w (fault.At line k) before after due given told =
      let stops = word-stops r w k before after due given.1 told in
      let here = given.0 in
      rw here stops
  stop-answer r w (fault.Word f) before after due given told = absurd given
  stop-answer r w fault.Memory before after due given told = tt

  -- the answer where the text ends
  pub end-answer : (r : Reader T C S) (line : ℕ) (before : Option Reading) → SameIfTold before (Some (done line)) → IsAnswer (option_map (text_from g r) before) (at_ending g r (Done line))
  end-answer r line before told =
      let X : Option (Result (Reader T C S) (TextFault K)) = option_map (text_from g r) before in
      let read : Result (Reader T C S) (TextFault K) = Ok r in
      let cut : Result (Reader T C S) (TextFault K) = Err (fault.At line g.cut) in
      elim (may_end g r) as (λ b. SameIfTold X (Some (if b then read else cut)) → IsAnswer X (if b then read else cut)) [ true ↦ λ h. h | false ↦ λ h. h ] (end-read r line before told)

  -- ---- the word at fault

  pub word-blamed : (r s : Reader T C S) (w : Word) (before after : Option Reading) → is_done g r ≡ false → step_of g r w.bytes ≡ Ok s
      → SameIfTold before (option_map (with_word w) after) → SameIfTold (option_map (blamed_from g r) before) (option_map (blamed_from g s) after)
  unfolding blamed_in
  word-blamed r s w before after due given told = told_word (blamed_from g r) (blamed_from g s) w before after (λ text. rw (due, given) refl) told

  word-stops-blamed : (r : Reader T C S) (w : Word) (k : K) (before after : Option Reading) → is_done g r ≡ false → step_of g r w.bytes ≡ Err k
      → SameIfTold before (option_map (with_word w) after) → SameIfTold (option_map (blamed_from g r) before) (Some (Some w.bytes))
  unfolding blamed_in
  word-stops-blamed r w k None after due given told = tt
  word-stops-blamed r w k (Some before) None due given told = absurd told
  word-stops-blamed r w k (Some before) (Some after) due given told =
      let first : blamed_from g r (with_word w after) ≡ Some w.bytes = rw (due, given) refl in
      sym first ∙ ap (blamed_from g r) told

  -- the word that its place doesn't take is at hand
  at-hand : (whole : Option (Option (List ℕ))) (word : List ℕ) → SameIfTold whole (Some (Some word)) → IsAtHand whole word
  at-hand None word same = tt
  at-hand (Some None) word same = tt
  at-hand (Some (Some other)) word same = cc

  pub stop-blamed : (whole : Option (Option (List ℕ))) (r : Reader T C S) (w : Word) (f : TextFault K) (before after : Option Reading) → is_done g r ≡ false → Stops w.line (step_of g r w.bytes) f
      → SameIfTold before (option_map (with_word w) after) → SameIfTold whole (option_map (blamed_from g r) before) → IsBlamed {A = Reader T C S} whole w.bytes (Err f)
  stop-blamed whole r w (fault.At line k) before after due given told h = at-hand whole w.bytes (told_on _ _ _ h (word-stops-blamed r w k before after due given.1 told))
  stop-blamed whole r w (fault.Word f) before after due given told h = tt
  stop-blamed whole r w fault.Memory before after due given told h = tt

  -- where the text ends no word is at fault
  text-ends-blamed : (r : Reader T C S) (line : ℕ) (before : Option Reading) → SameIfTold before (Some (done line)) → SameIfTold (option_map (blamed_from g r) before) (Some None)
  unfolding blamed_in
  text-ends-blamed r line None told = tt
  text-ends-blamed r line (Some before) told = ap (blamed_from g r) told

  none-at-hand : (whole : Option (Option (List ℕ))) (word : List ℕ) → SameIfTold whole (Some None) → IsAtHand whole word
  none-at-hand None word same = tt
  none-at-hand (Some None) word same = tt
  none-at-hand (Some (Some other)) word same = cc

  pub end-blamed : (whole : Option (Option (List ℕ))) (word : List ℕ) (r : Reader T C S) (line : ℕ) (before : Option Reading) → SameIfTold before (Some (done line))
      → SameIfTold whole (option_map (blamed_from g r) before) → IsBlamed whole word (at_ending g r (Done line))
  end-blamed whole word r line before told h =
      let read : Result (Reader T C S) (TextFault K) = Ok r in
      let cut : Result (Reader T C S) (TextFault K) = Err (fault.At line g.cut) in
      let none = none-at-hand whole word (told_on _ _ _ h (text-ends-blamed r line before told)) in
      elim (may_end g r) as (λ b. IsBlamed whole word (if b then read else cut)) [ true ↦ tt | false ↦ none ]

  -- where no word is at fault the text ends too early
  pub cut-only : (r : Reader T C S) (words : List Word) (ending : Ending) (line : ℕ) (k : K)
      → read_from g r words ending ≡ Err (fault.At line k) → blamed_in g r words ≡ None → k ≡ g.cut
  unfolding read_from blamed_in
  cut-only r [] (Done l) line k stops none = at-end (may_end g r) r l line k stops
  cut-only r [] (Faulty f) line k stops none = no-at (is_done g r) r f line k stops
  cut-only r (w ∷ words) ending line k stops none = elim (cases_Bool (is_done g r)) [
    | inl over ↦ let e = rw over at stops in cc
    | inr due ↦
        on-cut (step_of g r w.bytes) w words ending line k (λ next s n. cut-only next words ending line k s n) (rw due at stops) (rw due at none)
  ]

  -- ---- what is left

  -- and all words are left
  pub done-left : (r : Reader T C S) (words : List Word) (ending : Ending) → is_done g r ≡ true → left_behind g r words ending ≡ record { words = words; ending = ending }
  unfolding left_behind
  done-left r [] ending h = refl
  done-left r (w ∷ words) ending h = rw h refl

  pub text-left : (r : Reader T C S) (before : Option Reading) → is_done g r ≡ true → SameIfTold (option_map (left_from g r) before) before
  text-left r None h = tt
  text-left r (Some before) h = sym (done-left r before.words before.ending h)

  -- where a word isn't taken those behind it are left
  word-stops-left : (r : Reader T C S) (w : Word) (k : K) (before after : Option Reading) → is_done g r ≡ false → step_of g r w.bytes ≡ Err k
      → SameIfTold before (option_map (with_word w) after) → SameIfTold (option_map (left_from g r) before) after
  unfolding left_behind
  word-stops-left r w k None after due given told = tt
  word-stops-left r w k (Some before) None due given told = absurd told
  word-stops-left r w k (Some before) (Some after) due given told =
      let first : left_from g r (with_word w after) ≡ after = rw (due, given) refl in
      sym first ∙ ap (left_from g r) told

  pub stop-left : (whole : Option Reading) (r : Reader T C S) (w : Word) (f : TextFault K) (before after : Option Reading) → is_done g r ≡ false → Stops w.line (step_of g r w.bytes) f
      → SameIfTold before (option_map (with_word w) after) → SameIfTold (whole) (option_map (left_from g r) before) → IsLeft {A = Reader T C S} whole after (Err f)
  stop-left whole r w (fault.At line k) before after due given told h = told_on _ _ _ h (word-stops-left r w k before after due given.1 told)
  stop-left whole r w (fault.Word f) before after due given told h = absurd given
  stop-left whole r w fault.Memory before after due given told h = tt

  -- where the text ends nothing is left
  text-ends-left : (r : Reader T C S) (line : ℕ) (before after : Option Reading) → SameIfTold before (Some (done line)) → SameIfTold before after → SameIfTold (option_map (left_from g r) before) after
  unfolding left_behind
  text-ends-left r line None after told same = tt
  text-ends-left r line (Some before) None told same = absurd same
  text-ends-left r line (Some before) (Some after) told same = same ∙ sym told ∙ ap (left_from g r) told

  pub end-left : (whole : Option Reading) (r : Reader T C S) (line : ℕ) (before after : Option Reading) → SameIfTold before (Some (done line)) → SameIfTold before after
      → SameIfTold (whole) (option_map (left_from g r) before) → IsLeft whole after (at_ending g r (Done line))
  end-left whole r line before after told same h =
      let read : Result (Reader T C S) (TextFault K) = Ok r in
      let cut : Result (Reader T C S) (TextFault K) = Err (fault.At line g.cut) in
      let left = told_on _ _ _ h (text-ends-left r line before after told same) in
      elim (may_end g r) as (λ b. IsLeft whole after (if b then read else cut)) [ true ↦ left | false ↦ left ]
