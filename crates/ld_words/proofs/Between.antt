-- What is read between words, as an input moves on over blanks and comments.
use Rattle.std.proofs.Common.{◌≡◌, ℕ, ◌+◌, ◌≤◌, Bool, true, false, not, cond, List, [], ◌∷◌, ◌++◌, Option, Some, None, length, take, get_or, refl, sym, ap, ◌∙◌, arith, add-zero, position}
use Rattle.std.specs.List.{list_all, position_or_len}
use Rattle.std.proofs.lemmas.Bool.{eqb-true}
use Rattle.std.proofs.lemmas.List.Sums.{passes_at_first, prefix_len-le-length}
use Rattle.ld_words.specs.declared.input.Input.{Input}
use Rattle.ld_words.specs.declared.scan.Span.{Span}
use Rattle.ld_words.specs.declared.word.Word.{Word}
use Rattle.ld_words.specs.declared.word.WordFault.TheVariants as fault
use Rattle.ld_words.specs.Input.{BeginsComment, Continues, Finishes, Grew, IsLast, IsPast, Moved, Stays, reading_at}
use Rattle.ld_words.specs.Reading.{Between, Comment, Goes, Place, Plain, Quoted, Reading, done, faulty, is_blank, is_line_feed, is_quote, line_after, line_feeds, longer, opens_comment, read, reading_of, word_on}
use Rattle.ld_words.specs.Told.{SameIfTold}
use Rattle.ld_words.proofs.Ended.{blanks_passed, comment_ended, comment_opened, comment_passed}
use Rattle.ld_words.proofs.Places.{front-passes, position_none, position_some, twice_denied}
use Rattle.ld_words.proofs.Telling.{read_all, read_last, read_on, read_to_end, same_by, same_map, same_on}

-- blanks are used up
pub blanks_read : {S : Type 0} (left : S → Option (List ℕ)) (old new : Input S) (blanks : Span) → blanks.bytes ≡ position_or_len (λ b. not (is_blank b)) old.window
    → blanks.lines ≡ line_feeds (take blanks.bytes old.window) → Moved old new blanks.bytes blanks.lines → reading_at left Between new ≡ reading_at left Between old
blanks_read left old new blanks is lines moved =
    let count = blanks.bytes in
    let hand = old.window in
    let blanks : list_all is_blank (take count hand) ≡ true = sym (twice_denied is_blank (take count hand)) ∙ (rw is (front-passes (λ b. not (not (is_blank b))) hand)) in
    let within : count ≤ length hand = rw is (prefix_len-le-length (λ b. not (not (is_blank b))) hand) in
    rw (moved.source, moved.line, moved.taken, moved.window, lines)
    (same_map _ _ (left old.source) (λ l. blanks_passed old.line old.taken count hand blanks within old.within l))

-- the number sign ends no line
comment_first : (hand : List ℕ) → BeginsComment hand → (list_all (λ b. not (is_line_feed b)) (take 1 hand) ≡ true) × (1 ≤ length hand)
comment_first [] h = absurd h
comment_first (b ∷ hand) h = (rw (eqb-true b 35 h) refl, omega arith)

-- the number sign is used up
pub comment_entered : {S : Type 0} (left : S → Option (List ℕ)) (old new : Input S) → BeginsComment old.window → Moved old new 1 0
    → reading_at left Comment new ≡ reading_at left Between old
comment_entered left old new begins moved =
    let first = comment_first old.window begins in
    rw (moved.source, moved.line, moved.taken, moved.window, add-zero)
    (same_map _ _ (left old.source) (λ l. comment_passed old.line old.taken 1 old.window first.0 first.1 old.within l ∙ comment_opened old.line old.taken old.window l begins))

-- the bytes of a comment at hand are used up
pub comment_read : {S : Type 0} (left : S → Option (List ℕ)) (old new : Input S) (count : ℕ) → position_or_len is_line_feed old.window ≡ count
    → Moved old new count 0 → reading_at left Comment new ≡ reading_at left Comment old
comment_read left old new count is moved =
    let hand = old.window in
    let front : list_all (λ b. not (is_line_feed b)) (take count hand) ≡ true = rw (sym is) (front-passes (λ b. not (is_line_feed b)) hand) in
    let within : count ≤ length hand = rw (sym is) (prefix_len-le-length (λ b. not (is_line_feed b)) hand) in
    rw (moved.source, moved.line, moved.taken, moved.window, add-zero)
    (same_map _ _ (left old.source) (λ l. comment_passed old.line old.taken count hand front within old.within l))

-- a comment goes on behind the bytes at hand
pub comment_on : {S : Type 0} (left : S → Option (List ℕ)) (start old new : Input S) (bytes : List ℕ) → bytes ≡ old.window → position is_line_feed bytes ≡ None
    → Moved old new (length bytes) 0 → SameIfTold (reading_at left Between start) (reading_at left Comment old) → SameIfTold (reading_at left Between start) (reading_at left Comment new)
comment_on left start old new bytes is none moved so_far =
    same_on (reading_at left Between start) (reading_at left Comment old) (reading_at left Comment new) so_far
    (same_by (reading_at left Comment old) (reading_at left Comment new)
    (comment_read left old new (length bytes) (rw (sym is) (position_none is_line_feed bytes none)) moved))

-- the line feed behind a comment stands between words
pub comment_left : {S : Type 0} (left : S → Option (List ℕ)) (old new : Input S) (count : ℕ) → position is_line_feed old.window ≡ Some count
    → Moved old new count 0 → reading_at left Between new ≡ reading_at left Comment old
comment_left left old new count some moved =
    let hand = old.window in
    let place = position_some is_line_feed hand count some in
    let line_feed : is_line_feed (get_or hand count 0) ≡ true = rw (sym place.0) (passes_at_first is_line_feed hand 0 (rw place.0 place.1)) in
    (rw (moved.line, moved.taken, moved.window) (same_map _ _ (left new.source) (λ l. comment_ended (old.line + 0) (old.taken + count) count hand l place.1 line_feed)))
    ∙ comment_read left old new count place.0 moved

-- more bytes came to hand
pub continued : {S : Type 0} (left : S → Option (List ℕ)) (old new : Input S) → Stays old new → Grew left old new → Continues left old new
continued left old new stays grew = record {
  some = omega (arith, grew.grown);
  reading = λ place.
      rw (stays.line, stays.taken)
      (read_on (read place old.line old.taken) (λ l. read place old.line old.taken (new.window ++ l)) old.window new.window (left old.source) (left new.source) grew.bytes (λ l. refl));
}

-- the text has ended
pub finished : {S : Type 0} (left : S → Option (List ℕ)) (old new : Input S) → old.window ≡ [] → Stays old new → IsLast left old new → Finishes left old new
unfolding read
finished left old new none stays last =
    let g : List ℕ → Reading = λ l. read Between new.line new.taken (new.window ++ l) in
    let at : g [] ≡ done old.line = rw (last.window, none, stays.line) refl in
    let between : done old.line ≡ read Between old.line old.taken old.window = rw none refl in
    let comment : done old.line ≡ read Comment old.line old.taken old.window = rw none refl in
    record {
      reading = read_to_end (read Between old.line old.taken) g old.window (left old.source) (left new.source) last.bytes last.rest (at ∙ between);
      comment = read_to_end (read Comment old.line old.taken) g old.window (left old.source) (left new.source) last.bytes last.rest (at ∙ comment);
      ends = read_last (read Between old.line old.taken) (done new.line) old.window old.window (left old.source) last.bytes (ap done stays.line ∙ between);
    }

-- one byte too many between words
past_between_by : (blank sharp quote : Bool) (word : Word) (line : ℕ) (next : Place → Reading)
    → faulty (fault.TooLong line) ≡ reading_of (cond blank (Goes Between) (cond sharp (Goes Comment) (cond quote (Goes (Quoted word)) (Goes (Plain word))))) line 4294967295 next
past_between_by true sharp quote word line next = refl
past_between_by false true quote word line next = refl
past_between_by false false true word line next = refl
past_between_by false false false word line next = refl

-- one byte too many in a comment
past_comment_by : (line_feed : Bool) (line : ℕ) (next : Place → Reading)
    → faulty (fault.TooLong line) ≡ reading_of (cond line_feed (Goes Between) (Goes Comment)) line 4294967295 next
past_comment_by true line next = refl
past_comment_by false line next = refl

-- one byte too many came between words or in a comment
pub past_between : {S : Type 0} (left : S → Option (List ℕ)) (old new : Input S) (b : ℕ) → old.window ≡ [] → IsPast left old new b
    → SameIfTold (reading_at left Between old) (Some (faulty (fault.TooLong old.line))) × SameIfTold (reading_at left Comment old) (Some (faulty (fault.TooLong old.line)))
unfolding read
past_between left old new b none past =
    let line = old.line in
    let full : old.taken ≡ 4294967295 = omega (arith, past.full, ap length none) in
    let word : Word = longer (word_on line) (b ∷ []) in (
      read_all (read Between line old.taken) (faulty (fault.TooLong line)) old.window (old.window ++ b ∷ []) (left old.source) (left new.source) past.bytes
          (λ l. rw (none, full) (past_between_by (is_blank b) (opens_comment b) (is_quote b) word line (λ next. read next (line_after line b) (4294967295 + 1) l))),
      read_all (read Comment line old.taken) (faulty (fault.TooLong line)) old.window (old.window ++ b ∷ []) (left old.source) (left new.source) past.bytes
          (λ l. rw (none, full) (past_comment_by (is_line_feed b) line (λ next. read next (line_after line b) (4294967295 + 1) l))),
    )
