-- The line on which a text ends.
use Rattle.std.proofs.Common.{ℕ, ◌+◌, true, false, cond, List, [], ◌∷◌, eqb, arith}
use Rattle.ld_words.specs.declared.word.WordFault.TheVariants as fault
use Rattle.ld_words.specs.Laws.{EndsOn, LinesAreCounted}
use Rattle.ld_words.specs.Reading.{Between, Comment, Ends, Goes, Long, Place, Plain, Quoted, Reading, Step, faulty, line_after, line_feeds, read, reading_of, step, with_word}
use Rattle.ld_words.proofs.Runs.{line_feeds-cons}

-- a step ends no text but by a fault
step_counted : (s : Step) (line taken end : ℕ) (next : Place → Reading) → ((place : Place) → EndsOn (next place).ending end)
    → EndsOn (reading_of s line taken next).ending end
step_counted (Goes place) line taken end next rest =
    elim (eqb taken 4294967295) as (λ b. EndsOn (cond b (faulty (fault.TooLong line)) (next place)).ending end) [ true ↦ tt | false ↦ rest place ]
step_counted (Ends word) line taken end next rest =
    elim (eqb taken 4294967295) as (λ b. EndsOn (cond b (faulty (fault.TooLong line)) (with_word word (next Between))).ending end) [ true ↦ tt | false ↦ rest Between ]
step_counted (Long word) line taken end next rest = tt

-- from any place on
read_counted : (place : Place) (line taken : ℕ) (bytes : List ℕ) → EndsOn (read place line taken bytes).ending (line + line_feeds bytes)
unfolding read
read_counted Between line taken [] = omega arith
read_counted Comment line taken [] = omega arith
read_counted (Plain word) line taken [] = omega arith
read_counted (Quoted word) line taken [] = tt
read_counted place line taken (b ∷ bytes) =
    step_counted (step place line b) line taken (line + line_feeds (b ∷ bytes)) (λ next. read next (line_after line b) (taken + 1) bytes)
    (λ next. rw line_feeds-cons at (read_counted next (line_after line b) (taken + 1) bytes))

pub lines_counted : LinesAreCounted
lines_counted text = read_counted Between 1 0 text
