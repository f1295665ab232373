-- A word whose bytes are at hand, or what is wrong with it.
use Rattle.std.proofs.Common.{◌≡◌, ℕ, suc, zero, ◌+◌, ◌-◌, ◌≤◌, ◌<◌, ◌&&◌, true, not, cond, List, [], ◌∷◌, ◌++◌, Option, Some, Result, Ok, Err, IfOk, IfErr, length, take, drop, get_or, eqb, leb, refl, sym, ◌∙◌, arith, inl, inr}
use Rattle.std.proofs.lemmas.Bool.{false≢true}
use Rattle.std.proofs.lemmas.Bool.Decides.{leb_tells}
use Rattle.std.proofs.lemmas.List.{get_or-drop, length-drop, take_all}
use Rattle.std.specs.List.{list_all}
use Rattle.ld_words.specs.declared.input.Input.{Input}
use Rattle.ld_words.specs.declared.word.WordFault.{WordFault}
use Rattle.ld_words.specs.declared.word.WordFault.TheVariants as fault
use Rattle.ld_words.specs.Input.{BeginsPlain, BeginsQuoted, HasWord, IsLast, IsPast, Stays, reading_at, reading_with}
use Rattle.ld_words.specs.Reading.{Between, faulty, is_blank, is_quote, line_feeds, read, with_word}
use Rattle.ld_words.specs.Told.{SameIfTold, ShowsFault}
use Rattle.ld_words.proofs.Ended.{plain_ended, plain_last, plain_past, plain_too_long, quoted_ended, quoted_past, quoted_too_long, quoted_unended}
use Rattle.ld_words.proofs.Places.{IsFound}
use Rattle.ld_words.proofs.Telling.{known_by, read_all, read_last, read_to_end, same_by, same_map, same_on, shows_either}

-- a length that is tried against the limit, where it fits
pub fit_ok : (P : ℕ → Type 0) (n line : ℕ) (r : Result ℕ WordFault) → r ≡ cond (leb n 65535) (Ok n) (Err (fault.LongWord line)) → (n ≤ 65535 → P n) → IfOk r P
fit_ok P n line r is holds = elim (leb_tells n 65535) [ inl p ↦ rw (is, p.0) (holds p.1) | inr p ↦ rw (is, p.0) tt ]

-- and where it doesn't
pub fit_err : (Q : WordFault → Type 0) (n line : ℕ) (r : Result ℕ WordFault) → r ≡ cond (leb n 65535) (Ok n) (Err (fault.LongWord line)) → (65535 < n → Q (fault.LongWord line)) → IfErr r Q
fit_err Q n line r is holds = elim (leb_tells n 65535) [ inl p ↦ rw (is, p.0) tt | inr p ↦ rw (is, p.0) (holds p.1) ]

-- a word that was found where more bytes came to hand is a word from the start on
pub has_on : {S : Type 0} (left : S → Option (List ℕ)) (start now new : Input S) (n lines : ℕ) → SameIfTold (reading_at left Between start) (reading_at left Between now)
    → HasWord left now new n lines → HasWord left start new n lines
has_on left start now new n lines so_far word = record {
  some = word.some;
  within = word.within;
  reading = same_on (reading_at left Between start) (reading_at left Between now) (reading_with left new n lines) so_far word.reading;
}

-- a plain word has a byte
begins_some : (hand : List ℕ) (n : ℕ) → BeginsPlain hand → is_blank (get_or hand n 0) ≡ true → 0 < n
begins_some [] n begins blank = absurd begins
begins_some (b ∷ hand) zero begins blank = absurd (false≢true (sym begins.0 ∙ blank))
begins_some (b ∷ hand) (suc n) begins blank = omega arith

some_bytes : (hand : List ℕ) → BeginsPlain hand → 0 < length hand
some_bytes [] begins = absurd begins
some_bytes (b ∷ hand) begins = omega arith

-- a plain word before a blank
pub plain_found : {S : Type 0} (left : S → Option (List ℕ)) (now : Input S) (n : ℕ) → BeginsPlain now.window → IsFound is_blank now.window n → n ≤ 65535 → HasWord left now now n 0
plain_found left now n begins found short = record {
  some = begins_some now.window n begins found.passes;
  within = omega (arith, found.within);
  reading = same_by _ _ (same_map _ _ (left now.source) (plain_ended now.line now.taken n now.window begins found.front found.within found.passes short now.within));
}

-- a plain word that is too long
pub plain_long : {S : Type 0} (left : S → Option (List ℕ)) (now : Input S) (n : ℕ) → BeginsPlain now.window → list_all (λ b. not (is_blank b)) (take n now.window) ≡ true → n ≤ length now.window → 65535 < n
    → SameIfTold (reading_at left Between now) (Some (faulty (fault.LongWord now.line)))
plain_long left now n begins front within long =
    known_by _ _ (left now.source) (plain_too_long 65535 now.line now.taken n now.window refl begins front long within now.within)

-- a plain word at the end of the text
pub plain_end : {S : Type 0} (left : S → Option (List ℕ)) (now new : Input S) → BeginsPlain now.window → list_all (λ b. not (is_blank b)) now.window ≡ true → length now.window ≤ 65535
    → Stays now new → IsLast left now new → HasWord left now new (length now.window) 0
plain_end left now new begins all short stays last =
    let hand = now.window in
    let word : (w : List ℕ) (line taken : ℕ) → w ≡ hand → line ≡ now.line → taken ≡ now.taken
    → with_word (record { bytes = take (length hand) w; line = line }) (read Between (line + 0) (taken + length hand) (drop (length hand) w ++ [])) ≡ read Between now.line now.taken hand =
    λ w line taken e f h. rw (e, f, h) (plain_last now.line now.taken hand begins all short now.within) in
    record {
      some = some_bytes hand begins;
      within = rw last.window (omega arith);
      reading = read_to_end (read Between now.line now.taken) _ hand (left now.source) (left new.source) last.bytes last.rest (word new.window new.line new.taken last.window stays.line stays.taken);
    }

-- one byte too many for the text behind a plain word
pub plain_over : {S : Type 0} (left : S → Option (List ℕ)) (now new : Input S) (b : ℕ) → BeginsPlain now.window → list_all (λ b. not (is_blank b)) now.window ≡ true → length now.window ≤ 65535
    → Stays now new → IsPast left now new b
    → ShowsFault (reading_at left Between now) (cond (not (is_blank b) && eqb (length new.window) 65535) (fault.LongWord new.line) (fault.TooLong new.line))
plain_over left now new b begins all short stays past =
    rw (past.window, stays.line)
    (shows_either (reading_at left Between now) (not (is_blank b) && eqb (length now.window) 65535) now.line now.line
    (read_all (read Between now.line now.taken) _ now.window (now.window ++ b ∷ []) (left now.source) (left new.source) past.bytes
    (plain_past now.line now.taken b now.window begins all short past.full)))

-- the first quote and those that follow it, as places at hand
quote_at : (hand : List ℕ) (m k : ℕ) → k ≡ suc m → IsFound is_quote (drop 1 hand) m → (k < length hand) × (is_quote (get_or hand k 0) ≡ true)
quote_at hand m k is found =
    let place : 1 + m ≡ k = omega arith in (
      omega (arith, found.within, length-drop 1 hand),
      rw place at (rw (get_or-drop 1 hand m 0) at found.passes),
    )

-- a quoted word that ends
pub quoted_found : {S : Type 0} (left : S → Option (List ℕ)) (now : Input S) (m k : ℕ) → k ≡ suc m → BeginsQuoted now.window → IsFound is_quote (drop 1 now.window) m → k + 1 ≤ 65535
    → HasWord left now now (k + 1) (line_feeds (take (k + 1) now.window))
quoted_found left now m k is begins found short =
    let at = quote_at now.window m k is found in
    record {
      some = omega arith;
      within = omega (arith, at.0);
      reading = same_by _ _ (same_map _ _ (left now.source) (quoted_ended now.line now.taken m k now.window is begins found.front at.0 at.1 short now.within));
    }

-- a quoted word that is too long
pub quoted_long : {S : Type 0} (left : S → Option (List ℕ)) (now : Input S) (m : ℕ) → BeginsQuoted now.window → list_all (λ b. not (is_quote b)) (take m (drop 1 now.window)) ≡ true → 65535 ≤ m + 1 → 65535 < length now.window
    → SameIfTold (reading_at left Between now) (Some (faulty (fault.LongWord now.line)))
quoted_long left now m begins front long within =
    known_by _ _ (left now.source) (quoted_too_long (65535 - 1) now.line now.taken m now.window refl begins front (omega (arith, long)) within now.within)

-- where no quote follows the first one
unquoted : (hand : List ℕ) → BeginsQuoted hand → list_all (λ b. not (is_quote b)) (drop 1 hand) ≡ true
    → (m : ℕ) × (length hand ≡ suc m) × (list_all (λ b. not (is_quote b)) (take m (drop 1 hand)) ≡ true)
unquoted [] begins all = absurd begins
unquoted (b ∷ hand) begins all = (length hand, refl, rw (take_all (length hand) hand (omega arith)) all)

-- a quoted word that the text ends within
pub quoted_end : {S : Type 0} (left : S → Option (List ℕ)) (now new : Input S) → BeginsQuoted now.window → list_all (λ b. not (is_quote b)) (drop 1 now.window) ≡ true → length now.window ≤ 65535
    → IsLast left now new → SameIfTold (reading_at left Between now) (Some (faulty (fault.OpenQuote now.line)))
quoted_end left now new begins all short last =
    let open_word = unquoted now.window begins all in
    read_last (read Between now.line now.taken) _ now.window now.window (left now.source) last.bytes
    (quoted_unended now.line now.taken open_word.0 now.window begins open_word.2 open_word.1 short now.within)

-- one byte too many for the text within a quoted word
pub quoted_over : {S : Type 0} (left : S → Option (List ℕ)) (now new : Input S) (b : ℕ) → BeginsQuoted now.window → list_all (λ b. not (is_quote b)) (drop 1 now.window) ≡ true → length now.window ≤ 65535
    → Stays now new → IsPast left now new b
    → ShowsFault (reading_at left Between now) (cond (eqb (length new.window) 65535) (fault.LongWord new.line) (fault.TooLong (new.line + line_feeds new.window)))
quoted_over left now new b begins all short stays past =
    let open_word = unquoted now.window begins all in
    rw (past.window, stays.line)
    (shows_either (reading_at left Between now) (eqb (length now.window) 65535) now.line (now.line + line_feeds now.window)
    (read_all (read Between now.line now.taken) _ now.window (now.window ++ b ∷ []) (left now.source) (left new.source) past.bytes
    (quoted_past now.line now.taken b open_word.0 now.window begins open_word.2 open_word.1 short past.full)))

-- more bytes behind a word change nothing of its first one
pub plain_kept : (hand more : List ℕ) → take (length hand) more ≡ hand → BeginsPlain hand → BeginsPlain more
plain_kept [] more e h = absurd h
plain_kept (b ∷ hand) [] e h = cc
plain_kept (b ∷ hand) (c ∷ more) e h = let same : b ≡ c = cc in rw (sym same) h

pub quoted_kept : (hand more : List ℕ) → take (length hand) more ≡ hand → BeginsQuoted hand → BeginsQuoted more
quoted_kept [] more e h = absurd h
quoted_kept (b ∷ hand) [] e h = cc
quoted_kept (b ∷ hand) (c ∷ more) e h = let same : b ≡ c = cc in rw (sym same) h
