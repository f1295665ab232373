-- What is read of words with a blank behind each.
use Rattle.std.proofs.Common.{◌≡◌, ℕ, suc, ◌+◌, ◌≤◌, ◌<◌, true, false, not, cond, ◌&&◌, List, [], ◌∷◌, ◌++◌, length, length-append, take, drop, get_or, eqb, refl, sym, ap, subst, ◌∙◌, arith, add-zero, append_assoc, inl, inr}
use Rattle.std.proofs.lemmas.Bool.Decides.{nat_tests}
use Rattle.std.proofs.lemmas.List.{drop_all, get_or_at, take_all, take_at}
use Rattle.std.proofs.lemmas.List.Sums.{sum_by-append}
use Rattle.std.specs.List.{AllByRecursion, list_all}
use Rattle.ld_words.specs.declared.word.Word.{Word}
use Rattle.ld_words.specs.Input.{BeginsPlain}
use Rattle.ld_words.specs.Laws.{IsSpaced, IsWord, SpacedWordsAreRead, is_plain, lined, quoted, spaced}
use Rattle.ld_words.specs.Reading.{Between, Done, is_blank, is_line_feed, is_quote, line_after, line_feeds, opens_comment, read, with_word}
use Rattle.ld_words.proofs.Ended.{plain_whole, quoted_ended}
use Rattle.ld_words.proofs.Places.{both, denied}
use Rattle.ld_words.proofs.Runs.{line_feeds-cons, no_line_feeds, plain_lines, same_place}

-- the line feeds of one list and then another
line_feeds-append : (xs ys : List ℕ) → line_feeds (xs ++ ys) ≡ line_feeds xs + line_feeds ys
line_feeds-append xs ys = sum_by-append (λ x. cond (is_line_feed x) 1 0) xs ys

-- the line behind some bytes and one more
line_behind : (line b : ℕ) (bytes : List ℕ) → line_after (line + line_feeds bytes) b ≡ line + line_feeds (bytes ++ b ∷ [])
line_behind line b bytes = omega (arith, line_feeds-append bytes (b ∷ []), line_feeds-cons (line + line_feeds bytes) b [])

-- a blank between words
blank_read : (line taken b : ℕ) (rest : List ℕ) → is_blank b ≡ true → taken < 4294967295 → read Between line taken (b ∷ rest) ≡ read Between (line_after line b) (taken + 1) rest
unfolding read
blank_read line taken b rest blank more = let e : eqb taken 4294967295 ≡ false = grind (arith, nat_tests) in rw (blank, e) refl

-- what a plain word is
plain_parts : (word : List ℕ) → is_plain word ≡ true → BeginsPlain word × (list_all (λ b. not (is_blank b)) word ≡ true)
plain_parts [] h = cc
plain_parts (b ∷ bytes) h =
    let all = both (not (opens_comment b) && not (is_quote b)) (list_all (λ c. not (is_blank c)) (b ∷ bytes)) h in
    let marks = both (not (opens_comment b)) (not (is_quote b)) all.0 in
    let first = both (not (is_blank b)) (list_all (λ c. not (is_blank c)) bytes) all.1 in
    ((denied _ first.0, denied _ marks.0, denied _ marks.1), all.1)

-- a plain word and a blank
plain_read : (line taken b : ℕ) (word rest : List ℕ) → is_plain word ≡ true → length word ≤ 65535 → is_blank b ≡ true → taken + length word < 4294967295
    → read Between line taken (word ++ b ∷ rest) ≡ with_word (record { bytes = word; line = line }) (read Between (line + line_feeds (word ++ b ∷ [])) (taken + length word + 1) rest)
unfolding read
plain_read line taken b word rest plain short blank fits =
    let parts = plain_parts word plain in
    let whole = plain_whole line taken word parts.0 parts.1 short (omega arith) (b ∷ rest) in
    let more : eqb (taken + length word) 4294967295 ≡ false = grind (arith, nat_tests) in
    let none : line_feeds word ≡ 0 = no_line_feeds word (plain_lines word parts.1) in
    let behind : line_after line b ≡ line + line_feeds (word ++ b ∷ []) = omega (arith, line_feeds-append word (b ∷ []), none, line_feeds-cons line b []) in
    rw (← whole, blank, more) (ap (with_word (record { bytes = word; line = line })) (same_place Between _ _ _ _ rest behind refl))

-- a quoted word and a blank
quoted_read : (line taken b : ℕ) (inside rest : List ℕ) → list_all (λ c. not (is_quote c)) inside ≡ true → length (quoted inside) ≤ 65535 → is_blank b ≡ true → taken + length (quoted inside) < 4294967295
    → read Between line taken (quoted inside ++ b ∷ rest) ≡ with_word (record { bytes = quoted inside; line = line }) (read Between (line + line_feeds (quoted inside ++ b ∷ [])) (taken + length (quoted inside) + 1) rest)
quoted_read line taken b inside rest all short blank fits =
    let word = quoted inside in
    let m = length inside in
    let size : length word ≡ suc m + 1 = omega (arith, length-append inside (34 ∷ [])) in
    let front : list_all (λ c. not (is_quote c)) (take m (drop 1 word)) ≡ true = rw (take_at inside (34 ∷ []) m refl) all in
    let quote : is_quote (get_or word (suc m) 0) ≡ true = rw (get_or_at inside 34 [] 0 m refl) refl in
    let whole = quoted_ended line taken m (suc m) word refl refl front (omega (arith, size)) quote (omega (arith, size)) (omega (arith, fits)) (b ∷ rest) in
    let read_word = rw (take_all (suc m + 1) word (omega (arith, size)), drop_all (suc m + 1) word (omega (arith, size))) at whole in
    sym read_word
    ∙ ap (with_word (record { bytes = word; line = line }))
    (blank_read (line + line_feeds word) (taken + (suc m + 1)) b rest blank (omega (arith, size))
    ∙ same_place Between _ _ _ _ rest (line_behind line b word) (omega (arith, size)))

-- a word and a blank
word_read : (line taken b : ℕ) (word rest : List ℕ) → IsWord word → length word ≤ 65535 → is_blank b ≡ true → taken + length word < 4294967295
    → read Between line taken (word ++ b ∷ rest) ≡ with_word (record { bytes = word; line = line }) (read Between (line + line_feeds (word ++ b ∷ [])) (taken + length word + 1) rest)
word_read line taken b word rest (inl plain) short blank fits = plain_read line taken b word rest plain short blank fits
word_read line taken b word rest (inr q) short blank fits =
    subst (λ (w : List ℕ). length w ≤ 65535 → taken + length w < 4294967295
    → read Between line taken (w ++ b ∷ rest) ≡ with_word (record { bytes = w; line = line }) (read Between (line + line_feeds (w ++ b ∷ [])) (taken + length w + 1) rest))
    (sym q.1) (λ s f. quoted_read line taken b q.0 rest q.2 s blank f) short fits

-- words with a blank behind each, from any place between words on
spaced_read : (line taken : ℕ) (ps : List (List ℕ × ℕ)) → AllByRecursion IsSpaced ps → taken + length (spaced ps) ≤ 4294967295
    → read Between line taken (spaced ps) ≡ record { words = lined line ps; ending = Done (line + line_feeds (spaced ps)) }
unfolding read
spaced_read line taken [] h fits = rw add-zero refl
spaced_read line taken (p ∷ ps) h fits =
    let behind = spaced ps in
    let size = length-append p.0 (p.1 ∷ behind) in
    let next = line + line_feeds (p.0 ++ p.1 ∷ []) in
    let word : Word = record { bytes = p.0; line = line } in
    let lines : next + line_feeds behind ≡ line + line_feeds (p.0 ++ p.1 ∷ behind) = omega (arith, line_feeds-append (p.0 ++ p.1 ∷ []) behind, ap line_feeds (append_assoc p.0 (p.1 ∷ []) behind)) in
    word_read line taken p.1 p.0 behind h.0.0 h.0.1 h.0.2 (omega (arith, size))
    ∙ ap (with_word word) (spaced_read next (taken + length p.0 + 1) ps h.1 (omega (arith, size)))
    ∙ ap (λ (n : ℕ). record { words = word ∷ lined next ps; ending = Done n }) lines

pub spaced_words_read : SpacedWordsAreRead
spaced_words_read ps h fits = spaced_read 1 0 ps h (omega arith)
