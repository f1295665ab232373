-- Blanks, a comment or a word whose bytes are at hand.
use Rattle.std.proofs.Common.{◌≡◌, ℕ, suc, ◌+◌, ◌≤◌, ◌<◌, Bool, true, false, not, cond, ◌&&◌, List, [], ◌∷◌, ◌++◌, length, take, drop, get_or, eqb, refl, sym, ap, ◌∙◌, arith, add-zero, append_assoc}
use Rattle.std.proofs.lemmas.Bool.{eq-eqb, eqb-true}
use Rattle.std.proofs.lemmas.Bool.Decides.{nat_tests}
use Rattle.std.proofs.lemmas.List.{append-nil, drop_more, drop_all, length-take-le, take-append-drop, take_all, take_more}
use Rattle.std.proofs.lemmas.List.Folds.{list_all_more}
use Rattle.std.proofs.lemmas.List.Sums.{sum_by_push}
use Rattle.std.specs.List.{list_all}
use Rattle.ld_words.specs.declared.word.Word.{Word}
use Rattle.ld_words.specs.declared.word.WordFault.TheVariants as fault
use Rattle.ld_words.specs.Input.{BeginsComment, BeginsPlain, BeginsQuoted}
use Rattle.ld_words.specs.Reading.{Between, Comment, Ends, Goes, Long, Place, Plain, Quoted, Reading, faulty, is_blank, is_line_feed, is_quote, line_after, line_feeds, longer, read, reading_of, with_word, word_on}
use Rattle.ld_words.proofs.Places.{both, denied, front-shorter}
use Rattle.ld_words.proofs.Runs.{line_feeds-cons, read-blanks, read-comment, read-plain, read-quoted, same_place}

-- the first bytes, and then the others with what is left
split_at : (n : ℕ) (hand l : List ℕ) → hand ++ l ≡ take n hand ++ (drop n hand ++ l)
split_at n hand l = ap (λ x. x ++ l) (sym (take-append-drop n hand)) ∙ append_assoc (take n hand) (drop n hand) l

-- blanks
pub blanks_passed : (line taken n : ℕ) (hand : List ℕ) → list_all is_blank (take n hand) ≡ true → n ≤ length hand → taken + length hand ≤ 4294967295 → (l : List ℕ)
    → read Between (line + line_feeds (take n hand)) (taken + n) (drop n hand ++ l) ≡ read Between line taken (hand ++ l)
blanks_passed line taken n hand h within fits l =
    let len = length-take-le n hand within in
    sym (ap (read Between line taken) (split_at n hand l)
    ∙ read-blanks line taken (take n hand) (drop n hand ++ l) h (omega arith)
    ∙ same_place Between _ _ _ _ (drop n hand ++ l) refl (omega (arith, len)))

-- the bytes of a comment
pub comment_passed : (line taken n : ℕ) (hand : List ℕ) → list_all (λ b. not (is_line_feed b)) (take n hand) ≡ true → n ≤ length hand → taken + length hand ≤ 4294967295 → (l : List ℕ)
    → read Comment line (taken + n) (drop n hand ++ l) ≡ read Comment line taken (hand ++ l)
comment_passed line taken n hand h within fits l =
    let len = length-take-le n hand within in
    sym (ap (read Comment line taken) (split_at n hand l)
    ∙ read-comment line taken (take n hand) (drop n hand ++ l) h (omega arith)
    ∙ same_place Comment _ _ _ _ (drop n hand ++ l) refl (omega (arith, len)))

-- a number sign between words
pub comment_opened : (line taken : ℕ) (hand l : List ℕ) → BeginsComment hand → read Comment line taken (hand ++ l) ≡ read Between line taken (hand ++ l)
unfolding read
comment_opened line taken [] l h = absurd h
comment_opened line taken (b ∷ hand) l h = rw (eqb-true b 35 h) refl

-- the line of the comment ends
pub comment_ended : (line taken n : ℕ) (hand l : List ℕ) → n < length hand → is_line_feed (get_or hand n 0) ≡ true
    → read Between line taken (drop n hand ++ l) ≡ read Comment line taken (drop n hand ++ l)
unfolding read
comment_ended line taken n hand l within h = rw (drop_more hand n 0 within, eqb-true (get_or hand n 0) 10 h) refl

-- where a plain word begins
plain_begun : (line taken : ℕ) (hand l : List ℕ) → BeginsPlain hand → read (Plain (word_on line)) line taken (hand ++ l) ≡ read Between line taken (hand ++ l)
unfolding read
plain_begun line taken [] l h = absurd h
plain_begun line taken (b ∷ hand) l h = rw (h.0, h.1, h.2) refl

-- the bytes of a plain word
plain_read : (line taken n : ℕ) (hand : List ℕ) → BeginsPlain hand → list_all (λ b. not (is_blank b)) (take n hand) ≡ true → n ≤ length hand → n ≤ 65535 → taken + length hand ≤ 4294967295 → (l : List ℕ)
    → read (Plain (record { bytes = take n hand; line = line })) line (taken + n) (drop n hand ++ l) ≡ read Between line taken (hand ++ l)
plain_read line taken n hand begins h within short fits l =
    let len = length-take-le n hand within in
    sym (sym (plain_begun line taken hand l begins)
    ∙ ap (read (Plain (word_on line)) line taken) (split_at n hand l)
    ∙ read-plain line [] line taken (take n hand) (drop n hand ++ l) h (omega arith) (omega arith)
    ∙ same_place (Plain (record { bytes = take n hand; line = line })) _ _ _ _ (drop n hand ++ l) refl (omega (arith, len)))

-- a plain word before a blank
pub plain_ended : (line taken n : ℕ) (hand : List ℕ) → BeginsPlain hand → list_all (λ b. not (is_blank b)) (take n hand) ≡ true → n < length hand → is_blank (get_or hand n 0) ≡ true → n ≤ 65535 → taken + length hand ≤ 4294967295 → (l : List ℕ)
    → with_word (record { bytes = take n hand; line = line }) (read Between (line + 0) (taken + n) (drop n hand ++ l)) ≡ read Between line taken (hand ++ l)
unfolding read
plain_ended line taken n hand begins h within blank short fits l =
    let more : eqb (taken + n) 4294967295 ≡ false = grind (arith, nat_tests) in
    rw (add-zero, ← plain_read line taken n hand begins h (omega arith) short fits l, drop_more hand n 0 within, blank, more) refl

-- a plain word that is all that is at hand
pub plain_whole : (line taken : ℕ) (hand : List ℕ) → BeginsPlain hand → list_all (λ b. not (is_blank b)) hand ≡ true → length hand ≤ 65535 → taken + length hand ≤ 4294967295 → (l : List ℕ)
    → read (Plain (record { bytes = hand; line = line })) line (taken + length hand) l ≡ read Between line taken (hand ++ l)
plain_whole line taken hand begins h short fits l =
    sym (sym (plain_begun line taken hand l begins) ∙ read-plain line [] line taken hand l h (omega (arith, short)) fits)

-- a plain word at the end of the text
pub plain_last : (line taken : ℕ) (hand : List ℕ) → BeginsPlain hand → list_all (λ b. not (is_blank b)) hand ≡ true → length hand ≤ 65535 → taken + length hand ≤ 4294967295
    → with_word (record { bytes = take (length hand) hand; line = line }) (read Between (line + 0) (taken + length hand) (drop (length hand) hand ++ [])) ≡ read Between line taken hand
unfolding read
plain_last line taken hand begins h short fits =
    rw (take_all (length hand) hand (omega arith), drop_all (length hand) hand (omega arith), add-zero)
    (plain_whole line taken hand begins h short fits [] ∙ ap (read Between line taken) (append-nil hand))

-- a plain word that is too long
pub plain_too_long : (limit line taken n : ℕ) (hand : List ℕ) → limit ≡ 65535 → BeginsPlain hand → list_all (λ b. not (is_blank b)) (take n hand) ≡ true → limit < n → n ≤ length hand → taken + length hand ≤ 4294967295 → (l : List ℕ)
    → faulty (fault.LongWord line) ≡ read Between line taken (hand ++ l)
unfolding read
plain_too_long limit line taken n hand is begins h long within fits l =
    let p : ℕ → Bool = λ b. not (is_blank b) in
    let inside : limit < length hand = omega arith in
    let first = front-shorter p limit n hand (omega arith) h in
    let next = both (list_all p (take limit hand)) (p (get_or hand limit 0)) (sym (list_all_more p hand limit 0 inside) ∙ front-shorter p (limit + 1) n hand (omega arith) h) in
    let full : eqb (length (take limit hand)) 65535 ≡ true = eq-eqb _ _ (length-take-le limit hand (omega arith) ∙ is) in
    let word = plain_read line taken limit hand begins first (omega arith) (omega (arith, is)) fits l in
    rw (← word, drop_more hand limit 0 inside, denied (is_blank (get_or hand limit 0)) next.1, full) refl

-- one byte too many for a text, behind a plain word or not
past_plain_by : (blank full : Bool) (word : Word) (line : ℕ) (place : Place) (next : Place → Reading)
    → faulty (cond (not blank && full) (fault.LongWord word.line) (fault.TooLong line)) ≡ reading_of (cond blank (Ends word) (cond full (Long word) (Goes place))) line 4294967295 next
past_plain_by true full word line place next = refl
past_plain_by false true word line place next = refl
past_plain_by false false word line place next = refl

-- a plain word, and then one byte too many
pub plain_past : (line taken b : ℕ) (hand : List ℕ) → BeginsPlain hand → list_all (λ b. not (is_blank b)) hand ≡ true → length hand ≤ 65535 → taken + length hand ≡ 4294967295 → (l : List ℕ)
    → faulty (cond (not (is_blank b) && eqb (length hand) 65535) (fault.LongWord line) (fault.TooLong line)) ≡ read Between line taken (hand ++ b ∷ [] ++ l)
unfolding read
plain_past line taken b hand begins h short full l =
    let word : Word = record { bytes = hand; line = line } in
    past_plain_by (is_blank b) (eqb (length hand) 65535) word line (Plain (longer word (b ∷ []))) (λ next. read next (line_after line b) (4294967295 + 1) l)
    ∙ ap (λ n. read (Plain word) line n (b ∷ l)) (sym full)
    ∙ plain_whole line taken hand begins h short (omega arith) (b ∷ l)
    ∙ ap (read Between line taken) (sym (append_assoc hand (b ∷ []) l))

-- where a quoted word begins
quoted_begun : (line taken : ℕ) (hand l : List ℕ) → BeginsQuoted hand → taken < 4294967295
    → read (Quoted (record { bytes = take 1 hand; line = line })) line (taken + 1) (drop 1 hand ++ l) ≡ read Between line taken (hand ++ l)
unfolding read
quoted_begun line taken [] l h more = absurd h
quoted_begun line taken (b ∷ hand) l h more =
    let e : eqb taken 4294967295 ≡ false = grind (arith, nat_tests) in
    rw (eqb-true b 34 h, e) refl

-- the bytes of a quoted word, of which m stand behind its first quote
quoted_read : (line taken m : ℕ) (hand : List ℕ) → BeginsQuoted hand → list_all (λ b. not (is_quote b)) (take m (drop 1 hand)) ≡ true → m < length hand → m < 65535 → taken + length hand ≤ 4294967295 → (l : List ℕ)
    → read (Quoted (record { bytes = take (suc m) hand; line = line })) (line + line_feeds (take (suc m) hand)) (taken + suc m) (drop (suc m) hand ++ l) ≡ read Between line taken (hand ++ l)
quoted_read line taken m [] begins h within short fits l = absurd begins
quoted_read line taken m (b ∷ hand) begins h within short fits l =
    let len = length-take-le m hand (omega arith) in
    let lines : line + line_feeds (take m hand) ≡ line + line_feeds (b ∷ take m hand) = rw (eqb-true b 34 begins) (line_feeds-cons line 34 (take m hand)) in
    sym (sym (quoted_begun line taken (b ∷ hand) l begins (omega arith))
    ∙ ap (read (Quoted (record { bytes = b ∷ []; line = line })) line (taken + 1)) (split_at m hand l)
    ∙ read-quoted line (b ∷ []) line (taken + 1) (take m hand) (drop m hand ++ l) h (omega arith) (omega arith)
    ∙ same_place (Quoted (record { bytes = b ∷ take m hand; line = line })) _ _ _ _ (drop m hand ++ l) lines (omega (arith, len)))

-- a quoted word that ends
pub quoted_ended : (line taken m k : ℕ) (hand : List ℕ) → k ≡ suc m → BeginsQuoted hand → list_all (λ b. not (is_quote b)) (take m (drop 1 hand)) ≡ true → k < length hand → is_quote (get_or hand k 0) ≡ true → k + 1 ≤ 65535 → taken + length hand ≤ 4294967295 → (l : List ℕ)
    → with_word (record { bytes = take (k + 1) hand; line = line }) (read Between (line + line_feeds (take (k + 1) hand)) (taken + (k + 1)) (drop (k + 1) hand ++ l)) ≡ read Between line taken (hand ++ l)
unfolding read
quoted_ended line taken m k hand is begins h within quote short fits l =
    let front = take k hand in
    let word = rw (sym is) at (quoted_read line taken m hand begins h (omega arith) (omega arith) fits l) in
    let q = eqb-true (get_or hand k 0) 34 quote in
    let room : eqb (length front) 65535 ≡ false = let len = length-take-le k hand (omega arith) in grind (arith, nat_tests, len) in
    let more : eqb (taken + k) 4294967295 ≡ false = grind (arith, nat_tests) in
    let lines : line + line_feeds (front ++ 34 ∷ []) ≡ line + line_feeds front = omega (arith, sum_by_push (λ x. cond (is_line_feed x) 1 0) front 34) in
    rw (take_more hand k 0 within, q, ← word, drop_more hand k 0 within, q, room, more)
    (ap (with_word (record { bytes = front ++ 34 ∷ []; line = line })) (same_place Between _ _ _ _ (drop (k + 1) hand ++ l) lines (omega arith)))

-- a quoted word that is too long
pub quoted_too_long : (limit line taken m : ℕ) (hand : List ℕ) → suc limit ≡ 65535 → BeginsQuoted hand → list_all (λ b. not (is_quote b)) (take m (drop 1 hand)) ≡ true → limit ≤ m → suc limit < length hand → taken + length hand ≤ 4294967295 → (l : List ℕ)
    → faulty (fault.LongWord line) ≡ read Between line taken (hand ++ l)
unfolding read
quoted_too_long limit line taken m hand is begins h long within fits l =
    let p : ℕ → Bool = λ b. not (is_quote b) in
    let first = front-shorter p limit m (drop 1 hand) long h in
    let full : eqb (length (take (suc limit) hand)) 65535 ≡ true = eq-eqb _ _ (length-take-le (suc limit) hand (omega arith) ∙ is) in
    let word = quoted_read line taken limit hand begins first (omega arith) (omega (arith, is)) fits l in
    rw (← word, drop_more hand (suc limit) 0 within, full) refl

-- a quoted word that the text ends within
pub quoted_unended : (line taken m : ℕ) (hand : List ℕ) → BeginsQuoted hand → list_all (λ b. not (is_quote b)) (take m (drop 1 hand)) ≡ true → length hand ≡ suc m → length hand ≤ 65535 → taken + length hand ≤ 4294967295
    → faulty (fault.OpenQuote line) ≡ read Between line taken hand
unfolding read
quoted_unended line taken m hand begins h is short fits =
    let word = quoted_read line taken m hand begins h (omega arith) (omega arith) fits [] in
    ap (λ (x : List ℕ). read (Quoted (record { bytes = take (suc m) hand; line = line })) (line + line_feeds (take (suc m) hand)) (taken + suc m) (x ++ [])) (sym (drop_all (suc m) hand (omega arith)))
    ∙ word ∙ ap (read Between line taken) (append-nil hand)

-- one byte too many for a text, within a quoted word
past_quoted_by : (quote full : Bool) (word longer : Word) (line : ℕ) (next : Place → Reading)
    → faulty (cond full (fault.LongWord word.line) (fault.TooLong line)) ≡ reading_of (cond full (Long word) (cond quote (Ends longer) (Goes (Quoted longer)))) line 4294967295 next
past_quoted_by quote true word longer line next = refl
past_quoted_by true false word longer line next = refl
past_quoted_by false false word longer line next = refl

-- the bytes of a quoted word, and then one byte too many
pub quoted_past : (line taken b m : ℕ) (hand : List ℕ) → BeginsQuoted hand → list_all (λ b. not (is_quote b)) (take m (drop 1 hand)) ≡ true → length hand ≡ suc m → length hand ≤ 65535 → taken + length hand ≡ 4294967295 → (l : List ℕ)
    → faulty (cond (eqb (length hand) 65535) (fault.LongWord line) (fault.TooLong (line + line_feeds hand))) ≡ read Between line taken (hand ++ b ∷ [] ++ l)
unfolding read
quoted_past line taken b m hand begins h is short full l =
    let word : Word = record { bytes = hand; line = line } in
    let all = take_all (suc m) hand (omega arith) in
    let none = drop_all (suc m) hand (omega arith) in
    let at : taken + suc m ≡ 4294967295 = omega arith in
    past_quoted_by (is_quote b) (eqb (length hand) 65535) word (longer word (b ∷ [])) (line + line_feeds hand) (λ next. read next (line_after (line + line_feeds hand) b) (4294967295 + 1) l)
    ∙ ap (λ n. read (Quoted word) (line + line_feeds hand) n (b ∷ l)) (sym at)
    ∙ (rw (all, none) at (quoted_read line taken m hand begins h (omega arith) (omega arith) (omega arith) (b ∷ l)))
    ∙ ap (read Between line taken) (sym (append_assoc hand (b ∷ []) l))
