-- What is read over a run of bytes that leave the reading at one sort of place.
use Rattle.std.proofs.Common.{◌≡◌, ℕ, suc, ◌+◌, ◌≤◌, ◌<◌, Bool, true, false, not, cond, ◌||◌, List, [], ◌∷◌, ◌++◌, length, length-append, eqb, refl, ap, ◌∙◌, arith, append_assoc}
use Rattle.std.proofs.lemmas.Bool.Decides.{nat_tests}
use Rattle.std.proofs.lemmas.List.{append-nil}
use Rattle.std.proofs.lemmas.List.Sums.{sum_by-cons}
use Rattle.std.specs.List.{list_all}
use Rattle.ld_words.proofs.Places.{both, denied}
use Rattle.ld_words.specs.Reading.{Between, Comment, Place, Plain, Quoted, is_blank, is_line_feed, is_quote, line_after, line_feeds, read}

-- neither test holds
neither : (a b : Bool) → (a || b) ≡ false → (a ≡ false) × (b ≡ false)
neither true b h = cc
neither false b h = (refl, h)

-- a number below another is not it
differs : (n m : ℕ) → n < m → eqb n m ≡ false
differs n m h = grind (arith, nat_tests)

-- a byte that parts no words ends no line
pub no_line_feed : (b : ℕ) → is_blank b ≡ false → is_line_feed b ≡ false
no_line_feed b h = (neither _ _ h).1

-- a byte more and its line
pub line_feeds-cons : (line b : ℕ) (bytes : List ℕ) → line_after line b + line_feeds bytes ≡ line + line_feeds (b ∷ bytes)
line_feeds-cons line b bytes =
    rw (sum_by-cons (λ x. cond (is_line_feed x) 1 0) b bytes)
    (elim (is_line_feed b) as (λ t. cond t (line + 1) line + line_feeds bytes ≡ line + (cond t 1 0 + line_feeds bytes)) [ true ↦ omega arith | false ↦ omega arith ])

-- bytes none of which ends a line
pub no_line_feeds : (bytes : List ℕ) → list_all (λ b. not (is_line_feed b)) bytes ≡ true → line_feeds bytes ≡ 0
no_line_feeds [] h = refl
no_line_feeds (b ∷ bytes) h =
    let parts = both (not (is_line_feed b)) (list_all (λ x. not (is_line_feed x)) bytes) h in
    sum_by-cons (λ x. cond (is_line_feed x) 1 0) b bytes ∙ (rw (denied _ parts.0, no_line_feeds bytes parts.1) refl)

-- bytes none of which parts words
pub plain_lines : (bytes : List ℕ) → list_all (λ b. not (is_blank b)) bytes ≡ true → list_all (λ b. not (is_line_feed b)) bytes ≡ true
plain_lines [] h = refl
plain_lines (b ∷ bytes) h =
    let parts = both (not (is_blank b)) (list_all (λ x. not (is_blank x)) bytes) h in
    rw (no_line_feed b (denied _ parts.0), plain_lines bytes parts.1) refl

-- one place by two counts
pub same_place : (place : Place) (line line' taken taken' : ℕ) (bytes : List ℕ) → line ≡ line' → taken ≡ taken'
    → read place line taken bytes ≡ read place line' taken' bytes
same_place place line line' taken taken' bytes e f = ap (λ n. read place n taken bytes) e ∙ ap (λ n. read place line' n bytes) f

-- the text is not full before a byte of a run that fits
more_fit : (taken n : ℕ) → taken + suc n ≤ 4294967295 → eqb taken 4294967295 ≡ false
more_fit taken n fits = differs taken 4294967295 (omega arith)

-- blanks
pub read-blanks : (line taken : ℕ) (run rest : List ℕ) → list_all is_blank run ≡ true → taken + length run ≤ 4294967295
    → read Between line taken (run ++ rest) ≡ read Between (line + line_feeds run) (taken + length run) rest
unfolding read
read-blanks line taken [] rest h fits = same_place Between line (line + 0) taken (taken + 0) rest (omega arith) (omega arith)
read-blanks line taken (b ∷ run) rest h fits =
    let parts = both (is_blank b) (list_all is_blank run) h in
    rw (parts.0, more_fit taken (length run) fits)
    (read-blanks (line_after line b) (taken + 1) run rest parts.1 (omega arith)
    ∙ same_place Between _ _ _ _ rest (line_feeds-cons line b run) (omega arith))

-- the bytes of a comment
pub read-comment : (line taken : ℕ) (run rest : List ℕ) → list_all (λ b. not (is_line_feed b)) run ≡ true → taken + length run ≤ 4294967295
    → read Comment line taken (run ++ rest) ≡ read Comment line (taken + length run) rest
unfolding read
read-comment line taken [] rest h fits = same_place Comment line line taken (taken + 0) rest refl (omega arith)
read-comment line taken (b ∷ run) rest h fits =
    let parts = both (not (is_line_feed b)) (list_all (λ x. not (is_line_feed x)) run) h in
    let f : is_line_feed b ≡ false = denied _ parts.0 in
    rw (f, more_fit taken (length run) fits)
    (read-comment line (taken + 1) run rest parts.1 (omega arith)
    ∙ same_place Comment _ _ _ _ rest refl (omega arith))

-- the bytes of a plain word
pub read-plain : (at : ℕ) (bytes : List ℕ) (line taken : ℕ) (run rest : List ℕ) → list_all (λ b. not (is_blank b)) run ≡ true
    → length bytes + length run ≤ 65535 → taken + length run ≤ 4294967295
    → read (Plain (record { bytes = bytes; line = at })) line taken (run ++ rest)
    ≡ read (Plain (record { bytes = bytes ++ run; line = at })) line (taken + length run) rest
unfolding read
read-plain at bytes line taken [] rest h short fits =
    rw (append-nil bytes) (same_place (Plain (record { bytes = bytes; line = at })) line line taken (taken + 0) rest refl (omega arith))
read-plain at bytes line taken (b ∷ run) rest h short fits =
    let parts = both (not (is_blank b)) (list_all (λ x. not (is_blank x)) run) h in
    let f : is_blank b ≡ false = denied _ parts.0 in
    let room : eqb (length bytes) 65535 ≡ false = differs (length bytes) 65535 (omega arith) in
    rw (f, room, more_fit taken (length run) fits, no_line_feed b f)
    (read-plain at (bytes ++ b ∷ []) line (taken + 1) run rest parts.1 (omega (arith, length-append bytes (b ∷ []))) (omega arith)
    ∙ ap (λ l. read (Plain (record { bytes = l; line = at })) line (taken + 1 + length run) rest) (append_assoc bytes (b ∷ []) run)
    ∙ same_place (Plain (record { bytes = bytes ++ b ∷ run; line = at })) _ _ _ _ rest refl (omega arith))

-- the bytes of a quoted word
pub read-quoted : (at : ℕ) (bytes : List ℕ) (line taken : ℕ) (run rest : List ℕ) → list_all (λ b. not (is_quote b)) run ≡ true
    → length bytes + length run ≤ 65535 → taken + length run ≤ 4294967295
    → read (Quoted (record { bytes = bytes; line = at })) line taken (run ++ rest)
    ≡ read (Quoted (record { bytes = bytes ++ run; line = at })) (line + line_feeds run) (taken + length run) rest
unfolding read
read-quoted at bytes line taken [] rest h short fits =
    rw (append-nil bytes) (same_place (Quoted (record { bytes = bytes; line = at })) line (line + 0) taken (taken + 0) rest (omega arith) (omega arith))
read-quoted at bytes line taken (b ∷ run) rest h short fits =
    let parts = both (not (is_quote b)) (list_all (λ x. not (is_quote x)) run) h in
    let room : eqb (length bytes) 65535 ≡ false = differs (length bytes) 65535 (omega arith) in
    rw (room, denied _ parts.0, more_fit taken (length run) fits)
    (read-quoted at (bytes ++ b ∷ []) (line_after line b) (taken + 1) run rest parts.1 (omega (arith, length-append bytes (b ∷ []))) (omega arith)
    ∙ ap (λ l. read (Quoted (record { bytes = l; line = at })) (line_after line b + line_feeds run) (taken + 1 + length run) rest) (append_assoc bytes (b ∷ []) run)
    ∙ same_place (Quoted (record { bytes = bytes ++ b ∷ run; line = at })) _ _ _ _ rest (line_feeds-cons line b run) (omega arith))
