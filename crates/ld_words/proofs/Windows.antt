-- The bytes of a window: after its first ones are used up, and after they are moved to the front and more are read behind them.
use Rattle.std.proofs.Common.{◌≡◌, ℕ, ◌+◌, ◌-◌, ◌≤◌, List, ◌++◌, length, take, drop, slice_range, Option, Some, None, Ok, refl, sym, ap, ◌∙◌, arith, append_assoc, length-append}
use Rattle.std.proofs.lemmas.List.{take_at, drop_at, take-append-le, drop-take, drop-drop, length-take-le, length-drop}
use Rattle.std.proofs.lemmas.Slice.{between_from_start}
use Rattle.odb_outside.specs.declared.fault.Failed.{Failed}
use Rattle.odb_outside.specs.Reading.{Reads}
use Rattle.ld_words.specs.Told.{SameIfTold, ahead}
use borrow.Rule.Slice.PartMut.{put_mid, post_of}
use lib.Seq.{take-add}

-- the length of a part
pub length-range : (xs : List ℕ) (start end : ℕ) → start ≤ end → end ≤ length xs → length (slice_range xs start end) ≡ end - start
length-range xs start end ordered within =
    length-take-le (end - start) (drop start xs) (omega (arith, length-drop start xs))

-- the part without its first bytes
pub skipped : (xs : List ℕ) (start end count : ℕ) → start ≤ end → end ≤ length xs → count ≤ length (slice_range xs start end)
    → slice_range xs (start + count) end ≡ drop count (slice_range xs start end)
skipped xs start end count ordered within le =
    let parts : end - start ≡ count + (end - (start + count)) = omega (arith, length-range xs start end ordered within) in
    sym (ap (λ j. drop count (take j (drop start xs))) parts ∙ drop-take count _ (drop start xs)
    ∙ ap (take (end - (start + count))) (drop-drop count start xs))

-- a buffer with bytes written behind its first ones
behind : (xs ys : List ℕ) (held k n : ℕ) → held ≤ length xs → n ≤ length ys
    → slice_range (put_mid held k xs ys) 0 (held + n) ≡ take held xs ++ take n ys
behind xs ys held k n within fits =
    let len = length-take-le held xs within in
    between_from_start (put_mid held k xs ys) (held + n)
    ∙ take-add held n (put_mid held k xs ys)
    ∙ (rw (take_at (take held xs) (ys ++ post_of held k xs) _ len, drop_at (take held xs) (ys ++ post_of held k xs) _ len, take-append-le n ys (post_of held k xs) fits) refl)

-- the length of such a buffer
pub length-put_mid : (xs ys : List ℕ) (held k : ℕ) → held + k ≤ length xs → length ys ≡ k → length (put_mid held k xs ys) ≡ length xs
length-put_mid xs ys held k fits len =
    omega (arith, length-append (take held xs) (ys ++ post_of held k xs), length-append ys (post_of held k xs), length-take-le held xs (omega arith), length-drop k (drop held xs), length-drop held xs)

-- some bytes stand at the front of the buffer, and others were written behind them
pub filled : (hand moved ys : List ℕ) (held k n : ℕ) → slice_range moved 0 held ≡ hand → held ≤ length moved → n ≤ length ys
    → slice_range (put_mid held k moved ys) 0 (held + n) ≡ hand ++ take n ys
filled hand moved ys held k n is within fits =
    behind moved ys held k n within fits ∙ ap (λ l. l ++ take n ys) (sym (between_from_start moved held) ∙ is)

-- the bytes at hand and those that are left are the same after a read
pub same_behind : (hand piece : List ℕ) (old new : Option (List ℕ)) (n : ℕ) → Reads {E = Failed} old new (Ok n) piece
    → SameIfTold (ahead hand old) (ahead (hand ++ take n piece) new)
same_behind hand piece None new n h = tt
same_behind hand piece (Some a) None n h = absurd h
same_behind hand piece (Some a) (Some b) n h = append_assoc hand (take n piece) b ∙ ap (λ l. hand ++ l) (sym h.0)
