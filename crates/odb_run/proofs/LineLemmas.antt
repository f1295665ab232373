-- How the lines of a script follow from its first line.
use Rattle.std.proofs.Common.{◌≡◌, ◌==◌, ◌<◌, Bool, true, false, List, [], ◌∷◌, ◌++◌, ℕ, zero, suc, Option, None, Some, if◌then◌else◌, length, take, drop, get_or, eqb, inl, inr, refl, sym, ap, ◌∙◌, arith, add-one, drop-cons, length-append}
use Rattle.std.proofs.lemmas.Bool.{cases_Bool, eqb-true}
use Rattle.std.proofs.Math.Seq.{take-append_seam, take-length}
use Rattle.std.proofs.lemmas.List.{take-append-drop}
use Rattle.memchr.specs.Find.{IsFirstByte, is_byte}
use Rattle.script_words.proofs.WordLemmas.{neither}
use Rattle.odb_run.specs.Lines.{IsLineEnd, before_first, ended_lines, has_line_end, lines_of}
use Rattle.script_words.specs.Words.{onto_first}

-- a line, the LF that ends it, and the rest
pub lines-first : (line rest : List ℕ) → has_line_end line ≡ false → lines_of (line ++ 10 ∷ rest) ≡ line ∷ lines_of rest
lines-first [] rest whole = refl
lines-first (b ∷ line) rest whole =
    let parts = neither (eqb b 10) (has_line_end line) whole in
    rw parts.0 (ap (onto_first b) (lines-first line rest parts.1))

-- a last line without LF
pub lines-last : (b : ℕ) (line : List ℕ) → has_line_end (b ∷ line) ≡ false → lines_of (b ∷ line) ≡ (b ∷ line) ∷ []
lines-last b [] whole = rw (neither (eqb b 10) false whole).0 refl
lines-last b (c ∷ line) whole =
    let parts = neither (eqb b 10) (has_line_end (c ∷ line)) whole in
    rw parts.0 (ap (onto_first b) (lines-last c line parts.1))

-- what stands behind the last LF of these bytes, by the lines that end in those behind the first
behind : ℕ → List (List ℕ) → List ℕ → List ℕ
behind b [] part = b ∷ part
behind b (line ∷ lines) part = part

-- what stands behind the last LF
last-part : List ℕ → List ℕ
last-part [] = []
last-part (b ∷ bytes) = if b == 10 then last-part bytes else behind b (ended_lines bytes) (last-part bytes)

onto-part : (b : ℕ) (lines : List (List ℕ)) (part : List ℕ) → onto_first b (lines ++ part ∷ []) ≡ before_first b lines ++ behind b lines part ∷ []
unfolding behind
onto-part b [] part = refl
onto-part b (line ∷ lines) part = refl

-- with one LF more, the last part is a line too
lines-more : (bytes : List ℕ) → lines_of (bytes ++ 10 ∷ []) ≡ ended_lines bytes ++ last-part bytes ∷ []
unfolding last-part
lines-more [] = refl
lines-more (b ∷ bytes) = elim (cases_Bool (eqb b 10)) [
  | inl end ↦ rw end (ap (λ (lines : List (List ℕ)). [] ∷ lines) (lines-more bytes))
  | inr other ↦ rw other (ap (onto_first b) (lines-more bytes) ∙ onto-part b (ended_lines bytes) (last-part bytes))
]

-- lists that are equal with one more each are equal without
fronts : {A : Type 0} (xs ys : List A) (x y : A) → xs ++ x ∷ [] ≡ ys ++ y ∷ [] → xs ≡ ys
fronts xs ys x y same =
    let lengths : length xs ≡ length ys = omega (arith, ap length same, length-append xs (x ∷ []), length-append ys (y ∷ [])) in
    sym (take-append_seam xs (x ∷ [])) ∙ ap (λ n. take n (xs ++ x ∷ [])) lengths ∙ ap (take (length ys)) same ∙ take-append_seam ys (y ∷ [])

-- the lines that end in bytes, of which an unfinished line is left
pub lines-ended : (bytes line : List ℕ) (lines : List (List ℕ)) → has_line_end line ≡ false → ((rest : List ℕ) → lines_of (bytes ++ rest) ≡ lines ++ lines_of (line ++ rest)) → ended_lines bytes ≡ lines
lines-ended bytes line lines whole split =
    fronts (ended_lines bytes) lines (last-part bytes) line (sym (lines-more bytes) ∙ split (10 ∷ []) ∙ ap (λ (all : List (List ℕ)). lines ++ all) (lines-first line [] whole))

-- no byte before this place is an LF
no-line-end : (bytes : List ℕ) (at : ℕ) → ((k : ℕ) → k < at → eqb (get_or bytes k 0) 10 ≡ false) → has_line_end (take at bytes) ≡ false
no-line-end bytes zero none = refl
no-line-end [] (suc at) none = refl
no-line-end (b ∷ bytes) (suc at) none =
    let other : eqb b 10 ≡ false = none 0 (omega arith) in
    rw other (no-line-end bytes at (λ k lt. none (suc k) (omega arith)))

not-true : (b : Bool) → ¬ (b ≡ true) → b ≡ false
not-true true h = absurd (h refl)
not-true false h = refl

-- the first LF parts the bytes
pub line-end-found : (bytes : List ℕ) (at : Option ℕ) → IsFirstByte (is_byte 10) bytes at → IsLineEnd bytes at
line-end-found bytes None none =
    ap has_line_end (sym (take-length bytes)) ∙ no-line-end bytes (length bytes) (λ k lt. not-true _ (none k (omega arith) lt))
line-end-found bytes (Some at) found = (
  no-line-end bytes at (λ k lt. not-true _ (found.0.before k (omega arith) lt)),
  sym (take-append-drop at bytes)
      ∙ ap (λ l. take at bytes ++ l) (drop-cons bytes at 0 found.0.high ∙ rw add-one (ap (λ b. b ∷ drop (suc at) bytes) (eqb-true _ _ found.1))),
)
