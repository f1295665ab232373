-- How the words of a line follow from its first word.
use Rattle.std.proofs.Common.{◌≡◌, ◌≢◌, ◌||◌, Bool, true, false, List, [], ◌∷◌, ◌++◌, ℕ, zero, suc, take, drop, refl, sym, ap, ◌∙◌}
use Rattle.std.specs.List.{list_any}
use Rattle.std.proofs.lemmas.Bool.{false≢true}
use Rattle.std.proofs.lemmas.List.{take-append-drop}
use Rattle.script_words.specs.Words.{begins_blank, is_blank, onto_first, words_of}

-- none of two tests passes
pub neither : (a b : Bool) → (a || b) ≡ false → (a ≡ false) × (b ≡ false)
neither true b h = cc
neither false b h = (refl, h)

-- a byte in front of a word belongs to it
words-onto : (b c : ℕ) (bytes : List ℕ) → is_blank b ≡ false → is_blank c ≡ false → words_of (b ∷ c ∷ bytes) ≡ onto_first b (words_of (c ∷ bytes))
words-onto b c bytes solid_b solid_c = rw (solid_b, solid_c) refl

-- a part without blanks, and a blank or nothing behind it
pub words-first : (b : ℕ) (word rest : List ℕ) → list_any is_blank (b ∷ word) ≡ false → begins_blank rest ≡ true → words_of (b ∷ word ++ rest) ≡ (b ∷ word) ∷ words_of rest
words-first b [] rest whole ends = rw ((neither (is_blank b) _ whole).0, ends) refl
words-first b (c ∷ word) rest whole ends =
    let parts = neither (is_blank b) (list_any is_blank (c ∷ word)) whole in
    let solid_c = (neither (is_blank c) (list_any is_blank word) parts.1).0 in
    words-onto b c (word ++ rest) parts.0 solid_c ∙ ap (onto_first b) (words-first c word rest parts.1 ends)

-- the same, where the part is the front of a line
pub first_word : (line : List ℕ) (end : ℕ) → line ≢ [] → begins_blank line ≡ false → list_any is_blank (take end line) ≡ false → begins_blank (drop end line) ≡ true → words_of line ≡ take end line ∷ words_of (drop end line)
first_word [] end some begins whole ends = absurd (some refl)
first_word (b ∷ bytes) zero some begins whole ends = absurd (false≢true (sym begins ∙ ends))
first_word (b ∷ bytes) (suc end) some begins whole ends =
    ap (λ l. words_of (b ∷ l)) (sym (take-append-drop end bytes)) ∙ words-first b (take end bytes) (drop end bytes) whole ends
