-- Terminals of a master's line that are taken one after another.
use Rattle.std.proofs.Common.{◌≡◌, ◌≢◌, ◌<◌, true, false, List, [], ◌∷◌, ◌++◌, ℕ, Option, Some, None, Result, Ok, Err, length, refl, sym, ap, subst, ◌∙◌, append_assoc, append-nil, arith}
use Rattle.std.specs.Borrow.{Bor}
use Rattle.std.specs.Option.{is_some}
use Rattle.std.specs.Result.{IsErr, IsErrAnd}
use Rattle.odb_base.specs.Direction.{direction_word, directions}
use Rattle.odb_base.specs.declared.codes.direction.Direction.{Direction}
use Rattle.library.specs.declared.mterm.MTerm.{MTerm}
use Rattle.script_words.specs.declared.fault.LineFault.{LineFault}
use Rattle.script_words.specs.declared.fault.LineFault.TheVariants as fault
use Rattle.script_words.specs.Commands.{plain_terminal, terminal_at, terminals}
use Rattle.script_words.specs.Answers.{IsAnswer, IsCopied}
use Rattle.script_words.specs.Forms.{◌>>=◌, Taken, Words, direction_at, form_at, formed, name_named, value_named, word_at}
use Rattle.script_words.specs.Words.{IsFirstWord, words_of}

-- some terminals, and others behind them
abbrev pub onto : List MTerm → Result (List MTerm) LineFault → Result (List MTerm) LineFault
onto some (Ok others) = Ok (some ++ others)
onto some (Err why) = Err why

-- a terminal of what its two words mean
abbrev both : Option (List ℕ) → Option Direction → Words → Taken MTerm
both (Some name) (Some direction) words = Ok (plain_terminal name direction, words)
both (Some name) None words = Err fault.BadWords
both None direction words = Err fault.BadWords

-- a terminal, where its name is formed
abbrev taking : Option (List ℕ) → Words → Taken MTerm
taking name words = do
  (name, words) ← formed name words
  (direction, words) ← direction_at words
  Ok (plain_terminal name direction, words)

-- and its direction
abbrev directing : List ℕ → Option Direction → Words → Taken MTerm
directing name direction words = do
  (direction, words) ← formed direction words
  Ok (plain_terminal name direction, words)

direction-is : (name : List ℕ) (direction : Option Direction) (words : Words) → directing name direction words ≡ both (Some name) direction words
direction-is name None words = refl
direction-is name (Some direction) words = refl

name-is : (name : Option (List ℕ)) (direction : List ℕ) (words : Words)
    → taking name (direction ∷ words) ≡ both name (value_named directions direction_word direction) words
unfolding form_at word_at
name-is None direction words = refl
name-is (Some name) direction words = direction-is name (value_named directions direction_word direction) words

terminal-is : (name direction : List ℕ) (words : Words)
    → terminal_at (name ∷ direction ∷ words) ≡ both (name_named name) (value_named directions direction_word direction) words
unfolding terminal_at form_at word_at
terminal-is name direction words = name-is (name_named name) direction words

alone-is : (name : Option (List ℕ)) → taking name [] ≡ Err fault.BadWords
unfolding form_at word_at
alone-is None = refl
alone-is (Some name) = refl

terminal-alone : (name : List ℕ) → terminal_at (name ∷ []) ≡ Err fault.BadWords
unfolding terminal_at form_at word_at
terminal-alone name = alone-is (name_named name)

-- the words that are left
abbrev left : Taken MTerm → Words
left (Ok (first, rest)) = rest
left (Err why) = []

-- what is left behind a terminal
both-rest : (name : Option (List ℕ)) (direction : Option Direction) (words rest : Words) (first : MTerm)
    → both name direction words ≡ Ok (first, rest) → rest ≡ words
both-rest (Some name) (Some direction) words rest first h = sym (ap left h)
both-rest (Some name) None words rest first h = cc
both-rest None direction words rest first h = cc

-- a terminal in front of others
in-front : (first : MTerm) (others : Result (List MTerm) LineFault)
    → (others >>= λ others. Ok (first ∷ others)) ≡ onto (first ∷ []) others
in-front first (Ok others) = refl
in-front first (Err why) = refl

-- a terminal is taken, and then the others
pub terminal-taken : (words rest : Words) (first : MTerm) → terminal_at words ≡ Ok (first, rest)
    → (terminals words ≡ onto (first ∷ []) (terminals rest)) × (length rest < length words)
unfolding terminals terminal_at form_at word_at
terminal-taken [] rest first h = cc
terminal-taken (name ∷ []) rest first h = let e = sym (terminal-alone name) ∙ h in cc
terminal-taken (name ∷ direction ∷ words) rest first h =
    let is : rest ≡ words = both-rest (name_named name) (value_named directions direction_word direction) words rest first (sym (terminal-is name direction words) ∙ h) in
    (rw (h, is) (in-front first (terminals words)), rw is (omega arith))

-- a terminal is refused, and so are all
pub terminal-refused : (words : Words) (why : LineFault) → words ≢ [] → IsCopied {A = MTerm} (terminal_at words) (Err why) → IsAnswer (Err why) (terminals words)
unfolding terminals
terminal-refused [] why some h = absurd (some refl)
terminal-refused (name ∷ []) fault.Memory some h = tt
terminal-refused (name ∷ []) fault.UnknownCommand some h = let e = sym (terminal-alone name) ∙ h in cc
terminal-refused (name ∷ []) fault.BadWords some h = refl
terminal-refused (name ∷ direction ∷ words) fault.Memory some h = tt
terminal-refused (name ∷ direction ∷ words) fault.UnknownCommand some h = rw h refl
terminal-refused (name ∷ direction ∷ words) fault.BadWords some h = rw h refl

-- what others are refused for, some with them are refused for
pub onto-refused : (some : List MTerm) (others : Result (List MTerm) LineFault) (why : LineFault) → IsAnswer (Err why) others → IsAnswer (Err why) (onto some others)
onto-refused some others fault.Memory h = tt
onto-refused some others fault.UnknownCommand h = rw h refl
onto-refused some others fault.BadWords h = rw h refl

-- a refusal that is handed on
pub handed-on : (result answer : Result (List MTerm) LineFault) (why : LineFault) → IsErr result × IsErrAnd result (λ e. e ≡ why) → IsAnswer (Err why) answer → IsAnswer result answer
handed-on (Ok x) answer why (h, k) is = absurd k
handed-on (Err e) answer why (h, k) is = subst (λ e. IsAnswer (Err e) answer) (sym k) is

-- terminals behind one more
pub onto-more : (some : List MTerm) (first : MTerm) (others : Result (List MTerm) LineFault) → onto (some ++ first ∷ []) others ≡ onto some (onto (first ∷ []) others)
onto-more some first (Ok others) = ap Ok (append_assoc some (first ∷ []) others)
onto-more some first (Err why) = refl

-- no words are left, and no terminals
pub none-left : (some : List MTerm) (words : Words) → words ≡ [] → onto some (terminals words) ≡ Ok some
unfolding terminals
none-left some words none = rw none (ap Ok (append-nil some))

-- a line with a first word has words
pub has-word : (line : List ℕ) (first : Option (Bor (List ℕ) × Bor (List ℕ))) → IsFirstWord line first → true ≡ is_some first → words_of line ≢ []
has-word line None first some = cc
has-word line (Some (word, rest)) first some = λ e. (let k = sym first ∙ e in cc)

-- a line without a first word has none
pub has-none : (line : List ℕ) (first : Option (Bor (List ℕ) × Bor (List ℕ))) → IsFirstWord line first → false ≡ is_some first → words_of line ≡ []
has-none line None first none = first
has-none line (Some (word, rest)) first none = cc
