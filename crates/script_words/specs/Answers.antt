-- What calls that read lines answer.
use Rattle.std.specs.Prelude.{◌≡◌, List, ℕ, Option, None, Some, Result, Ok, Err, ⊤}
use Rattle.std.specs.Borrow.{Bor}
use Rattle.script_words.specs.declared.fault.LineFault.{LineFault}
use Rattle.script_words.specs.declared.fault.LineFault.TheVariants as fault
use Rattle.script_words.specs.Forms.{Taken}
use Rattle.script_words.specs.Words.{words_of}

-- The call took this, and the words that are left are behind it; or it is the same fault.
abbrev pub IsTaken : {A : Type 0} → Taken A → Result (A × Bor (List ℕ)) LineFault → Type 0
IsTaken taken (Ok (x, rest)) = taken ≡ Ok (x, words_of rest.now)
IsTaken taken (Err why) = taken ≡ Err why

-- The same of a word that is left where it stands.
abbrev pub IsWordTaken : Taken (List ℕ) → Result (Bor (List ℕ) × Bor (List ℕ)) LineFault → Type 0
IsWordTaken taken (Ok (word, rest)) = taken ≡ Ok (word.now, words_of rest.now)
IsWordTaken taken (Err why) = taken ≡ Err why

-- The same of something that is copied: or there is no memory, which says nothing.
abbrev pub IsCopied : {A : Type 0} → Taken A → Result (A × Bor (List ℕ)) LineFault → Type 0
IsCopied taken (Err fault.Memory) = ⊤
IsCopied taken (Err fault.UnknownCommand) = taken ≡ Err fault.UnknownCommand
IsCopied taken (Err fault.BadWords) = taken ≡ Err fault.BadWords
IsCopied taken (Ok (x, rest)) = taken ≡ Ok (x, words_of rest.now)

-- The call answered this; or there is no memory, which says nothing.
abbrev pub IsAnswer : {A : Type 0} → Result A LineFault → Result A LineFault → Type 0
IsAnswer (Err fault.Memory) answer = ⊤
IsAnswer (Err fault.UnknownCommand) answer = answer ≡ Err fault.UnknownCommand
IsAnswer (Err fault.BadWords) answer = answer ≡ Err fault.BadWords
IsAnswer (Ok x) answer = answer ≡ Ok x

-- The word means this, or nothing and isn't of its form; or there is no memory, which says nothing.
abbrev pub IsNamed : {A : Type 0} → Option A → Result A LineFault → Type 0
IsNamed named (Ok x) = named ≡ Some x
IsNamed named (Err fault.Memory) = ⊤
IsNamed named (Err fault.BadWords) = named ≡ None
IsNamed named (Err fault.UnknownCommand) = ⊥
