-- What an answer says of a text that a source gives.
use Rattle.std.specs.Prelude.{◌≡◌, ◌⊎◌, List, ℕ, Option, Some, None, Result, Ok, Err, ⊤}
use Rattle.ld_words.specs.declared.word.WordFault.{WordFault}
use Rattle.ld_words.specs.declared.word.WordFault.TheVariants as word
use Rattle.ld_words.specs.Reading.{Reading as WordsRead, faulty}
use Rattle.ld_words.specs.Told.{SameIfTold}
use Rattle.ld_reader.specs.declared.fault.TextFault.{TextFault}
use Rattle.ld_reader.specs.declared.fault.TextFault.TheVariants as fault

-- a word that its place doesn't take is the one at hand
abbrev pub IsAtHand : Option (Option (List ℕ)) → List ℕ → Type 0
IsAtHand (Some (Some word)) lent = word ≡ lent
IsAtHand (Some None) lent = ⊤
IsAtHand None lent = ⊤

module _ {A K : Type 0} where
  -- a fault of a word is that of the text; of a failed read nothing is said, and want of memory is no fault of a word
  abbrev pub IsWordAnswer : Option (Result A (TextFault K)) → WordFault → Type 0
  IsWordAnswer told (word.OpenQuote line) = SameIfTold told (Some (Err (fault.Word (word.OpenQuote line))))
  IsWordAnswer told (word.LongWord line) = SameIfTold told (Some (Err (fault.Word (word.LongWord line))))
  IsWordAnswer told (word.TooLong line) = SameIfTold told (Some (Err (fault.Word (word.TooLong line))))
  IsWordAnswer told word.ReadFault = ⊤
  IsWordAnswer told word.Memory = ⊥

  -- where the source tells its bytes, the answer is that for its text, or memory ran out
  abbrev pub IsAnswer : Option (Result A (TextFault K)) → Result A (TextFault K) → Type 0
  IsAnswer told (Ok read) = SameIfTold told (Some (Ok read))
  IsAnswer told (Err (fault.At line kind)) = SameIfTold told (Some (Err (fault.At line kind)))
  IsAnswer told (Err (fault.Word f)) = IsWordAnswer told f
  IsAnswer told (Err fault.Memory) = ⊤

  -- the answer is a fault of a word exactly where a fault is kept, and that one; where a word isn't taken none stood.
  -- Where memory ran out, the fault that is kept is the one that stood, if any, or want of memory for a word
  abbrev pub IsKept : Option WordFault → Option WordFault → Result A (TextFault K) → Type 0
  IsKept stood kept (Ok read) = kept ≡ None
  IsKept stood kept (Err (fault.At line kind)) = (kept ≡ None) × (stood ≡ None)
  IsKept stood kept (Err (fault.Word f)) = kept ≡ Some f
  IsKept stood kept (Err fault.Memory) = (kept ≡ stood) ⊎ (kept ≡ Some word.Memory)

  -- this is left of the text that was told, or the fault of a word from then on; of want of memory nothing is said
  abbrev pub IsLeft : Option WordsRead → Option WordsRead → Result A (TextFault K) → Type 0
  IsLeft told left (Ok read) = SameIfTold told left
  IsLeft told left (Err (fault.At line kind)) = SameIfTold told left
  IsLeft told left (Err (fault.Word f)) = left ≡ Some (faulty f)
  IsLeft told left (Err fault.Memory) = ⊤

  -- where the source tells its bytes, the word that its place doesn't take is still at hand
  abbrev pub IsBlamed : Option (Option (List ℕ)) → List ℕ → Result A (TextFault K) → Type 0
  IsBlamed told lent (Ok read) = ⊤
  IsBlamed told lent (Err (fault.At line kind)) = IsAtHand told lent
  IsBlamed told lent (Err (fault.Word f)) = ⊤
  IsBlamed told lent (Err fault.Memory) = ⊤

  -- a word on this line stops the reading by what is wrong with it, or memory ran out
  abbrev pub Stops : ℕ → Result A K → TextFault K → Type 0
  Stops line due (fault.At at kind) = (at ≡ line) × (due ≡ Err kind)
  Stops line due (fault.Word f) = ⊥
  Stops line due fault.Memory = ⊤

-- a word on this line gave what reading gives, or stops it
abbrev pub GivesOn : {A K U : Type 0} → ℕ → Result A K → A → Result U (TextFault K) → Type 0
GivesOn line due new (Ok u) = due ≡ Ok new
GivesOn line due new (Err f) = Stops line due f

-- a fault of a word as that of a text
abbrev pub fault_in : {K : Type 0} → WordFault → TextFault K
fault_in (word.OpenQuote line) = fault.Word (word.OpenQuote line)
fault_in (word.LongWord line) = fault.Word (word.LongWord line)
fault_in (word.TooLong line) = fault.Word (word.TooLong line)
fault_in word.ReadFault = fault.Word word.ReadFault
fault_in word.Memory = fault.Memory
