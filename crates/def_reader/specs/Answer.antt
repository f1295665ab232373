-- The answer for a DEF text.
use Rattle.std.specs.Prelude.{◌≡◌, ◌⊎◌, List, [], ℕ, Result, Ok, Err, ⊤, unwrap_or}
use Rattle.ld_words.specs.Reading.{Reading as WordsRead}
use Rattle.ld_reader.specs.declared.fault.TextFault.{TextFault}
use Rattle.ld_reader.specs.declared.fault.TextFault.TheVariants as fault
use Rattle.ld_reader.specs.declared.reader.Reader.{Reader}
use Rattle.ld_reader.specs.Reading as reading
use Rattle.ld_reader.specs.Reading.{blamed_of, text_of}
use Rattle.def_forms.specs.declared.class.Class.{Class}
use Rattle.def_forms.specs.declared.flaw.Flaw.{Flaw}
use Rattle.def_forms.specs.declared.flaw.Flaw.TheVariants as flaw
use Rattle.def_forms.specs.declared.form.Statement.{Statement}
use Rattle.def_reader.specs.declared.fault.DefKind.{DefKind}
use Rattle.def_reader.specs.declared.fault.DefKind.TheVariants as kind
use Rattle.def_reader.specs.declared.fault.DefRead.{DefRead}
use Rattle.def_reader.specs.declared.so_far.SoFar.{SoFar}
use Rattle.def_reader.specs.Reading.{rules, start}

-- what was read
abbrev pub read_of : SoFar → DefRead
read_of so_far = record { tree = so_far.tree; passed = so_far.passed; miscounted = so_far.miscounted }

-- what is wrong with this word
abbrev pub kind_of : Flaw → List ℕ → DefKind
kind_of flaw.Unexpected word = kind.Unexpected
kind_of flaw.BadNumber word = kind.BadNumber
kind_of flaw.BadName word = kind.BadName
kind_of flaw.Unsupported word = kind.Unsupported word
kind_of flaw.Duplicate word = kind.Duplicate
kind_of flaw.Cut word = kind.Cut

-- the answer with this word at fault, where one is
abbrev pub read_in : List ℕ → Result (Reader SoFar Class Statement) (TextFault Flaw) → Result DefRead (TextFault DefKind)
read_in word (Ok r) = Ok (read_of r.so_far)
read_in word (Err (fault.At line f)) = Err (fault.At line (kind_of f word))
read_in word (Err (fault.Word f)) = Err (fault.Word f)
read_in word (Err fault.Memory) = Err fault.Memory

-- the answer for a text: what it holds, or its first fault
abbrev pub def_of : WordsRead → Result DefRead (TextFault DefKind)
def_of text = read_in (unwrap_or (blamed_of rules start text) []) (text_of rules start text)

-- what is left of a text
abbrev pub left_of : WordsRead → WordsRead
left_of text = reading.left_of rules start text

-- memory may run out behind the words: for the word at fault, or as it did before
abbrev pub IsRun : Result (Reader SoFar Class Statement) (TextFault Flaw) → Type 0
IsRun (Err (fault.At line f)) = ⊤
IsRun (Err fault.Memory) = ⊤
IsRun other = ⊥

-- a call gave what is due of what the machine gave, or memory ran out
abbrev pub IsRead : Result (Reader SoFar Class Statement) (TextFault Flaw) → Result DefRead (TextFault DefKind) → Result DefRead (TextFault DefKind) → Type 0
IsRead given due result = (result ≡ due) ⊎ (IsRun given × (result ≡ Err fault.Memory))
