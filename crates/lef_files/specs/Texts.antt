-- What a text is as that of a LEF file: a tree, or its first fault.
use Rattle.std.specs.Prelude.{List, ℕ, Result, Ok, Err, IsOk}
use Rattle.std.specs.Result.{result_unwrap_or}
use Rattle.ld_words.specs.declared.word.WordFault.{WordFault}
use Rattle.ld_words.specs.declared.word.WordFault.TheVariants as word
use Rattle.ld_words.specs.Reading.{words_of}
use Rattle.ld_reader.specs.declared.fault.TextFault.TheVariants as fault
use Rattle.lef_forms.specs.declared.kind.LefKind.{LefKind}
use Rattle.lef_forms.specs.declared.kind.LefKind.TheVariants as found
use Rattle.lef_reader.specs.Reading.{Answer, lef_of}
use Rattle.shelf_files.specs.declared.fault.FileFault.{FileFault}
use Rattle.shelf_files.specs.declared.fault.FileFault.TheVariants as failure
use Rattle.lef_files.specs.declared.outcome.LefFileFault.{LefFileFault}
use Rattle.lef_files.specs.declared.outcome.LefFileFault.TheVariants as kind
use Rattle.lef_files.specs.declared.outcome.LefFileRead.{LefFileRead}
use Rattle.lef_files.specs.declared.outcome.LefFileRead.TheVariants as read

-- a fault of the grammar as that of a file
abbrev pub kind_of : LefKind → LefFileFault
kind_of found.Unexpected = kind.Unexpected
kind_of found.BadNumber = kind.BadNumber
kind_of found.BadName = kind.BadName
kind_of found.Cut = kind.Cut

-- a fault of the words as that of a file, or of the call where the words aren't to blame
abbrev pub word_outcome : WordFault → Result LefFileRead FileFault
word_outcome (word.OpenQuote line) = Ok (read.Refused line kind.OpenQuote)
word_outcome (word.LongWord line) = Ok (read.Refused line kind.LongWord)
word_outcome (word.TooLong line) = Ok (read.Refused line kind.TooLong)
word_outcome word.ReadFault = Err failure.Failed
word_outcome word.Memory = Err failure.Memory

-- an answer for the text of a file as one for the file
abbrev pub outcome_of : Answer → Result LefFileRead FileFault
outcome_of (Ok tree) = Ok (read.Tree tree)
outcome_of (Err (fault.At line k)) = Ok (read.Refused line (kind_of k))
outcome_of (Err (fault.Word f)) = word_outcome f
outcome_of (Err fault.Memory) = Err failure.Memory

-- an answer that is no fault of the call, as what was read of the file; another has line 0, which no text has
abbrev pub read_by : Answer → LefFileRead
read_by answer = result_unwrap_or (outcome_of answer) (read.Refused 0 kind.Unexpected)

-- what is read of a file of these bytes: what the words of its text give, by their lines
abbrev pub lef_file_of : List ℕ → LefFileRead
lef_file_of bytes = read_by (lef_of (words_of bytes))

-- the answer for a text is never a fault of the call
abbrev pub TextsHaveOutcomes : Type 0
TextsHaveOutcomes = (bytes : List ℕ) → IsOk (outcome_of (lef_of (words_of bytes)))
