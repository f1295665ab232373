-- What a run of the program is: the replies of the copying machine, its files, and how much of the script was read.
use Rattle.std.specs.Prelude.{◌≡◌, ◌++◌, ◌≤◌, ◌^◌, Bool, true, false, List, [], ◌∷◌, ℕ, Option, None, Some, ⊤, length}
use Rattle.odb_outside.specs.Files.{File}
use Rattle.odb_outside.specs.Reading.{LosesNone}
use Rattle.odb_outside.specs.Writing.{Grows, GrowsByPrefix}
use Rattle.script_words.specs.Commands.{request_of}
use Rattle.odb_run.specs.declared.status.Status.{Status}
use Rattle.odb_run.specs.declared.status.Status.TheVariants as status
use Rattle.odb_run.specs.Answering.{Answered, AreAnswers, Machine, NamesFile, has_refusal, machine, machine_after, replies_of}
use Rattle.odb_run.specs.Lines.{ended_lines, lines_of}
use Rattle.odb_run.specs.Machine.{State}

-- ---- what was read of a script

-- these first bytes were read, and the others are left
pub record IsRead (script read : List ℕ) (rest : Option (List ℕ)) : Type 0 where
  pub unread : List ℕ
  pub split : script ≡ read ++ unread
  pub told : rest ≡ Some unread

-- these first bytes were read before reading failed; where the script still tells its bytes, the others are left
pub record IsReadToFault (script read : List ℕ) (rest : Option (List ℕ)) : Type 0 where
  pub unread : List ℕ
  pub split : script ≡ read ++ unread
  pub told : LosesNone unread rest

-- these first bytes, 2^30 of them, were read and then one more, and the others are left
pub record IsReadToLimit (script read : List ℕ) (rest : Option (List ℕ)) : Type 0 where
  pub more : ℕ
  pub unread : List ℕ
  pub split : script ≡ read ++ more ∷ unread
  pub limit : length read ≡ 2 ^ 30
  pub told : rest ≡ Some unread

-- how much of a script was read, by the status with which the run ended
abbrev pub ReadsAs : Status → List ℕ → Option (List ℕ) → Type 0
ReadsAs status.Done script rest = rest ≡ Some []
ReadsAs status.Refused script rest = rest ≡ Some []
ReadsAs status.Usage script rest = rest ≡ Some script
ReadsAs status.ScriptFault script rest = (read : List ℕ) × IsReadToFault script read rest
ReadsAs status.OutFault script rest = (read : List ℕ) × IsRead script read rest
ReadsAs status.FileFault script rest = (read : List ℕ) × IsRead script read rest
ReadsAs status.ScriptTooLong script rest = (read : List ℕ) × IsReadToLimit script read rest
ReadsAs status.Memory script rest = (read : List ℕ) × IsRead script read rest

-- the same, where the script tells its bytes
abbrev pub ReadsToldAs : Status → Option (List ℕ) → Option (List ℕ) → Type 0
ReadsToldAs status None rest = ⊤
ReadsToldAs status (Some script) rest = ReadsAs status script rest

-- ---- what was answered

-- a script of these bytes was read to its end, all its replies were written, and these are the machine's files
pub record Ran (m : Machine) (script : List ℕ) (before now : Option (List ℕ)) (left : Option (List File)) (refused : Bool) : Type 0 where
  pub answers : List Answered
  pub answered : AreAnswers m (lines_of script) answers
  pub replies : Grows before now (replies_of answers)
  pub files : left ≡ Some (machine_after m answers).files
  pub refusals : has_refusal answers ≡ refused
  pub short : length script ≤ 2 ^ 30

-- the lines that ended in these bytes were answered, all their replies were written, and these are the machine's files
pub record RanThrough (m : Machine) (read : List ℕ) (before now : Option (List ℕ)) (left : Option (List File)) : Type 0 where
  pub answers : List Answered
  pub answered : AreAnswers m (ended_lines read) answers
  pub replies : Grows before now (replies_of answers)
  pub files : left ≡ Some (machine_after m answers).files

-- a line of the script names a file that failed, and just the replies to the lines before it were written
pub record RanToFile (m : Machine) (script : List ℕ) (before now : Option (List ℕ)) : Type 0 where
  pub lines : List (List ℕ)
  pub line : List ℕ
  pub others : List (List ℕ)
  pub split : lines_of script ≡ lines ++ line ∷ others
  pub names : NamesFile (request_of line)
  pub answers : List Answered
  pub answered : AreAnswers m lines answers
  pub replies : Grows before now (replies_of answers)

-- what was written is a prefix of the replies to the first lines of the script
pub record RanInPart (m : Machine) (script : List ℕ) (before now : Option (List ℕ)) : Type 0 where
  pub lines : List (List ℕ)
  pub others : List (List ℕ)
  pub split : lines_of script ≡ lines ++ others
  pub answers : List Answered
  pub answered : AreAnswers m lines answers
  pub replies : GrowsByPrefix before now (replies_of answers)

-- What a run did that began with this machine, by the status with which it ended: of the script these bytes are left, the
-- sink holds those bytes now, and these are the files.
abbrev pub RunsAs : Machine → Status → List ℕ → Option (List ℕ) → Option (List ℕ) → Option (List ℕ) → Option (List File) → Type 0
RunsAs m status.Done script rest before now left = Ran m script before now left false
RunsAs m status.Refused script rest before now left = Ran m script before now left true
RunsAs m status.Usage script rest before now left = Grows before now []
RunsAs m status.ScriptFault script rest before now left = (read : List ℕ) × IsReadToFault script read rest × RanThrough m read before now left
RunsAs m status.OutFault script rest before now left = RanInPart m script before now
RunsAs m status.FileFault script rest before now left = RanToFile m script before now
RunsAs m status.ScriptTooLong script rest before now left = (read : List ℕ) × IsReadToLimit script read rest × RanThrough m read before now left
RunsAs m status.Memory script rest before now left = RanInPart m script before now

-- the same, where the script tells its bytes and the shelf its files
abbrev pub RunsToldAs : State → Status → Option (List ℕ) → Option (List ℕ) → Option (List ℕ) → Option (List ℕ) → Option (List File) → Option (List File) → Type 0
RunsToldAs s status None rest before now was left = ⊤
RunsToldAs s status (Some script) rest before now None left = ⊤
RunsToldAs s status (Some script) rest before now (Some was) left = RunsAs (machine s was) status script rest before now left

-- the whole script was answered, or memory ran out
abbrev pub IsAnswered : Status → Type 0
IsAnswered status.Done = ⊤
IsAnswered status.Refused = ⊤
IsAnswered status.Memory = ⊤
IsAnswered status.Usage = ⊥
IsAnswered status.ScriptFault = ⊥
IsAnswered status.OutFault = ⊥
IsAnswered status.FileFault = ⊥
IsAnswered status.ScriptTooLong = ⊥
