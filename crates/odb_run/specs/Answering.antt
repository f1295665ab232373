-- What the copying machine answers to the lines of a script, with the files that it reads and writes.
use Rattle.std.specs.Prelude.{◌≡◌, Bool, true, false, List, [], ◌∷◌, ℕ, Option, None, Some, Result, Ok, Err, ⊤, length, nat_lt}
use Rattle.std.specs.List.{flat_map, list_any}
use Rattle.odb_base.specs.declared.eco_state.EcoState.TheVariants as state
use Rattle.odb_outside.specs.Files.{File, file_of, with_file}
use Rattle.edit_words.specs.declared.part.TechPart.TheVariants as part
use Rattle.block_store.specs.Database.{Database}
use Rattle.lef_build.specs.Building.{built_of}
use Rattle.lef_build.specs.declared.fault.BuildFault.{BuildFault}
use Rattle.lef_build.specs.declared.parts.Parts.{Parts}
use Rattle.lef_files.specs.Texts.{lef_file_of}
use Rattle.lef_files.specs.declared.outcome.LefFileRead.{LefFileRead}
use Rattle.lef_files.specs.declared.outcome.LefFileRead.TheVariants as lef_read
use Rattle.odb_save.specs.Loading.{Loads}
use Rattle.odb_save.specs.Save.{save_bytes}
use Rattle.odb_save.specs.declared.load_fault.LoadFault.{LoadFault}
use Rattle.reports.specs.declared.query.Query.TheVariants as query
use Rattle.script_words.specs.Commands.{Request, request_of}
use Rattle.script_words.specs.declared.command_words.Command.{Command}
use Rattle.script_words.specs.declared.command_words.Command.TheVariants as command
use Rattle.tech_parts.specs.Adding.{added_by, with_parts}
use Rattle.odb_run.specs.Machine.{Answer, Kept, State, accepted, begin_answer, edit_answer, part_answer, parts_answer, refused, report_answer, save_answer, unanswered, undo_answer}
use Rattle.odb_run.specs.Replies.{added_text, build_text, fault_text, lef_text, load_fault_text, long_file_text, long_line_text, no_file_text, number_text, wrong_state_text}

-- the machine: its state, and the files by name
pub record Machine : Type 0 where
  pub state : State
  pub files : List File

-- the machine in this state, with these files
abbrev pub machine : State → List File → Machine
machine s files = record { state = s; files = files }

-- the answer to a line: the machine after it, the text of its reply, and whether the reply is a refusal
pub record Answered : Type 0 where
  pub machine : Machine
  pub text : List ℕ
  pub refused : Bool

-- an answer that touches no file
abbrev pub in_state : Machine → Answer → Answered
in_state m a = record { machine = machine a.state m.files; text = a.text; refused = a.refused }

-- a refusal leaves the machine as it was
abbrev pub denied : Machine → List ℕ → Answered
denied m text = in_state m (refused m.state text)

-- `save FILE` gives the file the saved bytes, and answers how many they are
abbrev pub save_to_answer : Machine → List ℕ → Answered
save_to_answer m file = record {
  machine = record m { files = with_file file (save_bytes m.state.database) m.files };
  text = number_text (length (save_bytes m.state.database));
  refused = false;
}

-- the answer by what loading so many bytes came to: another database, or a refusal
abbrev pub load_answer : Machine → ℕ → Result Database LoadFault → Answered
load_answer m count (Ok d) = in_state m (accepted (record m.state { database = d }) (number_text count))
load_answer m count (Err why) = denied m (load_fault_text why)

-- the bytes are loaded, with the cap of the database that stands
pub record IsLoadOf (m : Machine) (bytes : List ℕ) (a : Answered) : Type 0 where
  pub result : Result Database LoadFault
  pub loads : Loads m.state.database.cap bytes result
  pub is : a ≡ load_answer m (length bytes) result

-- the same, of a file that may be too long
abbrev pub IsLoadUnless : Bool → Machine → List ℕ → Answered → Type 0
IsLoadUnless true m bytes a = a ≡ denied m long_file_text
IsLoadUnless false m bytes a = IsLoadOf m bytes a

-- what `load` answers by the bytes of its file, which may not be there or may be too long
abbrev pub IsLoadFrom : Machine → Option (List ℕ) → Answered → Type 0
IsLoadFrom m None a = a ≡ denied m no_file_text
IsLoadFrom m (Some bytes) a = IsLoadUnless (nat_lt 4294967295 (length bytes)) m bytes a

-- `load FILE` puts the database whose saved bytes the file holds, where no ECO stands
abbrev pub IsLoadReply : Machine → List ℕ → Option Kept → Answered → Type 0
IsLoadReply m file None a = IsLoadFrom m (file_of file m.files) a
IsLoadReply m file (Some kept) a = a ≡ denied m (wrong_state_text state.Open)

-- the answer by the parts that a LEF text has, which are entered, or by why it has none
abbrev pub built_answer : Machine → Result Parts BuildFault → Answered
built_answer m (Ok p) =
    in_state m (parts_answer m.state (λ d. added_text p.passed (added_by p.parts m.state.database d)) (with_parts 0 p.parts m.state.database))
built_answer m (Err why) = denied m (build_text why)

-- the answer by what reading the file came to
abbrev pub lef_answer : Machine → LefFileRead → Answered
lef_answer m (lef_read.Tree tree) = built_answer m (built_of m.state.database.tech m.state.database.library tree)
lef_answer m lef_read.NoFile = denied m no_file_text
lef_answer m (lef_read.Refused line kind) = denied m (lef_text line kind)

-- the answer by the bytes of the LEF file, which may not be there
abbrev pub lef_file_answer : Machine → Option (List ℕ) → Answered
lef_file_answer m None = lef_answer m lef_read.NoFile
lef_file_answer m (Some bytes) = lef_answer m (lef_file_of bytes)

-- `read_lef FILE` enters what the LEF text of the file holds, where no ECO stands
abbrev pub read_lef_answer : Machine → List ℕ → Option Kept → Answered
read_lef_answer m file None = lef_file_answer m (file_of file m.files)
read_lef_answer m file (Some kept) = denied m (wrong_state_text state.Open)

-- the machine answers a command so
abbrev pub IsCommandAnswer : Machine → Command → Answered → Type 0
IsCommandAnswer m (command.Edit edit) a = a ≡ in_state m (edit_answer m.state edit)
IsCommandAnswer m (command.Units n) a = a ≡ in_state m (part_answer m.state (part.Units n) m.state.eco)
IsCommandAnswer m (command.Layer layer) a = a ≡ in_state m (part_answer m.state (part.Layer layer) m.state.eco)
IsCommandAnswer m (command.Site site) a = a ≡ in_state m (part_answer m.state (part.Site site) m.state.eco)
IsCommandAnswer m (command.Master master) a = a ≡ in_state m (part_answer m.state (part.Master master) m.state.eco)
IsCommandAnswer m (command.ReadLef file) a = a ≡ read_lef_answer m file m.state.eco
IsCommandAnswer m (command.Find k name) a = a ≡ in_state m (report_answer m.state (query.Find k name))
IsCommandAnswer m (command.List k) a = a ≡ in_state m (report_answer m.state (query.List k))
IsCommandAnswer m (command.Free k) a = a ≡ in_state m (report_answer m.state (query.Free k))
IsCommandAnswer m command.Counts a = a ≡ in_state m (report_answer m.state query.Counts)
IsCommandAnswer m (command.Terms net) a = a ≡ in_state m (report_answer m.state (query.Terms net))
IsCommandAnswer m (command.Save file) a = a ≡ save_to_answer m file
IsCommandAnswer m command.SaveShown a = a ≡ in_state m (save_answer m.state)
IsCommandAnswer m (command.Load file) a = IsLoadReply m file m.state.eco a
IsCommandAnswer m command.EcoBegin a = a ≡ in_state m (begin_answer m.state m.state.eco)
IsCommandAnswer m command.EcoUndo a = a ≡ in_state m (undo_answer m.state m.state.eco)

-- the command names a file, which is read or written
abbrev pub TouchesFile : Command → Type 0
TouchesFile (command.Save file) = Unit {0}
TouchesFile (command.Load file) = Unit {0}
TouchesFile (command.ReadLef file) = Unit {0}
TouchesFile other = ⊥

-- the line asks for such a command
abbrev pub NamesFile : Request → Type 0
NamesFile (Ok (Some command)) = TouchesFile command
NamesFile (Ok None) = ⊥
NamesFile (Err fault) = ⊥

-- the machine answers so to what a line asks for: nothing, a command, or what is no command
abbrev pub IsRequestAnswer : Machine → Request → Answered → Type 0
IsRequestAnswer m (Ok None) a = a ≡ in_state m (unanswered m.state)
IsRequestAnswer m (Ok (Some command)) a = IsCommandAnswer m command a
IsRequestAnswer m (Err fault) a = a ≡ denied m (fault_text fault)

-- a line that is too long is passed over, be it blank, a comment or a command
abbrev pub IsAnswerUnless : Bool → Machine → List ℕ → Answered → Type 0
IsAnswerUnless true m line a = a ≡ denied m long_line_text
IsAnswerUnless false m line a = IsRequestAnswer m (request_of line) a

-- the machine answers a line so
unfoldable pub IsAnswer : Machine → List ℕ → Answered → Type 0
IsAnswer m line a = IsAnswerUnless (nat_lt 65535 (length line)) m line a

-- The machine answers lines so: each from where the answer to the one before it left it.
abbrev pub AreAnswers : Machine → List (List ℕ) → List Answered → Type 0
AreAnswers m [] [] = ⊤
AreAnswers m [] (a ∷ answers) = ⊥
AreAnswers m (line ∷ lines) [] = ⊥
AreAnswers m (line ∷ lines) (a ∷ answers) = IsAnswer m line a × AreAnswers a.machine lines answers

-- the machine after answers
abbrev pub machine_after : Machine → List Answered → Machine
machine_after m [] = m
machine_after m (a ∷ answers) = machine_after a.machine answers

-- the replies, one behind the other
abbrev pub replies_of : List Answered → List ℕ
replies_of answers = flat_map (λ a. a.text) answers

-- some reply is a refusal
abbrev pub has_refusal : List Answered → Bool
has_refusal answers = list_any (λ a. a.refused) answers
