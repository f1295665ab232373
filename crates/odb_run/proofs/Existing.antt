-- A sound machine has an answer to each line, and so to the rest of a script.
use Rattle.std.proofs.Common.{◌≡◌, ◌≤◌, Bool, true, false, List, [], ◌∷◌, ℕ, Option, None, Some, Ok, Err, length, nat_lt, refl, subst, sym}
use Rattle.odb_outside.specs.Files.{File, file_of}
use Rattle.block_store.proofs.Databases.{sound_database}
use Rattle.odb_save.specs.Loading.{HasAnAnswer}
use Rattle.odb_save.proofs.Answerable.{has_an_answer}
use Rattle.script_words.specs.Commands.{Request, request_of}
use Rattle.script_words.specs.declared.command_words.Command.{Command}
use Rattle.script_words.specs.declared.command_words.Command.TheVariants as command
use Rattle.odb_run.specs.Answering.{Answered, AreAnswers, IsAnswer, IsAnswerUnless, IsCommandAnswer, IsLoadFrom, IsLoadReply, IsLoadUnless, IsRequestAnswer, Machine, load_answer, machine}
use Rattle.odb_run.specs.Laws.{AreFilesOfBytes, AreLoadable, HasAnswer, HasMoreAnswers, IsSoundMachine}
use Rattle.odb_run.specs.Machine.{Kept, start}
use Rattle.odb_run.proofs.Kept.{answer_keeps, found_loadable}

-- something is so
abbrev HasOne : (Answered → Type 0) → Type 0
HasOne Is = ¬ ((a : Answered) → ¬ (Is a))

load_unless : (long : Bool) (m : Machine) (bytes : List ℕ) → HasAnAnswer m.state.database.cap bytes → HasOne (IsLoadUnless long m bytes)
load_unless true m bytes fits none = none _ refl
load_unless false m bytes fits none = fits (λ result loads. none (load_answer m (length bytes) result) (record { result = result; loads = loads; is = refl }))

load_from : (m : Machine) (found : Option (List ℕ)) → ((bytes : List ℕ) → found ≡ Some bytes → HasAnAnswer m.state.database.cap bytes) → HasOne (IsLoadFrom m found)
load_from m None fits none = none _ refl
load_from m (Some bytes) fits none = load_unless (nat_lt 4294967295 (length bytes)) m bytes (fits bytes refl) none

load_reply : (m : Machine) (name : List ℕ) (eco : Option Kept) → ((bytes : List ℕ) → file_of name m.files ≡ Some bytes → HasAnAnswer m.state.database.cap bytes) → HasOne (IsLoadReply m name eco)
load_reply m name None fits none = load_from m (file_of name m.files) fits none
load_reply m name (Some kept) fits none = none _ refl

command_has : (m : Machine) (c : Command) → AreLoadable m.state.database.cap m.files → HasOne (IsCommandAnswer m c)
command_has m (command.Edit edit) fits none = none _ refl
command_has m (command.Units n) fits none = none _ refl
command_has m (command.Layer l) fits none = none _ refl
command_has m (command.Site s) fits none = none _ refl
command_has m (command.Master x) fits none = none _ refl
command_has m (command.ReadLef name) fits none = none _ refl
command_has m (command.Find k name) fits none = none _ refl
command_has m (command.List k) fits none = none _ refl
command_has m (command.Free k) fits none = none _ refl
command_has m command.Counts fits none = none _ refl
command_has m (command.Terms net) fits none = none _ refl
command_has m (command.Save name) fits none = none _ refl
command_has m command.SaveShown fits none = none _ refl
command_has m (command.Load name) fits none = load_reply m name m.state.eco (λ bytes found. found_loadable m.state.database.cap name m.files bytes fits found) none
command_has m command.EcoBegin fits none = none _ refl
command_has m command.EcoUndo fits none = none _ refl

request_has : (m : Machine) (r : Request) → AreLoadable m.state.database.cap m.files → HasOne (IsRequestAnswer m r)
request_has m (Ok None) fits none = none _ refl
request_has m (Ok (Some c)) fits none = command_has m c fits none
request_has m (Err why) fits none = none _ refl

unless_has : (long : Bool) (m : Machine) (line : List ℕ) → AreLoadable m.state.database.cap m.files → HasOne (IsAnswerUnless long m line)
unless_has true m line fits none = none _ refl
unless_has false m line fits none = request_has m (request_of line) fits none

pub line_has : (cap : ℕ) (m : Machine) (line : List ℕ) → IsSoundMachine cap m → HasAnswer m line
unfolding IsAnswer
line_has cap m line is none =
    let P : ℕ → Type 0 = λ n. AreLoadable n m.files in
    unless_has (nat_lt 65535 (length line)) m line (subst P (sym is.state.capped) is.files) none

-- ---- the rest of a script

lines_have : (cap : ℕ) (m : Machine) (lines : List (List ℕ)) → IsSoundMachine cap m → ¬ ((answers : List Answered) → ¬ (AreAnswers m lines answers))
lines_have cap m [] is none = none [] tt
lines_have cap m (line ∷ lines) is none =
    line_has cap m line is (λ a answer. lines_have cap a.machine lines (answer_keeps cap m line a is answer) (λ answers are. none (a ∷ answers) (answer, are)))

pub more_have : (cap : ℕ) (m : Machine) (lines : List (List ℕ)) (answers : List Answered) (others : List (List ℕ)) → IsSoundMachine cap m → AreAnswers m lines answers → HasMoreAnswers m lines answers others
more_have cap m [] [] others is are none = lines_have cap m others is none
more_have cap m [] (a ∷ answers) others is are none = are
more_have cap m (line ∷ lines) [] others is are none = are
more_have cap m (line ∷ lines) (a ∷ answers) others is are none =
    more_have cap a.machine lines answers others (answer_keeps cap m line a is are.0) are.1 (λ more behind. none more (are.0, behind))

-- ---- where a script begins

bytes_loadable : (cap : ℕ) (files : List File) → cap ≤ 16777215 → AreFilesOfBytes files → AreLoadable cap files
bytes_loadable cap [] within are = tt
bytes_loadable cap (f ∷ files) within are = (has_an_answer cap f.bytes within are.0, bytes_loadable cap files within are.1)

pub start_sound : (cap : ℕ) (files : List File) → cap ≤ 16777215 → AreFilesOfBytes files → IsSoundMachine cap (machine (start cap) files)
unfolding start
start_sound cap files within are = record {
  state = record { sound = sound_database cap within; capped = refl; copy = tt };
  files = bytes_loadable cap files within are;
}
