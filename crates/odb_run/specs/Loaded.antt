-- What the answers to lines of one session give, whatever the files. The contracts of the parts of an answer cite this
-- module; that of the whole run doesn't.
use Rattle.std.specs.Prelude.{◌≡◌, Bool, List, ℕ}
use Rattle.odb_outside.specs.Files.{File}
use Rattle.script_words.specs.declared.command_words.Command.{Command}
use Rattle.script_words.specs.declared.command_words.Command.TheVariants as command
use Rattle.shelf_files.specs.declared.reading.FileRead.{FileRead}
use Rattle.shelf_files.specs.declared.reading.FileRead.TheVariants as read
use Rattle.odb_run.specs.Answering.{Answered, IsLoadOf, Machine, denied, machine}
use Rattle.odb_run.specs.Machine.{State}
use Rattle.odb_run.specs.Replies.{long_file_text, no_file_text}
use Rattle.odb_run.specs.Running.{Gives}

-- the machine's answer was given, and the files stay
abbrev pub GivesInSession : (Machine → Answered → Type 0) → State → State → List ℕ → List ℕ → Bool → Type 0
GivesInSession Is old new before after refused = (files : List File) → Gives (Is (machine old files)) new files before after refused

-- the command reads and writes no file
abbrev pub TouchesNoFile : Command → Type 0
TouchesNoFile (command.Save file) = ⊥
TouchesNoFile (command.Load file) = ⊥
TouchesNoFile (command.ReadLef file) = ⊥
TouchesNoFile other = Unit {0}

-- what is answered where reading the file gave this
abbrev pub IsReadReply : FileRead → Machine → Answered → Type 0
IsReadReply (read.Bytes bytes) m a = IsLoadOf m bytes.items a
IsReadReply read.NoFile m a = a ≡ denied m no_file_text
IsReadReply read.TooLong m a = a ≡ denied m long_file_text
