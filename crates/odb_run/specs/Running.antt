-- What holds between two pieces of a script. The contracts of the parts of a run cite this module; that of
-- the whole run doesn't.
use Rattle.std.specs.Prelude.{◌≡◌, ◌≤◌, ◌||◌, Bool, true, false, List, [], ◌∷◌, ◌++◌, ℕ, Option, None, Some, Result, Ok, Err, ⊤, IsErrOf, length}
use Rattle.odb_outside.specs.Files.{File}
use Rattle.odb_outside.specs.Outside.{Rose}
use Rattle.odb_outside.specs.Writing.{Grows, GrowsByPrefix}
use Rattle.odb_outside.specs.declared.fault.WriteFault.{WriteFault}
use Rattle.odb_outside.specs.declared.fault.WriteFault.TheVariants as fault
use Rattle.shelf_files.specs.declared.fault.FileFault.{FileFault}
use Rattle.shelf_files.specs.declared.fault.FileFault.TheVariants as file
use Rattle.odb_run.specs.declared.status.Status.{Status}
use Rattle.odb_run.specs.declared.status.Status.TheVariants as status
use Rattle.odb_run.specs.declared.stop.Stop.{Stop}
use Rattle.odb_run.specs.declared.stop.Stop.TheVariants as stop
use Rattle.script_words.specs.Commands.{request_of}
use Rattle.odb_run.specs.Answering.{Answered, AreAnswers, IsAnswer, Machine, NamesFile, has_refusal, machine, machine_after, replies_of}
use Rattle.odb_run.specs.Lines.{has_line_end, lines_of}
use Rattle.odb_run.specs.Machine.{Answer, State}
use Rattle.odb_run.specs.Told.{IfTold, WhereTold}

-- the status of a run that stopped
abbrev pub status_of : Stop → Status
status_of stop.ScriptFault = status.ScriptFault
status_of stop.OutFault = status.OutFault
status_of stop.FileFault = status.FileFault
status_of stop.ScriptTooLong = status.ScriptTooLong
status_of stop.Memory = status.Memory

-- what a fault in writing replies makes of a run
abbrev pub stop_of : WriteFault → Stop
stop_of fault.Failed = stop.OutFault
stop_of fault.Memory = stop.Memory

-- what a fault in reading or writing a file makes of a run
abbrev pub file_stop_of : FileFault → Stop
file_stop_of file.Failed = stop.FileFault
file_stop_of file.Memory = stop.Memory

-- the state's answer was given: the state is the one after it, its text was appended, and this says
-- whether it is a refusal
pub record Answers (answer : Answer) (new : State) (before after : List ℕ) (refused : Bool) : Type 0 where
  pub state : new ≡ answer.state
  pub text : after ≡ before ++ answer.text
  pub refusal : refused ≡ answer.refused

-- The machine's answer was given: the state and the files are those after it, its text was appended, and this says
-- whether it is a refusal.
pub record Gives (Is : Answered → Type 0) (new : State) (left : List File) (before after : List ℕ) (refused : Bool) : Type 0 where
  pub text : List ℕ
  pub is : Is (record { machine = machine new left; text = text; refused = refused })
  pub grows : after ≡ before ++ text

-- the same, where the files are told
abbrev pub GivesTold : (Machine → Answered → Type 0) → State → State → Option (List File) → Option (List File) → List ℕ → List ℕ → Bool → Type 0
GivesTold Is old new was left before after refused = WhereTold was left (λ was left. Gives (Is (machine old was)) new left before after refused)

-- a run between two lines: the state, the bytes of the unfinished line, the replies that are not written yet,
-- and whether there was a refusal
pub record Running : Type 0 where
  pub state : State
  pub line : List ℕ
  pub unwritten : List ℕ
  pub refused : Bool

-- a run that has taken nothing of its script
abbrev pub first_run : State → Running
first_run s = record { state = s; line = []; unwritten = []; refused = false }

-- the machine of a run, with these files
abbrev pub machine_of : Running → List File → Machine
machine_of run files = machine run.state files

-- this line was answered, and none is unfinished
pub record IsReplied (old : Running) (was : List File) (done : List ℕ) (new : Running) (left : List File) : Type 0 where
  pub answer : Answered
  pub answered : IsAnswer (machine_of old was) done answer
  pub machine : machine_of new left ≡ answer.machine
  pub unwritten : new.unwritten ≡ old.unwritten ++ answer.text
  pub refused : new.refused ≡ (old.refused || answer.refused)
  pub line : new.line ≡ []

-- the same, where the files are told
abbrev pub Replied : Running → Option (List File) → List ℕ → Running → Option (List File) → Type 0
Replied old was done new left = WhereTold was left (λ was left. IsReplied old was done new left)

-- the bytes written so far, and then those left to come, are those written before and those that were to come
pub record IsWritten (before now coming left : List ℕ) : Type 0 where
  pub longer : length before ≤ length now
  pub same : now ++ left ≡ before ++ coming

-- the same, where the bytes are told
abbrev pub Leads : Option (List ℕ) → Option (List ℕ) → List ℕ → List ℕ → Type 0
Leads None now coming left = ⊤
Leads (Some before) None coming left = ⊥
Leads (Some before) (Some now) coming left = IsWritten before now coming left

-- the replies were written, or kept to be written later, and nothing else changed
pub record WritesOn (before now : Option (List ℕ)) (old new : Running) : Type 0 where
  pub replies : Leads before now old.unwritten new.unwritten
  pub others : new ≡ record old { unwritten = new.unwritten }

-- From one point of a run to a later one, bytes of the script were taken, of which these are left to be looked at.
-- The lines that ended were answered, whatever the rest of the script, and their replies are written or still to be
-- written.
pub record IsGone (before now : Option (List ℕ)) (old : Running) (was : List File) (new : Running) (is : List File) (taken left : List ℕ) : Type 0 where
  pub lines : List (List ℕ)
  pub script : (rest : List ℕ) → lines_of (old.line ++ (taken ++ rest)) ≡ lines ++ lines_of (new.line ++ (left ++ rest))
  pub answers : List Answered
  pub answered : AreAnswers (machine_of old was) lines answers
  pub machine : machine_of new is ≡ machine_after (machine_of old was) answers
  pub replies : Leads before now (old.unwritten ++ replies_of answers) new.unwritten
  pub refused : new.refused ≡ (old.refused || has_refusal answers)

-- the same, where the files are told
abbrev pub Goes : Option (List ℕ) → Option (List ℕ) → Running → Option (List File) → Running → Option (List File) → List ℕ → List ℕ → Type 0
Goes before now old was new is taken left = WhereTold was is (λ was is. IsGone before now old was new is taken left)

-- between two pieces of a script no reply is left to be written, and the unfinished line has no LF
pub record IsBetween (run : Running) : Type 0 where
  pub written : run.unwritten ≡ []
  pub whole : has_line_end run.line ≡ false

-- so much of some replies was written, by what stopped the run: all of them where a file failed, else a prefix
abbrev pub Gains : Stop → Option (List ℕ) → Option (List ℕ) → List ℕ → Type 0
Gains stop.FileFault before now replies = Grows before now replies
Gains other before now replies = GrowsByPrefix before now replies

-- the first of these lines names a file, where it was a file that stopped the run
abbrev pub BeginsAt : Stop → List (List ℕ) → Type 0
BeginsAt stop.FileFault [] = ⊥
BeginsAt stop.FileFault (line ∷ lines) = NamesFile (request_of line)
BeginsAt other lines = ⊤

-- The first lines of a script were answered before the run stopped, and so much of their replies was written.
pub record IsStopped (reason : Stop) (before now : Option (List ℕ)) (old : Running) (was : List File) (script : List (List ℕ)) : Type 0 where
  pub lines : List (List ℕ)
  pub others : List (List ℕ)
  pub split : script ≡ lines ++ others
  pub next : BeginsAt reason others
  pub answers : List Answered
  pub answered : AreAnswers (machine_of old was) lines answers
  pub replies : Gains reason before now (old.unwritten ++ replies_of answers)

-- whatever the rest of the script behind these bytes, that is so
abbrev pub Stops : Stop → Option (List ℕ) → Option (List ℕ) → Running → Option (List File) → List ℕ → Type 0
Stops reason before now old was taken = IfTold was (λ was. (rest : List ℕ) → IsStopped reason before now old was (lines_of (old.line ++ (taken ++ rest))))

-- in the end of a script, that is so of the unfinished line
abbrev pub StopsLast : Stop → Option (List ℕ) → Option (List ℕ) → Running → Option (List File) → Type 0
StopsLast reason before now run was = IfTold was (λ was. IsStopped reason before now run was (lines_of run.line))

-- What stops a run at a line that has no answer, by its fault, where these replies were to be written before. For want of
-- memory nothing more is written.
abbrev pub IsStopFor : FileFault → Stop → Option (List ℕ) → Option (List ℕ) → List ℕ → Type 0
IsStopFor file.Memory reason before now replies = (reason ≡ stop.Memory) × (now ≡ before)
IsStopFor file.Failed reason before now replies = Gains reason before now replies

-- a file failed at this line, to which there is no reply
pub record FailsAt (line : List ℕ) (old new : List ℕ) : Type 0 where
  pub names : NamesFile (request_of line)
  pub replies : new ≡ old

-- the unfinished line, where there is one, was answered, all replies are written, and this says whether some was a
-- refusal
pub record IsFinished (before now : Option (List ℕ)) (run : Running) (was is : List File) (any_refused : Bool) : Type 0 where
  pub answers : List Answered
  pub answered : AreAnswers (machine_of run was) (lines_of run.line) answers
  pub files : is ≡ (machine_after (machine_of run was) answers).files
  pub replies : Grows before now (run.unwritten ++ replies_of answers)
  pub refused : any_refused ≡ (run.refused || has_refusal answers)

-- the same, where the files are told
abbrev pub Finishes : Option (List ℕ) → Option (List ℕ) → Running → Option (List File) → Option (List File) → Bool → Type 0
Finishes before now run was is any_refused = WhereTold was is (λ was is. IsFinished before now run was is any_refused)

-- the unfinished line, where there is one, was the last
pub record IsLast (old : Running) (was : List File) (new : Running) (is : List File) : Type 0 where
  pub answers : List Answered
  pub answered : AreAnswers (machine_of old was) (lines_of old.line) answers
  pub machine : machine_of new is ≡ machine_after (machine_of old was) answers
  pub unwritten : new.unwritten ≡ old.unwritten ++ replies_of answers
  pub refused : new.refused ≡ (old.refused || has_refusal answers)

-- the same, where the files are told
abbrev pub EndsLast : Running → Option (List File) → Running → Option (List File) → Type 0
EndsLast old was new is = WhereTold was is (λ was is. IsLast old was new is)

-- the status of a run, from whether there was a refusal or from what stopped it
abbrev pub ended : Result Bool Stop → Status
ended (Ok false) = status.Done
ended (Ok true) = status.Refused
ended (Err stop) = status_of stop

-- in the middle of a script: so much of it was taken, and the lines that ended were answered
pub record IsWithin (s : State) (script left : List ℕ) (before now : Option (List ℕ)) (was : List File) (run : Running) (is : List File) (count : ℕ) : Type 0 where
  pub taken : List ℕ
  pub split : script ≡ taken ++ left
  pub counted : length taken ≡ count
  pub gone : IsGone before now (first_run s) was run is taken []

-- the same, where the script tells its bytes and the shelf its files
abbrev pub Within : State → Option (List ℕ) → Option (List ℕ) → Option (List ℕ) → Option (List ℕ) → Option (List File) → Running → Option (List File) → ℕ → Type 0
Within s None left before now was run is count = ⊤
Within s (Some script) None before now was run is count = ⊥
Within s (Some script) (Some left) before now was run is count = WhereTold was is (λ was is. IsWithin s script left before now was run is count)

-- so many bytes of a script were taken, and these are left
pub record IsTaken (script left : List ℕ) (count : ℕ) : Type 0 where
  pub taken : List ℕ
  pub split : script ≡ taken ++ left
  pub counted : length taken ≡ count

-- the same, where the script tells its bytes
abbrev pub Takes : Option (List ℕ) → Option (List ℕ) → ℕ → Type 0
Takes None left count = ⊤
Takes (Some script) None count = ⊥
Takes (Some script) (Some left) count = IsTaken script left count

-- a count of faults never falls, and it rose where the run stopped for this reason
pub record HasFaultCause {T : Type 0} (before now : ℕ) (result : Result T Stop) (stop : Stop) : Type 0 where
  pub later : before ≤ now
  pub failed : IsErrOf result stop → Rose before now

-- The sink's count never falls, and it rose where writing stopped the run. It was neither reading the script that stopped
-- it, nor the script's length.
pub record HasStopCause (before now : ℕ) (reason : Stop) : Type 0 where
  pub later : before ≤ now
  pub failed : reason ≡ stop.OutFault → Rose before now
  pub no_script_fault : reason ≡ stop.ScriptFault → ⊥
  pub not_too_long : reason ≡ stop.ScriptTooLong → ⊥

-- The counts of the sink and of the shelf never fall, and that of the one that stopped the run rose. It was
-- neither reading the script that stopped it, nor the script's length.
pub record HasCauses {T : Type 0} (out_before out_now file_before file_now : ℕ) (result : Result T Stop) : Type 0 where
  pub out_later : out_before ≤ out_now
  pub out_failed : IsErrOf result stop.OutFault → Rose out_before out_now
  pub file_later : file_before ≤ file_now
  pub file_failed : IsErrOf result stop.FileFault → Rose file_before file_now
  pub no_script_fault : IsErrOf result stop.ScriptFault → ⊥
  pub not_too_long : IsErrOf result stop.ScriptTooLong → ⊥
