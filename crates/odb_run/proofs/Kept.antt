-- Each answer leaves the machine sound.
use Rattle.std.proofs.Common.{◌≡◌, ◌+◌, Bool, true, false, List, [], ◌∷◌, ℕ, Option, None, Some, Result, Ok, Err, IfSome, length, nat_lt, refl, sym, ap, subst, ◌∙◌, option_map}
use Rattle.std.specs.Ordering.{match_ordering, nat_cmp}
use Rattle.std.specs.Cmp.Lexicographic.{slice_cmp}
use Rattle.std.specs.declared.cmp.Ordering.{Ordering}
use Rattle.std.specs.declared.cmp.Ordering.TheVariants as ordering
use Rattle.odb_outside.specs.Files.{File, file, file_of, with_file}
use Rattle.library.specs.declared.master.Master.{Master}
use Rattle.tech.specs.Technology.{Technology}
use Rattle.edit_words.specs.declared.edit.Edit.{Edit}
use Rattle.edit_words.specs.declared.part.TechPart.{TechPart}
use Rattle.edit_words.specs.declared.part.TechPart.TheVariants as part
use Rattle.edit_words.specs.declared.refusal.Refusal.{Refusal}
use Rattle.edit_words.specs.declared.step.Step.{Step}
use Rattle.block_store.specs.Block.{Block}
use Rattle.block_store.specs.Database.{Database, IsSoundDatabase}
use Rattle.block_store.specs.Sound.{IsSound}
use Rattle.block_store.proofs.Databases.{sound_with_layer, sound_with_master, sound_with_site, sound_with_units, sound_with_via}
use Rattle.block_steps.proofs.Soundness.{sound_step}
use Rattle.steps_net.specs.Do.{do_all, do_step}
use Rattle.edits.specs.Plan.{CanAll}
use Rattle.edits.proofs.Plans.{planned_can}
use Rattle.lef_build.specs.Building.{built_of}
use Rattle.lef_build.specs.declared.fault.BuildFault.{BuildFault}
use Rattle.lef_build.specs.declared.parts.Parts.{Parts}
use Rattle.lef_files.specs.Texts.{lef_file_of}
use Rattle.lef_files.specs.declared.outcome.LefFileRead.{LefFileRead}
use Rattle.lef_files.specs.declared.outcome.LefFileRead.TheVariants as lef_read
use Rattle.odb_save.specs.Loading.{HasAnAnswer, Loads}
use Rattle.odb_save.specs.Save.{save_bytes}
use Rattle.odb_save.specs.declared.load_fault.LoadFault.{LoadFault}
use Rattle.reports.specs.Reports.{report_of}
use Rattle.reports.specs.declared.query.Query.{Query}
use Rattle.reports.specs.declared.query.Query.TheVariants as query
use Rattle.reports.specs.declared.query.ReportFault.{ReportFault}
use Rattle.script_words.specs.Commands.{Request, request_of}
use Rattle.script_words.specs.declared.command_words.Command.{Command}
use Rattle.script_words.specs.declared.command_words.Command.TheVariants as command
use Rattle.tech_parts.specs.Adding.{added_by, cause_of, goes_on, with_part, with_parts}
use Rattle.tech_parts.specs.declared.fault.PartCause.{PartCause}
use Rattle.tech_parts.specs.declared.fault.PartFault.{PartFault}
use Rattle.tech_parts.proofs.Causes.{layer_may, master_may, site_may, units_are_few, via_may}
use Rattle.odb_run.specs.Answering.{Answered, IsAnswer, IsAnswerUnless, IsCommandAnswer, IsLoadFrom, IsLoadOf, IsLoadReply, IsLoadUnless, IsRequestAnswer, Machine, built_answer, in_state, lef_answer, lef_file_answer, load_answer, read_lef_answer, save_to_answer}
use Rattle.odb_run.specs.Laws.{AreLoadable, IsSoundCopy, IsSoundMachine, IsSoundState}
use Rattle.odb_run.specs.Machine.{Answer, Kept, State, after_edit, begin_answer, edit_answer, edit_answer_by, noted, part_answer, parts_answer, plan_in, report_answer, report_answer_by, undo_answer}
use Rattle.odb_run.specs.Replies.{added_text}

-- ---- edits

sound_steps : (tech : Technology) (library : List Master) (cap : ℕ) (steps : List Step) (b : Block) → IsSound tech library cap b → CanAll tech library cap b steps → IsSound tech library cap (do_all library steps b)
sound_steps tech library cap [] b sound can = sound
sound_steps tech library cap (s ∷ steps) b sound can = sound_steps tech library cap steps (do_step library s b) (sound_step tech library cap b s sound can.0 can.1) can.2

noted_copy : (cap : ℕ) (steps : List Step) (eco : Option Kept) → IfSome eco (IsSoundCopy cap) → IfSome (option_map (noted steps) eco) (IsSoundCopy cap)
noted_copy cap steps None copy = tt
noted_copy cap steps (Some kept) copy = record { sound = copy.sound; capped = copy.capped }

after_steps : (cap : ℕ) (s : State) (steps : List Step) → IsSoundState cap s → CanAll s.database.tech s.database.library s.database.cap s.database.block steps → IsSoundState cap (after_edit steps s)
after_steps cap s steps is can = record {
  sound = record {
    tech = is.sound.tech;
    library = is.sound.library;
    block = sound_steps s.database.tech s.database.library s.database.cap steps s.database.block is.sound.block can;
    capped = is.sound.capped;
  };
  capped = is.capped;
  copy = noted_copy cap steps s.eco is.copy;
}

after_plan : (cap : ℕ) (s : State) (edit : Edit) (planned : Result (List Step) Refusal) → plan_in s edit ≡ planned → IsSoundState cap s → IsSoundState cap (edit_answer_by s planned).state
after_plan cap s edit (Ok steps) planned is =
    after_steps cap s steps is (planned_can s.database.tech s.database.library s.database.cap s.database.block edit steps planned is.sound.block)
after_plan cap s edit (Err why) planned is = is

edit_keeps : (cap : ℕ) (s : State) (edit : Edit) → IsSoundState cap s → IsSoundState cap (edit_answer s edit).state
unfolding edit_answer
edit_keeps cap s edit is = after_plan cap s edit (plan_in s edit) refl is

-- ---- parts

sound_part : (d : Database) (p : TechPart) → IsSoundDatabase d → cause_of d p ≡ None → IsSoundDatabase (with_part p d)
sound_part d (part.Units n) sound may = sound_with_units d n sound (units_are_few d n may)
sound_part d (part.Layer l) sound may = let m = layer_may d l may in sound_with_layer d l sound m.lawful m.new m.room
sound_part d (part.Via v) sound may = let m = via_may d v may in sound_with_via d v sound m.lawful m.new m.room
sound_part d (part.Site s) sound may = let m = site_may d s may in sound_with_site d s sound m.lawful m.new m.room
sound_part d (part.Master x) sound may = let m = master_may d x may in sound_with_master d x sound m.lawful m.new m.room

same_cap : (d : Database) (p : TechPart) → (with_part p d).cap ≡ d.cap
same_cap d (part.Units n) = refl
same_cap d (part.Layer l) = refl
same_cap d (part.Via v) = refl
same_cap d (part.Site s) = refl
same_cap d (part.Master m) = refl

went_on : (at : ℕ) (cause : Option PartCause) (rest : Result Database PartFault) (d : Database) → goes_on at cause rest ≡ Ok d → (cause ≡ None) × (rest ≡ Ok d)
went_on at None rest d went = (refl, went)
went_on at (Some why) rest d went = absurd cc

sound_parts : (before : ℕ) (parts : List TechPart) (d new : Database) → IsSoundDatabase d → with_parts before parts d ≡ Ok new → IsSoundDatabase new × (new.cap ≡ d.cap)
sound_parts before [] d new sound added =
    let same : d ≡ new = cc in
    (subst IsSoundDatabase same sound, ap (λ (x : Database). x.cap) (sym same))
sound_parts before (p ∷ parts) d new sound added =
    let went = went_on _ (cause_of d p) _ new added in
    let rest = sound_parts (before + 1) parts (with_part p d) new (sound_part d p sound went.0) went.1 in
    (rest.0, rest.1 ∙ same_cap d p)

after_parts : (cap : ℕ) (s : State) (text : Database → List ℕ) (parts : List TechPart) (added : Result Database PartFault) → with_parts 0 parts s.database ≡ added → IsSoundState cap s → IsSoundState cap (parts_answer s text added).state
after_parts cap s text parts (Ok d) added is =
    let new = sound_parts 0 parts s.database d is.sound added in
    record { sound = new.0; capped = new.1 ∙ is.capped; copy = is.copy }
after_parts cap s text parts (Err why) added is = is

part_keeps : (cap : ℕ) (s : State) (p : TechPart) (eco : Option Kept) → IsSoundState cap s → IsSoundState cap (part_answer s p eco).state
unfolding part_answer
part_keeps cap s p None is = after_parts cap s _ (p ∷ []) (with_parts 0 (p ∷ []) s.database) refl is
part_keeps cap s p (Some kept) is = is

-- ---- the other lines that touch no file

after_report : (cap : ℕ) (s : State) (report : Result (List ℕ) ReportFault) → IsSoundState cap s → IsSoundState cap (report_answer_by s report).state
after_report cap s (Ok text) is = is
after_report cap s (Err why) is = is

report_keeps : (cap : ℕ) (s : State) (q : Query) → IsSoundState cap s → IsSoundState cap (report_answer s q).state
unfolding report_answer
report_keeps cap s q is = after_report cap s (report_of s.database q) is

begin_keeps : (cap : ℕ) (s : State) (eco : Option Kept) → IsSoundState cap s → IsSoundState cap (begin_answer s eco).state
begin_keeps cap s None is = record { sound = is.sound; capped = is.capped; copy = record { sound = is.sound; capped = is.capped } }
begin_keeps cap s (Some kept) is = is

undo_keeps : (cap : ℕ) (s : State) (eco : Option Kept) → IfSome eco (IsSoundCopy cap) → IsSoundState cap s → IsSoundState cap (undo_answer s eco).state
undo_keeps cap s (Some kept) copy is = record { sound = copy.sound; capped = copy.capped; copy = tt }
undo_keeps cap s None copy is = is

-- ---- files

-- what is found among files that can be loaded can be loaded
found_by : (o : Ordering) (cap : ℕ) (here bytes : List ℕ) (behind : Option (List ℕ)) → HasAnAnswer cap here → (behind ≡ Some bytes → HasAnAnswer cap bytes) → match_ordering o None (Some here) behind ≡ Some bytes → HasAnAnswer cap bytes
found_by ordering.Less cap here bytes behind first rest found = absurd cc
found_by ordering.Equal cap here bytes behind first rest found = let same : here ≡ bytes = cc in subst (HasAnAnswer cap) same first
found_by ordering.Greater cap here bytes behind first rest found = rest found

pub found_loadable : (cap : ℕ) (name : List ℕ) (files : List File) (bytes : List ℕ) → AreLoadable cap files → file_of name files ≡ Some bytes → HasAnAnswer cap bytes
found_loadable cap name [] bytes are found = absurd cc
found_loadable cap name (f ∷ files) bytes are found =
    found_by (slice_cmp nat_cmp name f.name) cap f.bytes bytes (file_of name files) are.0 (found_loadable cap name files bytes are.1) found

entered_by : (o : Ordering) (cap : ℕ) (new f : File) (files rest : List File) → HasAnAnswer cap new.bytes → HasAnAnswer cap f.bytes → AreLoadable cap files → AreLoadable cap rest → AreLoadable cap (match_ordering o (new ∷ f ∷ files) (new ∷ files) (f ∷ rest))
entered_by ordering.Less cap new f files rest fits here are behind = (fits, (here, are))
entered_by ordering.Equal cap new f files rest fits here are behind = (fits, are)
entered_by ordering.Greater cap new f files rest fits here are behind = (here, behind)

entered_loadable : (cap : ℕ) (name bytes : List ℕ) (files : List File) → HasAnAnswer cap bytes → AreLoadable cap files → AreLoadable cap (with_file name bytes files)
entered_loadable cap name bytes [] fits are = (fits, tt)
entered_loadable cap name bytes (f ∷ files) fits are =
    entered_by (slice_cmp nat_cmp name f.name) cap (file name bytes) f files (with_file name bytes files) fits are.0 are.1 (entered_loadable cap name bytes files fits are.1)

-- the saved bytes of a sound database load as it
saved_loadable : (cap : ℕ) (d : Database) → IsSoundDatabase d → d.cap ≡ cap → HasAnAnswer cap (save_bytes d)
saved_loadable cap d sound capped none = none (Ok d) (record { sound = sound; saved = refl; capped = capped })

-- ---- answers

in_state_keeps : (cap : ℕ) (m : Machine) (answer : Answer) → IsSoundMachine cap m → IsSoundState cap answer.state → IsSoundMachine cap (in_state m answer).machine
in_state_keeps cap m answer is state = record { state = state; files = is.files }

save_keeps : (cap : ℕ) (m : Machine) (name : List ℕ) → IsSoundMachine cap m → IsSoundMachine cap (save_to_answer m name).machine
save_keeps cap m name is = record {
  state = is.state;
  files = entered_loadable cap name (save_bytes m.state.database) m.files (saved_loadable cap m.state.database is.state.sound is.state.capped) is.files;
}

load_keeps : (cap : ℕ) (m : Machine) (count : ℕ) (bytes : List ℕ) (result : Result Database LoadFault) → IsSoundMachine cap m → Loads m.state.database.cap bytes result → IsSoundMachine cap (load_answer m count result).machine
load_keeps cap m count bytes (Ok d) is loads = record { state = record { sound = loads.sound; capped = loads.capped ∙ is.state.capped; copy = is.state.copy }; files = is.files }
load_keeps cap m count bytes (Err why) is loads = is

built_keeps : (cap : ℕ) (m : Machine) (built : Result Parts BuildFault) → IsSoundMachine cap m → IsSoundMachine cap (built_answer m built).machine
built_keeps cap m (Ok p) is =
    let text : Database → List ℕ = λ d. added_text p.passed (added_by p.parts m.state.database d) in
    let added = with_parts 0 p.parts m.state.database in
    in_state_keeps cap m (parts_answer m.state text added) is (after_parts cap m.state text p.parts added refl is.state)
built_keeps cap m (Err why) is = is

lef_keeps : (cap : ℕ) (m : Machine) (read : LefFileRead) → IsSoundMachine cap m → IsSoundMachine cap (lef_answer m read).machine
lef_keeps cap m (lef_read.Tree tree) is = built_keeps cap m (built_of m.state.database.tech m.state.database.library tree) is
lef_keeps cap m lef_read.NoFile is = is
lef_keeps cap m (lef_read.Refused line kind) is = is

lef_file_keeps : (cap : ℕ) (m : Machine) (found : Option (List ℕ)) → IsSoundMachine cap m → IsSoundMachine cap (lef_file_answer m found).machine
lef_file_keeps cap m None is = is
lef_file_keeps cap m (Some bytes) is = lef_keeps cap m (lef_file_of bytes) is

read_lef_keeps : (cap : ℕ) (m : Machine) (name : List ℕ) (eco : Option Kept) → IsSoundMachine cap m → IsSoundMachine cap (read_lef_answer m name eco).machine
read_lef_keeps cap m name None is = lef_file_keeps cap m (file_of name m.files) is
read_lef_keeps cap m name (Some kept) is = is

-- the answer is this one
by : (cap : ℕ) (a b : Answered) → a ≡ b → IsSoundMachine cap b.machine → IsSoundMachine cap a.machine
by cap a b same is = subst (λ (x : Answered). IsSoundMachine cap x.machine) (sym same) is

-- the answer touches no file
by_state : (cap : ℕ) (m : Machine) (answer : Answer) (a : Answered) → a ≡ in_state m answer → IsSoundMachine cap m → IsSoundState cap answer.state → IsSoundMachine cap a.machine
by_state cap m answer a same is state = by cap a (in_state m answer) same (in_state_keeps cap m answer is state)

load_of_keeps : (cap : ℕ) (m : Machine) (bytes : List ℕ) (a : Answered) → IsSoundMachine cap m → IsLoadOf m bytes a → IsSoundMachine cap a.machine
load_of_keeps cap m bytes a is answer = by cap a _ answer.is (load_keeps cap m (length bytes) bytes answer.result is answer.loads)

load_unless_keeps : (long : Bool) (cap : ℕ) (m : Machine) (bytes : List ℕ) (a : Answered) → IsSoundMachine cap m → IsLoadUnless long m bytes a → IsSoundMachine cap a.machine
load_unless_keeps true cap m bytes a is answer = by cap a _ answer is
load_unless_keeps false cap m bytes a is answer = load_of_keeps cap m bytes a is answer

load_from_keeps : (cap : ℕ) (m : Machine) (found : Option (List ℕ)) (a : Answered) → IsSoundMachine cap m → IsLoadFrom m found a → IsSoundMachine cap a.machine
load_from_keeps cap m None a is answer = by cap a _ answer is
load_from_keeps cap m (Some bytes) a is answer = load_unless_keeps (nat_lt 4294967295 (length bytes)) cap m bytes a is answer

load_reply_keeps : (cap : ℕ) (m : Machine) (name : List ℕ) (eco : Option Kept) (a : Answered) → IsSoundMachine cap m → IsLoadReply m name eco a → IsSoundMachine cap a.machine
load_reply_keeps cap m name None a is answer = load_from_keeps cap m (file_of name m.files) a is answer
load_reply_keeps cap m name (Some kept) a is answer = by cap a _ answer is

command_keeps : (cap : ℕ) (m : Machine) (c : Command) (a : Answered) → IsSoundMachine cap m → IsCommandAnswer m c a → IsSoundMachine cap a.machine
command_keeps cap m (command.Edit edit) a is answer = by_state cap m (edit_answer m.state edit) a answer is (edit_keeps cap m.state edit is.state)
command_keeps cap m (command.Units n) a is answer = by_state cap m (part_answer m.state (part.Units n) m.state.eco) a answer is (part_keeps cap m.state (part.Units n) m.state.eco is.state)
command_keeps cap m (command.Layer l) a is answer = by_state cap m (part_answer m.state (part.Layer l) m.state.eco) a answer is (part_keeps cap m.state (part.Layer l) m.state.eco is.state)
command_keeps cap m (command.Site s) a is answer = by_state cap m (part_answer m.state (part.Site s) m.state.eco) a answer is (part_keeps cap m.state (part.Site s) m.state.eco is.state)
command_keeps cap m (command.Master x) a is answer = by_state cap m (part_answer m.state (part.Master x) m.state.eco) a answer is (part_keeps cap m.state (part.Master x) m.state.eco is.state)
command_keeps cap m (command.ReadLef name) a is answer = by cap a _ answer (read_lef_keeps cap m name m.state.eco is)
command_keeps cap m (command.Find k name) a is answer = by_state cap m (report_answer m.state (query.Find k name)) a answer is (report_keeps cap m.state (query.Find k name) is.state)
command_keeps cap m (command.List k) a is answer = by_state cap m (report_answer m.state (query.List k)) a answer is (report_keeps cap m.state (query.List k) is.state)
command_keeps cap m (command.Free k) a is answer = by_state cap m (report_answer m.state (query.Free k)) a answer is (report_keeps cap m.state (query.Free k) is.state)
command_keeps cap m command.Counts a is answer = by_state cap m (report_answer m.state query.Counts) a answer is (report_keeps cap m.state query.Counts is.state)
command_keeps cap m (command.Terms net) a is answer = by_state cap m (report_answer m.state (query.Terms net)) a answer is (report_keeps cap m.state (query.Terms net) is.state)
command_keeps cap m (command.Save name) a is answer = by cap a _ answer (save_keeps cap m name is)
command_keeps cap m command.SaveShown a is answer = by cap a _ answer is
command_keeps cap m (command.Load name) a is answer = load_reply_keeps cap m name m.state.eco a is answer
command_keeps cap m command.EcoBegin a is answer = by_state cap m (begin_answer m.state m.state.eco) a answer is (begin_keeps cap m.state m.state.eco is.state)
command_keeps cap m command.EcoUndo a is answer = by_state cap m (undo_answer m.state m.state.eco) a answer is (undo_keeps cap m.state m.state.eco is.state.copy is.state)

request_keeps : (cap : ℕ) (m : Machine) (r : Request) (a : Answered) → IsSoundMachine cap m → IsRequestAnswer m r a → IsSoundMachine cap a.machine
request_keeps cap m (Ok None) a is answer = by cap a _ answer is
request_keeps cap m (Ok (Some c)) a is answer = command_keeps cap m c a is answer
request_keeps cap m (Err why) a is answer = by cap a _ answer is

unless_keeps : (long : Bool) (cap : ℕ) (m : Machine) (line : List ℕ) (a : Answered) → IsSoundMachine cap m → IsAnswerUnless long m line a → IsSoundMachine cap a.machine
unless_keeps true cap m line a is answer = by cap a _ answer is
unless_keeps false cap m line a is answer = request_keeps cap m (request_of line) a is answer

-- the answer to a line leaves the machine sound
pub answer_keeps : (cap : ℕ) (m : Machine) (line : List ℕ) (a : Answered) → IsSoundMachine cap m → IsAnswer m line a → IsSoundMachine cap a.machine
unfolding IsAnswer
answer_keeps cap m line a is answer = unless_keeps (nat_lt 65535 (length line)) cap m line a is answer
