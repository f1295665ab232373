-- The copying machine, apart from its files. It keeps a whole copy of the database while an ECO stands, and undo
-- puts back that very copy.
use Rattle.std.specs.Prelude.{Bool, true, false, List, [], ◌∷◌, ◌++◌, ℕ, Option, None, Some, Result, Ok, Err, length, option_map}
use Rattle.odb_base.specs.declared.eco_state.EcoState.{EcoState}
use Rattle.odb_base.specs.declared.eco_state.EcoState.TheVariants as state
use Rattle.edit_words.specs.declared.edit.Edit.{Edit}
use Rattle.edit_words.specs.declared.part.TechPart.{TechPart}
use Rattle.edit_words.specs.declared.refusal.Refusal.{Refusal}
use Rattle.edit_words.specs.declared.step.Step.{Step}
use Rattle.block_store.specs.Database.{Database, empty_database}
use Rattle.steps_net.specs.Do.{do_all}
use Rattle.edits.specs.Plan.{made, plan}
use Rattle.odb_save.specs.Save.{save_bytes}
use Rattle.reports.specs.Reports.{report_of}
use Rattle.reports.specs.declared.query.Query.{Query}
use Rattle.reports.specs.declared.query.ReportFault.{ReportFault}
use Rattle.tech_parts.specs.Adding.{last_id, with_parts}
use Rattle.tech_parts.specs.declared.fault.PartFault.{PartFault}
use Rattle.odb_run.specs.declared.outcome.Outcome.{Outcome}
use Rattle.odb_run.specs.Replies.{number_text, ok_text, outcome_text, part_text, refusal_text, report_fault_text, saved_text, wrong_state_text}

-- what stands with an ECO: the copy that was kept, and the steps that were accepted since
pub record Kept : Type 0 where
  pub copy : Database
  pub steps : List Step

-- a state: the database, and what stands with an ECO, if one does
pub record State : Type 0 where
  pub database : Database
  pub eco : Option Kept

-- no ECO stands, and the database is empty
unfoldable pub start : ℕ → State
start cap = record { database = empty_database cap; eco = None }

-- the ECO state: whether an ECO stands
abbrev pub eco_state : Option Kept → EcoState
eco_state None = state.None
eco_state (Some kept) = state.Open

-- the answer to a line that touches no file: the state after it, the text of its reply, and whether the reply is a
-- refusal
pub record Answer : Type 0 where
  pub state : State
  pub text : List ℕ
  pub refused : Bool

-- what was asked for is done: the state after it, and the text of the reply
abbrev pub accepted : State → List ℕ → Answer
accepted s text = record { state = s; text = text; refused = false }

-- a refusal leaves the state as it was
abbrev pub refused : State → List ℕ → Answer
refused s text = record { state = s; text = text; refused = true }

-- a line that asks for nothing has no reply
abbrev pub unanswered : State → Answer
unanswered s = record { state = s; text = []; refused = false }

-- what an edit without nested edits came to
abbrev pub lone_outcome : ℕ → Outcome
lone_outcome id = record { id = id; accepted = 1; refused = 0; deep = 0; many = 0 }

-- the steps are noted with an ECO
abbrev pub noted : List Step → Kept → Kept
noted steps kept = record kept { steps = kept.steps ++ steps }

-- the database after steps
abbrev pub after_steps : List Step → Database → Database
after_steps steps d = record d { block = do_all d.library steps d.block }

-- the state after steps, which an ECO that stands notes
abbrev pub after_edit : List Step → State → State
after_edit steps s = record { database = after_steps steps s.database; eco = option_map (noted steps) s.eco }

-- the answer by the plan of an edit: its steps are done, or it is refused
abbrev pub edit_answer_by : State → Result (List Step) Refusal → Answer
edit_answer_by s (Ok steps) = accepted (after_edit steps s) (outcome_text (lone_outcome (made steps)))
edit_answer_by s (Err why) = refused s (refusal_text why)

-- the plan of an edit in a state
abbrev pub plan_in : State → Edit → Result (List Step) Refusal
plan_in s edit = plan s.database.tech s.database.library s.database.cap s.database.block edit

-- an edit does the steps of its plan, or is refused as its plan is
unfoldable pub edit_answer : State → Edit → Answer
edit_answer s edit = edit_answer_by s (plan_in s edit)

-- the answer by what entering parts came to
abbrev pub parts_answer : State → (Database → List ℕ) → Result Database PartFault → Answer
parts_answer s text (Ok d) = accepted (record s { database = d }) (text d)
parts_answer s text (Err why) = refused s (part_text why)

-- the text of an accepted part: its identifier
abbrev pub entered_text : TechPart → Database → List ℕ
entered_text p d = number_text (last_id d p)

-- `units`, `layer`, `site` and `master` enter a part where no ECO stands
unfoldable pub part_answer : State → TechPart → Option Kept → Answer
part_answer s p None = parts_answer s (entered_text p) (with_parts 0 (p ∷ []) s.database)
part_answer s p (Some kept) = refused s (wrong_state_text state.Open)

-- the answer by the report on a query, which leaves the state as it was
abbrev pub report_answer_by : State → Result (List ℕ) ReportFault → Answer
report_answer_by s (Ok text) = accepted s text
report_answer_by s (Err fault) = refused s (report_fault_text fault)

-- a query has the reply of its report
unfoldable pub report_answer : State → Query → Answer
report_answer s q = report_answer_by s (report_of s.database q)

-- `eco_begin` keeps a copy of the whole database
abbrev pub begin_answer : State → Option Kept → Answer
begin_answer s None = accepted (record s { eco = Some (record { copy = s.database; steps = [] }) }) ok_text
begin_answer s (Some kept) = refused s (wrong_state_text state.Open)

-- `eco_undo` puts back the copy
abbrev pub undo_answer : State → Option Kept → Answer
undo_answer s (Some kept) = accepted (record { database = kept.copy; eco = None }) (number_text (length kept.steps))
undo_answer s None = refused s (wrong_state_text state.None)

-- `save -` shows the saved bytes
abbrev pub save_answer : State → Answer
save_answer s = accepted s (saved_text (save_bytes s.database))
