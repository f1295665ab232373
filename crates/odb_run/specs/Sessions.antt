-- What the calls of a session do to its state.
use Rattle.std.specs.Prelude.{◌≡◌, ◌≢◌, ◌++◌, List, [], ℕ, Option, None, Some, Result, Ok, Err, length}
use Rattle.edit_words.specs.declared.edit.Edit.{Edit}
use Rattle.edit_words.specs.declared.part.TechPart.{TechPart}
use Rattle.edit_words.specs.declared.refusal.Refusal.{Refusal}
use Rattle.edit_words.specs.declared.refusal.Refusal.TheVariants as refusal
use Rattle.edit_words.specs.declared.step.Step.{Step}
use Rattle.odb_save.specs.Loading.{Loads}
use Rattle.odb_save.specs.declared.load_fault.LoadFault.{LoadFault}
use Rattle.odb_save.specs.declared.load_fault.LoadFault.TheVariants as load
use Rattle.steps_net.specs.Do.{do_all}
use Rattle.edits.specs.Plan.{made}
use Rattle.tech_parts.specs.Adding.{added_by, with_parts}
use Rattle.tech_parts.specs.declared.adding.Added.{Added}
use Rattle.tech_parts.specs.declared.fault.PartFault.{PartFault}
use Rattle.tech_parts.specs.declared.fault.PartFault.TheVariants as part
use Rattle.odb_run.specs.declared.outcome.Outcome.{Outcome}
use Rattle.odb_run.specs.declared.session.AddFault.{AddFault}
use Rattle.odb_run.specs.declared.session.AddFault.TheVariants as add
use Rattle.odb_run.specs.declared.session.UndoFault.{UndoFault}
use Rattle.odb_run.specs.declared.session.UndoFault.TheVariants as undo
use Rattle.odb_run.specs.declared.session.WrongState.{WrongState}
use Rattle.odb_run.specs.Machine.{Kept, State, after_edit, eco_state, lone_outcome, plan_in}

-- the first of these steps were done
pub record IsPartDone (steps : List Step) (old new : State) : Type 0 where
  pub done : List Step
  pub rest : List Step
  pub split : steps ≡ done ++ rest
  pub state : new ≡ after_edit done old

-- the plan's steps were done, and this is what they came to
abbrev pub IsPlanned : Result (List Step) Refusal → State → Outcome → State → Type 0
IsPlanned (Ok steps) s outcome new = (new ≡ after_edit steps s) × (outcome ≡ lone_outcome (made steps))
IsPlanned (Err why) s outcome new = ⊥

-- the first of the plan's steps were done, or nothing was
abbrev pub IsPartPlanned : Result (List Step) Refusal → State → State → Type 0
IsPartPlanned (Ok steps) s new = IsPartDone steps s new
IsPartPlanned (Err why) s new = new ≡ s

-- What an edit does. Refused by its plan, it leaves the state as it was; for want of memory the first of the
-- plan's steps may be done.
abbrev pub Edits : State → Edit → Result Outcome Refusal → State → Type 0
Edits s edit (Ok outcome) new = IsPlanned (plan_in s edit) s outcome new
Edits s edit (Err why) new = (why ≢ refusal.Memory → (plan_in s edit ≡ Err why) × (new ≡ s)) × IsPartPlanned (plan_in s edit) s new

-- what `eco_begin` does: a copy of the database is kept
abbrev pub Begins : State → Option Kept → Result (Unit {0}) WrongState → State → Type 0
Begins s None (Ok done) new = new ≡ record s { eco = Some (record { copy = s.database; steps = [] }) }
Begins s (Some kept) (Err fault) new = (fault.is ≡ eco_state (Some kept)) × (new ≡ s)
Begins s None (Err fault) new = ⊥
Begins s (Some kept) (Ok done) new = ⊥

-- the first of the steps that an ECO noted are left: they lead from its copy to the database
pub record IsPartUndone (kept : Kept) (new : State) : Type 0 where
  pub front : List Step
  pub rest : List Step
  pub steps : kept.steps ≡ front ++ rest
  pub eco : new.eco ≡ Some (record kept { steps = front })
  pub leads : new.database ≡ record kept.copy { block = do_all kept.copy.library front kept.copy.block }

-- What `eco_undo` does: the database is the copy, and the answer is how many steps were undone. For want of
-- memory the ECO stands with the first of its steps.
abbrev pub Undoes : State → Option Kept → Result ℕ UndoFault → State → Type 0
Undoes s (Some kept) (Ok count) new = (new ≡ record { database = kept.copy; eco = None }) × (count ≡ length kept.steps)
Undoes s None (Err (undo.WrongState is)) new = (is ≡ eco_state None) × (new ≡ s)
Undoes s (Some kept) (Err undo.Memory) new = IsPartUndone kept new
Undoes s None (Err undo.Memory) new = ⊥
Undoes s (Some kept) (Err (undo.WrongState is)) new = ⊥
Undoes s None (Ok count) new = ⊥

-- what entering parts comes to where no ECO stands
abbrev pub IsAdded : State → List TechPart → Result Added PartFault → State → Type 0
IsAdded s parts (Ok added) new = (with_parts 0 parts s.database ≡ Ok new.database) × (new ≡ record s { database = new.database }) × (added ≡ added_by parts s.database new.database)
IsAdded s parts (Err why) new = (why ≢ part.Memory → with_parts 0 parts s.database ≡ Err why) × (new ≡ s)

-- what adding parts does
abbrev pub Adds : State → List TechPart → Option Kept → Result Added AddFault → State → Type 0
Adds s parts None (Ok added) new = IsAdded s parts (Ok added) new
Adds s parts None (Err (add.Part why)) new = IsAdded s parts (Err why) new
Adds s parts None (Err (add.WrongState is)) new = ⊥
Adds s parts (Some kept) (Ok added) new = ⊥
Adds s parts (Some kept) (Err (add.Part why)) new = ⊥
Adds s parts (Some kept) (Err (add.WrongState is)) new = (is ≡ eco_state (Some kept)) × (new ≡ s)

-- What loading bytes does: the database is the one that they spell, with the cap of the one that stood.
abbrev pub Puts : State → List ℕ → Result (Unit {0}) LoadFault → State → Type 0
Puts s bytes (Ok done) new = Loads s.database.cap bytes (Ok new.database) × (new ≡ record s { database = new.database })
Puts s bytes (Err load.Memory) new = new ≡ s
Puts s bytes (Err why) new = Loads s.database.cap bytes (Err why) × (new ≡ s)
