-- Steps taken back. The machine has no journal: this module says for which copy one stands.
use Rattle.std.specs.Prelude.{◌≡◌, ◌++◌, List, [], ◌∷◌, Option, None, Some, ⊤, map}
use Rattle.edit_words.specs.Tag.{tag_of}
use Rattle.edit_words.specs.declared.step.Step.{Step}
use Rattle.block_store.specs.Block.{Block}
use Rattle.block_store.specs.Database.{Database}
use Rattle.steps_net.specs.Back.{Came, back}
use Rattle.odb_run.specs.declared.journal.Entry.{Entry}
use Rattle.odb_run.specs.Machine.{Kept}
use Rattle.odb_run.specs.Noted.{Noted}

-- the block before the steps of a journal, which go back from the last to the first
abbrev pub undone : List Entry → Block → Block
undone [] block = block
undone (e ∷ entries) block = back (tag_of e.step) e.memo (undone entries block)

-- each step of a journal led from the block before it to where the steps behind it begin
abbrev pub IsUndoable : Database → List Entry → Block → Type 0
IsUndoable d [] block = ⊤
IsUndoable d (e ∷ entries) block =
    Came d.tech d.library d.cap (undone (e ∷ entries) block) e.step e.memo (undone entries block) × IsUndoable d entries block

-- the entries are the first ones of others
pub record IsFront (entries others : List Entry) : Type 0 where
  pub rest : List Entry
  pub is : others ≡ entries ++ rest

-- the steps of a journal, in the order in which they were done
abbrev pub steps_of : List Entry → List Step
steps_of entries = map (λ e. e.step) entries

-- what the machine keeps where the session has this journal
abbrev pub kept_of : Database → List Entry → Kept
kept_of d entries = record { copy = record d { block = undone entries d.block }; steps = steps_of entries }

-- what the machine keeps where the session has this journal, if it has one
abbrev pub eco_of : Database → Option Noted → Option Kept
eco_of d None = None
eco_of d (Some journal) = Some (kept_of d journal.entries)

-- a journal, if there is one, leads back from the block
abbrev pub LeadsBack : Option Noted → Database → Type 0
LeadsBack None d = ⊤
LeadsBack (Some journal) d = IsUndoable d journal.entries d.block
