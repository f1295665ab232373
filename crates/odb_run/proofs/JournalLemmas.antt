-- A journal with one more step at its end, and where its steps lead.
use Rattle.std.proofs.Common.{◌≡◌, List, [], ◌∷◌, ◌++◌, Some, Err, refl, sym, ap, ◌∙◌, subst}
use Rattle.std.proofs.lemmas.List.{map-append}
use Rattle.edit_words.specs.Tag.{tag_of}
use Rattle.block_store.specs.Block.{Block}
use Rattle.block_store.specs.Database.{Database}
use Rattle.steps_net.specs.Back.{Came, back}
use Rattle.steps_net.specs.Do.{do_all}
use Rattle.odb_run.specs.declared.journal.Entry.{Entry}
use Rattle.odb_run.specs.Journal.{IsFront, IsUndoable, eco_of, kept_of, steps_of, undone}
use Rattle.odb_run.specs.Machine.{State}
use Rattle.odb_run.specs.Noted.{Noted}
use Rattle.odb_run.specs.Sessions.{IsPartUndone, Undoes}
use Rattle.odb_run.specs.declared.session.UndoFault.TheVariants as undo

-- the block before the step of an entry
abbrev pub before : Entry → Block → Block
before e block = back (tag_of e.step) e.memo block

-- the last step goes back first
pub undone-push : (entries : List Entry) (e : Entry) (block : Block) → undone (entries ++ e ∷ []) block ≡ undone entries (before e block)
undone-push [] e block = refl
undone-push (first ∷ entries) e block = ap (before first) (undone-push entries e block)

-- the step of an entry led from the block before it to this one
abbrev pub Led : Database → Entry → Block → Type 0
Led d e block = Came d.tech d.library d.cap (before e block) e.step e.memo block

pub undoable-push : (d : Database) (entries : List Entry) (e : Entry) (block : Block) → Led d e block → IsUndoable d entries (before e block) → IsUndoable d (entries ++ e ∷ []) block
undoable-push d [] e block led undoable = (led, tt)
undoable-push d (first ∷ entries) e block led undoable = (
  subst (λ (b : Block). Led d first b) (sym (undone-push entries e block)) undoable.0,
  undoable-push d entries e block led undoable.1,
)

pub undoable-pop : (d : Database) (entries : List Entry) (e : Entry) (block : Block) → IsUndoable d (entries ++ e ∷ []) block → Led d e block × IsUndoable d entries (before e block)
undoable-pop d [] e block undoable = (undoable.0, tt)
undoable-pop d (first ∷ entries) e block undoable =
    let rest = undoable-pop d entries e block undoable.1 in
    (rest.0, (subst (λ (b : Block). Led d first b) (undone-push entries e block) undoable.0, rest.1))

-- the steps of a journal lead from the block before them to the block
pub steps_lead : (d : Database) (entries : List Entry) (block : Block) → IsUndoable d entries block → do_all d.library (steps_of entries) (undone entries block) ≡ block
steps_lead d [] block undoable = refl
steps_lead d (e ∷ entries) block undoable =
    ap (do_all d.library (steps_of entries)) (sym (undoable.0.after)) ∙ steps_lead d entries block undoable.1

-- a journal that can be taken back doesn't hang on the block of the database that it is told with
pub rebased : (d : Database) (b : Block) (entries : List Entry) (block : Block) → IsUndoable d entries block → IsUndoable (record d { block = b }) entries block
rebased d b [] block undoable = tt
rebased d b (e ∷ entries) block undoable = (undoable.0, rebased d b entries block undoable.1)

-- a journal with one more entry leads back to the same block
pub more-undone : (entries new : List Entry) (e : Entry) (block old : Block) → new ≡ entries ++ e ∷ [] → before e block ≡ old → undone new block ≡ undone entries old
more-undone entries new e block old is went =
    ap (λ (es : List Entry). undone es block) is ∙ undone-push entries e block ∙ ap (undone entries) went

pub more-undoable : (d : Database) (entries new : List Entry) (e : Entry) (after : Block) → new ≡ entries ++ e ∷ [] → before e after ≡ d.block
    → Came d.tech d.library d.cap d.block e.step e.memo after → IsUndoable d entries d.block → IsUndoable (record d { block = after }) new after
more-undoable d entries new e after is went came undoable =
    rebased d after new after (subst (λ (es : List Entry). IsUndoable d es after) (sym is)
    (undoable-push d entries e after
    (subst (λ (b : Block). Came d.tech d.library d.cap b e.step e.memo after) (sym went) came)
    (subst (λ (b : Block). IsUndoable d entries b) (sym went) undoable)))

-- a journal whose last entry this is
pub last-led : (d : Database) (entries rest : List Entry) (e : Entry) → entries ≡ rest ++ e ∷ [] → IsUndoable d entries d.block → Led d e d.block
last-led d entries rest e is undoable = (undoable-pop d rest e d.block (subst (λ (es : List Entry). IsUndoable d es d.block) is undoable)).0

pub rest-undoable : (d : Database) (entries rest : List Entry) (e : Entry) → entries ≡ rest ++ e ∷ [] → IsUndoable d entries d.block → (after : Block) → after ≡ before e d.block → IsUndoable (record d { block = after }) rest after
rest-undoable d entries rest e is undoable after went =
    rebased d after rest after (subst (λ (b : Block). IsUndoable d rest b) (sym went)
    (undoable-pop d rest e d.block (subst (λ (es : List Entry). IsUndoable d es d.block) is undoable)).1)

pub rest-undone : (d : Database) (entries rest : List Entry) (e : Entry) → entries ≡ rest ++ e ∷ [] → (after : Block) → after ≡ before e d.block → undone rest after ≡ undone entries d.block
rest-undone d entries rest e is after went =
    ap (undone rest) went ∙ sym (undone-push rest e d.block) ∙ ap (λ (es : List Entry). undone es d.block) (sym is)

-- for want of memory the first steps of an ECO are left
pub part-undone : (d : Database) (block : Block) (entries left : List Entry) → undone left block ≡ undone entries d.block → IsUndoable (record d { block = block }) left block → IsFront left entries
    → IsPartUndone (kept_of d entries) (record { database = record d { block = block }; eco = Some (kept_of (record d { block = block }) left) })
part-undone d block entries left copy undoable front = record {
  front = steps_of left;
  rest = steps_of front.rest;
  steps = ap steps_of front.is ∙ map-append (λ (e : Entry). e.step) left front.rest;
  eco = ap (λ (b : Block). Some (record { copy = record d { block = b }; steps = steps_of left })) copy;
  leads = ap (λ (b : Block). record d { block = b })
      (sym (steps_lead (record d { block = block }) left block undoable) ∙ ap (do_all d.library (steps_of left)) copy);
}

pub undoes-in-part : (s : State) (d new : Database) (journal left : Noted) → s ≡ record { database = d; eco = eco_of d (Some journal) } → new ≡ record d { block = new.block }
    → undone left.entries new.block ≡ undone journal.entries d.block → IsUndoable new left.entries new.block → IsFront left.entries journal.entries
    → Undoes s s.eco (Err undo.Memory) (record { database = new; eco = eco_of new (Some left) })
undoes-in-part s d new journal left is same copy undoable front =
    rw (is, same) (part-undone d new.block journal.entries left.entries copy (rw same at undoable) front)
