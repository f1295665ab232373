-- The steps of an edit, done one after the other.
use Rattle.std.proofs.Common.{◌≡◌, List, [], ◌∷◌, ◌++◌, Option, Some, None, refl, sym, ap, ◌∙◌, option_map, reverse}
use Rattle.std.proofs.lemmas.List.{append-nil, append_assoc, reverse-append}
use Rattle.library.specs.declared.master.Master.{Master}
use Rattle.edit_words.specs.declared.step.Step.{Step}
use Rattle.block_store.specs.Block.{Block}
use Rattle.steps_net.specs.Do.{do_all, do_step}
use Rattle.odb_run.specs.Machine.{Kept, State, after_edit, noted}

do_all-append : (library : List Master) (steps more : List Step) (b : Block) → do_all library (steps ++ more) b ≡ do_all library more (do_all library steps b)
do_all-append library [] more b = refl
do_all-append library (s ∷ steps) more b = do_all-append library steps more (do_step library s b)

noted-append : (steps more : List Step) (eco : Option Kept) → option_map (noted (steps ++ more)) eco ≡ option_map (noted more) (option_map (noted steps) eco)
noted-append steps more None = refl
noted-append steps more (Some kept) = ap (λ (all : List Step). Some (record kept { steps = all })) (sym (append_assoc kept.steps steps more))

-- steps after others
pub after-more : (steps more : List Step) (s : State) → after_edit (steps ++ more) s ≡ after_edit more (after_edit steps s)
after-more steps more s = rw (do_all-append s.database.library steps more s.database.block, noted-append steps more s.eco) refl

kept-none : (eco : Option Kept) → option_map (noted []) eco ≡ eco
kept-none None = refl
kept-none (Some kept) = ap (λ (all : List Step). Some (record kept { steps = all })) (append-nil kept.steps)

-- no steps change nothing
pub after-none : (s : State) → after_edit [] s ≡ s
after-none s = rw (kept-none s.eco) refl

-- the step that is taken next
pub next_first : (steps : List Step) (step : Step) → reverse (steps ++ step ∷ []) ≡ step ∷ reverse steps
next_first steps step = reverse-append steps (step ∷ [])

-- the first of these steps were done, and these are left
pub record IsUnderWay (steps left : List Step) (old new : State) : Type 0 where
  pub done : List Step
  pub split : steps ≡ done ++ left
  pub state : new ≡ after_edit done old

-- one more step is done
pub goes_on : (steps left : List Step) (step : Step) (old new next : State) → IsUnderWay steps (step ∷ left) old new → next ≡ after_edit (step ∷ []) new → IsUnderWay steps left old next
goes_on steps left step old new next way is = record {
  done = way.done ++ step ∷ [];
  split = way.split ∙ sym (append_assoc way.done (step ∷ []) left);
  state = is ∙ ap (after_edit (step ∷ [])) way.state ∙ sym (after-more way.done (step ∷ []) old);
}

-- all steps are done
pub all_done : (steps : List Step) (old new : State) → IsUnderWay steps [] old new → new ≡ after_edit steps old
all_done steps old new way = way.state ∙ ap (λ (done : List Step). after_edit done old) (sym (way.split ∙ append-nil way.done))
