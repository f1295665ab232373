-- What a call answers that plans an edit.
use Rattle.std.specs.Prelude.{◌≡◌, ◌≢◌, ◌≤◌, List, ℕ, Some, Result, Ok, Err, Vec}
use Rattle.library.specs.declared.master.Master.{Master}
use Rattle.block_store.specs.Instances.{term_count}
use Rattle.edit_words.specs.declared.refusal.Refusal.{Refusal}
use Rattle.edit_words.specs.declared.refusal.Refusal.TheVariants as refusal
use Rattle.edit_words.specs.declared.step.Step.{Step}
use Rattle.edits.specs.Plan.{Planned}

-- The steps or the refusal are those of the plan; or there is no memory, which says nothing.
module _ {Z : Type 0} where
  abbrev pub IsPlanned : Planned → Result (Vec Step Z) Refusal → Type 0
  IsPlanned planned (Ok steps) = planned ≡ Ok steps.items
  IsPlanned planned (Err why) = why ≢ refusal.Memory → planned ≡ Err why

-- no master has more than 65,535 terminals
abbrev pub HasFewTerminals : List Master → Type 0
HasFewTerminals library = (id n : ℕ) → term_count library id ≡ Some n → n ≤ 65535
