-- What steps come to, in other words than those of their definitions.
use Rattle.std.specs.Prelude.{◌≡◌, List, ℕ, Some, slice_get}
use Rattle.library.specs.Terminals.{term_name}
use Rattle.library.specs.declared.master.Master.{Master}
use Rattle.edit_words.specs.declared.step.Step.TheVariants as step
use Rattle.tech.specs.Technology.{Technology}
use Rattle.block_store.specs.Block.{Block}
use Rattle.block_store.specs.Sound.{IsSound, inst_terms}
use Rattle.steps_net.specs.Can.{CanSwap}
use Rattle.steps_net.specs.Do.{do_step}

-- each terminal of an instance that got another master stood among its terminals before, under the same name: the one
-- of the old master at its place then is the one of the new master at its place now
abbrev pub KeepNames : (library : List Master) (b : Block) (inst master : ℕ) → CanSwap library b inst master → Type 0
KeepNames library b inst master can = (k id : ℕ) → slice_get (inst_terms (do_step library (step.Swap inst master) b) inst) k ≡ Some id
    → (j : ℕ) × (slice_get (inst_terms b inst) j ≡ Some id) × (term_name can.old j ≡ term_name can.new k)

-- and so for each swap that may be done in a sound block
abbrev pub SwapsKeepNames : Type 0
SwapsKeepNames = (tech : Technology) (library : List Master) (cap : ℕ) (b : Block) (inst master : ℕ) → IsSound tech library cap b → (can : CanSwap library b inst master) → KeepNames library b inst master can
