-- The words of ECO states.
use Rattle.std.specs.Prelude.{List, ℕ, codes}
use Rattle.odb_base.specs.declared.eco_state.EcoState.{EcoState}
use Rattle.odb_base.specs.declared.eco_state.EcoState.TheVariants as state

-- the word of an ECO state in replies
unfoldable pub eco_state_word : EcoState → List ℕ
eco_state_word state.None = codes "None"
eco_state_word state.Open = codes "Open"
eco_state_word state.Ended = codes "Ended"
