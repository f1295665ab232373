use Rattle.std.proofs.Common.{◌≡◌, ℕ, List, drop}
use Rattle.block_store.specs.Store.{Store}
use Rattle.steps_net.specs.Do.{terms_given}
use Rattle.steps_net.proofs.instances.give_terms.Given as goal

pub record IsGiving (terms : List ℕ) (place : ℕ) (first now : Store) : Type 0 where
  pub done : now.block ≡ record first.block { iterm = terms_given (drop place terms) first.block.iterm }
  pub capped : now.cap ≡ first.cap

abbrev pub invariant-loop-index : goal.invariant-loop-index
invariant-loop-index g l = IsGiving l.terminals l.index l.initial.block l.block
