-- What the calls ask that do a step, where the step may be done.
use Rattle.std.proofs.Common.{◌≡◌, ◌≢◌, List, ℕ, IsTrue, subst}
use Rattle.odb_base.specs.declared.codes.kind.Kind.{Kind}
use Rattle.odb_base.specs.declared.codes.kind.Kind.TheVariants as kind
use Rattle.edit_words.specs.declared.step.Step.{Step}
use Rattle.edit_words.specs.declared.step.Step.TheVariants as step
use Rattle.tech.specs.Technology.{Technology}
use Rattle.library.specs.declared.master.Master.{Master}
use Rattle.block_store.specs.Alone.{IsAlone}
use Rattle.block_store.specs.Block.{Block, live_in}
use Rattle.block_store.specs.Sound.{IsSound}
use Rattle.steps_net.specs.Can.{Can, CanDel}
use Rattle.steps_net.specs.Terms.{CanGo, IsJoinable, IsJoined}
use Rattle.steps_net.proofs.InstancesGone.{can_go}
use Rattle.steps_net.proofs.Joining.{joinable, joined}
use Rattle.steps_net.proofs.Making.{del_alone, del_live}

module _ (tech : Technology) (library : List Master) (cap : ℕ) (d : Block) (s : Step) where
  -- an instance goes
  pub inst_goes : (k : Kind) (id : ℕ) → s ≡ step.Del k id → k ≡ kind.Inst → IsSound tech library cap d → Can tech library d s → CanGo id d
  inst_goes k id is of_kind sound can =
      can_go tech library cap d id sound (subst (λ j. CanDel d j id) of_kind (subst (Can tech library d) is can))

  -- another object goes
  pub object_goes : (k : Kind) (id : ℕ) → s ≡ step.Del k id → k ≢ kind.Inst → IsSound tech library cap d → Can tech library d s → IsAlone k id d
  object_goes k id is other sound can = del_alone tech library cap d sound k id other (subst (Can tech library d) is can)

  pub object_live : (k : Kind) (id : ℕ) → s ≡ step.Del k id → k ≢ kind.Inst → IsSound tech library cap d → Can tech library d s → IsTrue (live_in k id d)
  object_live k id is other sound can = del_live tech library cap d sound k id other (subst (Can tech library d) is can)

  -- a terminal is joined, or parted
  pub joins : (k : Kind) (id net : ℕ) → s ≡ step.Join k id net → IsSound tech library cap d → Can tech library d s → IsJoinable k id net d
  joins k id net is sound can = joinable tech library cap d k id net sound (subst (Can tech library d) is can)

  pub parts : (k : Kind) (id net : ℕ) → s ≡ step.Part k id net → IsSound tech library cap d → Can tech library d s → IsJoined k id net d
  parts k id net is sound can = joined tech library cap d k id net sound (subst (Can tech library d) is can)
