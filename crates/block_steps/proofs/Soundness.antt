-- Each step that may be done leaves the block sound, and its way back leads to the block before it.
use Rattle.std.proofs.Common.{◌≡◌, ◌≤◌, true, cond, List, ℕ, Option, Some, None, length, refl, ap, ◌∙◌, arith}
use Rattle.std.specs.Option.{IfSome}
use Rattle.std.proofs.lemmas.Bool.{le-ltb}
use Rattle.odb_base.specs.declared.codes.kind.Kind.{Kind}
use Rattle.odb_base.specs.declared.codes.kind.Kind.TheVariants as kind
use Rattle.edit_words.specs.Tag.{new_at, new_object, tag_of}
use Rattle.edit_words.specs.declared.memo.Memo.{Memo}
use Rattle.edit_words.specs.declared.step.Step.{Step}
use Rattle.edit_words.specs.declared.step.Step.TheVariants as step
use Rattle.tech.specs.Technology.{Technology}
use Rattle.library.specs.declared.master.Master.{Master}
use Rattle.block_store.specs.Block.{Block, left_in}
use Rattle.block_store.specs.Sound.{IsSound}
use Rattle.block_store.specs.Store.{IsRoomBounded, Store}
use Rattle.steps_net.specs.Back.{Came, back, memo_of}
use Rattle.steps_net.specs.Can.{Can}
use Rattle.steps_net.specs.Do.{do_step}
use Rattle.steps_net.specs.Room.{IsReady, IsReadyForNew, lacking, lacking_new, lacks}
use Rattle.steps_net.proofs.InstancesGone.{back_del_inst, sound_del_inst}
use Rattle.steps_net.proofs.InstancesMade.{back_new_inst, sound_new_inst}
use Rattle.steps_net.proofs.Joining.{back_join, back_part, sound_join, sound_part}
use Rattle.steps_net.proofs.Making.{back_del, back_new, sound_del, sound_new}
use Rattle.steps_net.proofs.OfKinds.{untied}
use Rattle.steps_net.proofs.SwapsMade.{back_swap, sound_swap}
use Rattle.steps_net.proofs.Setting.{back_direction, back_place, back_rename, back_special, back_usage, sound_direction, sound_place, sound_rename, sound_special, sound_usage}

module _ (tech : Technology) (library : List Master) (cap : ℕ) (d : Block) where
  -- a step that may be done, and for which the cap leaves slots, leaves the block sound
  pub sound_step : (s : Step) → IsSound tech library cap d → Can tech library d s → lacks s cap d ≡ None → IsSound tech library cap (do_step library s d)
  sound_step (step.NewInst id name master terminals) sound can room = sound_new_inst tech library cap d id name master terminals sound can room
  sound_step (step.Del kind.Inst id) sound can room = sound_del_inst tech library cap d id sound can
  sound_step (step.Del k id) sound can room = sound_del tech library cap d sound k id (λ same. cc) can
  sound_step (step.Rename k id name) sound can room = sound_rename tech library cap d k id name sound can
  sound_step (step.Swap inst master) sound can room = sound_swap tech library cap d inst master sound can
  sound_step (step.Place k id place) sound can room = sound_place tech library cap d k id place sound can
  sound_step (step.SetUse k id new) sound can room = sound_usage tech library cap d k id new sound can
  sound_step (step.SetDir bterm new) sound can room = sound_direction tech library cap d bterm new sound can.1
  sound_step (step.MakeSpecial net) sound can room = sound_special tech library cap d net true sound
  sound_step (step.Join k id net) sound can room = sound_join tech library cap d k id net sound can
  sound_step (step.Part k id net) sound can room = sound_part tech library cap d k id net sound can
  sound_step other sound can room = sound_new tech library cap d sound (new_object other) (untied other) can room

  -- the way back of a step leads to the block before it
  pub back_step : (s : Step) → IsSound tech library cap d → Can tech library d s → back (tag_of s) (memo_of s d) (do_step library s d) ≡ d
  back_step (step.NewInst id name master terminals) sound can = back_new_inst tech library cap d id name master terminals sound can
  back_step (step.Del kind.Inst id) sound can = back_del_inst tech library cap d id sound can
  back_step (step.Del k id) sound can = back_del tech library cap d sound k id (λ same. cc) can
  back_step (step.Rename k id name) sound can = back_rename d k id name
  back_step (step.Swap inst master) sound can = back_swap tech library cap d inst master sound can
  back_step (step.Place k id place) sound can = back_place d k id place
  back_step (step.SetUse k id new) sound can = back_usage d k id new
  back_step (step.SetDir bterm new) sound can = back_direction d bterm new
  back_step (step.MakeSpecial net) sound can = back_special d net can
  back_step (step.Join k id net) sound can = back_join tech library cap d k id net sound can
  back_step (step.Part k id net) sound can = back_part tech library cap d k id net sound can
  back_step other sound can = back_new tech library cap d sound (new_object other) can

-- where there is room in memory, the cap leaves slots
left : (k : Kind) (n cap : ℕ) (b : Block) (next : Option Kind) → n ≤ left_in k cap b → lacking k n cap b next ≡ next
left k n cap b next enough = ap (λ lacks. cond lacks (Some k) next) (le-ltb (left_in k cap b) n enough)

left_for_new : (o : Option (Kind × ℕ)) (store : Store) → IsReadyForNew o store → IfSome o (λ new. IsRoomBounded new.0 store) → lacking_new o store.cap store.block ≡ None
left_for_new None store ready bounded = refl
left_for_new (Some new) store ready bounded = left new.0 1 store.cap store.block None (omega (arith, ready, bounded.high))

pub room_suffices : (s : Step) (store : Store) → IsReady s store → IfSome (new_at (tag_of s)) (λ new. IsRoomBounded new.0 store) → IsRoomBounded kind.ITerm store → lacks s store.cap store.block ≡ None
room_suffices (step.NewInst id name master terminals) store ready inst iterm =
    left kind.Inst 1 store.cap store.block _ (omega (arith, ready.0, inst.high))
    ∙ left kind.ITerm (length terminals) store.cap store.block None (omega (arith, ready.1, iterm.high))
room_suffices (step.Swap inst master) store ready bounded iterm = refl
room_suffices (step.Join k id net) store ready bounded iterm = refl
room_suffices other store ready bounded iterm = left_for_new (new_at (tag_of other)) store ready bounded

-- the way back from the block that a step led to
pub led_back : (tech : Technology) (library : List Master) (cap : ℕ) (d : Block) (s : Step) (m : Memo) (c : Block) → Came tech library cap d s m c → back (tag_of s) m c ≡ d
led_back tech library cap d s m c came = rw (came.memo, came.after) (back_step tech library cap d s came.sound came.can)
