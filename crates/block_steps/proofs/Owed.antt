-- What the calls ask that take a step back, of the block that the step led to.
use Rattle.std.proofs.Common.{◌≡◌, true, List, ℕ, Option, Some, None, IsTrue, refl, sym, subst}
use Rattle.std.specs.Option.{option_map}
use Rattle.slot_pool.specs.Table.{is_live, record_at}
use Rattle.odb_base.specs.declared.codes.kind.Kind.{Kind}
use Rattle.odb_base.specs.declared.codes.kind.Kind.TheVariants as kind
use Rattle.odb_base.specs.declared.codes.direction.Direction.{Direction}
use Rattle.odb_base.specs.declared.codes.usage.Usage.{Usage}
use Rattle.odb_base.specs.declared.geometry.Placement.{Placement}
use Rattle.block_records.specs.declared.record.Record.TheVariants as rec
use Rattle.edit_words.specs.declared.memo.Memo.{Memo}
use Rattle.edit_words.specs.Tag.{NewObject, new_object, tag_of}
use Rattle.edit_words.specs.declared.step.Step.{Step}
use Rattle.edit_words.specs.declared.step.Step.TheVariants as step
use Rattle.edit_words.specs.declared.tag.Tag.{Tag}
use Rattle.tech.specs.Technology.{Technology}
use Rattle.library.specs.declared.master.Master.{Master}
use Rattle.block_store.specs.Block.{Block, live_in, record_of}
use Rattle.block_store.specs.Fields.{HasPlace, HasUsage}
use Rattle.block_store.specs.Sound.{IsSound}
use Rattle.block_store.proofs.Changed.{parts_by}
use Rattle.block_store.proofs.Joined.{shown_by}
use Rattle.slot_pool.proofs.Mapped.{live_record}
use Rattle.block_store.proofs.Shown.{live_by}
use Rattle.steps_net.specs.Back.{Came, IsLedTo, grown_by, record_moved, removed}
use Rattle.steps_net.specs.Can.{CanDel, CanNew}
use Rattle.steps_net.specs.Do.{deleted, made_in}
use Rattle.steps_net.specs.Terms.{IsJoined}
use Rattle.steps_net.proofs.InstancesGone.{can_return}
use Rattle.steps_net.proofs.InstancesMade.{came_new_inst}
use Rattle.steps_net.proofs.Joining.{joinable_after, joined_after, next_joined}
use Rattle.steps_net.proofs.Making.{going, gone_free, its_place, new_untaken, record_in}
use Rattle.steps_net.proofs.OfKinds.{bare_entry}
use Rattle.steps_net.proofs.Setting.{freed_name, live_directed, live_placed, live_renamed, live_special, live_used}
use Rattle.steps_net.proofs.SwapsMade.{can_exchange_back}
use Rattle.block_steps.specs.Owes.{IsAskedBack, IsNamedBack, IsRejoined, IsSwappedBack, IsUnmade, Owes}

module _ (tech : Technology) (library : List Master) (cap : ℕ) where
  asked_back : (k : Kind) (id : ℕ) (d : Block) → IsSound tech library cap d → CanDel d k id → IsAskedBack (record_moved (removed (record_of k id d))) (deleted k id d)
  asked_back kind.Inst id d sound can =
      let r = live_record d.inst id can.0 in
      subst (λ o. IsAskedBack (record_moved (removed (option_map (λ e. rec.Inst e.fields) o))) (deleted kind.Inst id d)) (sym r.is) (can_return tech library cap d id sound can r.value r.is)
  asked_back k id d sound can =
      let g = going tech library cap d sound k id (λ same. cc) can in
      subst (λ o. IsAskedBack (record_moved (removed (option_map (record_in k) o))) (deleted k id d)) (sym g.found) (gone_free tech library cap d sound k id (bare_entry k g.entry) g.found)

-- from the step that led to the block, and what it moved out
module _ (tech : Technology) (library : List Master) (cap : ℕ) (d : Block) (m : Memo) (c : Block) where
  new_by : (o : Option NewObject) → IsSound tech library cap d → CanNew (parts_by tech library d.header) d o → m ≡ grown_by (option_map its_place o) d → c ≡ made_in o d → IsUnmade (option_map its_place o) m c
  new_by None sound can memo after = absurd can
  new_by (Some new) sound can memo after = let is = new_untaken tech library cap d sound new can in rw (memo, after) (record { can = is.0; alone = is.1 })

  del_by : (k : Kind) (id : ℕ) → Came tech library cap d (step.Del k id) m c → IsAskedBack (record_moved m) c
  del_by k id came = rw (came.memo, came.after) (asked_back tech library cap k id d came.sound came.can)

  rename_by : (k : Kind) (id : ℕ) (name : List ℕ) → Came tech library cap d (step.Rename k id name) m c → IsNamedBack k id m c
  rename_by k id name came =
      rw (came.memo, came.after) (record {
        live = live_renamed d k id name came.can.live;
        kind = came.can.kind;
        memo = refl;
        free = freed_name tech library cap d k id name came.sound came.can;
      })

  swap_by : (inst master : ℕ) → Came tech library cap d (step.Swap inst master) m c → IsSwappedBack inst m c
  swap_by inst master came =
      rw (came.memo, came.after) (record { memo = refl; can = can_exchange_back tech library cap d inst master came.sound came.can })

  place_by : (k : Kind) (id : ℕ) (place : Placement) → Came tech library cap d (step.Place k id place) m c → IsTrue (live_in k id c) × HasPlace k
  place_by k id place came = rw came.after (live_placed d k id place came.can.live, came.can.kind)

  usage_by : (k : Kind) (id : ℕ) (new : Usage) → Came tech library cap d (step.SetUse k id new) m c → IsTrue (live_in k id c) × HasUsage k
  usage_by k id new came = rw came.after (live_used d k id new came.can.live, came.can.kind)

  direction_by : (id : ℕ) (new : Direction) → Came tech library cap d (step.SetDir id new) m c → IsTrue (is_live c.bterm id)
  direction_by id new came = rw came.after (live_directed d id new came.can.0)

  special_by : (id : ℕ) → Came tech library cap d (step.MakeSpecial id) m c → IsTrue (is_live c.net id)
  special_by id came =
      let r = shown_by (λ e. e.fields.special) (record_at d.net id) _ came.can in
      rw came.after (live_special d id true (live_by d.net id r.value r.is))

  join_by : (k : Kind) (id net : ℕ) → Came tech library cap d (step.Join k id net) m c → IsJoined k id net c
  join_by k id net came = rw came.after (joined_after tech library cap d k id net came.sound came.can)

  part_by : (k : Kind) (id net : ℕ) → Came tech library cap d (step.Part k id net) m c → IsRejoined k id net m c
  part_by k id net came =
      rw (came.memo, came.after) (record { can = joinable_after tech library cap d k id net came.sound came.can; next = next_joined tech library cap d k id net came.sound came.can })

-- what came from a step meets what its way back asks
module _ (tech : Technology) (library : List Master) (cap : ℕ) (d : Block) (m : Memo) (c : Block) where
  owed_by : (s : Step) → Came tech library cap d s m c → Owes (tag_of s) m c
  owed_by (step.NewInst id name master terminals) came = came_new_inst tech library cap d id name master terminals m c came
  owed_by (step.Del k id) came = del_by tech library cap d m c k id came
  owed_by (step.Rename k id name) came = rename_by tech library cap d m c k id name came
  owed_by (step.Swap inst master) came = swap_by tech library cap d m c inst master came
  owed_by (step.Place k id place) came = place_by tech library cap d m c k id place came
  owed_by (step.SetUse k id new) came = usage_by tech library cap d m c k id new came
  owed_by (step.SetDir bterm new) came = direction_by tech library cap d m c bterm new came
  owed_by (step.MakeSpecial net) came = special_by tech library cap d m c net came
  owed_by (step.Join k id net) came = join_by tech library cap d m c k id net came
  owed_by (step.Part k id net) came = part_by tech library cap d m c k id net came
  owed_by other came = new_by tech library cap d m c (new_object other) came.sound came.can came.memo came.after

pub owed : (tech : Technology) (library : List Master) (cap : ℕ) (t : Tag) (m : Memo) (c : Block) → IsLedTo tech library cap t m c → Owes t m c
owed tech library cap t m c led = subst (λ u. Owes u m c) led.tag (owed_by tech library cap led.before m c led.step led.came)
