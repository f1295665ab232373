-- A field of an object is set, or its name: the block stays sound, and the way back leads to it.
use Rattle.std.proofs.Common.{◌≡◌, ◌≢◌, Bool, true, false, List, [], ℕ, Option, None, Some, IsTrue, refl, sym, ap, ◌∙◌}
use Rattle.std.specs.Option.{option_map, unwrap_or}
use Rattle.std.proofs.lemmas.Bool.{false≢true}
use Rattle.slot_pool.specs.Table.{is_live}
use Rattle.odb_base.specs.Direction.{is_bterm_direction}
use Rattle.odb_base.specs.Name.{IsName}
use Rattle.odb_base.specs.declared.codes.direction.Direction.{Direction}
use Rattle.odb_base.specs.declared.codes.direction.Direction.TheVariants as direction
use Rattle.odb_base.specs.declared.codes.kind.Kind.{Kind}
use Rattle.odb_base.specs.declared.codes.kind.Kind.TheVariants as kind
use Rattle.odb_base.specs.declared.codes.usage.Usage.{Usage}
use Rattle.odb_base.specs.declared.codes.usage.Usage.TheVariants as usage
use Rattle.odb_base.specs.declared.geometry.Placement.{Placement}
use Rattle.tech.specs.Technology.{Technology}
use Rattle.library.specs.declared.master.Master.{Master}
use Rattle.block_store.specs.Block.{Block, live_in}
use Rattle.block_store.specs.Fields.{direction_in, place_in, special_in, usage_in}
use Rattle.block_store.specs.Kinds.{Entry, on_entry, table, table_of}
use Rattle.block_store.specs.Lens.{Lens}
use Rattle.slot_pool.specs.Mapped.{on_record}
use Rattle.block_store.specs.Moves.{with_direction, with_name, with_place, with_special, with_usage}
use Rattle.named_pool.specs.Names.{name_by}
use Rattle.block_store.specs.Names.{IsFreeBut, name_in}
use Rattle.block_store.specs.Placements.{unplaced}
use Rattle.block_store.specs.Sound.{IsSound}
use Rattle.block_store.specs.Tables.{HasDistinctNames}
use Rattle.block_store.specs.View.{laws}
use Rattle.block_store.proofs.Changed.{parts_by, sound_renamed}
use Rattle.block_store.proofs.OneTable.{live_stays}
use Rattle.block_store.proofs.SetFields.{BTermDirection, BTermUsage, InstPlace, NetSpecial, NetUsage, PinPlace, entry_back, field, field_back, sound_field}
use Rattle.slot_pool.proofs.Mapped.{live_record}
use Rattle.block_store.proofs.Shown.{name_left}
use Rattle.steps_net.specs.Can.{CanPlace, CanRename, CanSetUse}
use Rattle.steps_net.proofs.OfKinds.{MayBeNamed, may_be_named}

module _ (k : Kind) where
  -- an object of a kind with names has another name, by the lens of its kind
  abbrev renamed : Option (Lens (Entry k) (List ℕ)) → ℕ → List ℕ → Block → Block
  renamed None id name b = b
  renamed (Some lens) id name b = on_entry k (lens.set name) id b

  abbrev named : Option (Lens (Entry k) (List ℕ)) → ℕ → Block → Option (List ℕ)
  named None id b = None
  named (Some lens) id b = name_by lens.get id (table_of k b)

  renamed_back : (o : Option (Lens (Entry k) (List ℕ))) (id : ℕ) (name : List ℕ) (d : Block) → renamed o id (unwrap_or (named o id d) []) (renamed o id name d) ≡ d
  renamed_back None id name d = refl
  renamed_back (Some lens) id name d = entry_back k lens id name [] d

  -- after a change of its name no other object has the name that it had
  freed : (o : Option (Lens (Entry k) (List ℕ))) (id : ℕ) (new : List ℕ) (d : Block) → IsTrue (is_live (table_of k d) id) → HasDistinctNames o (table_of k d) → (other : ℕ) → named o other (renamed o id new d) ≡ Some (unwrap_or (named o id d) []) → other ≡ id
  freed None id new d live distinct other at = cc
  freed (Some lens) id new d live distinct other at =
      let r = live_record (table_of k d) id live in
      let at_other = ap (λ t. name_by lens.get other t) (sym ((table k).set_get (on_record (lens.set new) id (table_of k d)) d)) ∙ at in
      name_left lens.get (lens.set new) id r.value (table_of k d) r.is distinct other (at_other ∙ ap (λ o. Some (unwrap_or (option_map lens.get o) [])) r.is)

  live_named : (o : Option (Lens (Entry k) (List ℕ))) (id : ℕ) (name : List ℕ) (d : Block) → IsTrue (live_in k id d) → IsTrue (live_in k id (renamed o id name d))
  live_named None id name d live = live
  live_named (Some lens) id name d live = live_stays k (lens.set name) id d k id live

module _ (tech : Technology) (library : List Master) (cap : ℕ) (d : Block) where
  pub sound_place : (k : Kind) (id : ℕ) (place : Placement) → IsSound tech library cap d → CanPlace d k id place → IsSound tech library cap (with_place k id place d)
  sound_place kind.Inst id place sound can = sound_field tech library cap d InstPlace place id can.lawful sound
  sound_place kind.Pin id place sound can = sound_field tech library cap d PinPlace place id can.lawful sound
  sound_place other id place sound can = absurd (false≢true can.kind)

  pub sound_usage : (k : Kind) (id : ℕ) (usage : Usage) → IsSound tech library cap d → CanSetUse d k id → IsSound tech library cap (with_usage k id usage d)
  sound_usage kind.Net id usage sound can = sound_field tech library cap d NetUsage usage id tt sound
  sound_usage kind.BTerm id usage sound can = sound_field tech library cap d BTermUsage usage id tt sound
  sound_usage other id usage sound can = absurd (false≢true can.kind)

  pub sound_direction : (id : ℕ) (direction : Direction) → IsSound tech library cap d → IsTrue (is_bterm_direction direction) → IsSound tech library cap (with_direction id direction d)
  sound_direction id direction sound lawful = sound_field tech library cap d BTermDirection direction id lawful sound

  pub sound_special : (id : ℕ) (special : Bool) → IsSound tech library cap d → IsSound tech library cap (with_special id special d)
  sound_special id special sound = sound_field tech library cap d NetSpecial special id tt sound

  -- an object of a kind with names has one that no object of its kind has
  renamed_sound : (k : Kind) (o : Option (Lens (Entry k) (List ℕ))) → (laws k).name ≡ o → MayBeNamed k o (parts_by tech library d.header) → (id : ℕ) (name : List ℕ) → IsName name → IsTrue (is_live (table_of k d) id) → ((other : ℕ) → named k o other d ≢ Some name) → IsSound tech library cap d → IsSound tech library cap (renamed k o id name d)
  renamed_sound k None is may id name lawful live free sound = sound
  renamed_sound k (Some lens) is may id name lawful live free sound = sound_renamed tech library cap d k lens is name id (may.0 name lawful) (may.1 name) live free sound

  pub sound_rename : (k : Kind) (id : ℕ) (name : List ℕ) → IsSound tech library cap d → CanRename d k id name → IsSound tech library cap (with_name k id name d)
  sound_rename kind.Inst id name sound can = renamed_sound kind.Inst (laws kind.Inst).name refl (may_be_named kind.Inst (parts_by tech library d.header)) id name can.lawful can.live can.free sound
  sound_rename k id name sound can = renamed_sound k (laws k).name refl (may_be_named k (parts_by tech library d.header)) id name can.lawful can.live can.free sound

  pub freed_name : (k : Kind) (id : ℕ) (name : List ℕ) → IsSound tech library cap d → CanRename d k id name → IsFreeBut k id (unwrap_or (name_in k id d) []) (with_name k id name d)
  freed_name kind.Inst id name sound can = freed kind.Inst (laws kind.Inst).name id name d can.live (sound.kinds kind.Inst).named
  freed_name k id name sound can = freed k (laws k).name id name d can.live (sound.kinds k).named

module _ (d : Block) where
  pub back_place : (k : Kind) (id : ℕ) (place : Placement) → with_place k id (unwrap_or (place_in k id d) unplaced) (with_place k id place d) ≡ d
  back_place kind.Inst id place = field_back InstPlace id place unplaced d
  back_place kind.Pin id place = field_back PinPlace id place unplaced d
  back_place other id place = refl

  pub back_usage : (k : Kind) (id : ℕ) (new : Usage) → with_usage k id (unwrap_or (usage_in k id d) usage.None) (with_usage k id new d) ≡ d
  back_usage kind.Net id new = field_back NetUsage id new usage.None d
  back_usage kind.BTerm id new = field_back BTermUsage id new usage.None d
  back_usage other id new = refl

  pub back_direction : (id : ℕ) (new : Direction) → with_direction id (unwrap_or (direction_in id d) direction.None) (with_direction id new d) ≡ d
  back_direction id new = field_back BTermDirection id new direction.None d

  pub back_special : (id : ℕ) → special_in id d ≡ Some false → with_special id false (with_special id true d) ≡ d
  back_special id plain = ap (λ o. with_special id (unwrap_or o false) (with_special id true d)) (sym plain) ∙ field_back NetSpecial id true false d

  pub back_rename : (k : Kind) (id : ℕ) (name : List ℕ) → with_name k id (unwrap_or (name_in k id d) []) (with_name k id name d) ≡ d
  back_rename kind.Inst id name = renamed_back kind.Inst (laws kind.Inst).name id name d
  back_rename k id name = renamed_back k (laws k).name id name d

  -- who was there is there
  pub live_placed : (k : Kind) (id : ℕ) (place : Placement) → IsTrue (live_in k id d) → IsTrue (live_in k id (with_place k id place d))
  live_placed kind.Inst id place live = live_stays kind.Inst ((field InstPlace).part.set place) id d kind.Inst id live
  live_placed kind.Pin id place live = live_stays kind.Pin ((field PinPlace).part.set place) id d kind.Pin id live
  live_placed other id place live = live

  pub live_used : (k : Kind) (id : ℕ) (usage : Usage) → IsTrue (live_in k id d) → IsTrue (live_in k id (with_usage k id usage d))
  live_used kind.Net id usage live = live_stays kind.Net ((field NetUsage).part.set usage) id d kind.Net id live
  live_used kind.BTerm id usage live = live_stays kind.BTerm ((field BTermUsage).part.set usage) id d kind.BTerm id live
  live_used other id usage live = live

  pub live_directed : (id : ℕ) (direction : Direction) → IsTrue (is_live d.bterm id) → IsTrue (is_live (with_direction id direction d).bterm id)
  live_directed id direction live = live_stays kind.BTerm ((field BTermDirection).part.set direction) id d kind.BTerm id live

  pub live_special : (id : ℕ) (special : Bool) → IsTrue (is_live d.net id) → IsTrue (is_live (with_special id special d).net id)
  live_special id special live = live_stays kind.Net ((field NetSpecial).part.set special) id d kind.Net id live

  pub live_renamed : (k : Kind) (id : ℕ) (name : List ℕ) → IsTrue (live_in k id d) → IsTrue (live_in k id (with_name k id name d))
  live_renamed kind.Inst id name live = live_named kind.Inst (laws kind.Inst).name id name d live
  live_renamed k id name live = live_named k (laws k).name id name d live
