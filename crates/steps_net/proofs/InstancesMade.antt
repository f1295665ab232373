-- A new instance with its terminals: the block stays sound, and the way back leads to it.
use Rattle.std.proofs.Common.{◌≡◌, ◌≢◌, ◌+◌, ◌-◌, ◌≤◌, ◌⊎◌, List, [], ℕ, Option, Some, None, length, slice_get, zero-add, refl, sym, ap, subst, ◌∙◌, arith, rules, inl, inr}
use Rattle.std.proofs.lemmas.Bool.{cases_eq}
use Rattle.slot_pool.specs.Table.{IsGood, Table, next_id, record_at, taken, untaken}
use Rattle.odb_base.specs.declared.codes.kind.Kind.TheVariants as kind
use Rattle.block_records.specs.declared.iterm.ITermRec.{ITermRec}
use Rattle.tech.specs.Technology.{Technology}
use Rattle.library.specs.declared.master.Master.{Master}
use Rattle.edit_words.specs.Tag.{tag_of}
use Rattle.edit_words.specs.declared.memo.Memo.{Memo}
use Rattle.edit_words.specs.declared.step.Step.TheVariants as step
use Rattle.block_store.specs.declared.entry.InstEntry.{InstEntry}
use Rattle.block_store.specs.Block.{Block, is_empty}
use Rattle.block_store.specs.Lists.{list_in}
use Rattle.block_store.specs.Moves.{new_inst}
use Rattle.block_store.specs.Instances.{IsInst}
use Rattle.block_store.specs.Placements.{IsPlacement, unplaced}
use Rattle.block_store.specs.Sound.{IsSound, inst_terms, iterm_net, iterm_place}
use Rattle.block_store.specs.Tables.{IsTable}
use Rattle.block_store.specs.TermPlaces.{ArePlaced}
use Rattle.block_store.proofs.Joined.{iterm_outside, shown_by, terms_placed}
use Rattle.block_store.proofs.Shown.{each_taken, named_taken, table_taken}
use Rattle.slot_pool.proofs.Mapped.{at_next, at_taken, at_taken_other}
use Rattle.block_store.proofs.TableLemmas.{back_taken, can_untake}
use Rattle.steps_net.specs.Back.{Came, back, grew_of, grown_of, memo_of, terms_untaken}
use Rattle.steps_net.specs.Can.{AreNext, CanNewInst}
use Rattle.steps_net.specs.Do.{do_step, fresh_inst, terms_taken}
use Rattle.steps_net.specs.Room.{lacking, lacks}
use Rattle.steps_net.specs.Terms.{AreUntakable, CanUnmake}
use Rattle.steps_net.proofs.InstancesChanged.{in_no_members, insts_changed, net_of, terms_in}
use Rattle.steps_net.proofs.InstancesTerms.{back_terms, found_terms, good_terms, inst_of, kept_terms, named_place, new_terms, number_of, place_is, slots_terms, untakable_terms}
use Rattle.steps_net.proofs.Making.{room_for}

-- what has no place is placed lawfully
unplaced_is : IsPlacement unplaced
unplaced_is = record { x = search rules; y = search rules; unplaced = λ none. refl }

nets_by : (o o' : Option ITermRec) → ((r : ITermRec) → o ≡ Some r → o' ≡ Some r) → ((r : ITermRec) → o' ≡ Some r → (o ≡ Some r) ⊎ (r.net ≡ 0)) → net_of o' ≡ net_of o
nets_by None None keep found = refl
nets_by None (Some r) keep found = elim (found r refl) [
  | inl old ↦ absurd (cc)
  | inr none ↦ none
]
nets_by (Some r) o' keep found = ap net_of (keep r refl)

module _ (d : Block) (id : ℕ) (e : InstEntry) (terminals : List ℕ) where
  abbrev insts : Table InstEntry
  insts = taken e d.inst

  abbrev terms : Table ITermRec
  terms = terms_taken id 0 terminals d.iterm

  -- new terminals are joined to nothing
  nets_made : IsGood d.iterm → AreNext terminals d.iterm → (part : ℕ) → net_of (record_at terms part) ≡ iterm_net d part
  nets_made good next part =
      nets_by (record_at d.iterm part) (record_at terms part) (λ r found. kept_terms id 0 terminals d.iterm part r good found)
      (λ r found. elim (found_terms id 0 terminals d.iterm part r good next found) [ inl old ↦ inl old | inr new ↦ inr (ap net_of new.2) ])

  -- the new instance has its terminals, and the others theirs
  terms_made : IsGood d.inst → id ≡ next_id d.inst 0 → e.fields.terminals ≡ terminals → (object : ℕ) → object ≡ id → terms_in insts object ≡ terminals
  terms_made good next is object same =
      ap (terms_in insts) (same ∙ next) ∙ ap (list_in (λ (x : InstEntry). x.fields.terminals)) (at_taken e d.inst good) ∙ is

  terms_other : IsGood d.inst → id ≡ next_id d.inst 0 → (object : ℕ) → object ≢ id → terms_in insts object ≡ inst_terms d object
  terms_other good next object other =
      ap (list_in (λ (x : InstEntry). x.fields.terminals)) (at_taken_other e d.inst object good (λ same. other (same ∙ sym next)))

  -- there was no such instance
  none_made : IsGood d.inst → id ≡ next_id d.inst 0 → inst_terms d id ≡ []
  none_made good next = ap (λ i. list_in (λ (x : InstEntry). x.fields.terminals) (record_at d.inst i)) next ∙ ap (list_in (λ (x : InstEntry). x.fields.terminals)) (at_next d.inst good)

  placed_made : IsGood d.inst → IsGood d.iterm → id ≡ next_id d.inst 0 → e.fields.terminals ≡ terminals → AreNext terminals d.iterm → ArePlaced (inst_terms d) (iterm_place d)
      → ArePlaced (terms_in insts) (λ part. named_place (record_at terms part))
  placed_made good_insts good_terms next is terms_next placed object k part = (
    λ at. elim (cases_eq object id) [
      | inl same ↦
          let new = new_terms id 0 terminals d.iterm k part good_terms terms_next (ap (λ l. slice_get l k) (sym (terms_made good_insts next is object same)) ∙ at) in
          ap named_place new ∙ ap (place_is id) (zero-add k) ∙ ap (λ i. place_is i k) (sym same)
      | inr other ↦
          let was = (placed object k part).0 (ap (λ l. slice_get l k) (sym (terms_other good_insts next object other)) ∙ at) in
          let r = shown_by (λ (r : ITermRec). (r.inst, r.index)) (record_at d.iterm part) (object, k) was in
          ap named_place (kept_terms id 0 terminals d.iterm part r.value good_terms r.is) ∙ ap Some r.shows
    ],
    λ at.
        let r = shown_by (λ (r : ITermRec). (r.inst, r.index)) (record_at terms part) (object, k) at in
        elim (found_terms id 0 terminals d.iterm part r.value good_terms terms_next r.is) [
          | inl old ↦
              let was : slice_get (inst_terms d object) k ≡ Some part = (placed object k part).1 (ap named_place old ∙ ap Some r.shows) in
              elim (cases_eq object id) [
                | inl same ↦
                    let none : None ≡ Some part = ap (λ l. slice_get l k) (sym (ap (inst_terms d) same ∙ none_made good_insts next)) ∙ was in
                    absurd (cc)
                | inr other ↦ ap (λ l. slice_get l k) (terms_other good_insts next object other) ∙ was
              ]
          | inr new ↦
              let place : place_is object k ≡ place_is id (0 + new.0) = sym (ap Some r.shows) ∙ ap named_place new.2 in
              let same : object ≡ id = ap inst_of place in
              ap (λ l. slice_get l k) (terms_made good_insts next is object same) ∙ ap (slice_get terminals) (ap number_of place ∙ zero-add new.0) ∙ new.1
        ],
  )

module _ (tech : Technology) (library : List Master) (cap : ℕ) (d : Block) (id : ℕ) (name : List ℕ) (master : ℕ) (terminals : List ℕ) where
  abbrev made : InstEntry
  made = new_inst (fresh_inst name master terminals)

  abbrev after : Block
  after = do_step library (step.NewInst id name master terminals) d

  iterms_made : IsTable cap d.iterm → length terminals ≤ length d.iterm.free + (cap - length d.iterm.slots) → IsTable cap (terms_taken id 0 terminals d.iterm)
  iterms_made is room = record {
    good = good_terms id 0 terminals d.iterm is.good;
    within = omega (arith, slots_terms id 0 terminals d.iterm, is.within, room);
  }

  pub sound_new_inst : IsSound tech library cap d → CanNewInst library d id name master terminals → lacks (step.NewInst id name master terminals) cap d ≡ None → IsSound tech library cap after
  sound_new_inst sound can room =
      let insts_room = room_for kind.Inst 1 cap d (lacking kind.ITerm (length terminals) cap d None) room in
      let terms_room = room_for kind.ITerm (length terminals) cap d None insts_room.1 in
      insts_changed tech library cap d (taken made d.inst) (terms_taken id 0 terminals d.iterm)
      (table_taken cap made d.inst insts_room.0 (sound.kinds kind.Inst).table) (iterms_made (sound.kinds kind.ITerm).table terms_room.0)
      (each_taken (IsInst library) made d.inst (sound.kinds kind.Inst).table.good (record { name = can.named.lawful; place = unplaced_is; fitted = can.fitted; group = refl; kept = refl; props = refl }) (sound.kinds kind.Inst).each)
      (named_taken (λ e. e.fields.name) made d.inst (sound.kinds kind.Inst).table.good can.named.free (sound.kinds kind.Inst).named)
      (nets_made d id made terminals (sound.kinds kind.ITerm).table.good can.terms)
      (placed_made d id made terminals (sound.kinds kind.Inst).table.good (sound.kinds kind.ITerm).table.good can.named.next refl can.terms (terms_placed tech library cap d sound)) sound

  -- the instance has its terminals
  has_terms : IsSound tech library cap d → CanNewInst library d id name master terminals → inst_terms after id ≡ terminals
  has_terms sound can = terms_made d id made terminals (sound.kinds kind.Inst).table.good can.named.next refl id refl

  pub back_new_inst : IsSound tech library cap d → CanNewInst library d id name master terminals
      → back (tag_of (step.NewInst id name master terminals)) (memo_of (step.NewInst id name master terminals) d) after ≡ d
  back_new_inst sound can =
      let grown = length terminals - length d.iterm.free in
      let inst_back = untaken id (is_empty d.inst.free) (taken made d.inst) in
      let terms = terms_taken id 0 terminals d.iterm in
      ap (λ l. record d { inst = inst_back; iterm = terms_untaken (length l - grown) l terms }) (has_terms sound can)
      ∙ ap (λ u. record d { inst = inst_back; iterm = u }) (back_terms id 0 terminals d.iterm (length terminals - grown) (sound.kinds kind.ITerm).table.good can.terms refl)
      ∙ ap (λ t. record d { inst = t }) (ap (λ i. untaken i (is_empty d.inst.free) (taken made d.inst)) can.named.next ∙ back_taken made d.inst (sound.kinds kind.Inst).table.good)

  -- what the way back asks
  pub can_unmake : IsSound tech library cap d → CanNewInst library d id name master terminals → CanUnmake id (is_empty d.inst.free) (length terminals - length d.iterm.free) after
  can_unmake sound can =
      let grown = length terminals - length d.iterm.free in
      let good = (sound.kinds kind.ITerm).table.good in
      record {
        inst = rw can.named.next (can_untake made d.inst (sound.kinds kind.Inst).table.good);
        alone = record {
          apart = in_no_members id after (sound.kinds kind.Group).each;
          bare = ap (λ i. list_in (λ (x : InstEntry). x.props) (record_at (taken made d.inst) i)) can.named.next ∙ ap (list_in (λ (x : InstEntry). x.props)) (at_taken made d.inst (sound.kinds kind.Inst).table.good);
        };
        terms = subst (λ l. AreUntakable (length l - grown) l after.iterm) (sym (has_terms sound can)) (untakable_terms id 0 terminals d.iterm (length terminals - grown) good can.terms refl);
        apart = λ k part at.
            let new = new_terms id 0 terminals d.iterm k part good can.terms (ap (λ l. slice_get l k) (sym (has_terms sound can)) ∙ at) in
            iterm_outside tech library cap d sound part (sym (nets_made d id made terminals good can.terms part) ∙ ap net_of new);
      }

  pub came_new_inst : (m : Memo) (c : Block) → Came tech library cap d (step.NewInst id name master terminals) m c → CanUnmake id (grew_of m) (grown_of m) c
  came_new_inst m c came = rw (came.memo, came.after) (can_unmake came.sound came.can)
