-- An instance goes with its terminals: the block stays sound, and the way back leads to it.
use Rattle.std.proofs.Common.{◌≡◌, ◌≢◌, ◌+◌, List, [], ℕ, Option, Some, None, IsTrue, length, length-append, slice_get, zero-add, sym, ap, ◌∙◌, arith, inl, inr}
use Rattle.std.specs.Option.{option_map}
use Rattle.std.proofs.lemmas.Bool.{cases_eq}
use Rattle.slot_pool.specs.Table.{given, is_live, record_at, ungiven}
use Rattle.odb_base.specs.declared.codes.kind.Kind.TheVariants as kind
use Rattle.block_records.specs.declared.iterm.ITermRec.{ITermRec}
use Rattle.block_records.specs.declared.record.Record.TheVariants as rec
use Rattle.tech.specs.Technology.{Technology}
use Rattle.library.specs.declared.master.Master.{Master}
use Rattle.edit_words.specs.Tag.{tag_of}
use Rattle.edit_words.specs.declared.step.Step.TheVariants as step
use Rattle.block_store.specs.declared.entry.InstEntry.{InstEntry}
use Rattle.block_store.specs.Block.{Block}
use Rattle.block_store.specs.Lists.{list_in}
use Rattle.block_store.specs.Moves.{new_inst}
use Rattle.block_store.specs.Instances.{IsInst}
use Rattle.block_store.specs.Sound.{IsSound, inst_terms, iterm_net, iterm_place}
use Rattle.block_store.specs.TermPlaces.{ArePlaced}
use Rattle.block_store.proofs.Joined.{iterm_outside, shown_by, terms_placed}
use Rattle.slot_pool.proofs.Mapped.{at_given, at_given_other, live_record}
use Rattle.block_store.proofs.Shown.{each_given, name_gone, named_given, table_given}
use Rattle.block_store.proofs.TableLemmas.{back_given}
use Rattle.steps_net.specs.Back.{back, memo_of, removed}
use Rattle.steps_net.specs.Can.{AreUnjoined, CanDel}
use Rattle.steps_net.specs.Do.{do_step, fresh_iterm, terms_given, terms_taken}
use Rattle.steps_net.specs.Terms.{AreGivable, CanGo, CanReturn}
use Rattle.steps_net.proofs.InstancesChanged.{in_no_members, insts_changed, net_of, terms_in}
use Rattle.steps_net.proofs.InstancesTerms.{AreFresh, AreTermsOf, back_terms_given, free_terms_given, givable_terms, gone_given, good_terms_given, inst_of, kept_given, named_place, place_is, slots_terms_given, somewhere_or_not}

-- a list that is empty has nothing at a place
nowhere : (ids : List ℕ) (k part : ℕ) → ids ≡ [] → slice_get ids k ≡ Some part → ⊥
nowhere ids k part none at =
    let never : None ≡ Some part = ap (λ l. slice_get l k) (sym none) ∙ at in
    cc

-- a terminal that names an instance and a place and no net
fresh_by : (o : Option ITermRec) (inst k : ℕ) → named_place o ≡ place_is inst k → net_of o ≡ 0 → o ≡ Some (fresh_iterm inst k)
fresh_by o inst k named unjoined =
    let r = shown_by (λ (r : ITermRec). (r.inst, r.index)) o (inst, k) named in
    let none : r.value.net ≡ 0 = ap net_of (sym r.is) ∙ unjoined in
    r.is ∙ ap (λ p. Some (record r.value { inst = p.0; index = p.1 })) r.shows ∙ ap (λ n. Some (record { inst = inst; index = k; net = n })) none

module _ (d : Block) (id : ℕ) where
  abbrev goes : List ℕ
  goes = inst_terms d id

  -- the terminals of an instance name it and their places
  pub terms_of : ArePlaced (inst_terms d) (iterm_place d) → AreTermsOf id 0 (inst_terms d id) d.iterm
  terms_of placed j part at = (placed id j part).0 at ∙ ap (place_is id) (sym (zero-add j))

  pub can_give : ArePlaced (inst_terms d) (iterm_place d) → AreGivable (inst_terms d id) d.iterm
  can_give placed = givable_terms id 0 (inst_terms d id) d.iterm (terms_of placed)

  -- a terminal of the instance is none of another one
  pub of_no_other : ArePlaced (inst_terms d) (iterm_place d) → (object j k part : ℕ) → slice_get (inst_terms d id) j ≡ Some part → iterm_place d part ≡ place_is object k → object ≡ id
  of_no_other placed object j k part at named = ap inst_of (sym named ∙ (placed id j part).0 at)

  -- terminals that go were joined to nothing
  nets_gone : ArePlaced (inst_terms d) (iterm_place d) → AreUnjoined (inst_terms d id) d → (part : ℕ) → net_of (record_at (terms_given (inst_terms d id) d.iterm) part) ≡ iterm_net d part
  nets_gone placed unjoined part = elim (somewhere_or_not (inst_terms d id) part) [
    | inl here ↦ ap net_of (gone_given (inst_terms d id) d.iterm here.0 part (can_give placed) here.1) ∙ sym (unjoined here.0 part here.1)
    | inr none ↦ ap net_of (kept_given (inst_terms d id) d.iterm part (can_give placed) none)
  ]

  terms_gone : IsTrue (is_live d.inst id) → (object : ℕ) → object ≡ id → terms_in (given id d.inst) object ≡ []
  terms_gone live object same = ap (terms_in (given id d.inst)) same ∙ ap (list_in (λ (x : InstEntry). x.fields.terminals)) (at_given id d.inst live)

  terms_left : IsTrue (is_live d.inst id) → (object : ℕ) → object ≢ id → terms_in (given id d.inst) object ≡ inst_terms d object
  terms_left live object other = ap (list_in (λ (x : InstEntry). x.fields.terminals)) (at_given_other id object d.inst live other)

  placed_gone : IsTrue (is_live d.inst id) → ArePlaced (inst_terms d) (iterm_place d) → ArePlaced (terms_in (given id d.inst)) (λ part. named_place (record_at (terms_given (inst_terms d id) d.iterm) part))
  placed_gone live placed object k part = (
    λ at. elim (cases_eq object id) [
      | inl same ↦ absurd (nowhere (terms_in (given id d.inst) object) k part (terms_gone live object same) at)
      | inr other ↦
          let was = (placed object k part).0 (ap (λ l. slice_get l k) (sym (terms_left live object other)) ∙ at) in
          elim (somewhere_or_not (inst_terms d id) part) [
            | inl here ↦ absurd (other (of_no_other placed object here.0 k part here.1 was))
            | inr none ↦ ap named_place (kept_given (inst_terms d id) d.iterm part (can_give placed) none) ∙ was
          ]
    ],
    λ at. elim (somewhere_or_not (inst_terms d id) part) [
      | inl here ↦
          let never : None ≡ place_is object k = ap named_place (sym (gone_given (inst_terms d id) d.iterm here.0 part (can_give placed) here.1)) ∙ at in
          absurd (cc)
      | inr none ↦
          let was = (placed object k part).1 (ap named_place (sym (kept_given (inst_terms d id) d.iterm part (can_give placed) none)) ∙ at) in
          elim (cases_eq object id) [
            | inl same ↦ absurd (none k (ap (λ i. slice_get (inst_terms d i) k) (sym same) ∙ was))
            | inr other ↦ ap (λ l. slice_get l k) (terms_left live object other) ∙ was
          ]
    ],
  )

module _ (tech : Technology) (library : List Master) (cap : ℕ) (d : Block) (id : ℕ) where
  abbrev gone : Block
  gone = do_step library (step.Del kind.Inst id) d

  pub sound_del_inst : IsSound tech library cap d → CanDel d kind.Inst id → IsSound tech library cap gone
  sound_del_inst sound can =
      let givable = can_give d id (terms_placed tech library cap d sound) in
      insts_changed tech library cap d (given id d.inst) (terms_given (inst_terms d id) d.iterm)
      (table_given cap id d.inst can.0 (sound.kinds kind.Inst).table)
      (record { good = good_terms_given (inst_terms d id) d.iterm (sound.kinds kind.ITerm).table.good givable; within = rw (slots_terms_given (inst_terms d id) d.iterm) (sound.kinds kind.ITerm).table.within })
      (each_given (IsInst library) id d.inst can.0 (sound.kinds kind.Inst).each)
      (named_given (λ e. e.fields.name) id d.inst can.0 (sound.kinds kind.Inst).named)
      (nets_gone d id (terms_placed tech library cap d sound) can.1)
      (placed_gone d id can.0 (terms_placed tech library cap d sound)) sound

  -- what the step asks
  pub can_go : IsSound tech library cap d → CanDel d kind.Inst id → CanGo id d
  can_go sound can =
      let e = live_record d.inst id can.0 in
      record {
        live = can.0;
        alone = record {
          apart = in_no_members id d (sound.kinds kind.Group).each;
          bare = ap (list_in (λ (x : InstEntry). x.props)) e.is ∙ ((sound.kinds kind.Inst).each id e.value e.is).props;
        };
        terms = can_give d id (terms_placed tech library cap d sound);
        apart = λ k part at. iterm_outside tech library cap d sound part (can.1 k part at);
      }

  -- the terminals are as new ones
  are_fresh : IsSound tech library cap d → CanDel d kind.Inst id → AreFresh id 0 (inst_terms d id) d.iterm
  are_fresh sound can j part at = fresh_by (record_at d.iterm part) id (0 + j) (terms_of d id (terms_placed tech library cap d sound) j part at) (can.1 j part at)

  -- an instance without properties is its record
  bare_is : (e : InstEntry) → e.props ≡ [] → new_inst e.fields ≡ e
  bare_is e none = ap (λ l. record e { props = l }) (sym none)

  pub back_del_inst : IsSound tech library cap d → CanDel d kind.Inst id → back (tag_of (step.Del kind.Inst id)) (memo_of (step.Del kind.Inst id) d) gone ≡ d
  back_del_inst sound can =
      let e = live_record d.inst id can.0 in
      let same = bare_is e.value ((sound.kinds kind.Inst).each id e.value e.is).props in
      let terms = ap (λ o. list_in (λ (x : InstEntry). x.fields.terminals) o) e.is in
      let iterms : terms_taken id 0 e.value.fields.terminals (terms_given (inst_terms d id) d.iterm) ≡ d.iterm =
      ap (λ l. terms_taken id 0 l (terms_given (inst_terms d id) d.iterm)) (sym terms) ∙ back_terms_given id 0 (inst_terms d id) d.iterm (are_fresh sound can) in
      let insts : ungiven (new_inst e.value.fields) (given id d.inst) ≡ d.inst = back_given (new_inst e.value.fields) id d.inst (e.is ∙ ap Some (sym same)) in
      ap (λ o. back (tag_of (step.Del kind.Inst id)) (removed (option_map (λ (x : InstEntry). rec.Inst x.fields) o)) gone) e.is
      ∙ ap (λ t. record d { inst = ungiven (new_inst e.value.fields) (given id d.inst); iterm = t }) iterms
      ∙ ap (λ t. record d { inst = t }) insts

  -- what the way back asks
  pub can_return : IsSound tech library cap d → CanDel d kind.Inst id → (e : InstEntry) → record_at d.inst id ≡ Some e → CanReturn e.fields gone
  can_return sound can e found =
      let terms : inst_terms d id ≡ e.fields.terminals = ap (list_in (λ (x : InstEntry). x.fields.terminals)) found in
      let freed = ap length (free_terms_given (inst_terms d id) d.iterm) in
      record {
        free = λ none. cc;
        name = name_gone (λ e. e.fields.name) id e d.inst found (sound.kinds kind.Inst).named;
        good = good_terms_given (inst_terms d id) d.iterm (sound.kinds kind.ITerm).table.good (can_give d id (terms_placed tech library cap d sound));
        terms = omega (arith, freed, ap length terms, length-append (inst_terms d id) d.iterm.free);
      }
