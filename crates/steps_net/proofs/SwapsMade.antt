-- An instance gets another master: the block stays sound, and the way back leads to it.
use Rattle.std.proofs.Common.{◌≡◌, ◌≢◌, ◌+◌, ◌-◌, ◌<◌, ◌≤◌, ◌⊎◌, List, ℕ, Option, Some, None, is_some, eqb, false, get_or, length, length-append, slice_get, zero-add, refl, sym, ap, subst, ◌∙◌, arith, inl, inr}
use Rattle.std.specs.Option.{option_and_then, option_map, option_map_or}
use Rattle.std.proofs.lemmas.Bool.{cases_eq}
use Rattle.std.proofs.lemmas.Bool.Decides.{nat_tests}
use Rattle.std.proofs.lemmas.List.{ext_get_or, length-map}
use Rattle.slot_pool.specs.Table.{Table, record_at}
use Rattle.odb_base.specs.declared.codes.kind.Kind.TheVariants as kind
use Rattle.block_records.specs.declared.iterm.ITermRec.{ITermRec}
use Rattle.tech.specs.Technology.{Technology}
use Rattle.library.specs.Masters.{master_at}
use Rattle.library.specs.declared.master.Master.{Master}
use Rattle.edit_words.specs.Tag.{tag_of}
use Rattle.edit_words.specs.declared.step.Step.TheVariants as step
use Rattle.block_store.specs.declared.entry.InstEntry.{InstEntry}
use Rattle.block_store.specs.Block.{Block}
use Rattle.slot_pool.specs.Mapped.{on_record}
use Rattle.block_store.specs.Lists.{list_in}
use Rattle.block_store.specs.Instances.{IsInst}
use Rattle.block_store.specs.Sound.{IsSound, inst_terms, iterm_place}
use Rattle.block_store.specs.TermPlaces.{ArePlaced}
use Rattle.block_store.proofs.Joined.{none_is, shown_by, some_is, terms_placed}
use Rattle.slot_pool.proofs.Mapped.{at_on, at_on_other, view_on}
use Rattle.block_store.proofs.Shown.{each_on, live_by, live_on, named_stands, table_on, view_at_on}
use Rattle.library.proofs.TerminalNames.{found_terminals_are_named}
use Rattle.block_store.proofs.TableLemmas.{on_on, on_same}
use Rattle.steps_net.specs.Back.{back, master_of, memo_of}
use Rattle.steps_net.specs.Can.{CanSwap, inst_master}
use Rattle.steps_net.specs.Do.{do_step, fresh_iterm, reordered, reordered_by, swapped, terms_given}
use Rattle.steps_net.specs.Laws.{KeepNames}
use Rattle.steps_net.specs.Terms.{CanExchange, CanSwapFor}
use Rattle.steps_net.proofs.InstancesChanged.{insts_changed, net_of, terms_in}
use Rattle.steps_net.proofs.InstancesGone.{can_give, of_no_other}
use Rattle.steps_net.proofs.InstancesTerms.{free_terms_given, free_within, good_terms_given, inst_of, named_place, number_of, place_is, slots_terms_given, somewhere_or_not}
use Rattle.steps_net.proofs.SwapsOrder.{IsReordering, came_from, is_inside, is_reordering, reordering_fits}
use Rattle.steps_net.proofs.SwapsPlaces.{IsOnce, free_indexed, indexed_is, is_table_indexed, kept_indexed, moved_to, set_indexed, slots_indexed, table_indexed, view_indexed}

-- the entry with another master and other terminals
abbrev exchanged : ℕ → List ℕ → InstEntry → InstEntry
exchanged master terms e = record e { fields = record e.fields { master = master; terminals = terms } }

abbrev inst_exchanged : ℕ → ℕ → List ℕ → Table InstEntry → Table InstEntry
inst_exchanged inst master terms t =
    on_record (λ (e : InstEntry). record e { fields = record e.fields { terminals = terms } }) inst (on_record (λ (e : InstEntry). record e { fields = record e.fields { master = master } }) inst t)

-- both fields change at once
exchanged_is : (inst master : ℕ) (terms : List ℕ) (t : Table InstEntry) → inst_exchanged inst master terms t ≡ on_record (exchanged master terms) inst t
exchanged_is inst master terms t = on_on (λ (e : InstEntry). record e { fields = record e.fields { terminals = terms } }) (λ (e : InstEntry). record e { fields = record e.fields { master = master } }) inst t

pub swap_is : (inst master : ℕ) (terms : List ℕ) (b : Block) → swapped inst master terms b ≡ record b { inst = on_record (exchanged master terms) inst b.inst; iterm = table_indexed 0 terms b.iterm }
swap_is inst master terms b =
    indexed_is 0 terms (record b { inst = inst_exchanged inst master terms b.inst })
    ∙ ap (λ t. record b { inst = t; iterm = table_indexed 0 terms b.iterm }) (exchanged_is inst master terms b.inst)

-- the record of an identifier stands in its slot
same_slot : {A : Type 0} (t u : Table A) (i : ℕ) → record_at t (i + 1) ≡ record_at u (i + 1) → get_or t.slots i None ≡ get_or u.slots i None
same_slot t u i same =
    let some : eqb (i + 1) 0 ≡ false = grind (arith, nat_tests) in
    let back : i + 1 - 1 ≡ i = omega arith in
    rw (some, back) at same

zero_add_is : (j index : ℕ) → index ≡ j → 0 + j ≡ index
zero_add_is j index is = omega arith

-- tables that have the same records and free identifiers are one
same_table : {A : Type 0} (t u : Table A) → t.free ≡ u.free → length t.slots ≡ length u.slots → ((id : ℕ) → record_at t id ≡ record_at u id) → t ≡ u
same_table t u free long same =
    let at : (i : ℕ) → i < length t.slots → get_or t.slots i None ≡ get_or u.slots i None = λ i within. same_slot t u i (same (i + 1)) in
    let slots : t.slots ≡ u.slots = ext_get_or None t.slots u.slots long at in
    ap (λ s. record t { slots = s }) slots ∙ ap (λ f. record u { free = f }) free

-- the instance's terminals have another order
module _ (d : Block) (inst master : ℕ) (order : List ℕ) where
  abbrev places : Table ITermRec
  places = table_indexed 0 order d.iterm

  abbrev insts : Table InstEntry
  insts = on_record (exchanged master order) inst d.inst

  -- no terminal stands twice among those of an instance
  pub once_placed : ArePlaced (inst_terms d) (iterm_place d) → IsOnce (inst_terms d inst)
  once_placed placed j k part at_j at_k = ap number_of (sym ((placed inst j part).0 at_j) ∙ (placed inst k part).0 at_k)

  terms_here : (e : InstEntry) → record_at d.inst inst ≡ Some e → (object : ℕ) → object ≡ inst → terms_in insts object ≡ order
  terms_here e found object same =
      ap (terms_in insts) same ∙ ap (list_in (λ (x : InstEntry). x.fields.terminals)) (at_on (exchanged master order) inst d.inst ∙ ap (option_map (exchanged master order)) found)

  terms_there : (object : ℕ) → object ≢ inst → terms_in insts object ≡ inst_terms d object
  terms_there object other = ap (list_in (λ (x : InstEntry). x.fields.terminals)) (at_on_other (exchanged master order) inst object d.inst other)

  -- a terminal of the instance gets its place in the order
  place_here : ArePlaced (inst_terms d) (iterm_place d) → IsReordering (inst_terms d inst) order → (k part : ℕ) → slice_get order k ≡ Some part → named_place (record_at places part) ≡ place_is inst k
  place_here placed is k part at =
      let from = is.from k part at in
      let r = shown_by (λ (r : ITermRec). (r.inst, r.index)) (record_at d.iterm part) (inst, from.0) ((placed inst from.0 part).0 from.1) in
      ap named_place (set_indexed 0 order d.iterm k part is.once at ∙ ap (option_map (moved_to (0 + k))) r.is)
      ∙ ap (λ (p : ℕ × ℕ). place_is p.0 (0 + k)) r.shows ∙ ap (place_is inst) (zero-add k)

  placed_swapped : (e : InstEntry) → record_at d.inst inst ≡ Some e → ArePlaced (inst_terms d) (iterm_place d) → IsReordering (inst_terms d inst) order
      → ArePlaced (terms_in insts) (λ part. named_place (record_at places part))
  placed_swapped e found placed is object k part = (
    λ at. elim (cases_eq object inst) [
      | inl same ↦
          place_here placed is k part (ap (λ l. slice_get l k) (sym (terms_here e found object same)) ∙ at) ∙ ap (λ i. place_is i k) (sym same)
      | inr other ↦
          let was = (placed object k part).0 (ap (λ l. slice_get l k) (sym (terms_there object other)) ∙ at) in
          let none : (j : ℕ) → slice_get order j ≢ Some part = λ j at. let from = is.from j part at in other (of_no_other d inst placed object from.0 k part from.1 was) in
          ap named_place (kept_indexed 0 order d.iterm part none) ∙ was
    ],
    λ at. elim (somewhere_or_not order part) [
      | inl here ↦
          let place : place_is object k ≡ place_is inst here.0 = sym at ∙ place_here placed is here.0 part here.1 in
          ap (λ l. slice_get l k) (terms_here e found object (ap inst_of place)) ∙ ap (slice_get order) (ap number_of place) ∙ here.1
      | inr none ↦
          let was = (placed object k part).1 (ap named_place (sym (kept_indexed 0 order d.iterm part none)) ∙ at) in
          elim (cases_eq object inst) [
            | inl same ↦ let there = is.to k part (ap (λ i. slice_get (inst_terms d i) k) (sym same) ∙ was) in absurd (none there.0 there.1)
            | inr other ↦ ap (λ l. slice_get l k) (terms_there object other) ∙ was
          ]
    ],
  )

-- The way back, from any order of terminals of the instance.
module _ (d : Block) (inst master : ℕ) (order : List ℕ) where
  back_entry : (x : InstEntry) → record_at d.inst inst ≡ Some x → exchanged (master_of d inst) (inst_terms d inst) (exchanged master order x) ≡ x
  back_entry x found =
      let had : master_of d inst ≡ x.fields.master = ap (λ o. option_map_or (λ (e : InstEntry). e.fields.master) o 0) found in
      let terms : inst_terms d inst ≡ x.fields.terminals = ap (list_in (λ (e : InstEntry). e.fields.terminals)) found in
      ap (λ m. exchanged m (inst_terms d inst) x) had ∙ ap (λ l. exchanged x.fields.master l x) terms

  back_insts : on_record (exchanged (master_of d inst) (inst_terms d inst)) inst (on_record (exchanged master order) inst d.inst) ≡ d.inst
  back_insts =
      on_on (exchanged (master_of d inst) (inst_terms d inst)) (exchanged master order) inst d.inst
      ∙ on_same (λ x. exchanged (master_of d inst) (inst_terms d inst) (exchanged master order x)) inst d.inst back_entry

  back_here : ArePlaced (inst_terms d) (iterm_place d) → (j part : ℕ) → slice_get (inst_terms d inst) j ≡ Some part
      → record_at (table_indexed 0 (inst_terms d inst) (table_indexed 0 order d.iterm)) part ≡ record_at d.iterm part
  back_here placed j part at =
      let terms = inst_terms d inst in
      let r = shown_by (λ (r : ITermRec). (r.inst, r.index)) (record_at d.iterm part) (inst, j) ((placed inst j part).0 at) in
      let index : 0 + j ≡ r.value.index = zero_add_is j r.value.index (ap (λ (p : ℕ × ℕ). p.1) r.shows) in
      set_indexed 0 terms (table_indexed 0 order d.iterm) j part (once_placed d inst master order placed) at
      ∙ view_indexed (option_map (moved_to (0 + j))) (λ index r. refl) 0 order d.iterm part
      ∙ ap (option_map (moved_to (0 + j))) r.is
      ∙ ap (λ i. Some (moved_to i r.value)) index
      ∙ sym r.is

  back_there : ((k part : ℕ) → slice_get order k ≡ Some part → (part ≡ 0) ⊎ ((j : ℕ) × (slice_get (inst_terms d inst) j ≡ Some part)))
      → (part : ℕ) → ((j : ℕ) → slice_get (inst_terms d inst) j ≢ Some part) → record_at (table_indexed 0 order d.iterm) part ≡ record_at d.iterm part
  back_there inside part none = elim (cases_eq part 0) [
    | inl zero ↦ ap (record_at (table_indexed 0 order d.iterm)) zero ∙ sym (ap (record_at d.iterm) zero)
    | inr some ↦ kept_indexed 0 order d.iterm part (λ k at. elim (inside k part at) [
      | inl zero ↦ some zero
      | inr there ↦ none there.0 there.1
    ])
  ]

  back_terms : ArePlaced (inst_terms d) (iterm_place d) → ((k part : ℕ) → slice_get order k ≡ Some part → (part ≡ 0) ⊎ ((j : ℕ) × (slice_get (inst_terms d inst) j ≡ Some part)))
      → table_indexed 0 (inst_terms d inst) (table_indexed 0 order d.iterm) ≡ d.iterm
  back_terms placed inside =
      let terms = inst_terms d inst in
      let moved = table_indexed 0 order d.iterm in
      same_table (table_indexed 0 terms moved) d.iterm
      (free_indexed 0 terms moved ∙ free_indexed 0 order d.iterm)
      (slots_indexed 0 terms moved ∙ slots_indexed 0 order d.iterm)
      (λ part. elim (somewhere_or_not terms part) [
        | inl here ↦ back_here placed here.0 part here.1
        | inr none ↦ kept_indexed 0 terms moved part none ∙ back_there inside part none
      ])

-- an instance of a master of the library
record HasMaster (library : List Master) (b : Block) (inst : ℕ) (m : Master) : Type 0 where
  entry : InstEntry
  found : record_at b.inst inst ≡ Some entry
  at : master_at library entry.fields.master ≡ Some m

has_master_by : (library : List Master) (b : Block) (inst : ℕ) (m : Master) (o : Option InstEntry) → record_at b.inst inst ≡ o → option_and_then (λ (e : InstEntry). master_at library e.fields.master) o ≡ Some m → HasMaster library b inst m
has_master_by library b inst m None is h = absurd (none_is m h)
has_master_by library b inst m (Some e) is h = record { entry = e; found = is; at = h }

has_master : (library : List Master) (b : Block) (inst : ℕ) (m : Master) → inst_master library b inst ≡ Some m → HasMaster library b inst m
has_master library b inst m h = has_master_by library b inst m (record_at b.inst inst) refl h

count_is : (o : Option Master) (m : Master) (n : ℕ) → o ≡ Some m → option_map (λ (m : Master). length m.terminals) o ≡ Some n → length m.terminals ≡ n
count_is o m n is count = some_is (length m.terminals) n (sym (ap (option_map (λ (m : Master). length m.terminals)) is) ∙ count)

module _ (tech : Technology) (library : List Master) (cap : ℕ) (d : Block) (inst master : ℕ) where
  -- the old master has a terminal for each of the instance
  fitted_old : IsSound tech library cap d → (m : Master) → HasMaster library d inst m → length m.terminals ≡ length (inst_terms d inst)
  fitted_old sound m has =
      let terms : inst_terms d inst ≡ has.entry.fields.terminals = ap (list_in (λ (x : InstEntry). x.fields.terminals)) has.found in
      count_is (master_at library has.entry.fields.master) m (length has.entry.fields.terminals) has.at ((sound.kinds kind.Inst).each inst has.entry has.found).fitted ∙ ap length (sym terms)

  -- an instance has no more terminals than there are slots for them
  terms_few : IsSound tech library cap d → length (inst_terms d inst) ≤ length d.iterm.slots
  terms_few sound =
      let ids = inst_terms d inst in
      let given = terms_given ids d.iterm in
      let good = good_terms_given ids d.iterm (sound.kinds kind.ITerm).table.good (can_give d inst (terms_placed tech library cap d sound)) in
      omega (arith, free_within (fresh_iterm 0 0) given good, slots_terms_given ids d.iterm, ap length (free_terms_given ids d.iterm), length-append ids d.iterm.free)

  -- the order of the new master
  abbrev order_of : CanSwap library d inst master → List ℕ
  order_of can = reordered can.old can.new (inst_terms d inst)

  reorders : IsSound tech library cap d → (can : CanSwap library d inst master) → IsReordering (inst_terms d inst) (order_of can)
  reorders sound can =
      let has = has_master library d inst can.old can.is_old in
      is_reordering can.old can.new (inst_terms d inst) (sound.masters has.entry.fields.master can.old has.at) (sound.masters master can.new can.is_new) can.same (fitted_old sound can.old has)
      (once_placed d inst master (inst_terms d inst) (terms_placed tech library cap d sound))

  -- the step, with the masters that it finds
  step_is : (can : CanSwap library d inst master) → do_step library (step.Swap inst master) d ≡ record d { inst = on_record (exchanged master (order_of can)) inst d.inst; iterm = table_indexed 0 (order_of can) d.iterm }
  step_is can =
      ap (λ o. swapped inst master (reordered_by o (master_at library master) (inst_terms d inst)) d) can.is_old
      ∙ ap (λ o. swapped inst master (reordered_by (Some can.old) o (inst_terms d inst)) d) can.is_new
      ∙ swap_is inst master (order_of can) d

  -- the terminals after the step
  terms_now : (can : CanSwap library d inst master) → inst_terms (do_step library (step.Swap inst master) d) inst ≡ order_of can
  terms_now can =
      let has = has_master library d inst can.old can.is_old in
      ap (λ b. inst_terms b inst) (step_is can)
      ∙ view_at_on (list_in (λ (e : InstEntry). e.fields.terminals)) (exchanged master (order_of can)) inst has.entry d.inst has.found

  -- each of them stood before the step under the same name
  pub keep_names : IsSound tech library cap d → (can : CanSwap library d inst master) → KeepNames library d inst master can
  keep_names sound can k part at =
      let came = came_from can.old can.new (inst_terms d inst) (sound.masters master can.new can.is_new) can.same (fitted_old sound can.old (has_master library d inst can.old can.is_old)) k part
      (ap (λ ids. slice_get ids k) (sym (terms_now can)) ∙ at) in (
        came.place,
        came.at,
        found_terminals_are_named can.old came.match.name came.place came.match.in_old ∙ sym (found_terminals_are_named can.new came.match.name k came.match.in_new),
      )

  inst_exchanged_is : (order : List ℕ) (m : Master) → master_at library master ≡ Some m → length m.terminals ≡ length order → (e : InstEntry) → IsInst library e → IsInst library (exchanged master order e)
  inst_exchanged_is order m at long e is = record {
    name = is.name;
    place = is.place;
    fitted = ap (option_map (λ (m : Master). length m.terminals)) at ∙ ap Some long;
    group = is.group;
    kept = is.kept;
    props = is.props;
  }

  pub sound_swap : IsSound tech library cap d → CanSwap library d inst master → IsSound tech library cap (do_step library (step.Swap inst master) d)
  sound_swap sound can =
      let has = has_master library d inst can.old can.is_old in
      let order = order_of can in
      let change = exchanged master order in
      let long : length can.new.terminals ≡ length order = rw length-map refl in
      rw (step_is can)
      (insts_changed tech library cap d (on_record change inst d.inst) (table_indexed 0 order d.iterm)
      (table_on cap change inst d.inst (sound.kinds kind.Inst).table) (is_table_indexed cap 0 order d.iterm (sound.kinds kind.ITerm).table)
      (each_on (IsInst library) change inst d.inst (λ e found is. inst_exchanged_is order can.new can.is_new long e is) (sound.kinds kind.Inst).each)
      (named_stands (λ e. e.fields.name) d.inst (on_record change inst d.inst) (view_on (option_map (λ (e : InstEntry). e.fields.name)) change inst d.inst (λ e found. refl)) (sound.kinds kind.Inst).named)
      (view_indexed net_of (λ index r. refl) 0 order d.iterm)
      (placed_swapped d inst master order has.entry has.found (terms_placed tech library cap d sound) (reorders sound can)) sound)

  -- what the step asks, of the masters that it finds
  can_swap_found : IsSound tech library cap d → (can : CanSwap library d inst master) → CanSwapFor inst can.old can.new d
  can_swap_found sound can =
      let has = has_master library d inst can.old can.is_old in
      let is = reorders sound can in
      let fits = reordering_fits (inst_terms d inst) (order_of can) is in
      let few = terms_few sound in
      let long : length (order_of can) ≡ length can.new.terminals = rw length-map refl in
      record {
        exchange = record {
          live = live_by d.inst inst has.entry has.found;
          terms = λ k id at.
              let from = is.from k id at in
              let r = shown_by (λ (r : ITermRec). (r.inst, r.index)) (record_at d.iterm id) (inst, from.0) (((terms_placed tech library cap d sound) inst from.0 id).0 from.1) in
              live_by d.iterm id r.value r.is;
          few = omega (arith, fits, few);
        };
        old_few = omega (arith, fitted_old sound can.old has, few);
        new_few = omega (arith, fits, long);
      }

  pub can_swap_for : (old new : Master) → IsSound tech library cap d → CanSwap library d inst master → inst_master library d inst ≡ Some old → master_at library master ≡ Some new → CanSwapFor inst old new d
  can_swap_for old new sound can is_old is_new =
      subst (λ m. CanSwapFor inst m new d) (some_is can.old old (sym can.is_old ∙ is_old))
      (subst (λ m. CanSwapFor inst can.old m d) (some_is can.new new (sym can.is_new ∙ is_new)) (can_swap_found sound can))

  pub back_swap : IsSound tech library cap d → CanSwap library d inst master
      → back (tag_of (step.Swap inst master)) (memo_of (step.Swap inst master) d) (do_step library (step.Swap inst master) d) ≡ d
  back_swap sound can =
      let order = order_of can in
      let after = record d { inst = on_record (exchanged master order) inst d.inst; iterm = table_indexed 0 order d.iterm } in
      ap (swapped inst (master_of d inst) (inst_terms d inst)) (step_is can)
      ∙ swap_is inst (master_of d inst) (inst_terms d inst) after
      ∙ ap (λ t. record d { inst = t; iterm = table_indexed 0 (inst_terms d inst) (table_indexed 0 order d.iterm) }) (back_insts d inst master order)
      ∙ ap (λ t. record d { iterm = t }) (back_terms d inst master order (terms_placed tech library cap d sound) (is_inside can.old can.new (inst_terms d inst)))

  -- what the way back asks
  pub can_exchange_back : IsSound tech library cap d → CanSwap library d inst master → CanExchange inst (inst_terms d inst) (do_step library (step.Swap inst master) d)
  can_exchange_back sound can =
      let has = has_master library d inst can.old can.is_old in
      let order = order_of can in
      rw (step_is can) (record {
        live = live_on (exchanged master order) inst d.inst inst (live_by d.inst inst has.entry has.found);
        terms = λ k id at.
            let r = shown_by (λ (r : ITermRec). (r.inst, r.index)) (record_at d.iterm id) (inst, k) (((terms_placed tech library cap d sound) inst k id).0 at) in
            view_indexed is_some (λ index r. refl) 0 order d.iterm id ∙ live_by d.iterm id r.value r.is;
        few = rw (slots_indexed 0 order d.iterm) (terms_few sound);
      })
