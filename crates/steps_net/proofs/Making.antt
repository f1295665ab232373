-- An object of any kind comes by itself, or one goes on which nothing hangs: the block stays sound, and the way back
-- leads to it.
use Rattle.std.proofs.Common.{◌≡◌, ◌≢◌, ◌≤◌, Bool, true, false, cond, ltb, List, [], ◌∷◌, ℕ, Option, Some, None, IsTrue, refl, sym, ap, ◌∙◌, subst}
use Rattle.std.specs.Option.{option_map, option_map_or}
use Rattle.std.proofs.lemmas.Bool.{ltb-false}
use Rattle.slot_pool.specs.Table.{CanUntake, IsGood, Table, given, is_live, next_id, record_at, taken}
use Rattle.odb_base.specs.declared.codes.kind.Kind.{Kind}
use Rattle.odb_base.specs.declared.codes.kind.Kind.TheVariants as kind
use Rattle.block_records.specs.Record.{kind_of}
use Rattle.block_records.specs.declared.record.Record.{Record}
use Rattle.block_records.specs.declared.record.Record.TheVariants as rec
use Rattle.edit_words.specs.Tag.{NewObject}
use Rattle.tech.specs.Technology.{Technology}
use Rattle.library.specs.declared.master.Master.{Master}
use Rattle.block_store.specs.Alone.{IsAlone, IsBare, IsNew}
use Rattle.block_store.specs.Block.{Block, free_in, is_empty, left_in, live_in, next_in, record_of}
use Rattle.block_store.specs.Kinds.{Entry, table_of}
use Rattle.block_store.specs.Lens.{Lens}
use Rattle.block_store.specs.Lists.{list_in}
use Rattle.block_store.specs.Moves.{CanUntakeIn, given_in, new_inst, taken_in, untaken_in}
use Rattle.block_store.specs.Sound.{IsSound}
use Rattle.block_store.specs.Tables.{HasDistinctNames}
use Rattle.block_store.specs.View.{laws, view}
use Rattle.block_store.proofs.Changed.{HasNewName, back_gone, back_made, parts_by, sound_gone, sound_made}
use Rattle.block_store.proofs.Joined.{bterm_seen, net_shown, shown_by, terms_seen}
use Rattle.slot_pool.proofs.Mapped.{at_next, at_taken, live_record}
use Rattle.block_store.proofs.Shown.{live_by, name_gone}
use Rattle.block_store.proofs.TableLemmas.{can_untake}
use Rattle.steps_net.specs.Back.{grew_of, grown_by, record_moved, removed, undeleted, unmade_at}
use Rattle.steps_net.specs.Can.{CanDel, CanMake, CanNew, new_entry}
use Rattle.steps_net.specs.Do.{made_in}
use Rattle.steps_net.specs.Room.{lacking, lacking_new}
use Rattle.steps_net.proofs.OfKinds.{IsUntied, apart, bare_entry, is_bare}

-- where nothing is lacking, the cap allows the new objects
not_lacking : (lacks : Bool) (k : Kind) (next : Option Kind) → cond lacks (Some k) next ≡ None → (lacks ≡ false) × (next ≡ None)
not_lacking true k next h = cc
not_lacking false k next h = (refl, h)

pub room_for : (k : Kind) (n cap : ℕ) (b : Block) (next : Option Kind) → lacking k n cap b next ≡ None → (n ≤ left_in k cap b) × (next ≡ None)
room_for k n cap b next none =
    let parts = not_lacking (ltb (left_in k cap b) n) k next none in
    (ltb-false (left_in k cap b) n parts.0, parts.1)

-- a list with a first member isn't empty
never : {x : ℕ} {xs : List ℕ} → x ∷ xs ≡ [] → ⊥
never none = cc

module _ {A : Type 0} where
  -- an object that went leaves its name free
  names_gone : (name : Option (Lens A (List ℕ))) (id : ℕ) (x : A) (t : Table A) → record_at t id ≡ Some x → HasDistinctNames name t → HasNewName name x (given id t)
  names_gone None id x t found named = tt
  names_gone (Some name) id x t found named = name_gone name.get id x t found named

  -- the one that came last can be taken back
  untaken_next : (x : A) (t : Table A) (id : ℕ) → IsGood t → id ≡ next_id t 0 → CanUntake (taken x t) id (is_empty t.free)
  untaken_next x t id good next = subst (λ i. CanUntake (taken x t) i (is_empty t.free)) (sym next) (can_untake x t good)

  taken_at : (x : A) (t : Table A) (id : ℕ) → IsGood t → id ≡ next_id t 0 → record_at (taken x t) id ≡ Some x
  taken_at x t id good next = ap (record_at (taken x t)) next ∙ at_taken x t good

  seen_next : {L : Type 0} (see : A → L) (none : L) (t : Table A) (id : ℕ) → IsGood t → id ≡ next_id t 0 → option_map_or see (record_at t id) none ≡ none
  seen_next see none t id good next = ap (λ i. option_map_or see (record_at t i) none) next ∙ ap (λ o. option_map_or see o none) (at_next t good)

-- the record of an entry
abbrev pub record_in : (k : Kind) → Entry k → Record
record_in kind.Inst e = rec.Inst e.fields
record_in kind.ITerm r = rec.ITerm r
record_in kind.Net e = rec.Net e.fields
record_in kind.BTerm e = rec.BTerm e.fields
record_in kind.Pin r = rec.Pin r
record_in kind.Row e = rec.Row e.fields
record_in kind.Track r = rec.Track r
record_in kind.Wire r = rec.Wire r
record_in kind.Blockage r = rec.Blockage r
record_in kind.Region e = rec.Region e.fields
record_in kind.Group e = rec.Group e.fields
record_in kind.Prop r = rec.Prop r

bare : (k : Kind) (id : ℕ) (e : Entry k) (b : Block) → record_at (table_of k b) id ≡ Some (bare_entry k e) → IsBare k id b
bare kind.Inst id e b found = ap (list_in (λ e. e.props)) found
bare kind.Net id e b found = (ap (list_in (λ e. e.terms)) found, ap (list_in (λ e. e.wires)) found, ap (list_in (λ e. e.props)) found)
bare kind.BTerm id e b found = ap (list_in (λ e. e.pins)) found
bare kind.Row id e b found = ap (list_in (λ e. e.props)) found
bare kind.Region id e b found = (ap (list_in (λ e. e.groups)) found, ap (list_in (λ e. e.props)) found)
bare kind.Group id e b found = (ap (list_in (λ e. e.members)) found, ap (list_in (λ e. e.props)) found)
bare k id e b found = tt

-- the kind and the identifier of a new object
abbrev pub its_place : NewObject → Kind × ℕ
its_place new = (kind_of new.object, new.id)

module _ (tech : Technology) (library : List Master) (cap : ℕ) (d : Block) (sound : IsSound tech library cap d) where
  -- a new record of any kind
  sound_taken : (r : Record) → (laws (kind_of r)).see (new_entry r) ≡ (laws (kind_of r)).none → 1 ≤ left_in (kind_of r) cap d → (laws (kind_of r)).Is (parts_by tech library d.header) (new_entry r) → IsNew r d → IsSound tech library cap (taken_in r d)
  sound_taken (rec.Inst r) none room lawful new = sound_made tech library cap d kind.Inst (new_inst r) none room lawful new sound
  sound_taken r none room lawful new = sound_made tech library cap d (kind_of r) (new_entry r) none room lawful new sound

  back_taken : (r : Record) (id : ℕ) → id ≡ next_in (kind_of r) d → untaken_in (kind_of r) id (is_empty (free_in (kind_of r) d)) (taken_in r d) ≡ d
  back_taken (rec.Inst r) id next = back_made d kind.Inst (new_inst r) id (sound.kinds kind.Inst).table.good next
  back_taken r id next = back_made d (kind_of r) (new_entry r) id (sound.kinds (kind_of r)).table.good next

  can_be_untaken : (r : Record) (id : ℕ) → id ≡ next_in (kind_of r) d → CanUntakeIn (kind_of r) id (is_empty (free_in (kind_of r) d)) (taken_in r d)
  can_be_untaken (rec.Inst r) id next = untaken_next (new_inst r) d.inst id (sound.kinds kind.Inst).table.good next
  can_be_untaken r id next = untaken_next (new_entry r) (table_of (kind_of r) d) id (sound.kinds (kind_of r)).table.good next

  taken_alone : (r : Record) (id : ℕ) → id ≡ next_in (kind_of r) d → (laws (kind_of r)).Is (parts_by tech library d.header) (new_entry r) → IsAlone (kind_of r) id (taken_in r d)
  taken_alone (rec.Prop r) id next lawful = absurd lawful
  taken_alone r id next lawful =
      let k = kind_of r in
      let good = (sound.kinds k).table.good in
      record {
        apart = apart tech library cap d sound k id (new_entry r) lawful (seen_next (laws k).see (laws k).none (table_of k d) id good next);
        bare = bare k id (new_entry r) (taken_in r d) (taken_at (new_entry r) (table_of k d) id good next);
      }

  -- the new object of a step
  pub sound_new : (o : Option NewObject) → IsUntied o → CanNew (parts_by tech library d.header) d o → lacking_new (option_map its_place o) cap d ≡ None → IsSound tech library cap (made_in o d)
  sound_new None none can room = absurd can
  sound_new (Some new) none can room = sound_taken new.object none (room_for (kind_of new.object) 1 cap d None room).0 can.lawful can.free

  pub back_new : (o : Option NewObject) → CanNew (parts_by tech library d.header) d o → unmade_at (option_map its_place o) (grew_of (grown_by (option_map its_place o) d)) (made_in o d) ≡ d
  back_new None can = absurd can
  back_new (Some new) can = back_taken new.object new.id can.next

  pub new_untaken : (new : NewObject) → CanMake (parts_by tech library d.header) d new → CanUntakeIn (kind_of new.object) new.id (is_empty (free_in (kind_of new.object) d)) (taken_in new.object d) × IsAlone (kind_of new.object) new.id (taken_in new.object d)
  new_untaken new can = (can_be_untaken new.object new.id can.next, taken_alone new.object new.id can.next can.lawful)

  -- who goes is there, and is tied to nothing
  shows_none : (k : Kind) (id : ℕ) → k ≢ kind.Inst → CanDel d k id → IsTrue (is_live (table_of k d) id) × (view d k id ≡ (laws k).none)
  shows_none kind.Inst id other can = absurd (other refl)
  shows_none kind.ITerm id other can = absurd can
  shows_none kind.Net id other can = (can.0, ap (λ ids. record { terms = ids }) (terms_seen d id ∙ can.1))
  shows_none kind.BTerm id other can =
      let r = shown_by (λ e. e.fields.net) (record_at d.bterm id) 0 can in
      (live_by d.bterm id r.value r.is, ap (λ net. record { net = net }) (bterm_seen d id ∙ net_shown (λ e. e.fields.net) (record_at d.bterm id) 0 can))
  shows_none k id other can = (can, refl)

  -- it has empty lists
  pub record IsGoing (k : Kind) (id : ℕ) : Type 0 where
    pub entry : Entry k
    pub lawful : (laws k).Is (parts_by tech library d.header) entry
    pub found : record_at (table_of k d) id ≡ Some (bare_entry k entry)

  pub going : (k : Kind) (id : ℕ) → k ≢ kind.Inst → CanDel d k id → IsGoing k id
  going k id other can =
      let shows = shows_none k id other can in
      let e = live_record (table_of k d) id shows.0 in
      let lawful = (sound.kinds k).each id e.value e.is in
      let is = is_bare k (parts_by tech library d.header) e.value lawful (ap (λ o. option_map_or (laws k).see o (laws k).none) (sym e.is) ∙ shows.1) in
      record { entry = e.value; lawful = lawful; found = e.is ∙ ap Some (sym is) }

  pub sound_del : (k : Kind) (id : ℕ) → k ≢ kind.Inst → CanDel d k id → IsSound tech library cap (given_in k id d)
  sound_del kind.Inst id other can = absurd (other refl)
  sound_del k id other can = let shows = shows_none k id other can in sound_gone tech library cap d k id shows.0 shows.1 sound

  pub back_del : (k : Kind) (id : ℕ) → k ≢ kind.Inst → CanDel d k id → undeleted id (record_moved (removed (record_of k id d))) (given_in k id d) ≡ d
  back_del kind.Inst id other can = absurd (other refl)
  back_del k id other can =
      let g = going k id other can in
      ap (λ o. undeleted id (record_moved (removed (option_map (record_in k) o))) (given_in k id d)) g.found ∙ back_gone d k (bare_entry k g.entry) id g.found

  -- what the step asks
  pub del_alone : (k : Kind) (id : ℕ) → k ≢ kind.Inst → CanDel d k id → IsAlone k id d
  del_alone k id other can =
      let g = going k id other can in
      record { apart = apart tech library cap d sound k id g.entry g.lawful (shows_none k id other can).1; bare = bare k id g.entry d g.found }

  pub del_live : (k : Kind) (id : ℕ) → k ≢ kind.Inst → CanDel d k id → IsTrue (live_in k id d)
  del_live kind.Inst id other can = absurd (other refl)
  del_live k id other can = (shows_none k id other can).0

  -- what the way back asks: a free identifier, and a name that no object has
  pub gone_free : (k : Kind) (id : ℕ) (e : Entry k) → record_at (table_of k d) id ≡ Some e → (free_in k (given_in k id d) ≢ []) × IsNew (record_in k e) (given_in k id d)
  gone_free kind.Inst id e found = (λ none. never none, names_gone (laws kind.Inst).name id e d.inst found (sound.kinds kind.Inst).named)
  gone_free k id e found = (λ none. never none, names_gone (laws k).name id e (table_of k d) found (sound.kinds k).named)
