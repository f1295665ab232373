-- A sound block in which the tables of instances and of their terminals changed: what those tables owe.
use Rattle.std.proofs.Common.{◌≡◌, false, List, ℕ, Option, Some, None, refl, sym, ◌∙◌}
use Rattle.std.specs.Option.{option_map_or}
use Rattle.std.proofs.lemmas.Bool.{false≢true}
use Rattle.slot_pool.specs.Table.{Table, record_at}
use Rattle.odb_base.specs.Ids.{holds}
use Rattle.odb_base.specs.declared.codes.kind.Kind.TheVariants as kind
use Rattle.block_records.specs.declared.iterm.ITermRec.{ITermRec}
use Rattle.tech.specs.Technology.{Technology}
use Rattle.library.specs.declared.master.Master.{Master}
use Rattle.block_store.specs.declared.entry.GroupEntry.{GroupEntry}
use Rattle.block_store.specs.declared.entry.InstEntry.{InstEntry}
use Rattle.block_store.specs.Alone.{InNoMembers}
use Rattle.block_store.specs.Block.{Block}
use Rattle.block_store.specs.Lists.{iterm_number, list_in}
use Rattle.block_store.specs.Instances.{IsInst}
use Rattle.block_store.specs.Sorts.{BTermsOfNet, ITermsOfNet, IsHeld, Sort, list_of, owner_of}
use Rattle.block_store.specs.Sound.{IsKind, IsSound, iterm_net}
use Rattle.named_pool.specs.Names.{AreNamed}
use Rattle.block_store.specs.Tables.{AreEach, IsTable}
use Rattle.block_store.specs.TermPlaces.{ArePlaced, place_of, terminals_of}
use Rattle.block_store.specs.View.{view}
use Rattle.block_store.proofs.Changed.{parts_by, sound_beside}
use Rattle.block_store.proofs.Held.{held_stands, placed_stands}
use Rattle.block_store.proofs.Joined.{iterm_seen, place_seen, terminals_seen}
use Rattle.block_store.proofs.OneTable.{stays}
use Rattle.steps_net.proofs.InstancesTerms.{named_place}

-- the terminals of an instance, and the net of a terminal
abbrev pub terms_in : Table InstEntry → ℕ → List ℕ
terms_in t inst = list_in (λ e. e.fields.terminals) (record_at t inst)

abbrev pub net_of : Option ITermRec → ℕ
net_of r = option_map_or (λ r. r.net) r 0

module _ (tech : Technology) (library : List Master) (cap : ℕ) (d : Block) where
  held_changed : (t : Table InstEntry) (u : Table ITermRec) → ((part : ℕ) → net_of (record_at u part) ≡ iterm_net d part) → IsSound tech library cap d → (s : Sort) → IsHeld s (view (record d { inst = t; iterm = u }))
  held_changed t u nets sound ITermsOfNet =
      let c = record d { inst = t; iterm = u } in
      held_stands (list_of ITermsOfNet (view d)) (list_of ITermsOfNet (view c)) iterm_number (owner_of ITermsOfNet (view d)) (owner_of ITermsOfNet (view c)) (λ object. refl)
      (λ part. iterm_seen c part ∙ nets part ∙ sym (iterm_seen d part)) (sound.joined.held ITermsOfNet)
  held_changed t u nets sound BTermsOfNet = sound.joined.held BTermsOfNet

  pub insts_changed : (t : Table InstEntry) (u : Table ITermRec) → IsTable cap t → IsTable cap u → AreEach (IsInst library) t → AreNamed (λ e. e.fields.name) t
      → ((part : ℕ) → net_of (record_at u part) ≡ iterm_net d part) → ArePlaced (terms_in t) (λ part. named_place (record_at u part)) → IsSound tech library cap d
      → IsSound tech library cap (record d { inst = t; iterm = u })
  insts_changed t u is_t is_u each named nets placed sound =
      let c = record d { inst = t; iterm = u } in
      let parts = parts_by tech library d.header in
      sound_beside tech library cap d c sound refl
      (stays (IsKind parts cap) kind.ITerm u (record d { inst = t }) (record { table = is_u; each = λ id r found. tt; named = tt; coming = λ unbuilt. absurd (false≢true (sym unbuilt)) })
      (stays (IsKind parts cap) kind.Inst t d (record { table = is_t; each = each; named = named; coming = λ unbuilt. absurd (false≢true (sym unbuilt)) }) sound.kinds))
      (record {
        held = held_changed t u nets sound;
        placed = placed_stands (terms_in t) (terminals_of (view c)) (λ part. named_place (record_at u part)) (place_of (view c)) (terminals_seen c) (place_seen c) placed;
      })

members_none : (t : Table GroupEntry) (group member : ℕ) (o : Option GroupEntry) → AreEach (λ e. ⊥) t → record_at t group ≡ o → holds (list_in (λ e. e.members) o) member ≡ false
members_none t group member None none is = refl
members_none t group member (Some e) none is = absurd (none group e is)

-- where there are no groups, an instance is a member of none
pub in_no_members : (id : ℕ) (b : Block) → AreEach (λ e. ⊥) b.group → InNoMembers id b
in_no_members id b none group = members_none b.group group id (record_at b.group group) none refl
