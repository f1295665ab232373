-- A block is sound whose parts are.
use Rattle.std.proofs.Common.{◌≡◌, Bool, true, false, ◌≤◌, eqb, List, ℕ, Option, Some, None, IfSome, slice_get, refl, sym, ap, ◌∙◌, subst, inl, inr, arith}
use Rattle.std.specs.Option.{option_map, option_map_or}
use Rattle.std.proofs.lemmas.Bool.{cases_Bool, cases_lt, eqb-true, eqb-false, false≢true}
use Rattle.odb_base.specs.declared.codes.kind.Kind.{Kind}
use Rattle.odb_base.specs.declared.codes.kind.Kind.TheVariants as kind
use Rattle.slot_pool.specs.Table.{Table, once_if, record_at, times}
use Rattle.block_records.specs.declared.iterm.ITermRec.{ITermRec}
use Rattle.library.specs.declared.master.Master.{Master}
use Rattle.tech.specs.Technology.{Technology}
use Rattle.block_store.specs.declared.entry.BTermEntry.{BTermEntry}
use Rattle.block_store.specs.declared.entry.InstEntry.{InstEntry}
use Rattle.block_store.specs.declared.entry.NetEntry.{NetEntry}
use Rattle.block_store.specs.Block.{Block}
use Rattle.block_store.specs.Kinds.{Entry, table_of}
use Rattle.block_store.specs.Lens.{Lens}
use Rattle.block_store.specs.Lists.{bterm_number, iterm_number, list_in}
use Rattle.block_store.specs.Sorts.{AreHeld, BTermsOfNet, ITermsOfNet, IsHeld, Sort, list_of, owner_of}
use Rattle.block_store.specs.Sound.{IsKind, IsSound, bterm_net, inst_terms, iterm_net, iterm_place, net_terms}
use Rattle.named_pool.specs.Names.{AreNamed}
use Rattle.block_store.specs.Tables.{HasDistinctNames}
use Rattle.block_store.specs.TermPlaces.{ArePlaced, place_of, terminals_of}
use Rattle.block_store.specs.View.{laws, view}
use Rattle.block_store.proofs.Changed.{kind_coming, parts_by}
use Rattle.block_store.proofs.Held.{held_stands, placed_stands}
use Rattle.block_store.proofs.Joined.{bterm_seen, iterm_seen, place_seen, terminals_seen, terms_seen}
use Rattle.block_tables.specs.Names.{HasOwnName, IsAlone}
use Rattle.block_tables.specs.RuleBlockTerminals.{IsSoundBTerm}
use Rattle.block_tables.specs.RuleInstances.{IsSoundInst}
use Rattle.block_tables.specs.RuleNets.{IsSoundNet, term_net}
use Rattle.block_tables.specs.RulePlain.{IsSoundPlain}
use Rattle.block_tables.specs.RuleTerminals.{IsSoundITerm}
use Rattle.block_tables.specs.Rules.{AreSoundParts, IfBuilt, IsTableIf}
use Rattle.block_tables.proofs.PartsOfSound.{term_net-even, term_net-odd}

module _ {A : Type 0} where
  -- the fact of a record that is there
  there : (o : Option A) (P : A → Type 0) (x : A) → IfSome o P → o ≡ Some x → P x
  there None P x h at = cc
  there (Some y) P x h at = let same : y ≡ x = cc in subst P same h

  -- what is named is there
  named : (name_of : A → List ℕ) (o : Option A) (name : List ℕ) → option_map name_of o ≡ Some name → (x : A) × (o ≡ Some x) × (name_of x ≡ name)
  named name_of None name h = cc
  named name_of (Some x) name h = (x, refl, cc)

  -- what has members is there
  holding : (list_of : A → List ℕ) (o : Option A) (number : ℕ) → 1 ≤ times number (list_in list_of o) → (x : A) × (o ≡ Some x)
  holding list_of None number h = absurd (omega arith)
  holding list_of (Some x) number h = (x, refl)

  placing : (list_of : A → List ℕ) (o : Option A) (place part : ℕ) → slice_get (list_in list_of o) place ≡ Some part → (x : A) × (o ≡ Some x)
  placing list_of None place part h = cc
  placing list_of (Some x) place part h = (x, refl)

  -- what is joined to a net is there
  joined_there : (net_of : A → ℕ) (o : Option A) (net : ℕ) → 1 ≤ net → option_map_or net_of o 0 ≡ net → (x : A) × (o ≡ Some x) × (net_of x ≡ net)
  joined_there net_of None net some h = absurd (omega (arith, h))
  joined_there net_of (Some x) net some h = (x, refl, h)

  -- what has a place is there
  placed_there : (o : Option A) (place_of : A → ℕ × ℕ) (at : ℕ × ℕ) → option_map place_of o ≡ Some at → (x : A) × (o ≡ Some x) × (place_of x ≡ at)
  placed_there None place_of at h = cc
  placed_there (Some x) place_of at h = (x, refl, cc)

  are_named : (name_of : A → List ℕ) (t : Table A) → ((id : ℕ) (x : A) → record_at t id ≡ Some x → IsAlone name_of t id (name_of x)) → AreNamed name_of t
  are_named name_of t each one other name h h' =
      let found = named name_of (record_at t other) name h' in
      each other found.0 found.1 one (h ∙ ap Some (sym found.2))

  names_by : (name : Option (Lens A (List ℕ))) (t : Table A) → ((id : ℕ) (x : A) → record_at t id ≡ Some x → HasOwnName name t id x) → HasDistinctNames name t
  names_by None t each = tt
  names_by (Some name) t each = are_named name.get t each

module _ (tech : Technology) (library : List Master) (cap : ℕ) (b : Block) (parts : AreSoundParts tech library cap b) where
  inst : (id : ℕ) (e : InstEntry) → record_at b.inst id ≡ Some e → IsSoundInst library b id e
  inst id e at = there (record_at b.inst id) (λ e. IsSoundInst library b id e) e ((parts.kinds kind.Inst).records id) at

  iterm : (id : ℕ) (r : ITermRec) → record_at b.iterm id ≡ Some r → IsSoundITerm b id r
  iterm id r at = there (record_at b.iterm id) (λ r. IsSoundITerm b id r) r ((parts.kinds kind.ITerm).records id) at

  net : (id : ℕ) (e : NetEntry) → record_at b.net id ≡ Some e → IsSoundNet b id e
  net id e at = there (record_at b.net id) (λ e. IsSoundNet b id e) e ((parts.kinds kind.Net).records id) at

  bterm : (id : ℕ) (e : BTermEntry) → record_at b.bterm id ≡ Some e → IsSoundBTerm b id e
  bterm id e at = there (record_at b.bterm id) (λ e. IsSoundBTerm b id e) e ((parts.kinds kind.BTerm).records id) at

  -- what stands in the list of a net stands there once and names it
  member : (id number : ℕ) → 1 ≤ times number (net_terms b id) → (times number (net_terms b id) ≡ 1) × (term_net b number ≡ id)
  member id number held =
      let found = holding (λ (e : NetEntry). e.terms) (record_at b.net id) number held in
      let same : net_terms b id ≡ found.0.terms = ap (list_in (λ (e : NetEntry). e.terms)) found.1 in
      let P : List ℕ → Type 0 = λ numbers. 1 ≤ times number numbers → (times number numbers ≡ 1) × (term_net b number ≡ id) in
      subst P (sym same) ((net id found.0 found.1).terminals number) held

  -- a list holds a member just as the member's owner says
  held : (n owner id : ℕ) → (1 ≤ n → (n ≡ 1) × (owner ≡ id)) → (owner ≡ id → 1 ≤ n) → n ≡ once_if (eqb owner id)
  held n owner id once owned = elim (cases_Bool (eqb owner id)) [
    | inl e ↦ rw e ((once (owned (eqb-true owner id e))).0)
    | inr e ↦ rw e (elim (cases_lt 0 n) [
      | inl some ↦ absurd (eqb-false owner id e ((once (omega arith)).1))
      | inr none ↦ omega arith
    ])
  ]

  iterms_held : AreHeld (net_terms b) iterm_number (iterm_net b)
  iterms_held id part some =
      held (times (iterm_number part) (net_terms b id)) (iterm_net b part) id
      (λ h. let m = member id (iterm_number part) h in (m.0, sym (term_net-even b part) ∙ m.1))
      (λ owned.
      let found = joined_there (λ (r : ITermRec). r.net) (record_at b.iterm part) id some owned in
      let P : ℕ → Type 0 = λ n. 1 ≤ times (iterm_number part) (net_terms b n) in
      subst P found.2 ((iterm part found.0 found.1).joined (λ none. let e = found.2 in omega (arith, e, none, some))))

  bterms_held : AreHeld (net_terms b) bterm_number (bterm_net b)
  bterms_held id part some =
      held (times (bterm_number part) (net_terms b id)) (bterm_net b part) id
      (λ h. let m = member id (bterm_number part) h in (m.0, sym (term_net-odd b part) ∙ m.1))
      (λ owned.
      let found = joined_there (λ (e : BTermEntry). e.fields.net) (record_at b.bterm part) id some owned in
      let P : ℕ → Type 0 = λ n. 1 ≤ times (bterm_number part) (net_terms b n) in
      subst P found.2 ((bterm part found.0 found.1).joined (λ none. let e = found.2 in omega (arith, e, none, some))))

  stands : (id place part : ℕ) → slice_get (inst_terms b id) place ≡ Some part → iterm_place b part ≡ Some (id, place)
  stands id place part h =
      let found = placing (λ (e : InstEntry). e.fields.terminals) (record_at b.inst id) place part h in
      (inst id found.0 found.1).terminals place part (ap (λ o. slice_get (list_in (λ (e : InstEntry). e.fields.terminals) o) place) (sym found.1) ∙ h)

  names : (id place part : ℕ) → iterm_place b part ≡ Some (id, place) → slice_get (inst_terms b id) place ≡ Some part
  names id place part h =
      let found = placed_there (record_at b.iterm part) (λ (r : ITermRec). (r.inst, r.index)) (id, place) h in
      ap (λ (at : ℕ × ℕ). slice_get (inst_terms b at.0) at.1) (sym found.2) ∙ (iterm part found.0 found.1).place

  placed : ArePlaced (inst_terms b) (iterm_place b)
  placed id place part = (stands id place part, names id place part)

  plain_kind : (k : Kind) (built : Bool) → (laws k).built ≡ built → IsTableIf built cap (table_of k b) → ((id : ℕ) → IfBuilt built (IfSome (record_at (table_of k b) id) (λ e. IsSoundPlain (parts_by tech library b.header) k (table_of k b) id e))) → IsKind (parts_by tech library b.header) cap k (table_of k b)
  plain_kind k true is table records =
      let each : (id : ℕ) (e : Entry k) → record_at (table_of k b) id ≡ Some e → IsSoundPlain (parts_by tech library b.header) k (table_of k b) id e =
      λ id e at. there (record_at (table_of k b) id) (λ e. IsSoundPlain (parts_by tech library b.header) k (table_of k b) id e) e (records id) at
      in
      record { table = table; each = λ id e at. (each id e at).values; named = names_by (laws k).name (table_of k b) (λ id e at. (each id e at).alone); coming = λ unbuilt. absurd (false≢true (sym unbuilt ∙ is)) }
  plain_kind k false is table records = kind_coming (parts_by tech library b.header) cap k (table_of k b) table

  kinds : (k : Kind) → IsKind (record { tech = tech; library = library; header = b.header }) cap k (table_of k b)
  kinds kind.Inst = record { table = (parts.kinds kind.Inst).table; each = λ id e at. (inst id e at).values; named = are_named (λ (e : InstEntry). e.fields.name) b.inst (λ id e at. (inst id e at).alone); coming = λ unbuilt. absurd (false≢true (sym unbuilt)) }
  kinds kind.ITerm = record { table = (parts.kinds kind.ITerm).table; each = λ id r at. tt; named = tt; coming = λ unbuilt. absurd (false≢true (sym unbuilt)) }
  kinds kind.Net = record { table = (parts.kinds kind.Net).table; each = λ id e at. (net id e at).values; named = are_named (λ (e : NetEntry). e.fields.name) b.net (λ id e at. (net id e at).alone); coming = λ unbuilt. absurd (false≢true (sym unbuilt)) }
  kinds kind.BTerm = record { table = (parts.kinds kind.BTerm).table; each = λ id e at. (bterm id e at).values; named = are_named (λ (e : BTermEntry). e.fields.name) b.bterm (λ id e at. (bterm id e at).alone); coming = λ unbuilt. absurd (false≢true (sym unbuilt)) }
  kinds k = plain_kind k (laws k).built refl (parts.kinds k).table (parts.kinds k).records

  held_in : (s : Sort) → IsHeld s (view b)
  held_in ITermsOfNet = held_stands (net_terms b) (list_of ITermsOfNet (view b)) iterm_number (iterm_net b) (owner_of ITermsOfNet (view b)) (terms_seen b) (iterm_seen b) iterms_held
  held_in BTermsOfNet = held_stands (net_terms b) (list_of BTermsOfNet (view b)) bterm_number (bterm_net b) (owner_of BTermsOfNet (view b)) (terms_seen b) (bterm_seen b) bterms_held

  pub sound_block : IsSound tech library cap b
  sound_block = record {
    masters = parts.header.masters;
    header = parts.header.header;
    kinds = kinds;
    joined = record {
      held = held_in;
      placed = placed_stands (inst_terms b) (terminals_of (view b)) (iterm_place b) (place_of (view b)) (terminals_seen b) (place_seen b) placed;
    };
  }
