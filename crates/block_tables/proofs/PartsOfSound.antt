-- The records of a sound block are sound.
use Rattle.std.proofs.Common.{◌≡◌, Bool, ◌+◌, ◌*◌, ◌%◌, ◌/◌, ◌≤◌, true, false, eqb, eq-eqb, List, ℕ, Option, Some, None, IfSome, slice_get, refl, sym, ap, ◌∙◌, subst, inl, inr, arith}
use Rattle.std.specs.Option.{option_map, option_map_or}
use Rattle.std.proofs.lemmas.Bool.{cases_Bool, cases_eq}
use Rattle.std.proofs.lemmas.Bool.Decides.{nat_tests}
use Rattle.odb_base.specs.declared.codes.kind.Kind.{Kind}
use Rattle.odb_base.specs.declared.codes.kind.Kind.TheVariants as kind
use Rattle.slot_pool.specs.Table.{Table, once_if, record_at, times}
use Rattle.block_records.specs.declared.iterm.ITermRec.{ITermRec}
use Rattle.library.specs.declared.master.Master.{Master}
use Rattle.tech.specs.Technology.{Technology}
use Rattle.block_store.specs.declared.entry.BTermEntry.{BTermEntry}
use Rattle.block_store.specs.declared.entry.InstEntry.{InstEntry}
use Rattle.block_store.specs.declared.entry.NetEntry.{NetEntry}
use Rattle.block_store.specs.Block.{Block, empty_table}
use Rattle.block_store.specs.Kinds.{Entry, table_of}
use Rattle.block_store.specs.Lens.{Lens}
use Rattle.block_store.specs.Lists.{bterm_number, iterm_number, list_in}
use Rattle.block_store.specs.Sound.{IsSound, bterm_net, iterm_net, net_terms}
use Rattle.named_pool.specs.Names.{AreNamed}
use Rattle.block_store.specs.Tables.{HasDistinctNames, IsTable}
use Rattle.block_store.specs.View.{laws}
use Rattle.block_store.proofs.Changed.{parts_by}
use Rattle.block_store.proofs.Joined.{bterms_held, iterms_held, terms_placed}
use Rattle.block_tables.specs.Names.{HasOwnName, IsAlone}
use Rattle.block_tables.specs.RuleBlockTerminals.{IsSoundBTerm}
use Rattle.block_tables.specs.RuleInstances.{IsSoundInst}
use Rattle.block_tables.specs.RuleNets.{IsSoundNet, AreTerminals, term_net}
use Rattle.block_tables.specs.RulePlain.{IsSoundPlain}
use Rattle.block_tables.specs.RuleTerminals.{IsSoundITerm}
use Rattle.block_tables.specs.Rules.{IsSoundKind, IsTableIf}
use Rattle.block_tables.proofs.Beyond.{if_built}

module _ {A : Type 0} where
  -- a fact of the record that is there, if one is
  if_there : (o : Option A) (P : A → Type 0) → ((x : A) → o ≡ Some x → P x) → IfSome o P
  if_there None P h = tt
  if_there (Some x) P h = h x refl

  -- an identifier with a record isn't 0
  pub some_id : (t : Table A) (id : ℕ) (x : A) → record_at t id ≡ Some x → 1 ≤ id
  some_id t id x at = elim (cases_Bool (eqb id 0)) [
    | inl e ↦ let none : None ≡ Some x = rw e at at in cc
    | inr e ↦ grind (arith, nat_tests, e)
  ]

  -- names that no two hold
  alone : (name_of : A → List ℕ) (t : Table A) (id : ℕ) (x : A) → AreNamed name_of t → record_at t id ≡ Some x → IsAlone name_of t id (name_of x)
  alone name_of t id x named at = λ other h. named other id (name_of x) h (ap (option_map name_of) at)

  alone_by : (name : Option (Lens A (List ℕ))) (t : Table A) (id : ℕ) (x : A) → HasDistinctNames name t → record_at t id ≡ Some x → HasOwnName name t id x
  alone_by None t id x named at = tt
  alone_by (Some name) t id x named at = alone name.get t id x named at

  table_if : (built : Bool) (cap : ℕ) (t : Table A) → IsTable cap t → (built ≡ false → t ≡ empty_table) → IsTableIf built cap t
  table_if true cap t is coming = is
  table_if false cap t is coming = coming refl

-- the numbers of terminals
pub term_net-even : (b : Block) (id : ℕ) → term_net b (iterm_number id) ≡ iterm_net b id
term_net-even b id =
    let even : eqb (2 * id % 2) 0 ≡ true = eq-eqb (2 * id % 2) 0 (omega arith) in
    let half : 2 * id / 2 ≡ id = omega arith in
    rw (even, half) refl

pub term_net-odd : (b : Block) (id : ℕ) → term_net b (bterm_number id) ≡ bterm_net b id
term_net-odd b id =
    let one : (2 * id + 1) % 2 ≡ 1 = omega arith in
    let odd : eqb ((2 * id + 1) % 2) 0 ≡ false = ap (λ n. eqb n 0) one in
    let half : (2 * id + 1) / 2 ≡ id = omega arith in
    rw (odd, half) refl

-- how often a member stands in a list, where that is as its owner says
counted_once : (n owner id : ℕ) → n ≡ once_if (eqb owner id) → 1 ≤ n → (n ≡ 1) × (owner ≡ id)
counted_once n owner id is some = grind (arith, nat_tests, is, some)

owned_once : (n owner id : ℕ) → n ≡ once_if (eqb owner id) → owner ≡ id → 1 ≤ n
owned_once n owner id is same = grind (arith, nat_tests, is, same)

module _ (tech : Technology) (library : List Master) (cap : ℕ) (b : Block) (s : IsSound tech library cap b) where
  sound_inst : (id : ℕ) (e : InstEntry) → record_at b.inst id ≡ Some e → IsSoundInst library b id e
  sound_inst id e at = record {
    values = (s.kinds kind.Inst).each id e at;
    alone = alone (λ (e : InstEntry). e.fields.name) b.inst id e (s.kinds kind.Inst).named at;
    terminals = λ place part h. (terms_placed tech library cap b s id place part).0 (ap (λ o. slice_get (list_in (λ (e : InstEntry). e.fields.terminals) o) place) at ∙ h);
  }

  sound_iterm : (id : ℕ) (r : ITermRec) → record_at b.iterm id ≡ Some r → IsSoundITerm b id r
  sound_iterm id r at = record {
    place = (terms_placed tech library cap b s r.inst r.index id).1 (ap (option_map (λ (r : ITermRec). (r.inst, r.index))) at);
    joined = λ some. owned_once (times (iterm_number id) (net_terms b r.net)) (iterm_net b id) r.net (iterms_held tech library cap b s r.net id (omega arith)) (ap (λ o. option_map_or (λ (r : ITermRec). r.net) o 0) at);
  }

  sound_bterm : (id : ℕ) (e : BTermEntry) → record_at b.bterm id ≡ Some e → IsSoundBTerm b id e
  sound_bterm id e at = record {
    values = (s.kinds kind.BTerm).each id e at;
    alone = alone (λ (e : BTermEntry). e.fields.name) b.bterm id e (s.kinds kind.BTerm).named at;
    joined = λ some. owned_once (times (bterm_number id) (net_terms b e.fields.net)) (bterm_net b id) e.fields.net (bterms_held tech library cap b s e.fields.net id (omega arith)) (ap (λ o. option_map_or (λ (e : BTermEntry). e.fields.net) o 0) at);
  }

  sound_plain : (k : Kind) (id : ℕ) (e : Entry k) → record_at (table_of k b) id ≡ Some e → IsSoundPlain (parts_by tech library b.header) k (table_of k b) id e
  sound_plain k id e at = record { values = (s.kinds k).each id e at; alone = alone_by (laws k).name (table_of k b) id e (s.kinds k).named at }

  -- the members of a net's list
  held_once : (id number : ℕ) → 1 ≤ id → 1 ≤ times number (net_terms b id) → (times number (net_terms b id) ≡ 1) × (term_net b number ≡ id)
  held_once id number some held = elim (cases_eq (number % 2) 0) [
    | inl even ↦
        let is : iterm_number (number / 2) ≡ number = omega arith in
        let counted : times number (net_terms b id) ≡ once_if (eqb (term_net b number) id) = ap (λ n. times n (net_terms b id)) (sym is) ∙ iterms_held tech library cap b s id (number / 2) some ∙ ap (λ n. once_if (eqb n id)) (sym (term_net-even b (number / 2)) ∙ ap (term_net b) is) in
        counted_once (times number (net_terms b id)) (term_net b number) id counted held
    | inr odd ↦
        let is : bterm_number (number / 2) ≡ number = omega arith in
        let counted : times number (net_terms b id) ≡ once_if (eqb (term_net b number) id) = ap (λ n. times n (net_terms b id)) (sym is) ∙ bterms_held tech library cap b s id (number / 2) some ∙ ap (λ n. once_if (eqb n id)) (sym (term_net-odd b (number / 2)) ∙ ap (term_net b) is) in
        counted_once (times number (net_terms b id)) (term_net b number) id counted held
  ]

  sound_net : (id : ℕ) (e : NetEntry) → record_at b.net id ≡ Some e → IsSoundNet b id e
  sound_net id e at =
      let same : net_terms b id ≡ e.terms = ap (list_in (λ (e : NetEntry). e.terms)) at in
      let P : List ℕ → Type 0 = λ numbers. AreTerminals b id numbers in
      record {
        values = (s.kinds kind.Net).each id e at;
        alone = alone (λ (e : NetEntry). e.fields.name) b.net id e (s.kinds kind.Net).named at;
        terminals = subst P same (λ number held. held_once id number (some_id b.net id e at) held);
      }

  pub sound_kind : (k : Kind) → IsSoundKind tech library cap b k
  sound_kind kind.Inst = record { table = (s.kinds kind.Inst).table; records = λ id. if_there (record_at b.inst id) (λ e. IsSoundInst library b id e) (sound_inst id) }
  sound_kind kind.ITerm = record { table = (s.kinds kind.ITerm).table; records = λ id. if_there (record_at b.iterm id) (λ r. IsSoundITerm b id r) (sound_iterm id) }
  sound_kind kind.Net = record { table = (s.kinds kind.Net).table; records = λ id. if_there (record_at b.net id) (λ e. IsSoundNet b id e) (sound_net id) }
  sound_kind kind.BTerm = record { table = (s.kinds kind.BTerm).table; records = λ id. if_there (record_at b.bterm id) (λ e. IsSoundBTerm b id e) (sound_bterm id) }
  sound_kind k = record {
    table = table_if (laws k).built cap (table_of k b) (s.kinds k).table (s.kinds k).coming;
    records = λ id. if_built (laws k).built _ (if_there (record_at (table_of k b) id) (λ e. IsSoundPlain (parts_by tech library b.header) k (table_of k b) id e) (sound_plain k id));
  }
