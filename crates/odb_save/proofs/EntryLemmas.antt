-- What stands in a slot: the record that the block lends, with the lists that it has for the object, is the entry.
use Rattle.std.proofs.Common.{◌≡◌, List, ℕ, ◌++◌, Option, None, Some, Result, refl, sym, ap, subst, ◌∙◌}
use Rattle.std.specs.Borrow.{Bor}
use Rattle.std.specs.Prelude.{IfSome, OnOk, option_copied, option_map}
use Rattle.odb_base.specs.declared.codes.kind.Kind.{Kind}
use Rattle.odb_base.specs.declared.codes.kind.Kind.TheVariants as kind
use Rattle.slot_pool.specs.Table.{record_at}
use Rattle.block_records.specs.declared.bterm.BTermRec.{BTermRec}
use Rattle.block_records.specs.declared.group.GroupRec.{GroupRec}
use Rattle.block_records.specs.declared.inst.InstRec.{InstRec}
use Rattle.block_records.specs.declared.net.NetRec.{NetRec}
use Rattle.block_records.specs.declared.region.RegionRec.{RegionRec}
use Rattle.block_records.specs.declared.row.RowRec.{RowRec}
use Rattle.block_store.specs.Block.{Block}
use Rattle.block_store.specs.Kinds.{Entry, table_of}
use Rattle.block_store.specs.Lists.{list_in}
use Rattle.saved_fields.specs.Bytes.{option_bytes}
use Rattle.saved_reader.specs.Entries.{bterm_entry, group_entry, inst_entry, net_entry, region_entry, row_entry}
use Rattle.odb_save.specs.Kinds.{saved_as, slot_in}
use Rattle.odb_save.proofs.SoundFields.{AreLawful}

-- what a block lends of an object: the record without the lists
abbrev pub Lent : Kind → Type 0
Lent kind.Inst = InstRec
Lent kind.Net = NetRec
Lent kind.BTerm = BTermRec
Lent kind.Row = RowRec
Lent kind.Region = RegionRec
Lent kind.Group = GroupRec
Lent k = Entry k

abbrev pub lend : (k : Kind) → Option (Entry k) → Option (Lent k)
lend kind.Inst o = option_map (λ e. e.fields) o
lend kind.Net o = option_map (λ e. e.fields) o
lend kind.BTerm o = option_map (λ e. e.fields) o
lend kind.Row o = option_map (λ e. e.fields) o
lend kind.Region o = option_map (λ e. e.fields) o
lend kind.Group o = option_map (λ e. e.fields) o
lend k o = o

-- and the entry again
abbrev pub entry_of : (k : Kind) → ℕ → Block → Lent k → Entry k
entry_of kind.Inst id b r = inst_entry id r b
entry_of kind.Net id b r = net_entry id r b
entry_of kind.BTerm id b r = bterm_entry id r b
entry_of kind.Row id b r = row_entry id r b
entry_of kind.Region id b r = region_entry id r b
entry_of kind.Group id b r = group_entry id r b
entry_of k id b r = r

entry_stands : (k : Kind) (id : ℕ) (b : Block) (o : Option (Entry k)) → record_at (table_of k b) id ≡ o → option_map (entry_of k id b) (lend k o) ≡ o
entry_stands kind.Inst id b None found = refl
entry_stands kind.Inst id b (Some e) found = ap (λ o. Some (record e { props = list_in (λ x. x.props) o })) found
entry_stands kind.Net id b None found = refl
entry_stands kind.Net id b (Some e) found = ap (λ o. Some (record e { terms = list_in (λ x. x.terms) o; wires = list_in (λ x. x.wires) o; props = list_in (λ x. x.props) o })) found
entry_stands kind.BTerm id b None found = refl
entry_stands kind.BTerm id b (Some e) found = ap (λ o. Some (record e { pins = list_in (λ x. x.pins) o })) found
entry_stands kind.Row id b None found = refl
entry_stands kind.Row id b (Some e) found = ap (λ o. Some (record e { props = list_in (λ x. x.props) o })) found
entry_stands kind.Region id b None found = refl
entry_stands kind.Region id b (Some e) found = ap (λ o. Some (record e { groups = list_in (λ x. x.groups) o; props = list_in (λ x. x.props) o })) found
entry_stands kind.Group id b None found = refl
entry_stands kind.Group id b (Some e) found = ap (λ o. Some (record e { members = list_in (λ x. x.members) o; props = list_in (λ x. x.props) o })) found
entry_stands k id b None found = refl
entry_stands k id b (Some r) found = refl

mapped_bytes : {A B : Type 0} (bytes : B → List ℕ) (f : A → B) (o : Option A) → option_bytes (λ x. bytes (f x)) o ≡ option_bytes bytes (option_map f o)
unfolding option_bytes
mapped_bytes bytes f None = refl
mapped_bytes bytes f (Some x) = refl

slot_is : (k : Kind) (id : ℕ) (b : Block) → option_bytes (saved_as k).bytes (record_at (table_of k b) id) ≡ slot_in k id b
unfolding slot_in
slot_is kind.Inst id b = refl
slot_is k id b = refl

module _ (k : Kind) (b : Block) (id : ℕ) where
  -- what the block lends is lawful
  pub lent_lawful : AreLawful b → (object : Option (Bor (Lent k))) → option_copied object ≡ lend k (record_at (table_of k b) id) → IfSome object (λ r. (saved_as k).Has (entry_of k id b r.now))
  lent_lawful lawful None same = tt
  lent_lawful lawful (Some r) same = lawful k id (entry_of k id b r.now) (sym (ap (option_map (entry_of k id b)) same ∙ entry_stands k id b (record_at (table_of k b) id) refl))

  lent_bytes : (object : Option (Lent k)) → object ≡ lend k (record_at (table_of k b) id) → option_bytes (λ r. (saved_as k).bytes (entry_of k id b r)) object ≡ slot_in k id b
  lent_bytes object same =
      mapped_bytes (saved_as k).bytes (entry_of k id b) object
      ∙ ap (λ o. option_bytes (saved_as k).bytes (option_map (entry_of k id b) o)) same
      ∙ ap (option_bytes (saved_as k).bytes) (entry_stands k id b (record_at (table_of k b) id) refl)
      ∙ slot_is k id b

  -- and has the bytes of the slot
  pub lent_put : {T E : Type 0} (r : Result T E) (old new : List ℕ) (object : Option (Lent k)) → object ≡ lend k (record_at (table_of k b) id) → OnOk r (new ≡ old ++ option_bytes (λ x. (saved_as k).bytes (entry_of k id b x)) object) →
      (j : Kind) (c : Block) → j ≡ k → b ≡ c → OnOk r (new ≡ old ++ slot_in j id c)
  lent_put r old new object same put j c is here =
      subst (λ bytes. OnOk r (new ≡ old ++ bytes)) (lent_bytes object same ∙ ap (slot_in k id) here ∙ ap (λ i. slot_in i id c) (sym is)) put
