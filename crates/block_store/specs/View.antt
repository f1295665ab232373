-- The laws of each kind, and what the objects of a block show of what ties them to each other.
use Rattle.std.proofs.Common.{refl}
use Rattle.std.specs.Prelude.{Bool, true, List, ℕ, None, Some}
use Rattle.std.specs.Option.{option_map_or}
use Rattle.slot_pool.specs.Table.{record_at}
use Rattle.odb_base.specs.declared.codes.kind.Kind.{Kind}
use Rattle.odb_base.specs.declared.codes.kind.Kind.TheVariants as kind
use Rattle.block_store.specs.declared.entry.RegionEntry.{RegionEntry}
use Rattle.block_store.specs.declared.entry.GroupEntry.{GroupEntry}
use Rattle.block_store.specs.Block.{Block}
use Rattle.block_store.specs.BlockTerminals.{bterm_laws}
use Rattle.block_store.specs.Coming.{coming_laws}
use Rattle.block_store.specs.InstTerminals.{iterm_laws}
use Rattle.block_store.specs.Instances.{inst_laws}
use Rattle.block_store.specs.KindLaws.{KindLaws}
use Rattle.block_store.specs.Kinds.{Entry, table_of}
use Rattle.block_store.specs.Lens.{Lens}
use Rattle.block_store.specs.Nets.{net_laws}
use Rattle.block_store.specs.Rows.{row_laws}

-- the names of regions and groups
abbrev pub region_name : Lens RegionEntry (List ℕ)
region_name = record {
  get = λ e. e.fields.name;
  set = λ name e. record e { fields = record e.fields { name = name } };
  set_get = λ name e. refl;
  get_set = λ e. refl;
  set_set = λ new old e. refl;
}

abbrev pub group_name : Lens GroupEntry (List ℕ)
group_name = record {
  get = λ e. e.fields.name;
  set = λ name e. record e { fields = record e.fields { name = name } };
  set_get = λ name e. refl;
  get_set = λ e. refl;
  set_set = λ new old e. refl;
}

abbrev pub laws : (k : Kind) → KindLaws (Entry k)
laws kind.Inst = inst_laws
laws kind.ITerm = iterm_laws
laws kind.Net = net_laws
laws kind.BTerm = bterm_laws
laws kind.Pin = coming_laws None
laws kind.Row = row_laws
laws kind.Track = coming_laws None
laws kind.Wire = coming_laws None
laws kind.Blockage = coming_laws None
laws kind.Region = coming_laws (Some region_name)
laws kind.Group = coming_laws (Some group_name)
laws kind.Prop = coming_laws None

-- objects of the kind can be made, and so be saved; spelled out at one kind, so that it computes at each
abbrev pub is_built : Kind → Bool
is_built kind.Inst = true
is_built k = (laws k).built

-- what each identifier of each kind shows
abbrev pub View : Type 0
View = (k : Kind) → ℕ → (laws k).Links

abbrev pub view : Block → View
view b k id = option_map_or (laws k).see (record_at (table_of k b) id) (laws k).none
