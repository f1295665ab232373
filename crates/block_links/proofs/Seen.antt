-- What is seen of a block is what is seen of its cells.
use Rattle.std.proofs.Common.{◌≡◌, ◌+◌, List, [], ◌∷◌, ℕ, Option, None, Some, map, refl, ap, ◌∙◌}
use Rattle.std.specs.List.{position_from}
use Rattle.std.specs.Option.{option_map}
use Rattle.slot_pool.specs.Mapped.{plain}
use Rattle.slot_pool.specs.Table.{Table, record_at}
use Rattle.slot_pool.proofs.Mapped.{at_plain, live_plain, next_plain, slots_plain}
use Rattle.named_pool.specs.Names.{find_by, is_named}
use Rattle.odb_base.specs.declared.codes.kind.Kind.{Kind}
use Rattle.odb_base.specs.declared.codes.kind.Kind.TheVariants as kind
use Rattle.block_records.specs.declared.record.Record.TheVariants as rec
use Rattle.block_cells.specs.Cells.{Cell, Cells, cells_of}
use Rattle.block_cells.specs.Cells as cell
use Rattle.block_cells.specs.Names as cell_name
use Rattle.block_cells.specs.Setting as cell_field
use Rattle.block_store.specs.Alone.{IsNameFree}
use Rattle.block_store.specs.Block.{free_in, later_in, live_in, record_of, slots_in}
use Rattle.block_store.specs.Fields.{direction_in, index_in, master_in, net_in, place_in, special_in, terminals_in, usage_in}
use Rattle.block_store.specs.Kinds.{Entry}
use Rattle.block_store.specs.Names.{find_in, name_in}
use Rattle.block_links.specs.Standing.{block_of, entry, lists_by, own_heads}

-- the entry that a cell shows
abbrev pub seen : (k : Kind) → Cells → Cell k → Entry k
seen k c x = entry k x (lists_by c (own_heads k x))

module _ {A B C : Type 0} (show : A → B) (see : B → C) (of : A → C) (same : (x : A) → see (show x) ≡ of x) where
  mapped : (o : Option A) → option_map see (option_map show o) ≡ option_map of o
  mapped None = refl
  mapped (Some x) = ap Some (same x)

  -- what is seen of an object of a table that is shown
  pub view_plain : (t : Table A) (id : ℕ) → option_map see (record_at (plain show t) id) ≡ option_map of (record_at t id)
  view_plain t id = ap (option_map see) (at_plain show t id) ∙ mapped (record_at t id)

module _ {A B : Type 0} (show : A → B) (name_of : B → List ℕ) (own : A → List ℕ) (same : (x : A) → name_of (show x) ≡ own x) (name : List ℕ) where
  named_plain : (o : Option A) → is_named name_of name (option_map show o) ≡ is_named own name o
  named_plain None = refl
  named_plain (Some x) = rw (same x) refl

  found_from : (slots : List (Option A)) (first : ℕ) → position_from (is_named name_of name) first (map (option_map show) slots) ≡ position_from (is_named own name) first slots
  found_from [] first = refl
  found_from (slot ∷ slots) first = rw (named_plain slot, found_from slots (first + 1)) refl

  -- who is found by a name
  pub find_plain : (t : Table A) → find_by name_of name (plain show t) ≡ find_by own name t
  find_plain t = found_from t.slots 1

module _ (c : Cells) where
  pub live_cells : (k : Kind) (id : ℕ) → live_in k id (block_of c) ≡ cell.live_in k id c
  live_cells kind.Inst id = live_plain (seen kind.Inst c) (cells_of kind.Inst c) id
  live_cells k id = live_plain (seen k c) (cells_of k c) id

  pub free_cells : (k : Kind) → free_in k (block_of c) ≡ cell.free_in k c
  free_cells kind.Inst = refl
  free_cells k = refl

  pub slots_cells : (k : Kind) → slots_in k (block_of c) ≡ cell.slots_in k c
  slots_cells kind.Inst = slots_plain (seen kind.Inst c) (cells_of kind.Inst c)
  slots_cells k = slots_plain (seen k c) (cells_of k c)

  pub later_cells : (k : Kind) (n : ℕ) → later_in k n (block_of c) ≡ cell.later_in k n c
  later_cells kind.Inst n = next_plain (seen kind.Inst c) (cells_of kind.Inst c) n
  later_cells k n = next_plain (seen k c) (cells_of k c) n

  -- the record of an object
  pub record_cells : (k : Kind) (id : ℕ) → record_of k id (block_of c) ≡ cell.record_of k id c
  record_cells kind.Inst id = view_plain (seen kind.Inst c) (λ e. rec.Inst e.fields) (λ x. rec.Inst x.value.fields) (λ x. refl) c.inst id
  record_cells kind.ITerm id = view_plain (seen kind.ITerm c) (λ e. rec.ITerm e) (λ x. rec.ITerm x.value) (λ x. refl) c.iterm id
  record_cells kind.Net id = view_plain (seen kind.Net c) (λ e. rec.Net e.fields) (λ x. rec.Net x.fields) (λ x. refl) c.net id
  record_cells kind.BTerm id = view_plain (seen kind.BTerm c) (λ e. rec.BTerm e.fields) (λ x. rec.BTerm x.value.fields) (λ x. refl) c.bterm id
  record_cells kind.Pin id = view_plain (seen kind.Pin c) (λ e. rec.Pin e) (λ x. rec.Pin x.value) (λ x. refl) c.pin id
  record_cells kind.Row id = view_plain (seen kind.Row c) (λ e. rec.Row e.fields) (λ x. rec.Row x.fields) (λ x. refl) c.row id
  record_cells kind.Track id = view_plain (seen kind.Track c) (λ e. rec.Track e) (λ x. rec.Track x) (λ x. refl) c.track id
  record_cells kind.Wire id = view_plain (seen kind.Wire c) (λ e. rec.Wire e) (λ x. rec.Wire x.value) (λ x. refl) c.wire id
  record_cells kind.Blockage id = view_plain (seen kind.Blockage c) (λ e. rec.Blockage e) (λ x. rec.Blockage x) (λ x. refl) c.blockage id
  record_cells kind.Region id = view_plain (seen kind.Region c) (λ e. rec.Region e.fields) (λ x. rec.Region x.fields) (λ x. refl) c.region id
  record_cells kind.Group id = view_plain (seen kind.Group c) (λ e. rec.Group e.fields) (λ x. rec.Group x.value.fields) (λ x. refl) c.group id
  record_cells kind.Prop id = view_plain (seen kind.Prop c) (λ e. rec.Prop e) (λ x. rec.Prop x.value) (λ x. refl) c.prop id

  -- the name of an object, and who is found by a name
  pub name_cells : (k : Kind) (id : ℕ) → name_in k id (block_of c) ≡ cell_name.name_in k id c
  name_cells kind.Inst id = view_plain (seen kind.Inst c) (λ e. e.fields.name) (λ x. x.value.fields.name) (λ x. refl) c.inst id
  name_cells kind.Net id = view_plain (seen kind.Net c) (λ e. e.fields.name) (λ x. x.fields.name) (λ x. refl) c.net id
  name_cells kind.BTerm id = view_plain (seen kind.BTerm c) (λ e. e.fields.name) (λ x. x.value.fields.name) (λ x. refl) c.bterm id
  name_cells kind.Row id = view_plain (seen kind.Row c) (λ e. e.fields.name) (λ x. x.fields.name) (λ x. refl) c.row id
  name_cells kind.Region id = view_plain (seen kind.Region c) (λ e. e.fields.name) (λ x. x.fields.name) (λ x. refl) c.region id
  name_cells kind.Group id = view_plain (seen kind.Group c) (λ e. e.fields.name) (λ x. x.value.fields.name) (λ x. refl) c.group id
  name_cells k id = refl

  pub find_cells : (k : Kind) (name : List ℕ) → find_in k name (block_of c) ≡ cell_name.find_in k name c
  find_cells kind.Inst name = find_plain (seen kind.Inst c) (λ e. e.fields.name) (λ x. x.value.fields.name) (λ x. refl) name c.inst
  find_cells kind.Net name = find_plain (seen kind.Net c) (λ e. e.fields.name) (λ x. x.fields.name) (λ x. refl) name c.net
  find_cells kind.BTerm name = find_plain (seen kind.BTerm c) (λ e. e.fields.name) (λ x. x.value.fields.name) (λ x. refl) name c.bterm
  find_cells kind.Row name = find_plain (seen kind.Row c) (λ e. e.fields.name) (λ x. x.fields.name) (λ x. refl) name c.row
  find_cells kind.Region name = find_plain (seen kind.Region c) (λ e. e.fields.name) (λ x. x.fields.name) (λ x. refl) name c.region
  find_cells kind.Group name = find_plain (seen kind.Group c) (λ e. e.fields.name) (λ x. x.value.fields.name) (λ x. refl) name c.group
  find_cells k name = refl

  -- the fields of objects
  pub net_cells : (k : Kind) (id : ℕ) → net_in k id (block_of c) ≡ cell_field.net_in k id c
  net_cells kind.ITerm id = view_plain (seen kind.ITerm c) (λ e. e.net) (λ x. x.value.net) (λ x. refl) c.iterm id
  net_cells kind.BTerm id = view_plain (seen kind.BTerm c) (λ e. e.fields.net) (λ x. x.value.fields.net) (λ x. refl) c.bterm id
  net_cells k id = refl

  pub place_cells : (k : Kind) (id : ℕ) → place_in k id (block_of c) ≡ cell_field.place_in k id c
  place_cells kind.Inst id = view_plain (seen kind.Inst c) (λ e. e.fields.place) (λ x. x.value.fields.place) (λ x. refl) c.inst id
  place_cells kind.Pin id = view_plain (seen kind.Pin c) (λ e. e.place) (λ x. x.value.place) (λ x. refl) c.pin id
  place_cells k id = refl

  pub usage_cells : (k : Kind) (id : ℕ) → usage_in k id (block_of c) ≡ cell_field.usage_in k id c
  usage_cells kind.Net id = view_plain (seen kind.Net c) (λ e. e.fields.usage) (λ x. x.fields.usage) (λ x. refl) c.net id
  usage_cells kind.BTerm id = view_plain (seen kind.BTerm c) (λ e. e.fields.usage) (λ x. x.value.fields.usage) (λ x. refl) c.bterm id
  usage_cells k id = refl

  pub direction_cells : (id : ℕ) → direction_in id (block_of c) ≡ cell_field.direction_in id c
  direction_cells id = view_plain (seen kind.BTerm c) (λ e. e.fields.direction) (λ x. x.value.fields.direction) (λ x. refl) c.bterm id

  pub special_cells : (id : ℕ) → special_in id (block_of c) ≡ cell_field.special_in id c
  special_cells id = view_plain (seen kind.Net c) (λ e. e.fields.special) (λ x. x.fields.special) (λ x. refl) c.net id

  pub master_cells : (id : ℕ) → master_in id (block_of c) ≡ cell_field.master_in id c
  master_cells id = view_plain (seen kind.Inst c) (λ e. e.fields.master) (λ x. x.value.fields.master) (λ x. refl) c.inst id

  pub terminals_cells : (id : ℕ) → terminals_in id (block_of c) ≡ cell_field.terminals_in id c
  terminals_cells id = view_plain (seen kind.Inst c) (λ e. e.fields.terminals) (λ x. x.value.fields.terminals) (λ x. refl) c.inst id

  pub index_cells : (id : ℕ) → index_in id (block_of c) ≡ cell_field.index_in id c
  index_cells id = view_plain (seen kind.ITerm c) (λ e. e.index) (λ x. x.value.index) (λ x. refl) c.iterm id

  -- a name that no object has
  pub free_names : (k : Kind) (name : Option (List ℕ)) → IsNameFree k name (block_of c) → cell_name.IsNameFree k name c
  free_names k None free = tt
  free_names k (Some name) free = λ id has. free id (name_cells k id ∙ has)
