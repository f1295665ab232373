-- Cells stand for one block.
use Rattle.std.proofs.Common.{◌≡◌, ◌+◌, List, ℕ, Option, None, Some, length, refl, sym, ap, ◌∙◌}
use Rattle.std.specs.Option.{option_map, option_map_or}
use Rattle.std.proofs.lemmas.List.{ext_get_or}
use Rattle.slot_pool.specs.Table.{Table, record_at}
use Rattle.slot_pool.proofs.Mapped.{at_plain, slots_plain}
use Rattle.named_pool.proofs.Finding.{record_at_place}
use Rattle.link_list.specs.declared.link.Head.{Head}
use Rattle.link_list.specs.Lists.{list_of}
use Rattle.link_list.specs.Standing.{Stands}
use Rattle.link_list.proofs.Reading.{members-stands}
use Rattle.odb_base.specs.declared.codes.kind.Kind.{Kind}
use Rattle.odb_base.specs.declared.codes.kind.Kind.TheVariants as kind
use Rattle.block_cells.specs.Cells.{Cell, Cells, cells_of}
use Rattle.block_cells.specs.Lists.{is_cell, link_at, most}
use Rattle.block_cells.proofs.Reading.{cell_few, cell_none}
use Rattle.block_store.specs.Block.{Block}
use Rattle.block_store.specs.Consistent.{Groups, ListSort, Members, OwnLists, Pins, Props, Terms, Wires, lists_in, of_sort}
use Rattle.block_store.specs.Kinds.{Entry, table_of}
use Rattle.block_links.specs.Standing.{StandsFor, block_of, entry, head_of, lists_by, no_heads, own_heads, shown, sort_of}

-- two tables with the same records and free identifiers are the same
pub tables_same : {A : Type 0} (t u : Table A) → length t.slots ≡ length u.slots → t.free ≡ u.free → ((id : ℕ) → record_at t id ≡ record_at u id) → t ≡ u
tables_same t u long free same =
    let slots : t.slots ≡ u.slots = ext_get_or None t.slots u.slots long (λ place within. sym (record_at_place t place) ∙ same (place + 1) ∙ record_at_place u place) in
    ap (λ s. record t { slots = s }) slots ∙ ap (λ f. record u { free = f }) free

-- two blocks with the same tables are the same
pub blocks_same : (b c : Block) → b.header ≡ c.header → ((k : Kind) → table_of k b ≡ table_of k c) → b ≡ c
blocks_same b c header tables =
    ap (λ x. record b { header = x }) header
    ∙ ap (λ x. record b { header = c.header; inst = x }) (tables kind.Inst)
    ∙ ap (λ x. record b { header = c.header; inst = c.inst; iterm = x }) (tables kind.ITerm)
    ∙ ap (λ x. record b { header = c.header; inst = c.inst; iterm = c.iterm; net = x }) (tables kind.Net)
    ∙ ap (λ x. record b { header = c.header; inst = c.inst; iterm = c.iterm; net = c.net; bterm = x }) (tables kind.BTerm)
    ∙ ap (λ x. record b { header = c.header; inst = c.inst; iterm = c.iterm; net = c.net; bterm = c.bterm; pin = x }) (tables kind.Pin)
    ∙ ap (λ x. record b { header = c.header; inst = c.inst; iterm = c.iterm; net = c.net; bterm = c.bterm; pin = c.pin; row = x }) (tables kind.Row)
    ∙ ap (λ x. record b { header = c.header; inst = c.inst; iterm = c.iterm; net = c.net; bterm = c.bterm; pin = c.pin; row = c.row; track = x }) (tables kind.Track)
    ∙ ap (λ x. record b { header = c.header; inst = c.inst; iterm = c.iterm; net = c.net; bterm = c.bterm; pin = c.pin; row = c.row; track = c.track; wire = x }) (tables kind.Wire)
    ∙ ap (λ x. record b { header = c.header; inst = c.inst; iterm = c.iterm; net = c.net; bterm = c.bterm; pin = c.pin; row = c.row; track = c.track; wire = c.wire; blockage = x }) (tables kind.Blockage)
    ∙ ap (λ x. record b { header = c.header; inst = c.inst; iterm = c.iterm; net = c.net; bterm = c.bterm; pin = c.pin; row = c.row; track = c.track; wire = c.wire; blockage = c.blockage; region = x }) (tables kind.Region)
    ∙ ap (λ x. record b { header = c.header; inst = c.inst; iterm = c.iterm; net = c.net; bterm = c.bterm; pin = c.pin; row = c.row; track = c.track; wire = c.wire; blockage = c.blockage; region = c.region; group = x }) (tables kind.Group)
    ∙ ap (λ x. record b { header = c.header; inst = c.inst; iterm = c.iterm; net = c.net; bterm = c.bterm; pin = c.pin; row = c.row; track = c.track; wire = c.wire; blockage = c.blockage; region = c.region; group = c.group; prop = x }) (tables kind.Prop)

-- an object's lists are the same where each is
lists_same : (l m : OwnLists) → ((s : ListSort) → of_sort s l ≡ of_sort s m) → l ≡ m
lists_same l m same =
    ap (λ x. record l { terms = x }) (same Terms)
    ∙ ap (λ x. record l { terms = m.terms; wires = x }) (same Wires)
    ∙ ap (λ x. record l { terms = m.terms; wires = m.wires; members = x }) (same Members)
    ∙ ap (λ x. record l { terms = m.terms; wires = m.wires; members = m.members; pins = x }) (same Pins)
    ∙ ap (λ x. record l { terms = m.terms; wires = m.wires; members = m.members; pins = m.pins; groups = x }) (same Groups)
    ∙ ap (λ x. record l { terms = m.terms; wires = m.wires; members = m.members; pins = m.pins; groups = m.groups; props = x }) (same Props)

-- the list that a head stands for is the one that it leads to
read_is : (s : ListSort) (c : Cells) (h : Head) (ids : List ℕ) → Stands (is_cell (sort_of s) c) (link_at (sort_of s) c) h ids → list_of (link_at (sort_of s) c) (most (sort_of s) c) h ≡ ids
read_is s c h ids at = members-stands (is_cell (sort_of s) c) (link_at (sort_of s) c) (cell_none (sort_of s) c) h ids (most (sort_of s) c) (cell_few (sort_of s) c) at

-- the table of a kind, as it is read off
pub table_shown : (c : Cells) (k : Kind) → table_of k (block_of c) ≡ shown k c
table_shown c kind.Inst = refl
table_shown c kind.ITerm = refl
table_shown c kind.Net = refl
table_shown c kind.BTerm = refl
table_shown c kind.Pin = refl
table_shown c kind.Row = refl
table_shown c kind.Track = refl
table_shown c kind.Wire = refl
table_shown c kind.Blockage = refl
table_shown c kind.Region = refl
table_shown c kind.Group = refl
table_shown c kind.Prop = refl

module _ (c : Cells) (b : Block) (stands : StandsFor c b) where
  by_sort : (s : ListSort) (k : Kind) (id : ℕ) (x : Cell k) → Stands (is_cell (sort_of s) c) (link_at (sort_of s) c) (head_of s (own_heads k x)) (of_sort s (lists_in k (table_of k b) id)) → of_sort s (lists_by c (own_heads k x)) ≡ of_sort s (lists_in k (table_of k b) id)
  by_sort Terms k id x at = read_is Terms c (head_of Terms (own_heads k x)) (of_sort Terms (lists_in k (table_of k b) id)) at
  by_sort Wires k id x at = read_is Wires c (head_of Wires (own_heads k x)) (of_sort Wires (lists_in k (table_of k b) id)) at
  by_sort Members k id x at = read_is Members c (head_of Members (own_heads k x)) (of_sort Members (lists_in k (table_of k b) id)) at
  by_sort Pins k id x at = read_is Pins c (head_of Pins (own_heads k x)) (of_sort Pins (lists_in k (table_of k b) id)) at
  by_sort Groups k id x at = read_is Groups c (head_of Groups (own_heads k x)) (of_sort Groups (lists_in k (table_of k b) id)) at
  by_sort Props k id x at = read_is Props c (head_of Props (own_heads k x)) (of_sort Props (lists_in k (table_of k b) id)) at

  -- the lists that an object's heads lead to are its lists
  lists_read : (k : Kind) (id : ℕ) (x : Cell k) → record_at (cells_of k c) id ≡ Some x → lists_by c (own_heads k x) ≡ lists_in k (table_of k b) id
  lists_read k id x found = lists_same (lists_by c (own_heads k x)) (lists_in k (table_of k b) id) (λ s.
      let heads = ap (λ (o : Option (Cell k)). option_map_or (own_heads k) o no_heads) found in
      let at = rw heads at (stands.lists s k id) in
      by_sort s k id x at)

  row_read : (k : Kind) (id : ℕ) (o : Option (Cell k)) → record_at (cells_of k c) id ≡ o → option_map (λ x. entry k x (lists_by c (own_heads k x))) o ≡ option_map (λ x. entry k x (lists_in k (table_of k b) id)) o
  row_read k id None is = refl
  row_read k id (Some x) is = ap (λ l. Some (entry k x l)) (lists_read k id x is)

  pub table_read : (k : Kind) → shown k c ≡ table_of k b
  table_read k =
      let show : Cell k → Entry k = λ x. entry k x (lists_by c (own_heads k x)) in
      tables_same (shown k c) (table_of k b) (slots_plain show (cells_of k c) ∙ (stands.tables k).slots) (stands.tables k).free
      (λ id. at_plain show (cells_of k c) id ∙ row_read k id (record_at (cells_of k c) id) refl ∙ sym ((stands.tables k).rows id))

  -- cells stand for the block that is read off them, and for no other
  pub read_off : block_of c ≡ b
  read_off = blocks_same (block_of c) b stands.header (λ k. table_shown c k ∙ table_read k)
