-- What a change of one object's cell leaves: the other tables, the links, the heads. So cells stand for a block still,
-- where a field of an object is set in both.
use Rattle.std.proofs.Common.{◌≡◌, ◌≢◌, ℕ, Option, refl, sym, ◌∙◌}
use Rattle.std.specs.Option.{option_map_or}
use Rattle.slot_pool.specs.Mapped.{on_record}
use Rattle.slot_pool.specs.Table.{Table, is_live}
use Rattle.slot_pool.proofs.Mapped.{live_on, view_on}
use Rattle.linked_pool.specs.Linking.{no_link}
use Rattle.odb_base.specs.declared.codes.kind.Kind.{Kind}
use Rattle.odb_base.specs.declared.codes.kind.Kind.TheVariants as kind
use Rattle.block_cells.specs.Cells.{Cell, Cells, cells_of, with_cells}
use Rattle.block_store.specs.Block.{Block, empty_block}
use Rattle.block_store.specs.Consistent.{OwnLists, lists_in, no_lists, own_lists}
use Rattle.block_store.specs.Kinds.{Entry, table_of, with_table}
use Rattle.block_store.proofs.OneTable.{header_stays}
use Rattle.block_links.specs.Standing.{Shows, StandsFor, entry, heads_in, no_heads, own_heads}
use Rattle.block_links.proofs.Members.{IsKept, link_in, of_any, own_link, stands_still}
use Rattle.block_links.proofs.Showing.{shows_on}

-- what holds of one pair of tables, and of the other pairs before, holds of all pairs
pub both_but : (P : (k : Kind) → Table (Cell k) → Table (Entry k) → Type 0) (k : Kind) (t : Table (Cell k)) (u : Table (Entry k)) (c : Cells) (b : Block) → P k t u → ((other : Kind) → other ≢ k → P other (cells_of other c) (table_of other b)) → (other : Kind) → P other (cells_of other (with_cells k t c)) (table_of other (with_table k u b))
both_but P kind.Inst t u c b new old kind.Inst = new
both_but P kind.ITerm t u c b new old kind.ITerm = new
both_but P kind.Net t u c b new old kind.Net = new
both_but P kind.BTerm t u c b new old kind.BTerm = new
both_but P kind.Pin t u c b new old kind.Pin = new
both_but P kind.Row t u c b new old kind.Row = new
both_but P kind.Track t u c b new old kind.Track = new
both_but P kind.Wire t u c b new old kind.Wire = new
both_but P kind.Blockage t u c b new old kind.Blockage = new
both_but P kind.Region t u c b new old kind.Region = new
both_but P kind.Group t u c b new old kind.Group = new
both_but P kind.Prop t u c b new old kind.Prop = new
both_but P k t u c b new old other = old other (λ same. cc)

pub both_stay : (P : (k : Kind) → Table (Cell k) → Table (Entry k) → Type 0) (k : Kind) (t : Table (Cell k)) (u : Table (Entry k)) (c : Cells) (b : Block) → P k t u → ((other : Kind) → P other (cells_of other c) (table_of other b)) → (other : Kind) → P other (cells_of other (with_cells k t c)) (table_of other (with_table k u b))
both_stay P k t u c b new old = both_but P k t u c b new (λ other apart. old other)

-- what holds of one table of cells and of all before holds of all
pub cells_stay : (P : (k : Kind) → Table (Cell k) → Type 0) (k : Kind) (t : Table (Cell k)) (c : Cells) → P k t → ((other : Kind) → P other (cells_of other c)) → (other : Kind) → P other (cells_of other (with_cells k t c))
cells_stay P k t c new old = let b = empty_block c.header in both_stay (λ j v w. P j v) k t (table_of k b) c b new old

pub cells_header : (k : Kind) (t : Table (Cell k)) (c : Cells) → (with_cells k t c).header ≡ c.header
cells_header kind.Inst t c = refl
cells_header k t c = refl

module _ (c : Cells) (b : Block) (stands : StandsFor c b) (k : Kind) (id : ℕ) (on_cell : Cell k → Cell k) (on_entry : Entry k → Entry k)
    (same : (x : Cell k) (l : OwnLists) → on_entry (entry k x l) ≡ entry k (on_cell x) l)
    (lists : (e : Entry k) → own_lists k (on_entry e) ≡ own_lists k e)
    (links : (x : Cell k) → own_link k (on_cell x) ≡ own_link k x)
    (heads : (x : Cell k) → own_heads k (on_cell x) ≡ own_heads k x) where
  abbrev t : Table (Cell k)
  t = on_record on_cell id (cells_of k c)

  abbrev u : Table (Entry k)
  u = on_record on_entry id (table_of k b)

  abbrev d : Cells
  d = with_cells k t c

  abbrev e : Block
  e = with_table k u b

  same_cells : (j : Kind) (i : ℕ) → IsKept c d j i
  same_cells j i = record {
    live = cells_stay (λ j v. (i : ℕ) → is_live v i ≡ is_live (cells_of j c) i) k t c (live_on on_cell id (cells_of k c)) (λ j i. refl) j i;
    link = cells_stay (λ j v. (i : ℕ) → link_in j v i ≡ link_in j (cells_of j c) i) k t c
        (view_on (λ (o : Option (Cell k)). option_map_or (own_link k) o no_link) on_cell id (cells_of k c) (λ x found. links x)) (λ j i. refl) j i;
  }

  same_heads : (j : Kind) (i : ℕ) → heads_in j (cells_of j d) i ≡ heads_in j (cells_of j c) i
  same_heads = both_stay (λ j v w. (i : ℕ) → heads_in j v i ≡ heads_in j (cells_of j c) i) k t u c b
      (view_on (λ (o : Option (Cell k)). option_map_or (own_heads k) o no_heads) on_cell id (cells_of k c) (λ x found. heads x)) (λ j i. refl)

  same_lists : (j : Kind) (i : ℕ) → lists_in j (table_of j e) i ≡ lists_in j (table_of j b) i
  same_lists = both_stay (λ j v w. (i : ℕ) → lists_in j w i ≡ lists_in j (table_of j b) i) k t u c b
      (view_on (λ (o : Option (Entry k)). option_map_or (own_lists k) o no_lists) on_entry id (table_of k b) (λ x found. lists x)) (λ j i. refl)

  -- a field of an object is set
  pub stands_on : StandsFor d e
  stands_on = record {
    header = cells_header k t c ∙ stands.header ∙ sym (header_stays k u b);
    tables = both_stay Shows k t u c b (shows_on k (cells_of k c) (table_of k b) (stands.tables k) id on_cell on_entry (λ l. l) same lists) stands.tables;
    lists = λ s j i. rw (same_heads j i, same_lists j i) (stands_still c d s _ _ (stands.lists s j i) (λ m inside. of_any s m same_cells));
  }
