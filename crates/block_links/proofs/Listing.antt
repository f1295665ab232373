-- Cells stand for a block still where a list changes by one member in both: its links are set, and then its head.
use Rattle.std.proofs.Common.{◌≡◌, ◌≢◌, ◌/◌, false, ℕ, List, Option, None, Some, IsTrue, is_some, length, refl, sym, ap, ◌∙◌, ◌⊎◌, inl, inr}
use Rattle.std.specs.Option.{option_map, option_map_or}
use Rattle.std.proofs.lemmas.Bool.{cases_Bool, cases_eq, false_from_ne_true}
use Rattle.slot_pool.specs.Mapped.{on_record}
use Rattle.slot_pool.specs.Table.{Table, is_live, record_at}
use Rattle.slot_pool.proofs.Mapped.{at_on, at_on_other, free_on, live_on, live_record, slots_on, view_on}
use Rattle.odb_base.specs.Ids.{AreApart, holds}
use Rattle.odb_base.specs.declared.codes.kind.Kind.{Kind}
use Rattle.odb_base.specs.declared.codes.kind.Kind.TheVariants as kind
use Rattle.link_list.specs.declared.link.Head.{Head}
use Rattle.link_list.specs.declared.link.Link.{Link}
use Rattle.link_list.specs.Standing.{OthersStand, Stands}
use Rattle.link_list.proofs.Linking.{member_is_cell}
use Rattle.link_list.proofs.Lists.{stays}
use Rattle.linked_pool.specs.Changes.{changed, members_around, with_links}
use Rattle.linked_pool.specs.Linking.{no_link, relinked}
use Rattle.linked_pool.specs.Pairs.{is_first}
use Rattle.linked_pool.specs.declared.changes.Change.{Change}
use Rattle.linked_pool.specs.declared.changes.Change.TheVariants as change
use Rattle.linked_pool.proofs.Keeping.{links_keep}
use Rattle.block_cells.specs.Cells.{Cell, Cells, cells_of, on_cell, with_cells}
use Rattle.block_cells.specs.Lists.{is_cell, link_at, with_link}
use Rattle.block_store.specs.Block.{Block}
use Rattle.block_store.specs.Consistent.{Groups, Holds, IsConsistent, ListSort, Members, OwnLists, Pins, Props, Terms, Wires, lists_in, lists_of, no_lists, of_sort, own_lists}
use Rattle.block_store.specs.Kinds.{Entry, table_of, with_table}
use Rattle.block_store.proofs.Consistency.{IsInNone, on_sort}
use Rattle.block_store.proofs.ListChanges.{holds_front, placed_holds}
use Rattle.block_store.proofs.OneTable.{header_stays}
use Rattle.block_links.specs.Standing.{OwnHeads, Shows, StandsFor, entry, head_of, heads_in, no_heads, own_heads, sort_of}
use Rattle.block_links.proofs.Coming.{live_shown, some_mapped}
use Rattle.block_links.proofs.Keeping.{both_but, both_stay, cells_header, cells_stay}
use Rattle.block_links.proofs.Members.{IsKept, link_in, of_any, own_link, stands_still}
use Rattle.block_links.proofs.Showing.{shows_on}

-- a cell that is in no list
abbrev pub unlinked : (k : Kind) → Cell k → Cell k
unlinked kind.Inst x = record x { link = no_link }
unlinked kind.ITerm x = record x { link = no_link }
unlinked kind.BTerm x = record x { link = no_link }
unlinked kind.Pin x = record x { link = no_link }
unlinked kind.Wire x = record x { link = no_link }
unlinked kind.Group x = record x { link = no_link }
unlinked kind.Prop x = record x { link = no_link }
unlinked other x = x

unlinked_entry : (k : Kind) (x : Cell k) (l : OwnLists) → entry k (unlinked k x) l ≡ entry k x l
unlinked_entry kind.Inst x l = refl
unlinked_entry k x l = refl

unlinked_heads : (k : Kind) (x : Cell k) → own_heads k (unlinked k x) ≡ own_heads k x
unlinked_heads kind.Inst x = refl
unlinked_heads k x = refl

-- the same cells but for their links
pub record SameBut (c d : Cells) : Type 0 where
  pub header : d.header ≡ c.header
  pub slots : (k : Kind) → length (cells_of k d).slots ≡ length (cells_of k c).slots
  pub free : (k : Kind) → (cells_of k d).free ≡ (cells_of k c).free
  pub cells : (k : Kind) (id : ℕ) → option_map (unlinked k) (record_at (cells_of k d) id) ≡ option_map (unlinked k) (record_at (cells_of k c) id)

-- one cell gets another link
one_relinked : (k : Kind) (f : Cell k → Cell k) (id : ℕ) (c : Cells) → ((x : Cell k) → unlinked k (f x) ≡ unlinked k x) → SameBut c (on_cell k f id c)
one_relinked k f id c same =
    let t = on_record f id (cells_of k c) in
    record {
      header = cells_header k t c;
      slots = cells_stay (λ j v. length v.slots ≡ length (cells_of j c).slots) k t c (slots_on f id (cells_of k c)) (λ j. refl);
      free = cells_stay (λ j v. v.free ≡ (cells_of j c).free) k t c (free_on f id (cells_of k c)) (λ j. refl);
      cells = cells_stay (λ j v. (i : ℕ) → option_map (unlinked j) (record_at v i) ≡ option_map (unlinked j) (record_at (cells_of j c) i)) k t c
          (view_on (λ (o : Option (Cell k)). option_map (unlinked k) o) f id (cells_of k c) (λ x found. ap Some (same x))) (λ j i. refl);
    }

link_set : (s : ListSort) (c : Cells) (m : ℕ) (link : Link) → SameBut c (with_link (sort_of s) c m link)
link_set Terms c m link = elim (cases_Bool (is_first m)) [
  | inl e ↦ rw e (one_relinked kind.ITerm (relinked link) (m / 2) c (λ x. refl))
  | inr e ↦ rw e (one_relinked kind.BTerm (relinked link) (m / 2) c (λ x. refl))
]
link_set Wires c m link = one_relinked kind.Wire (relinked link) m c (λ x. refl)
link_set Members c m link = one_relinked kind.Inst (relinked link) m c (λ x. refl)
link_set Pins c m link = one_relinked kind.Pin (relinked link) m c (λ x. refl)
link_set Groups c m link = one_relinked kind.Group (relinked link) m c (λ x. refl)
link_set Props c m link = one_relinked kind.Prop (relinked link) m c (λ x. refl)

-- the links of another sort stay
other_link : (r s : ListSort) → r ≢ s → (c : Cells) (m : ℕ) (link : Link) (n : ℕ) → link_at (sort_of r) (with_link (sort_of s) c m link) n ≡ link_at (sort_of r) c n
other_link Terms Terms apart c m link n = absurd (apart refl)
other_link Wires Wires apart c m link n = absurd (apart refl)
other_link Members Members apart c m link n = absurd (apart refl)
other_link Pins Pins apart c m link n = absurd (apart refl)
other_link Groups Groups apart c m link n = absurd (apart refl)
other_link Props Props apart c m link n = absurd (apart refl)
other_link r Terms apart c m link n = elim (cases_Bool (is_first m)) [ inl e ↦ rw e refl | inr e ↦ rw e refl ]
other_link r s apart c m link n = refl

module _ (s : ListSort) (ch : Change) (ids : List ℕ) (c : Cells) where
  -- the cells with the links that the change sets
  abbrev pub linked : Cells
  linked = with_links (with_link (sort_of s)) (link_at (sort_of s)) ch ids c

  pub links_set : SameBut c linked
  links_set = record {
    header = links_keep (with_link (sort_of s)) (link_at (sort_of s)) (λ c. c.header) (λ c m link. (link_set s c m link).header) ch ids c;
    slots = λ k. links_keep (with_link (sort_of s)) (link_at (sort_of s)) (λ c. length (cells_of k c).slots) (λ c m link. (link_set s c m link).slots k) ch ids c;
    free = λ k. links_keep (with_link (sort_of s)) (link_at (sort_of s)) (λ c. (cells_of k c).free) (λ c m link. (link_set s c m link).free k) ch ids c;
    cells = λ k id. links_keep (with_link (sort_of s)) (link_at (sort_of s)) (λ c. option_map (unlinked k) (record_at (cells_of k c) id)) (λ c m link. (link_set s c m link).cells k id) ch ids c;
  }

  links_apart : (r : ListSort) → r ≢ s → (n : ℕ) → link_at (sort_of r) linked n ≡ link_at (sort_of r) c n
  links_apart r apart n = links_keep (with_link (sort_of s)) (link_at (sort_of s)) (λ c. link_at (sort_of r) c n) (λ c m link. other_link r s apart c m link n) ch ids c

module _ {A B : Type 0} (back : A → A) (f : A → B) (same : (x : A) → f (back x) ≡ f x) where
  mapped : (o : Option A) → option_map f (option_map back o) ≡ option_map f o
  mapped None = refl
  mapped (Some x) = ap Some (same x)

  mapped_or : (none : B) (o : Option A) → option_map_or f (option_map back o) none ≡ option_map_or f o none
  mapped_or none None = refl
  mapped_or none (Some x) = same x

module _ (c d : Cells) (same : SameBut c d) where
  pub live_same : (k : Kind) (id : ℕ) → is_live (cells_of k d) id ≡ is_live (cells_of k c) id
  live_same k id = sym (some_mapped (unlinked k) (record_at (cells_of k d) id)) ∙ ap is_some (same.cells k id) ∙ some_mapped (unlinked k) (record_at (cells_of k c) id)

  heads_same : (k : Kind) (id : ℕ) → heads_in k (cells_of k d) id ≡ heads_in k (cells_of k c) id
  heads_same k id =
      sym (mapped_or (unlinked k) (own_heads k) (unlinked_heads k) no_heads (record_at (cells_of k d) id))
      ∙ ap (λ (o : Option (Cell k)). option_map_or (own_heads k) o no_heads) (same.cells k id)
      ∙ mapped_or (unlinked k) (own_heads k) (unlinked_heads k) no_heads (record_at (cells_of k c) id)

  shows_same : (k : Kind) (u : Table (Entry k)) → Shows k (cells_of k c) u → Shows k (cells_of k d) u
  shows_same k u shows = record {
    slots = same.slots k ∙ shows.slots;
    free = same.free k ∙ shows.free;
    rows = λ id.
        let l = lists_in k u id in
        shows.rows id
        ∙ sym (mapped (unlinked k) (λ x. entry k x l) (λ x. unlinked_entry k x l) (record_at (cells_of k c) id))
        ∙ ap (option_map (λ x. entry k x l)) (sym (same.cells k id))
        ∙ mapped (unlinked k) (λ x. entry k x l) (λ x. unlinked_entry k x l) (record_at (cells_of k d) id);
  }

  cell_stays : (s : ListSort) (m : ℕ) → is_cell (sort_of s) d m ≡ is_cell (sort_of s) c m
  cell_stays Terms m = elim (cases_Bool (is_first m)) [ inl e ↦ rw e (live_same kind.ITerm (m / 2)) | inr e ↦ rw e (live_same kind.BTerm (m / 2)) ]
  cell_stays Wires m = live_same kind.Wire m
  cell_stays Members m = live_same kind.Inst m
  cell_stays Pins m = live_same kind.Pin m
  cell_stays Groups m = live_same kind.Group m
  cell_stays Props m = live_same kind.Prop m

-- the heads with that of one sort of lists changed
abbrev pub with_head_of : ListSort → Head → OwnHeads → OwnHeads
with_head_of Terms head h = record h { terms = head }
with_head_of Wires head h = record h { wires = head }
with_head_of Members head h = record h { members = head }
with_head_of Pins head h = record h { pins = head }
with_head_of Groups head h = record h { groups = head }
with_head_of Props head h = record h { props = head }

-- two sorts are the same, or they aren't
sort_cases : (r s : ListSort) → (r ≡ s) ⊎ (r ≢ s)
sort_cases Terms Terms = inl refl
sort_cases Wires Wires = inl refl
sort_cases Members Members = inl refl
sort_cases Pins Pins = inl refl
sort_cases Groups Groups = inl refl
sort_cases Props Props = inl refl
sort_cases r s = inr (λ same. cc)

own_list : (s : ListSort) (f : List ℕ → List ℕ) (l : OwnLists) → of_sort s (on_sort s f l) ≡ f (of_sort s l)
own_list Terms f l = refl
own_list s f l = refl

other_list : (r s : ListSort) → r ≢ s → (f : List ℕ → List ℕ) (l : OwnLists) → of_sort r (on_sort s f l) ≡ of_sort r l
other_list Terms Terms apart f l = absurd (apart refl)
other_list Wires Wires apart f l = absurd (apart refl)
other_list Members Members apart f l = absurd (apart refl)
other_list Pins Pins apart f l = absurd (apart refl)
other_list Groups Groups apart f l = absurd (apart refl)
other_list Props Props apart f l = absurd (apart refl)
other_list r s apart f l = refl

own_head : (s : ListSort) (head : Head) (h : OwnHeads) → head_of s (with_head_of s head h) ≡ head
own_head Terms head h = refl
own_head s head h = refl

other_head : (r s : ListSort) → r ≢ s → (head : Head) (h : OwnHeads) → head_of r (with_head_of s head h) ≡ head_of r h
other_head Terms Terms apart head h = absurd (apart refl)
other_head Wires Wires apart head h = absurd (apart refl)
other_head Members Members apart head h = absurd (apart refl)
other_head Pins Pins apart head h = absurd (apart refl)
other_head Groups Groups apart head h = absurd (apart refl)
other_head Props Props apart head h = absurd (apart refl)
other_head r s apart head h = refl

-- who enters stands in no list of the sort
abbrev pub ComesFromOutside : Change → ListSort → Block → Type 0
ComesFromOutside (change.Enter member) s b = IsInNone s member b
ComesFromOutside (change.Return member next) s b = IsInNone s member b
ComesFromOutside (change.Leave member) s b = Unit {0}

module _ (b : Block) (is : IsConsistent b) (s : ListSort) (k : Kind) (id : ℕ) (j : Kind) (o : ℕ) (other : (j ≡ k) → (o ≡ id) → ⊥) where
  -- a member stands in no other list
  member_apart : (m : ℕ) → Holds s k id m b → holds (of_sort s (lists_of b j o)) m ≡ false
  member_apart m inside = false_from_ne_true _ (λ there. let both = is.one s j k o id m there inside in other both.0 both.1)

  around_apart : (ch : Change) → ComesFromOutside ch s b → AreApart (members_around ch (of_sort s (lists_of b k id))) (of_sort s (lists_of b j o))
  around_apart (change.Enter member) outside m inside = elim (holds_front member m (of_sort s (lists_of b k id)) inside) [
    | inl same ↦ ap (holds (of_sort s (lists_of b j o))) same ∙ outside j o
    | inr stood ↦ member_apart m stood
  ]
  around_apart (change.Return member next) outside m inside = elim (placed_holds member next (of_sort s (lists_of b k id)) m inside) [
    | inl same ↦ ap (holds (of_sort s (lists_of b j o))) same ∙ outside j o
    | inr stood ↦ member_apart m stood
  ]
  around_apart (change.Leave member) outside m inside = member_apart m inside

module _ (c : Cells) (b : Block) (stands : StandsFor c b) (is : IsConsistent b) (s : ListSort) (k : Kind) (id : ℕ)
    (live : IsTrue (is_live (table_of k b) id)) (ch : Change) (head : Head)
    (on_cell : Cell k → Cell k) (on_entry : Entry k → Entry k)
    (same : (x : Cell k) (l : OwnLists) → on_entry (entry k x l) ≡ entry k (on_cell x) (on_sort s (changed ch) l))
    (lists : (e : Entry k) → own_lists k (on_entry e) ≡ on_sort s (changed ch) (own_lists k e))
    (links : (x : Cell k) → own_link k (on_cell x) ≡ own_link k x)
    (heads : (x : Cell k) → own_heads k (on_cell x) ≡ with_head_of s head (own_heads k x))
    (outside : ComesFromOutside ch s b) where
  abbrev ids : List ℕ
  ids = of_sort s (lists_of b k id)

  -- the cells with the links set, and those with the head set too
  abbrev c1 : Cells
  c1 = linked s ch ids c

  abbrev t : Table (Cell k)
  t = on_record on_cell id (cells_of k c1)

  abbrev c2 : Cells
  c2 = with_cells k t c1

  abbrev u : Table (Entry k)
  u = on_record on_entry id (table_of k b)

  set : SameBut c c1
  set = links_set s ch ids c

  head_kept : (j : Kind) (i : ℕ) → IsKept c1 c2 j i
  head_kept j i = record {
    live = cells_stay (λ j v. (i : ℕ) → is_live v i ≡ is_live (cells_of j c1) i) k t c1 (live_on on_cell id (cells_of k c1)) (λ j i. refl) j i;
    link = cells_stay (λ j v. (i : ℕ) → link_in j v i ≡ link_in j (cells_of j c1) i) k t c1
        (view_on (λ (o : Option (Cell k)). option_map_or (own_link k) o no_link) on_cell id (cells_of k c1) (λ x found. links x)) (λ j i. refl) j i;
  }

  -- what stands where the links are set stands where the head is set
  then_stands : (r : ListSort) (h : Head) (l : List ℕ) → Stands (is_cell (sort_of r) c1) (link_at (sort_of r) c1) h l → Stands (is_cell (sort_of r) c2) (link_at (sort_of r) c2) h l
  then_stands r h l at = stands_still c1 c2 r h l at (λ m inside. of_any r m head_kept)

  -- the lists of other sorts
  other_stands : (r : ListSort) → r ≢ s → (h : Head) (l : List ℕ) → Stands (is_cell (sort_of r) c) (link_at (sort_of r) c) h l → Stands (is_cell (sort_of r) c2) (link_at (sort_of r) c2) h l
  other_stands r apart h l at = then_stands r h l
      (stays (is_cell (sort_of r) c) (is_cell (sort_of r) c1) (link_at (sort_of r) c) (link_at (sort_of r) c1) h l at
      (λ m inside. (cell_stays c c1 set r m ∙ member_is_cell (is_cell (sort_of r) c) (link_at (sort_of r) c) 0 l 0 m at.linked inside, links_apart s ch ids c r apart m)))

  module _ (stand : Stands (is_cell (sort_of s) c1) (link_at (sort_of s) c1) head (changed ch ids))
      (others : OthersStand (is_cell (sort_of s) c) (link_at (sort_of s) c) (is_cell (sort_of s) c1) (link_at (sort_of s) c1) (members_around ch ids)) where
    -- the lists of other objects
    elsewhere : (r : ListSort) (j : Kind) (i : ℕ) → (j ≡ k → i ≡ id → ⊥) → Stands (is_cell (sort_of r) c2) (link_at (sort_of r) c2) (head_of r (heads_in j (cells_of j c1) i)) (of_sort r (lists_of b j i))
    elsewhere r j i other =
        let at = stands.lists r j i in
        rw (heads_same c c1 set j i) (elim (sort_cases r s) [
          | inl e ↦ rw e (then_stands s _ _ (others _ _ (around_apart b is s k id j i other ch outside) (rw e at at)))
          | inr apart ↦ other_stands r apart _ _ at
        ])

    heads_now : heads_in k t id ≡ with_head_of s head (heads_in k (cells_of k c) id)
    heads_now =
        let there : IsTrue (is_live (cells_of k c1) id) = live_same c c1 set k id ∙ sym (live_shown k (cells_of k c) (table_of k b) (stands.tables k) id) ∙ live in
        let x = live_record (cells_of k c1) id there in
        ap (λ (o : Option (Cell k)). option_map_or (own_heads k) o no_heads) (at_on on_cell id (cells_of k c1) ∙ ap (option_map on_cell) x.is)
        ∙ heads x.value
        ∙ ap (with_head_of s head) (sym (ap (λ (o : Option (Cell k)). option_map_or (own_heads k) o no_heads) x.is) ∙ heads_same c c1 set k id)

    lists_now : lists_in k u id ≡ on_sort s (changed ch) (lists_of b k id)
    lists_now =
        let x = live_record (table_of k b) id live in
        ap (λ (o : Option (Entry k)). option_map_or (own_lists k) o no_lists) (at_on on_entry id (table_of k b) ∙ ap (option_map on_entry) x.is)
        ∙ lists x.value
        ∙ ap (on_sort s (changed ch)) (sym (ap (λ (o : Option (Entry k)). option_map_or (own_lists k) o no_lists) x.is))

    -- the lists of the object itself
    own : (r : ListSort) → Stands (is_cell (sort_of r) c2) (link_at (sort_of r) c2) (head_of r (heads_in k t id)) (of_sort r (lists_in k u id))
    own r = rw (heads_now, lists_now) (elim (sort_cases r s) [
      | inl e ↦ rw (e, own_head s head (heads_in k (cells_of k c) id), own_list s (changed ch) (lists_of b k id)) (then_stands s _ _ stand)
      | inr apart ↦ rw (other_head r s apart head (heads_in k (cells_of k c) id), other_list r s apart (changed ch) (lists_of b k id)) (other_stands r apart _ _ (stands.lists r k id))
    ])

    here : (r : ListSort) (i : ℕ) → Stands (is_cell (sort_of r) c2) (link_at (sort_of r) c2) (head_of r (heads_in k t i)) (of_sort r (lists_in k u i))
    here r i = elim (cases_eq i id) [
      | inl e ↦ rw e (own r)
      | inr apart ↦
          let heads' : heads_in k t i ≡ heads_in k (cells_of k c1) i = ap (λ (o : Option (Cell k)). option_map_or (own_heads k) o no_heads) (at_on_other on_cell id i (cells_of k c1) apart) in
          let lists' : lists_in k u i ≡ lists_of b k i = ap (λ (o : Option (Entry k)). option_map_or (own_lists k) o no_lists) (at_on_other on_entry id i (table_of k b) apart) in
          rw (heads', lists') (elsewhere r k i (λ same is. apart is))
    ]

    -- a list changes by one member
    pub stands_listed : StandsFor c2 (with_table k u b)
    stands_listed = record {
      header = cells_header k t c1 ∙ set.header ∙ stands.header ∙ sym (header_stays k u b);
      tables = both_stay Shows k t u c1 b
          (shows_on k (cells_of k c1) (table_of k b) (shows_same c c1 set k (table_of k b) (stands.tables k)) id on_cell on_entry (on_sort s (changed ch)) same lists)
          (λ j. shows_same c c1 set j (table_of j b) (stands.tables j));
      lists = λ r. both_but (λ j v w. (i : ℕ) → Stands (is_cell (sort_of r) c2) (link_at (sort_of r) c2) (head_of r (heads_in j v i)) (of_sort r (lists_in j w i))) k t u c1 b
          (here r) (λ j apart i. elsewhere r j i (λ same is. apart same));
    }
