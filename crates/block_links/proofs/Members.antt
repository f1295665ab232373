-- For which objects the members of lists stand: a list stands still where the cells of their objects are kept.
use Rattle.std.proofs.Common.{◌≡◌, ◌/◌, true, false, ℕ, List, ◌∙◌, inl, inr}
use Rattle.std.specs.Option.{option_map_or}
use Rattle.std.proofs.lemmas.Bool.{cases_Bool}
use Rattle.slot_pool.specs.Table.{Table, is_live, record_at}
use Rattle.odb_base.specs.Ids.{holds}
use Rattle.odb_base.specs.declared.codes.kind.Kind.{Kind}
use Rattle.odb_base.specs.declared.codes.kind.Kind.TheVariants as kind
use Rattle.link_list.specs.declared.link.Head.{Head}
use Rattle.link_list.specs.declared.link.Link.{Link}
use Rattle.link_list.specs.Standing.{Stands}
use Rattle.link_list.proofs.Linking.{member_is_cell}
use Rattle.link_list.proofs.Lists.{stays}
use Rattle.linked_pool.specs.Linking.{no_link}
use Rattle.linked_pool.specs.Pairs.{is_first}
use Rattle.block_cells.specs.Cells.{Cell, Cells, cells_of}
use Rattle.block_cells.specs.Lists.{is_cell, link_at}
use Rattle.block_store.specs.Consistent.{Groups, ListSort, Members, Pins, Props, Terms, Wires}
use Rattle.block_links.specs.Standing.{sort_of}

-- the link in a cell; no link in those of kinds that stand in no lists
abbrev pub own_link : (k : Kind) → Cell k → Link
own_link kind.Inst x = x.link
own_link kind.ITerm x = x.link
own_link kind.BTerm x = x.link
own_link kind.Pin x = x.link
own_link kind.Wire x = x.link
own_link kind.Group x = x.link
own_link kind.Prop x = x.link
own_link other x = no_link

abbrev pub link_in : (k : Kind) → Table (Cell k) → ℕ → Link
link_in k t id = option_map_or (own_link k) (record_at t id) no_link

-- what is said of objects, said of the one for which a member of a list stands
abbrev pub OfMember : ListSort → ℕ → (Kind → ℕ → Type 0) → Type 0
OfMember Terms m P = (is_first m ≡ true → P kind.ITerm (m / 2)) × (is_first m ≡ false → P kind.BTerm (m / 2))
OfMember Wires m P = P kind.Wire m
OfMember Members m P = P kind.Inst m
OfMember Pins m P = P kind.Pin m
OfMember Groups m P = P kind.Group m
OfMember Props m P = P kind.Prop m

pub of_member : {P Q : Kind → ℕ → Type 0} (s : ListSort) (m : ℕ) → ((k : Kind) (id : ℕ) → P k id → Q k id) → OfMember s m P → OfMember s m Q
of_member Terms m then at = (λ e. then kind.ITerm (m / 2) (at.0 e), λ e. then kind.BTerm (m / 2) (at.1 e))
of_member Wires m then at = then kind.Wire m at
of_member Members m then at = then kind.Inst m at
of_member Pins m then at = then kind.Pin m at
of_member Groups m then at = then kind.Group m at
of_member Props m then at = then kind.Prop m at

pub of_any : {P : Kind → ℕ → Type 0} (s : ListSort) (m : ℕ) → ((k : Kind) (id : ℕ) → P k id) → OfMember s m P
of_any Terms m all = (λ e. all kind.ITerm (m / 2), λ e. all kind.BTerm (m / 2))
of_any Wires m all = all kind.Wire m
of_any Members m all = all kind.Inst m
of_any Pins m all = all kind.Pin m
of_any Groups m all = all kind.Group m
of_any Props m all = all kind.Prop m

-- a member with a cell stands for an object that is there
pub of_cell : (c : Cells) (s : ListSort) (m : ℕ) → is_cell (sort_of s) c m ≡ true → OfMember s m (λ k id. is_live (cells_of k c) id ≡ true)
of_cell c Terms m is = (λ e. rw e at is, λ e. rw e at is)
of_cell c Wires m is = is
of_cell c Members m is = is
of_cell c Pins m is = is
of_cell c Groups m is = is
of_cell c Props m is = is

-- an object is there as it was, or isn't as it wasn't, and has the link that it had
pub record IsKept (c d : Cells) (k : Kind) (id : ℕ) : Type 0 where
  pub live : is_live (cells_of k d) id ≡ is_live (cells_of k c) id
  pub link : link_in k (cells_of k d) id ≡ link_in k (cells_of k c) id

module _ (c d : Cells) where
  pub cell_kept : (s : ListSort) (m : ℕ) → OfMember s m (IsKept c d) → is_cell (sort_of s) d m ≡ is_cell (sort_of s) c m
  cell_kept Terms m kept = elim (cases_Bool (is_first m)) [ inl e ↦ rw e ((kept.0 e).live) | inr e ↦ rw e ((kept.1 e).live) ]
  cell_kept Wires m kept = kept.live
  cell_kept Members m kept = kept.live
  cell_kept Pins m kept = kept.live
  cell_kept Groups m kept = kept.live
  cell_kept Props m kept = kept.live

  pub link_kept : (s : ListSort) (m : ℕ) → OfMember s m (IsKept c d) → link_at (sort_of s) d m ≡ link_at (sort_of s) c m
  link_kept Terms m kept = elim (cases_Bool (is_first m)) [ inl e ↦ rw e ((kept.0 e).link) | inr e ↦ rw e ((kept.1 e).link) ]
  link_kept Wires m kept = kept.link
  link_kept Members m kept = kept.link
  link_kept Pins m kept = kept.link
  link_kept Groups m kept = kept.link
  link_kept Props m kept = kept.link

  -- a head stands for its list still where the objects of its members are kept
  pub stands_still : (s : ListSort) (head : Head) (ids : List ℕ) → Stands (is_cell (sort_of s) c) (link_at (sort_of s) c) head ids → ((m : ℕ) → holds ids m ≡ true → OfMember s m (IsKept c d)) → Stands (is_cell (sort_of s) d) (link_at (sort_of s) d) head ids
  stands_still s head ids h kept =
      stays (is_cell (sort_of s) c) (is_cell (sort_of s) d) (link_at (sort_of s) c) (link_at (sort_of s) d) head ids h
      (λ m inside. (cell_kept s m (kept m inside) ∙ member_is_cell (is_cell (sort_of s) c) (link_at (sort_of s) c) 0 ids 0 m h.linked inside, link_kept s m (kept m inside)))
