-- Where a field of an object is set in its cell, it is set in the block.
use Rattle.std.proofs.Common.{◌≡◌, Bool, List, ℕ, IsTrue, refl, subst, sym}
use Rattle.odb_base.specs.declared.codes.direction.Direction.{Direction}
use Rattle.odb_base.specs.declared.codes.kind.Kind.{Kind}
use Rattle.odb_base.specs.declared.codes.kind.Kind.TheVariants as kind
use Rattle.odb_base.specs.declared.codes.usage.Usage.{Usage}
use Rattle.odb_base.specs.declared.geometry.Placement.{Placement}
use Rattle.block_cells.specs.Cells.{Cell, Cells, on_cell}
use Rattle.block_cells.specs.Setting as cell
use Rattle.block_store.specs.Block.{Block, live_in}
use Rattle.block_store.specs.Consistent.{IsConsistent, OwnLists, own_lists}
use Rattle.block_store.specs.Kinds.{Entry, on_entry}
use Rattle.block_store.specs.Moves.{with_direction, with_index, with_master, with_name, with_net, with_place, with_special, with_terminals, with_usage}
use Rattle.block_store.specs.Names.{IsFreeBut}
use Rattle.block_store.proofs.ConsistentMoves.{consistent_direction, consistent_index, consistent_master, consistent_net, consistent_place, consistent_renamed, consistent_special, consistent_terminals, consistent_usage}
use Rattle.block_links.specs.Standing.{block_of, entry, own_heads}
use Rattle.block_links.specs.Stores.{IsBlock}
use Rattle.block_links.proofs.Keeping.{stands_on}
use Rattle.block_links.proofs.Members.{own_link}
use Rattle.block_links.proofs.Moves.{Become, become}

module _ (c d : Cells) (lawful : IsBlock c) where
  abbrev b : Block
  b = block_of c

  become_on : (k : Kind) (id : ℕ) (of_cell : Cell k → Cell k) (of_entry : Entry k → Entry k) → ((x : Cell k) (l : OwnLists) → of_entry (entry k x l) ≡ entry k (of_cell x) l) → ((e : Entry k) → own_lists k (of_entry e) ≡ own_lists k e) → ((x : Cell k) → own_link k (of_cell x) ≡ own_link k x) → ((x : Cell k) → own_heads k (of_cell x) ≡ own_heads k x) → IsConsistent (on_entry k of_entry id b) → d ≡ on_cell k of_cell id c → Become d (on_entry k of_entry id b)
  become_on k id of_cell of_entry same lists links heads is moved = subst (λ e. Become e (on_entry k of_entry id b)) (sym moved)
      (become (on_cell k of_cell id c) (on_entry k of_entry id b) (stands_on c b lawful.stands k id of_cell of_entry same lists links heads) is)

  become_same : d ≡ c → Become d b
  become_same moved = subst (λ e. Become e b) (sym moved) (record { block = refl; lawful = lawful })

  pub become_net : (k : Kind) (id : ℕ) (net : ℕ) → d ≡ cell.with_net k id net c → Become d (with_net k id net b)
  become_net kind.ITerm id net moved = become_on kind.ITerm id (λ x. record x { value = record x.value { net = net } }) (λ e. record e { net = net }) (λ x l. refl) (λ e. refl) (λ x. refl) (λ x. refl) (consistent_net kind.ITerm id net b lawful.consistent) moved
  become_net kind.BTerm id net moved = become_on kind.BTerm id (λ x. record x { value = record x.value { fields = record x.value.fields { net = net } } }) (λ e. record e { fields = record e.fields { net = net } }) (λ x l. refl) (λ e. refl) (λ x. refl) (λ x. refl) (consistent_net kind.BTerm id net b lawful.consistent) moved
  become_net k id net moved = become_same moved

  pub become_place : (k : Kind) (id : ℕ) (place : Placement) → d ≡ cell.with_place k id place c → Become d (with_place k id place b)
  become_place kind.Inst id place moved = become_on kind.Inst id (λ x. record x { value = record x.value { fields = record x.value.fields { place = place } } }) (λ e. record e { fields = record e.fields { place = place } }) (λ x l. refl) (λ e. refl) (λ x. refl) (λ x. refl) (consistent_place kind.Inst id place b lawful.consistent) moved
  become_place kind.Pin id place moved = become_on kind.Pin id (λ x. record x { value = record x.value { place = place } }) (λ e. record e { place = place }) (λ x l. refl) (λ e. refl) (λ x. refl) (λ x. refl) (consistent_place kind.Pin id place b lawful.consistent) moved
  become_place k id place moved = become_same moved

  pub become_usage : (k : Kind) (id : ℕ) (usage : Usage) → d ≡ cell.with_usage k id usage c → Become d (with_usage k id usage b)
  become_usage kind.Net id usage moved = become_on kind.Net id (λ x. record x { fields = record x.fields { usage = usage } }) (λ e. record e { fields = record e.fields { usage = usage } }) (λ x l. refl) (λ e. refl) (λ x. refl) (λ x. refl) (consistent_usage kind.Net id usage b lawful.consistent) moved
  become_usage kind.BTerm id usage moved = become_on kind.BTerm id (λ x. record x { value = record x.value { fields = record x.value.fields { usage = usage } } }) (λ e. record e { fields = record e.fields { usage = usage } }) (λ x l. refl) (λ e. refl) (λ x. refl) (λ x. refl) (consistent_usage kind.BTerm id usage b lawful.consistent) moved
  become_usage k id usage moved = become_same moved

  pub become_direction : (id : ℕ) (direction : Direction) → d ≡ cell.with_direction id direction c → Become d (with_direction id direction b)
  become_direction id direction moved = become_on kind.BTerm id (λ x. record x { value = record x.value { fields = record x.value.fields { direction = direction } } }) (λ e. record e { fields = record e.fields { direction = direction } }) (λ x l. refl) (λ e. refl) (λ x. refl) (λ x. refl) (consistent_direction id direction b lawful.consistent) moved

  pub become_special : (id : ℕ) (special : Bool) → d ≡ cell.with_special id special c → Become d (with_special id special b)
  become_special id special moved = become_on kind.Net id (λ x. record x { fields = record x.fields { special = special } }) (λ e. record e { fields = record e.fields { special = special } }) (λ x l. refl) (λ e. refl) (λ x. refl) (λ x. refl) (consistent_special id special b lawful.consistent) moved

  pub become_master : (id : ℕ) (master : ℕ) → d ≡ cell.with_master id master c → Become d (with_master id master b)
  become_master id master moved = become_on kind.Inst id (λ x. record x { value = record x.value { fields = record x.value.fields { master = master } } }) (λ e. record e { fields = record e.fields { master = master } }) (λ x l. refl) (λ e. refl) (λ x. refl) (λ x. refl) (consistent_master id master b lawful.consistent) moved

  pub become_terminals : (id : ℕ) (terminals : List ℕ) → d ≡ cell.with_terminals id terminals c → Become d (with_terminals id terminals b)
  become_terminals id terminals moved = become_on kind.Inst id (λ x. record x { value = record x.value { fields = record x.value.fields { terminals = terminals } } }) (λ e. record e { fields = record e.fields { terminals = terminals } }) (λ x l. refl) (λ e. refl) (λ x. refl) (λ x. refl) (consistent_terminals id terminals b lawful.consistent) moved

  pub become_index : (id : ℕ) (index : ℕ) → d ≡ cell.with_index id index c → Become d (with_index id index b)
  become_index id index moved = become_on kind.ITerm id (λ x. record x { value = record x.value { index = index } }) (λ e. record e { index = index }) (λ x l. refl) (λ e. refl) (λ x. refl) (λ x. refl) (consistent_index id index b lawful.consistent) moved

  pub become_renamed : (k : Kind) (id : ℕ) (name : List ℕ) → IsTrue (live_in k id b) → IsFreeBut k id name b → d ≡ cell.with_name k id name c → Become d (with_name k id name b)
  become_renamed kind.Inst id name live free moved = become_on kind.Inst id (λ x. record x { value = record x.value { fields = record x.value.fields { name = name } } }) (λ e. record e { fields = record e.fields { name = name } }) (λ x l. refl) (λ e. refl) (λ x. refl) (λ x. refl) (consistent_renamed kind.Inst id name b live free lawful.consistent) moved
  become_renamed kind.Net id name live free moved = become_on kind.Net id (λ x. record x { fields = record x.fields { name = name } }) (λ e. record e { fields = record e.fields { name = name } }) (λ x l. refl) (λ e. refl) (λ x. refl) (λ x. refl) (consistent_renamed kind.Net id name b live free lawful.consistent) moved
  become_renamed kind.BTerm id name live free moved = become_on kind.BTerm id (λ x. record x { value = record x.value { fields = record x.value.fields { name = name } } }) (λ e. record e { fields = record e.fields { name = name } }) (λ x l. refl) (λ e. refl) (λ x. refl) (λ x. refl) (consistent_renamed kind.BTerm id name b live free lawful.consistent) moved
  become_renamed kind.Row id name live free moved = become_on kind.Row id (λ x. record x { fields = record x.fields { name = name } }) (λ e. record e { fields = record e.fields { name = name } }) (λ x l. refl) (λ e. refl) (λ x. refl) (λ x. refl) (consistent_renamed kind.Row id name b live free lawful.consistent) moved
  become_renamed kind.Region id name live free moved = become_on kind.Region id (λ x. record x { fields = record x.fields { name = name } }) (λ e. record e { fields = record e.fields { name = name } }) (λ x l. refl) (λ e. refl) (λ x. refl) (λ x. refl) (consistent_renamed kind.Region id name b live free lawful.consistent) moved
  become_renamed kind.Group id name live free moved = become_on kind.Group id (λ x. record x { value = record x.value { fields = record x.value.fields { name = name } } }) (λ e. record e { fields = record e.fields { name = name } }) (λ x l. refl) (λ e. refl) (λ x. refl) (λ x. refl) (consistent_renamed kind.Group id name b live free lawful.consistent) moved
  become_renamed k id name live free moved = become_same moved
