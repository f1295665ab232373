-- Blocks stay consistent where a list gets or loses a member, in the words of contracts.
use Rattle.std.proofs.Common.{◌≡◌, ◌∷◌, true, false, List, [], ℕ, Option, None, Some, IsTrue, refl, sym, ap, subst, ◌∙◌, ◌⊎◌, inl, inr}
use Rattle.std.specs.Option.{option_map_or}
use Rattle.slot_pool.specs.Table.{is_live, record_at}
use Rattle.odb_base.specs.Ids.{IsDistinct, holds, placed, without}
use Rattle.odb_base.specs.declared.codes.kind.Kind.{Kind}
use Rattle.odb_base.specs.declared.codes.kind.Kind.TheVariants as kind
use Rattle.block_store.specs.declared.list_of.ListOf.{ListOf}
use Rattle.block_store.specs.declared.list_of.ListOf.TheVariants as list
use Rattle.block_store.specs.Alone.{CanEnter, InNoGroups, InNoMembers, InNoPins, InNoProps, InNoTerms, InNoWires, IsOutside}
use Rattle.block_store.specs.Block.{Block}
use Rattle.block_store.specs.Consistent.{Groups, IsConsistent, IsThere, ListSort, Members, OwnLists, Pins, Props, Terms, Wires, lists_of, no_lists, of_sort, own_lists}
use Rattle.block_store.specs.Kinds.{Entry, on_entry, table_of}
use Rattle.block_store.specs.Lists.{HasList, HasProps, list_at, on_list, on_props, props_at}
use Rattle.block_store.specs.View.{laws}
use Rattle.block_store.proofs.Changed.{KeepsName}
use Rattle.block_store.proofs.Consistency.{Enters, IsInNone, consistent_listed, on_sort}
use Rattle.block_store.proofs.Joined.{list_seen_by}
use Rattle.odb_base.proofs.Members.{distinct_without, holds_without}
use Rattle.block_store.proofs.ListChanges.{distinct_placed, holds_front, placed_holds}

-- a list that objects of a kind don't have
pub list_none : {A : Type 0} (see : A → OwnLists) (part : OwnLists → List ℕ) (o : Option A) → part no_lists ≡ [] → ((x : A) → part (see x) ≡ []) → part (option_map_or see o no_lists) ≡ []
list_none see part None nothing none = nothing
list_none see part (Some x) nothing none = none x

-- no list of the sort has the member, in the words of contracts
abbrev pub InNone : ListSort → ℕ → Block → Type 0
InNone Terms member b = InNoTerms member b
InNone Wires member b = InNoWires member b
InNone Members member b = InNoMembers member b
InNone Pins member b = InNoPins member b
InNone Groups member b = InNoGroups member b
InNone Props member b = (k : Kind) → InNoProps k member b

pub in_none : (s : ListSort) (member : ℕ) (b : Block) → InNone s member b → IsInNone s member b
in_none Terms member b none kind.Net id = ap (λ l. holds l member) (list_seen_by (own_lists kind.Net) no_lists (λ l. l.terms) (record_at b.net id) refl) ∙ none id
in_none Terms member b none k id = ap (λ l. holds l member) (list_none (own_lists k) (λ l. l.terms) (record_at (table_of k b) id) refl (λ x. refl))
in_none Wires member b none kind.Net id = ap (λ l. holds l member) (list_seen_by (own_lists kind.Net) no_lists (λ l. l.wires) (record_at b.net id) refl) ∙ none id
in_none Wires member b none k id = ap (λ l. holds l member) (list_none (own_lists k) (λ l. l.wires) (record_at (table_of k b) id) refl (λ x. refl))
in_none Members member b none kind.Group id = ap (λ l. holds l member) (list_seen_by (own_lists kind.Group) no_lists (λ l. l.members) (record_at b.group id) refl) ∙ none id
in_none Members member b none k id = ap (λ l. holds l member) (list_none (own_lists k) (λ l. l.members) (record_at (table_of k b) id) refl (λ x. refl))
in_none Pins member b none kind.BTerm id = ap (λ l. holds l member) (list_seen_by (own_lists kind.BTerm) no_lists (λ l. l.pins) (record_at b.bterm id) refl) ∙ none id
in_none Pins member b none k id = ap (λ l. holds l member) (list_none (own_lists k) (λ l. l.pins) (record_at (table_of k b) id) refl (λ x. refl))
in_none Groups member b none kind.Region id = ap (λ l. holds l member) (list_seen_by (own_lists kind.Region) no_lists (λ l. l.groups) (record_at b.region id) refl) ∙ none id
in_none Groups member b none k id = ap (λ l. holds l member) (list_none (own_lists k) (λ l. l.groups) (record_at (table_of k b) id) refl (λ x. refl))
in_none Props member b none kind.Inst id = ap (λ l. holds l member) (list_seen_by (own_lists kind.Inst) no_lists (λ l. l.props) (record_at b.inst id) refl) ∙ none kind.Inst id
in_none Props member b none kind.Net id = ap (λ l. holds l member) (list_seen_by (own_lists kind.Net) no_lists (λ l. l.props) (record_at b.net id) refl) ∙ none kind.Net id
in_none Props member b none kind.Row id = ap (λ l. holds l member) (list_seen_by (own_lists kind.Row) no_lists (λ l. l.props) (record_at b.row id) refl) ∙ none kind.Row id
in_none Props member b none kind.Region id = ap (λ l. holds l member) (list_seen_by (own_lists kind.Region) no_lists (λ l. l.props) (record_at b.region id) refl) ∙ none kind.Region id
in_none Props member b none kind.Group id = ap (λ l. holds l member) (list_seen_by (own_lists kind.Group) no_lists (λ l. l.props) (record_at b.group id) refl) ∙ none kind.Group id
in_none Props member b none k id = ap (λ l. holds l member) (list_none (own_lists k) (λ l. l.props) (record_at (table_of k b) id) refl (λ x. refl))

-- the sort of a list; the terminals of an instance are no list here
abbrev pub sort_of : ListOf → ListSort
sort_of (list.Terms net) = Terms
sort_of (list.Wires net) = Wires
sort_of (list.Props k id) = Props
sort_of (list.Members group) = Members
sort_of (list.Pins bterm) = Pins
sort_of (list.Groups region) = Groups
sort_of (list.InstTerms inst) = Terms

-- the object whose list it is
record Owner (of : ListOf) (b : Block) : Type 0 where
  pub kind : Kind
  pub id : ℕ
  pub is : list_at of b ≡ of_sort (sort_of of) (lists_of b kind id)

props_owner : (k : Kind) (id : ℕ) (b : Block) → HasProps k id b → Owner (list.Props k id) b
props_owner kind.Inst id b has = record { kind = kind.Inst; id = id; is = sym (list_seen_by (own_lists kind.Inst) no_lists (λ l. l.props) (record_at b.inst id) refl) }
props_owner kind.Net id b has = record { kind = kind.Net; id = id; is = sym (list_seen_by (own_lists kind.Net) no_lists (λ l. l.props) (record_at b.net id) refl) }
props_owner kind.Row id b has = record { kind = kind.Row; id = id; is = sym (list_seen_by (own_lists kind.Row) no_lists (λ l. l.props) (record_at b.row id) refl) }
props_owner kind.Region id b has = record { kind = kind.Region; id = id; is = sym (list_seen_by (own_lists kind.Region) no_lists (λ l. l.props) (record_at b.region id) refl) }
props_owner kind.Group id b has = record { kind = kind.Group; id = id; is = sym (list_seen_by (own_lists kind.Group) no_lists (λ l. l.props) (record_at b.group id) refl) }
props_owner k id b has = absurd has

owner : (of : ListOf) (b : Block) → HasList of b → Owner of b
owner (list.Terms object) b has = record { kind = kind.Net; id = object.0; is = sym (list_seen_by (own_lists kind.Net) no_lists (λ l. l.terms) (record_at b.net object.0) refl) }
owner (list.Wires object) b has = record { kind = kind.Net; id = object.0; is = sym (list_seen_by (own_lists kind.Net) no_lists (λ l. l.wires) (record_at b.net object.0) refl) }
owner (list.Members object) b has = record { kind = kind.Group; id = object.0; is = sym (list_seen_by (own_lists kind.Group) no_lists (λ l. l.members) (record_at b.group object.0) refl) }
owner (list.Pins object) b has = record { kind = kind.BTerm; id = object.0; is = sym (list_seen_by (own_lists kind.BTerm) no_lists (λ l. l.pins) (record_at b.bterm object.0) refl) }
owner (list.Groups object) b has = record { kind = kind.Region; id = object.0; is = sym (list_seen_by (own_lists kind.Region) no_lists (λ l. l.groups) (record_at b.region object.0) refl) }
owner (list.Props k id) b has = props_owner k id b has
owner (list.InstTerms inst) b has = absurd has

-- who can enter a list is there, and in no list of the sort
outside_by : (of : ListOf) (member : ℕ) (b : Block) → IsOutside of member b → IsThere (sort_of of) member b × IsInNone (sort_of of) member b
outside_by (list.Terms object) member b outside = (outside.0, in_none Terms member b outside.1)
outside_by (list.Wires object) member b outside = (outside.0, in_none Wires member b outside.1)
outside_by (list.Members object) member b outside = (outside.0, in_none Members member b outside.1)
outside_by (list.Pins object) member b outside = (outside.0, in_none Pins member b outside.1)
outside_by (list.Groups object) member b outside = (outside.0, in_none Groups member b outside.1)
outside_by (list.Props k id) member b outside = (outside.0, in_none Props member b outside.1)
outside_by (list.InstTerms inst) member b outside = absurd outside

-- a list changes, in which none stands twice then, and who enters comes from outside
abbrev pub IsChange : (List ℕ → List ℕ) → ListSort → ℕ → List ℕ → Block → Type 0
IsChange f s member l b = IsDistinct (f l) × ((m : ℕ) → holds (f l) m ≡ true → Enters s member b m ⊎ (holds l m ≡ true))

listed : (s : ListSort) (k : Kind) (id member : ℕ) (f : List ℕ → List ℕ) (change : Entry k → Entry k) (b : Block) (l : List ℕ) → l ≡ of_sort s (lists_of b k id) → IsTrue (is_live (table_of k b) id) → KeepsName (laws k).name change → ((x : Entry k) → own_lists k (change x) ≡ on_sort s f (own_lists k x)) → IsChange f s member l b → IsConsistent b → IsConsistent (on_entry k change id b)
listed s k id member f change b l here live keeps changes lawful is =
    let at = subst (λ l. IsChange f s member l b) here lawful in
    consistent_listed s k id member f change b live keeps changes at.0 at.1 is

consistent_props : (f : List ℕ → List ℕ) (k : Kind) (id member : ℕ) (b : Block) → HasProps k id b → IsChange f Props member (props_at k id b) b → IsConsistent b → IsConsistent (on_props f k id b)
unfolding props_owner
consistent_props f kind.Inst id member b has lawful is = listed Props kind.Inst id member f (λ e. record e { props = f e.props }) b _ (props_owner kind.Inst id b has).is has (λ x. refl) (λ x. refl) lawful is
consistent_props f kind.Net id member b has lawful is = listed Props kind.Net id member f (λ e. record e { props = f e.props }) b _ (props_owner kind.Net id b has).is has (λ x. refl) (λ x. refl) lawful is
consistent_props f kind.Row id member b has lawful is = listed Props kind.Row id member f (λ e. record e { props = f e.props }) b _ (props_owner kind.Row id b has).is has (λ x. refl) (λ x. refl) lawful is
consistent_props f kind.Region id member b has lawful is = listed Props kind.Region id member f (λ e. record e { props = f e.props }) b _ (props_owner kind.Region id b has).is has (λ x. refl) (λ x. refl) lawful is
consistent_props f kind.Group id member b has lawful is = listed Props kind.Group id member f (λ e. record e { props = f e.props }) b _ (props_owner kind.Group id b has).is has (λ x. refl) (λ x. refl) lawful is
consistent_props f k id member b has lawful is = is

consistent_changed : (f : List ℕ → List ℕ) (of : ListOf) (member : ℕ) (b : Block) → HasList of b → IsChange f (sort_of of) member (list_at of b) b → IsConsistent b → IsConsistent (on_list f of b)
unfolding owner
consistent_changed f (list.Terms object) member b has lawful is = listed Terms kind.Net object.0 member f (λ e. record e { terms = f e.terms }) b _ (owner (list.Terms object) b has).is has (λ x. refl) (λ x. refl) lawful is
consistent_changed f (list.Wires object) member b has lawful is = listed Wires kind.Net object.0 member f (λ e. record e { wires = f e.wires }) b _ (owner (list.Wires object) b has).is has (λ x. refl) (λ x. refl) lawful is
consistent_changed f (list.Members object) member b has lawful is = listed Members kind.Group object.0 member f (λ e. record e { members = f e.members }) b _ (owner (list.Members object) b has).is has (λ x. refl) (λ x. refl) lawful is
consistent_changed f (list.Pins object) member b has lawful is = listed Pins kind.BTerm object.0 member f (λ e. record e { pins = f e.pins }) b _ (owner (list.Pins object) b has).is has (λ x. refl) (λ x. refl) lawful is
consistent_changed f (list.Groups object) member b has lawful is = listed Groups kind.Region object.0 member f (λ e. record e { groups = f e.groups }) b _ (owner (list.Groups object) b has).is has (λ x. refl) (λ x. refl) lawful is
consistent_changed f (list.Props k id) member b has lawful is = consistent_props f k id member b has lawful is
consistent_changed f (list.InstTerms inst) member b has lawful is = is

module _ (of : ListOf) (member : ℕ) (b : Block) where
  list_distinct : HasList of b → IsConsistent b → IsDistinct (list_at of b)
  list_distinct has is = let o = owner of b has in subst IsDistinct (sym o.is) (is.distinct (sort_of of) o.kind o.id)

  list_outside : HasList of b → IsInNone (sort_of of) member b → holds (list_at of b) member ≡ false
  list_outside has none = let o = owner of b has in ap (λ l. holds l member) o.is ∙ none o.kind o.id

  enters_from : CanEnter of member b → {S : Type 0} (m : ℕ) → (m ≡ member) ⊎ S → Enters (sort_of of) member b m ⊎ S
  enters_from can m (inl same) = let o = outside_by of member b can.outside in inl (record { is = same; there = o.0; outside = o.1 })
  enters_from can m (inr stood) = inr stood

  -- a member enters in front, or before another, and one leaves
  pub consistent_linked : CanEnter of member b → IsConsistent b → IsConsistent (on_list (λ members. member ∷ members) of b)
  consistent_linked can is =
      let out = list_outside can.has (outside_by of member b can.outside).1 in
      consistent_changed (λ members. member ∷ members) of member b can.has
      ((out, list_distinct can.has is), λ m h. enters_from can m (holds_front member m (list_at of b) h)) is

  pub consistent_relinked : (next : Option ℕ) → CanEnter of member b → IsConsistent b → IsConsistent (on_list (placed member next) of b)
  consistent_relinked next can is =
      let out = list_outside can.has (outside_by of member b can.outside).1 in
      consistent_changed (placed member next) of member b can.has
      (distinct_placed member next (list_at of b) out (list_distinct can.has is), λ m h. enters_from can m (placed_holds member next (list_at of b) m h)) is

  pub consistent_unlinked : HasList of b → IsConsistent b → IsConsistent (on_list (without member) of b)
  consistent_unlinked has is =
      consistent_changed (without member) of member b has
      (distinct_without member (list_at of b) (list_distinct has is), λ m h. inr (holds_without member (list_at of b) m h)) is
