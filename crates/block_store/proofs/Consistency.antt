-- Blocks stay consistent where one table changes: where all lists stand, and where one list gets or loses a member.
use Rattle.std.proofs.Common.{◌≡◌, true, false, List, ℕ, IsTrue, is_some, refl, sym, ap, subst, ◌∙◌, ◌⊎◌, inl, inr}
use Rattle.std.specs.Option.{option_map_or}
use Rattle.std.proofs.lemmas.Bool.{cases_eq, false≢true}
use Rattle.slot_pool.specs.Table.{IsGood, Table, is_live, next_id, taken}
use Rattle.odb_base.specs.Ids.{IsDistinct, holds}
use Rattle.odb_base.specs.declared.codes.kind.Kind.{Kind}
use Rattle.odb_base.specs.declared.codes.kind.Kind.TheVariants as kind
use Rattle.block_store.specs.Alone.{IsTerminal, OfBlock, OfInst}
use Rattle.block_store.specs.Block.{Block}
use Rattle.block_store.specs.Consistent.{Groups, Holds, IsConsistent, IsThere, ListSort, Members, OwnLists, Pins, Props, Terms, Wires, lists_in, lists_of, no_lists, of_sort, own_lists}
use Rattle.block_store.specs.Kinds.{Entry, on_entry, table_of, with_table}
use Rattle.slot_pool.specs.Mapped.{on_record}
use Rattle.block_store.specs.Tables.{HasDistinctNames}
use Rattle.block_store.specs.View.{laws}
use Rattle.block_store.proofs.Changed.{HasNewName, KeepsName, names_on, names_taken}
use Rattle.block_store.proofs.OneTable.{stays}
use Rattle.slot_pool.proofs.Mapped.{at_on_other, at_taken, at_taken_other, good_on, live_record, view_on}
use Rattle.block_store.proofs.Shown.{live_on, view_at_on, view_taken}
use Rattle.block_store.proofs.TableLemmas.{good_taken}

-- terminals that are there in one block are there in another
pub terminal_moved : (b c : Block) → ((id : ℕ) → IsTrue (is_live b.iterm id) → IsTrue (is_live c.iterm id)) → ((id : ℕ) → IsTrue (is_live b.bterm id) → IsTrue (is_live c.bterm id)) → (member : ℕ) → IsTerminal b member → IsTerminal c member
terminal_moved b c iterms bterms member (OfInst id live) = OfInst id (iterms id live)
terminal_moved b c iterms bterms member (OfBlock id live) = OfBlock id (bterms id live)

-- where who was there still is, so is who a member stands for
there_moved : (b c : Block) → ((k : Kind) (id : ℕ) → IsTrue (is_live (table_of k b) id) → IsTrue (is_live (table_of k c) id)) → (s : ListSort) (member : ℕ) → IsThere s member b → IsThere s member c
there_moved b c kept Terms member there = terminal_moved b c (kept kind.ITerm) (kept kind.BTerm) member there
there_moved b c kept Wires member there = kept kind.Wire member there
there_moved b c kept Members member there = kept kind.Inst member there
there_moved b c kept Pins member there = kept kind.Pin member there
there_moved b c kept Groups member there = kept kind.Group member there
there_moved b c kept Props member there = kept kind.Prop member there

module _ (k : Kind) (t : Table (Entry k)) (b : Block) where
  live_kept : ((id : ℕ) → IsTrue (is_live (table_of k b) id) → IsTrue (is_live t id)) → (other : Kind) (id : ℕ) → IsTrue (is_live (table_of other b) id) → IsTrue (is_live (table_of other (with_table k t b)) id)
  live_kept kept = stays (λ other u. (id : ℕ) → IsTrue (is_live (table_of other b) id) → IsTrue (is_live u id)) k t b kept (λ other id live. live)

  pub there_kept : ((id : ℕ) → IsTrue (is_live (table_of k b) id) → IsTrue (is_live t id)) → (s : ListSort) (member : ℕ) → IsThere s member b → IsThere s member (with_table k t b)
  there_kept kept = there_moved b (with_table k t b) (live_kept kept)

  -- a table with the lists that it had
  pub consistent_table : IsGood t → HasDistinctNames (laws k).name t → ((id : ℕ) → lists_in k t id ≡ lists_of b k id) → ((s : ListSort) (j : Kind) (id member : ℕ) → Holds s j id member b → IsThere s member (with_table k t b)) → IsConsistent b → IsConsistent (with_table k t b)
  consistent_table good names same there is =
      let c = with_table k t b in
      let lists : (j : Kind) (id : ℕ) → lists_of c j id ≡ lists_of b j id = stays (λ j u. (id : ℕ) → lists_in j u id ≡ lists_of b j id) k t b same (λ j id. refl) in
      let before : (s : ListSort) (j : Kind) (id member : ℕ) → Holds s j id member c → Holds s j id member b = λ s j id member h. ap (λ l. holds (of_sort s l) member) (sym (lists j id)) ∙ h in
      record {
        good = stays (λ j u. IsGood u) k t b good is.good;
        names = stays (λ j u. HasDistinctNames (laws j).name u) k t b names is.names;
        there = λ s j id member h. there s j id member (before s j id member h);
        distinct = λ s j id. subst (λ l. IsDistinct (of_sort s l)) (sym (lists j id)) (is.distinct s j id);
        one = λ s i j id other member here there. is.one s i j id other member (before s i id member here) (before s j other member there);
      }

-- who was there before a take is there
live_taken : {A : Type 0} (x : A) (t : Table A) → IsGood t → (id : ℕ) → IsTrue (is_live t id) → IsTrue (is_live (taken x t) id)
live_taken x t good id live = elim (cases_eq id (next_id t 0)) [
  | inl e ↦ ap (λ i. is_live (taken x t) i) e ∙ ap is_some (at_taken x t good)
  | inr e ↦ ap is_some (at_taken_other x t id good e) ∙ live
]

module _ (k : Kind) (b : Block) where
  -- an object comes that has no members, and whose name no object has
  pub consistent_made : (x : Entry k) → own_lists k x ≡ no_lists → HasNewName (laws k).name x (table_of k b) → IsConsistent b → IsConsistent (with_table k (taken x (table_of k b)) b)
  consistent_made x bare new is =
      let t = table_of k b in
      consistent_table k (taken x t) b (good_taken x t (is.good k)) (names_taken (laws k).name x t (is.good k) new (is.names k))
      (view_taken (λ o. option_map_or (own_lists k) o no_lists) x t (is.good k) bare)
      (λ s j id member h. there_kept k (taken x t) b (live_taken x t (is.good k)) s member (is.there s j id member h)) is

  -- an entry changes, and keeps its lists
  pub consistent_entry : (change : Entry k → Entry k) (id : ℕ) → HasDistinctNames (laws k).name (on_record change id (table_of k b)) → ((x : Entry k) → own_lists k (change x) ≡ own_lists k x) → IsConsistent b → IsConsistent (on_entry k change id b)
  consistent_entry change id names same is =
      let t = table_of k b in
      consistent_table k (on_record change id t) b (good_on change id t (is.good k)) names
      (view_on (λ o. option_map_or (own_lists k) o no_lists) change id t (λ x found. same x))
      (λ s j o member h. there_kept k (on_record change id t) b (live_on change id t) s member (is.there s j o member h)) is

  -- and its name too
  pub consistent_field : (change : Entry k → Entry k) (id : ℕ) → KeepsName (laws k).name change → ((x : Entry k) → own_lists k (change x) ≡ own_lists k x) → IsConsistent b → IsConsistent (on_entry k change id b)
  consistent_field change id keeps same is = consistent_entry change id (names_on (laws k).name change id (table_of k b) keeps (is.names k)) same is

-- one of the lists changed
abbrev pub on_sort : ListSort → (List ℕ → List ℕ) → OwnLists → OwnLists
on_sort Terms f l = record l { terms = f l.terms }
on_sort Wires f l = record l { wires = f l.wires }
on_sort Members f l = record l { members = f l.members }
on_sort Pins f l = record l { pins = f l.pins }
on_sort Groups f l = record l { groups = f l.groups }
on_sort Props f l = record l { props = f l.props }

of_on : (r s : ListSort) (f : List ℕ → List ℕ) (l : OwnLists) → (of_sort r (on_sort s f l) ≡ of_sort r l) ⊎ ((r ≡ s) × (of_sort r (on_sort s f l) ≡ f (of_sort s l)))
of_on Terms Terms f l = inr (refl, refl)
of_on Wires Wires f l = inr (refl, refl)
of_on Members Members f l = inr (refl, refl)
of_on Pins Pins f l = inr (refl, refl)
of_on Groups Groups f l = inr (refl, refl)
of_on Props Props f l = inr (refl, refl)
of_on r s f l = inl refl

-- no list of the sort has the member
abbrev pub IsInNone : ListSort → ℕ → Block → Type 0
IsInNone s member b = (k : Kind) (id : ℕ) → holds (of_sort s (lists_of b k id)) member ≡ false

-- who enters a list of the sort was there, and in no list of the sort
pub record Enters (s : ListSort) (member : ℕ) (b : Block) (m : ℕ) : Type 0 where
  pub is : m ≡ member
  pub there : IsThere s member b
  pub outside : IsInNone s member b

-- what stands in a list came into that of this object
record Entered (s : ListSort) (k : Kind) (id member : ℕ) (b : Block) (r : ListSort) (j : Kind) (o m : ℕ) : Type 0 where
  pub sort : r ≡ s
  pub kind : j ≡ k
  pub object : o ≡ id
  pub enters : Enters s member b m

module _ (s : ListSort) (k : Kind) (id member : ℕ) (f : List ℕ → List ℕ) (change : Entry k → Entry k) (b : Block) where
  abbrev c : Block
  c = on_entry k change id b

  abbrev old : List ℕ
  old = of_sort s (lists_of b k id)

  abbrev Came : ListSort → Kind → ℕ → ℕ → Type 0
  Came r j o m = Holds r j o m b ⊎ Entered s k id member b r j o m

  lists_now : ((x : Entry k) → own_lists k (change x) ≡ on_sort s f (own_lists k x)) → IsTrue (is_live (table_of k b) id) → lists_in k (on_record change id (table_of k b)) id ≡ on_sort s f (lists_of b k id)
  lists_now changes live =
      let t = table_of k b in
      let x = live_record t id live in
      view_at_on (λ o. option_map_or (own_lists k) o no_lists) change id x.value t x.is ∙ changes x.value
      ∙ ap (on_sort s f) (sym (ap (λ o. option_map_or (own_lists k) o no_lists) x.is))

  came_here : ((m : ℕ) → holds (f old) m ≡ true → Enters s member b m ⊎ (holds old m ≡ true)) → (r : ListSort) (m : ℕ) → holds (of_sort r (on_sort s f (lists_of b k id))) m ≡ true → Came r k id m
  came_here enters r m h = elim (of_on r s f (lists_of b k id)) [
    | inl same ↦ inl (ap (λ l. holds l m) (sym same) ∙ h)
    | inr new ↦ elim (enters m (ap (λ l. holds l m) (sym new.1) ∙ h)) [
      | inl e ↦ inr (record { sort = new.0; kind = refl; object = refl; enters = e })
      | inr e ↦ inl (ap (λ q. holds (of_sort q (lists_of b k id)) m) new.0 ∙ e)
    ]
  ]

  came_table : lists_in k (on_record change id (table_of k b)) id ≡ on_sort s f (lists_of b k id) → ((m : ℕ) → holds (f old) m ≡ true → Enters s member b m ⊎ (holds old m ≡ true)) → (r : ListSort) (o m : ℕ) → holds (of_sort r (lists_in k (on_record change id (table_of k b)) o)) m ≡ true → Came r k o m
  came_table now enters r o m h = elim (cases_eq o id) [
    | inl e ↦ subst (λ i. Came r k i m) (sym e) (came_here enters r m (ap (λ l. holds (of_sort r l) m) (sym now) ∙ ap (λ i. holds (of_sort r (lists_in k (on_record change id (table_of k b)) i)) m) (sym e) ∙ h))
    | inr e ↦ inl (ap (λ q. holds (of_sort r (option_map_or (own_lists k) q no_lists)) m) (sym (at_on_other change id o (table_of k b) e)) ∙ h)
  ]

  distinct_table : lists_in k (on_record change id (table_of k b)) id ≡ on_sort s f (lists_of b k id) → IsDistinct (f old) → IsConsistent b → (r : ListSort) (o : ℕ) → IsDistinct (of_sort r (lists_in k (on_record change id (table_of k b)) o))
  distinct_table now distinct is r o = elim (cases_eq o id) [
    | inl e ↦ subst (λ i. IsDistinct (of_sort r (lists_in k (on_record change id (table_of k b)) i))) (sym e) (subst (λ l. IsDistinct (of_sort r l)) (sym now) (elim (of_on r s f (lists_of b k id)) [
      | inl same ↦ subst IsDistinct (sym same) (is.distinct r k id)
      | inr new ↦ subst IsDistinct (sym new.1) distinct
    ]))
    | inr e ↦ subst (λ q. IsDistinct (of_sort r (option_map_or (own_lists k) q no_lists))) (sym (at_on_other change id o (table_of k b) e)) (is.distinct r k o)
  ]

  -- who stood in a list, and who came into one, stand apart
  not_both : {R : Type 0} (r : ListSort) (i j : Kind) (o p m : ℕ) → Holds r i o m b → Entered s k id member b r j p m → R
  not_both r i j o p m here came =
      absurd (false≢true (sym (came.enters.outside i o) ∙ ap (λ q. holds (of_sort q (lists_of b i o)) member) (sym came.sort) ∙ ap (holds (of_sort r (lists_of b i o))) (sym came.enters.is) ∙ here))

  one_by : IsConsistent b → (r : ListSort) (i j : Kind) (o p m : ℕ) → Came r i o m → Came r j p m → (i ≡ j) × (o ≡ p)
  one_by is r i j o p m (inl here) (inl there) = is.one r i j o p m here there
  one_by is r i j o p m (inl here) (inr there) = not_both r i j o p m here there
  one_by is r i j o p m (inr here) (inl there) = not_both r j i p o m there here
  one_by is r i j o p m (inr here) (inr there) = (here.kind ∙ sym there.kind, here.object ∙ sym there.object)

  there_by : IsConsistent b → (r : ListSort) (j : Kind) (o m : ℕ) → Came r j o m → IsThere r m b
  there_by is r j o m (inl here) = is.there r j o m here
  there_by is r j o m (inr came) = subst (λ q. IsThere q m b) (sym came.sort) (subst (λ n. IsThere s n b) (sym came.enters.is) came.enters.there)

  -- a list changes, in which none stands twice then, and who enters comes from outside
  pub consistent_listed : IsTrue (is_live (table_of k b) id) → KeepsName (laws k).name change → ((x : Entry k) → own_lists k (change x) ≡ on_sort s f (own_lists k x)) → IsDistinct (f old) → ((m : ℕ) → holds (f old) m ≡ true → Enters s member b m ⊎ (holds old m ≡ true)) → IsConsistent b → IsConsistent c
  consistent_listed live keeps changes distinct enters is =
      let t = table_of k b in
      let u = on_record change id t in
      let now = lists_now changes live in
      let came : (j : Kind) (r : ListSort) (o m : ℕ) → Holds r j o m c → Came r j o m = stays (λ j v. (r : ListSort) (o m : ℕ) → holds (of_sort r (lists_in j v o)) m ≡ true → Came r j o m) k u b (came_table now enters) (λ j r o m h. inl h) in
      let each : (j : Kind) (r : ListSort) (o : ℕ) → IsDistinct (of_sort r (lists_of c j o)) = stays (λ j v. (r : ListSort) (o : ℕ) → IsDistinct (of_sort r (lists_in j v o))) k u b (distinct_table now distinct is) (λ j r o. is.distinct r j o) in
      record {
        good = stays (λ j v. IsGood v) k u b (good_on change id t (is.good k)) is.good;
        names = stays (λ j v. HasDistinctNames (laws j).name v) k u b (names_on (laws k).name change id t keeps (is.names k)) is.names;
        there = λ r j o m h. there_kept k u b (live_on change id t) r m (there_by is r j o m (came j r o m h));
        distinct = λ r j o. each j r o;
        one = λ r i j o p m here there. one_by is r i j o p m (came i r o m here) (came j r p m there);
      }
