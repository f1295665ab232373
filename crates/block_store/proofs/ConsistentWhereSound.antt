-- A sound block is consistent.
use Rattle.std.proofs.Common.{◌≡◌, ◌≤◌, ◌/◌, true, List, [], ℕ, Option, None, Some, is_some, refl, sym, ap, subst, ◌∙◌, arith, inl, inr}
use Rattle.std.specs.Option.{option_map_or}
use Rattle.std.proofs.lemmas.Bool.{cases_eq, false≢true}
use Rattle.slot_pool.specs.Table.{record_at}
use Rattle.odb_base.specs.Ids.{IsDistinct, holds}
use Rattle.odb_base.specs.declared.codes.kind.Kind.{Kind}
use Rattle.odb_base.specs.declared.codes.kind.Kind.TheVariants as kind
use Rattle.block_records.specs.Header.{new_header}
use Rattle.tech.specs.Technology.{Technology, empty_technology}
use Rattle.library.specs.declared.master.Master.{Master}
use Rattle.block_store.specs.Alone.{IsTerminal, OfBlock, OfInst}
use Rattle.block_store.specs.Block.{Block, empty_block}
use Rattle.block_store.specs.Consistent.{Holds, IsConsistent, IsThere, ListSort, Terms, lists_of, no_lists, of_sort, own_lists}
use Rattle.block_store.specs.KindLaws.{Parts}
use Rattle.block_store.specs.Kinds.{Entry, table_of}
use Rattle.block_store.specs.Lists.{bterm_number, iterm_number}
use Rattle.block_store.specs.Sound.{IsSound, bterm_net, iterm_net, net_terms}
use Rattle.block_store.specs.View.{laws}
use Rattle.block_store.proofs.Changed.{parts_by}
use Rattle.block_store.proofs.ConsistentLists.{list_none}
use Rattle.block_store.proofs.Databases.{no_master, sound_empty}
use Rattle.block_store.proofs.Held.{held_names}
use Rattle.block_store.proofs.Joined.{bterms_held, iterms_held, list_seen_by, net_of_member, number_is, terms_distinct}
use Rattle.block_store.proofs.Shown.{from_one}

-- the lawful entry of a kind has no list but the terminals of a net
only_terms : (parts : Parts) (k : Kind) (o : Option (Entry k)) → ((x : Entry k) → o ≡ Some x → (laws k).Is parts x) → option_map_or (own_lists k) o no_lists ≡ record no_lists { terms = (option_map_or (own_lists k) o no_lists).terms }
only_terms parts k None is = refl
only_terms parts kind.Inst (Some x) is = ap (λ l. record no_lists { props = l }) (is x refl).props
only_terms parts kind.Net (Some x) is = let net = is x refl in rw (net.wires, net.props) refl
only_terms parts kind.BTerm (Some x) is = ap (λ l. record no_lists { pins = l }) (is x refl).pins
only_terms parts kind.Row (Some x) is = ap (λ l. record no_lists { props = l }) (is x refl).props
only_terms parts kind.Region (Some x) is = absurd (is x refl)
only_terms parts kind.Group (Some x) is = absurd (is x refl)
only_terms parts k (Some x) is = refl

-- what a terminal names is there, and so is the terminal
names_live : {A : Type 0} (net_of : A → ℕ) (o : Option A) (net : ℕ) → 1 ≤ net → option_map_or net_of o 0 ≡ net → is_some o ≡ true
names_live net_of None net some named = absurd (omega arith)
names_live net_of (Some x) net some named = refl

-- an object with terminals is a net
record OfNet (b : Block) (k : Kind) (id member : ℕ) : Type 0 where
  pub kind : k ≡ kind.Net
  pub inside : holds (net_terms b id) member ≡ true

net_list : (b : Block) (id : ℕ) → of_sort Terms (lists_of b kind.Net id) ≡ net_terms b id
net_list b id = list_seen_by (own_lists kind.Net) no_lists (λ l. l.terms) (record_at b.net id) refl

of_net : (b : Block) (k : Kind) (id member : ℕ) → Holds Terms k id member b → OfNet b k id member
of_net b kind.Net id member h = record { kind = refl; inside = ap (λ l. holds l member) (sym (net_list b id)) ∙ h }
of_net b k id member h = absurd (false≢true (sym (ap (λ l. holds l member) (list_none (own_lists k) (λ l. l.terms) (record_at (table_of k b) id) refl (λ x. refl))) ∙ h))

module _ (tech : Technology) (library : List Master) (cap : ℕ) (b : Block) (sound : IsSound tech library cap b) where
  only_nets : (k : Kind) (id : ℕ) → lists_of b k id ≡ record no_lists { terms = (lists_of b k id).terms }
  only_nets k id = only_terms (parts_by tech library b.header) k (record_at (table_of k b) id) (λ x found. (sound.kinds k).each id x found)

  from_one_net : (net member : ℕ) → holds (net_terms b net) member ≡ true → 1 ≤ net
  from_one_net net member inside = from_one b.net net (net_of_member tech library cap b net member inside)

  -- the net that holds a terminal is the one that the terminal names
  iterm_names : (net id : ℕ) → holds (net_terms b net) (iterm_number id) ≡ true → iterm_net b id ≡ net
  iterm_names net id inside = held_names (net_terms b) iterm_number (iterm_net b) net id (from_one_net net (iterm_number id) inside) inside (iterms_held tech library cap b sound)

  bterm_names : (net id : ℕ) → holds (net_terms b net) (bterm_number id) ≡ true → bterm_net b id ≡ net
  bterm_names net id inside = held_names (net_terms b) bterm_number (bterm_net b) net id (from_one_net net (bterm_number id) inside) inside (bterms_held tech library cap b sound)

  terminal_there : (net member : ℕ) → holds (net_terms b net) member ≡ true → IsTerminal b member
  terminal_there net member inside =
      let some = from_one_net net member inside in
      elim (number_is member) [
        | inl e ↦ subst (IsTerminal b) (sym e) (OfInst (member / 2) (names_live (λ r. r.net) (record_at b.iterm (member / 2)) net some (iterm_names net (member / 2) (ap (holds (net_terms b net)) (sym e) ∙ inside))))
        | inr e ↦ subst (IsTerminal b) (sym e) (OfBlock (member / 2) (names_live (λ e. e.fields.net) (record_at b.bterm (member / 2)) net some (bterm_names net (member / 2) (ap (holds (net_terms b net)) (sym e) ∙ inside))))
      ]

  same_net : (one other member : ℕ) → holds (net_terms b one) member ≡ true → holds (net_terms b other) member ≡ true → one ≡ other
  same_net one other member here there = elim (number_is member) [
    | inl e ↦ sym (iterm_names one (member / 2) (ap (holds (net_terms b one)) (sym e) ∙ here)) ∙ iterm_names other (member / 2) (ap (holds (net_terms b other)) (sym e) ∙ there)
    | inr e ↦ sym (bterm_names one (member / 2) (ap (holds (net_terms b one)) (sym e) ∙ here)) ∙ bterm_names other (member / 2) (ap (holds (net_terms b other)) (sym e) ∙ there)
  ]

  -- no list but the terminals of a net has a member
  none_held : {R : Type 0} (s : ListSort) (k : Kind) (id member : ℕ) → of_sort s (record no_lists { terms = (lists_of b k id).terms }) ≡ [] → Holds s k id member b → R
  none_held s k id member none h = absurd (false≢true (sym (ap (λ l. holds l member) (ap (of_sort s) (only_nets k id) ∙ none)) ∙ h))

  there_by : (s : ListSort) (k : Kind) (id member : ℕ) → Holds s k id member b → IsThere s member b
  there_by Terms k id member h = terminal_there id member (of_net b k id member h).inside
  there_by s k id member h = none_held s k id member refl h

  one_by : (s : ListSort) (k j : Kind) (id other member : ℕ) → Holds s k id member b → Holds s j other member b → (k ≡ j) × (id ≡ other)
  one_by Terms k j id other member here there =
      let a = of_net b k id member here in
      let z = of_net b j other member there in
      (a.kind ∙ sym z.kind, same_net id other member a.inside z.inside)
  one_by s k j id other member here there = none_held s k id member refl here

  distinct_net : (id : ℕ) → IsDistinct (of_sort Terms (lists_of b kind.Net id))
  distinct_net id = elim (cases_eq id 0) [
    | inl e ↦ subst (λ i. IsDistinct (of_sort Terms (lists_of b kind.Net i))) (sym e) tt
    | inr e ↦ subst IsDistinct (sym (net_list b id)) (terms_distinct tech library cap b sound id (omega arith))
  ]

  distinct_by : (s : ListSort) (k : Kind) (id : ℕ) → IsDistinct (of_sort s (lists_of b k id))
  distinct_by Terms kind.Net id = distinct_net id
  distinct_by Terms k id = subst IsDistinct (sym (list_none (own_lists k) (λ l. l.terms) (record_at (table_of k b) id) refl (λ x. refl))) tt
  distinct_by s k id = subst (λ l. IsDistinct (of_sort s l)) (sym (only_nets k id)) tt

  -- a sound block is consistent
  pub consistent_where_sound : IsConsistent b
  consistent_where_sound = record { good = λ k. (sound.kinds k).table.good; names = λ k. (sound.kinds k).named; there = there_by; distinct = distinct_by; one = one_by }

-- and so is one without objects
pub consistent_empty : IsConsistent (empty_block new_header)
consistent_empty = consistent_where_sound empty_technology [] 0 (empty_block new_header) (sound_empty empty_technology [] 0 (λ id m found. absurd (no_master id m found)))
