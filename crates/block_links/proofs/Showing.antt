-- A table of cells shows a table of entries still, where the object of one identifier changes in both.
use Rattle.std.proofs.Common.{◌≡◌, ◌≢◌, ℕ, Option, None, Some, refl, sym, ap, ◌∙◌, inl, inr}
use Rattle.std.specs.Option.{option_map, option_map_or}
use Rattle.std.proofs.lemmas.Bool.{cases_eq}
use Rattle.slot_pool.specs.Mapped.{on_record}
use Rattle.slot_pool.specs.Table.{Table, record_at}
use Rattle.slot_pool.proofs.Mapped.{at_on, at_on_other, free_on, slots_on}
use Rattle.odb_base.specs.declared.codes.kind.Kind.{Kind}
use Rattle.block_cells.specs.Cells.{Cell}
use Rattle.block_store.specs.Consistent.{OwnLists, lists_in, no_lists, own_lists}
use Rattle.block_store.specs.Kinds.{Entry}
use Rattle.block_links.specs.Standing.{Shows, entry}

module _ (k : Kind) (t : Table (Cell k)) (u : Table (Entry k)) (shows : Shows k t u) (id : ℕ) (on_cell : Cell k → Cell k) (on_entry : Entry k → Entry k)
    (on_lists : OwnLists → OwnLists)
    (same : (x : Cell k) (l : OwnLists) → on_entry (entry k x l) ≡ entry k (on_cell x) (on_lists l))
    (lists : (e : Entry k) → own_lists k (on_entry e) ≡ on_lists (own_lists k e)) where
  abbrev t' : Table (Cell k)
  t' = on_record on_cell id t

  abbrev u' : Table (Entry k)
  u' = on_record on_entry id u

  there : (o : Option (Cell k)) → record_at t id ≡ o → record_at u' id ≡ option_map (λ x. entry k x (lists_in k u' id)) (record_at t' id)
  there None is =
      let none : record_at u id ≡ None = shows.rows id ∙ ap (option_map (λ x. entry k x (lists_in k u id))) is in
      at_on on_entry id u ∙ ap (option_map on_entry) none
      ∙ sym (ap (option_map (λ x. entry k x (lists_in k u' id))) (at_on on_cell id t ∙ ap (option_map on_cell) is))
  there (Some x) is =
      let l = lists_in k u id in
      let was : record_at u id ≡ Some (entry k x l) = shows.rows id ∙ ap (option_map (λ x. entry k x l)) is in
      let now : record_at u' id ≡ Some (on_entry (entry k x l)) = at_on on_entry id u ∙ ap (option_map on_entry) was in
      let before : l ≡ own_lists k (entry k x l) = ap (λ (o : Option (Entry k)). option_map_or (own_lists k) o no_lists) was in
      let after : lists_in k u' id ≡ on_lists l = ap (λ (o : Option (Entry k)). option_map_or (own_lists k) o no_lists) now ∙ lists (entry k x l) ∙ ap on_lists (sym before) in
      now ∙ ap Some (same x l ∙ ap (entry k (on_cell x)) (sym after))
      ∙ sym (ap (option_map (λ x. entry k x (lists_in k u' id))) (at_on on_cell id t ∙ ap (option_map on_cell) is))

  elsewhere : (other : ℕ) → other ≢ id → record_at u' other ≡ option_map (λ x. entry k x (lists_in k u' other)) (record_at t' other)
  elsewhere other apart =
      let stays : record_at u' other ≡ record_at u other = at_on_other on_entry id other u apart in
      let lists' : lists_in k u' other ≡ lists_in k u other = ap (λ (o : Option (Entry k)). option_map_or (own_lists k) o no_lists) stays in
      stays ∙ shows.rows other ∙ ap (option_map (λ x. entry k x (lists_in k u other))) (sym (at_on_other on_cell id other t apart))
      ∙ ap (λ l. option_map (λ x. entry k x l) (record_at t' other)) (sym lists')

  pub shows_on : Shows k t' u'
  shows_on = record {
    slots = slots_on on_cell id t ∙ shows.slots ∙ sym (slots_on on_entry id u);
    free = free_on on_cell id t ∙ shows.free ∙ sym (free_on on_entry id u);
    rows = λ other. elim (cases_eq other id) [
      | inl e ↦ rw e (there (record_at t id) refl)
      | inr e ↦ elsewhere other e
    ];
  }
