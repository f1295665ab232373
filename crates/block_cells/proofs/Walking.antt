-- A walk over a list: what is left, and what is left behind its first member.
use Rattle.std.proofs.Common.{◌≡◌, ◌≢◌, ◌≤◌, Bool, true, false, List, [], ◌∷◌, ℕ, sym, ap, ◌∙◌, arith}
use Rattle.std.proofs.lemmas.Bool.{false≢true}
use Rattle.link_list.specs.declared.link.Link.{Link}
use Rattle.link_list.specs.Standing.{AreLinked, members_from, number}
use Rattle.link_list.proofs.Linking.{member_is_cell}
use Rattle.link_list.proofs.Reading.{members-linked}
use Rattle.odb_base.specs.Ids.{IsDistinct, first}
use Rattle.odb_base.proofs.Distinct.{AreUpTo, length-distinct}
use Rattle.block_cells.specs.Walking.{IsRest}

module _ (cell : ℕ → Bool) (link : ℕ → Link) (none : cell 0 ≡ false) (most : ℕ) (few : (id : ℕ) → cell id ≡ true → id ≤ most) where
  members_are : (before : ℕ) (ids : List ℕ) → AreLinked cell link before ids 0 → IsDistinct ids → members_from link most (number (first ids)) ≡ ids
  members_are before ids linked distinct =
      let up_to : AreUpTo most ids = λ id inside.
      let is = member_is_cell cell link before ids 0 id linked inside in
      let some : id ≢ 0 = λ e. false≢true (sym none ∙ ap cell (sym e) ∙ is) in
      (omega (arith, some), few id is)
      in
      members-linked cell link none before ids most linked (length-distinct most ids distinct up_to)

  -- the first of them, and what is left behind it
  pub record Step (next : ℕ) : Type 0 where
    pub is_cell : cell next ≡ true
    pub rest : IsRest cell link (link next).after
    pub members : members_from link most next ≡ next ∷ members_from link most (link next).after

  step_of : (next before : ℕ) (ids : List ℕ) → AreLinked cell link before ids 0 → IsDistinct ids → next ≡ number (first ids) → next ≢ 0 → Step next
  step_of next before [] linked distinct is some = absurd (some is)
  step_of next before (id ∷ ids) linked distinct is some =
      let link_is : link next ≡ record { before = before; after = number (first ids) } = ap link is ∙ linked.1 in
      let behind : (link next).after ≡ number (first ids) = ap (λ (l : Link). l.after) link_is in
      record {
        is_cell = ap cell is ∙ linked.0;
        rest = record { before = id; ids = ids; linked = linked.2; distinct = distinct.1; first_member = behind };
        members = ap (members_from link most) is ∙ members_are before (id ∷ ids) linked distinct
            ∙ ap (λ i. i ∷ ids) (sym is)
            ∙ ap (λ l. next ∷ l) (sym (ap (members_from link most) behind ∙ members_are id ids linked.2 distinct.1));
      }

  pub step : (next : ℕ) → IsRest cell link next → next ≢ 0 → Step next
  step next rest some = step_of next rest.before rest.ids rest.linked rest.distinct rest.first_member some
