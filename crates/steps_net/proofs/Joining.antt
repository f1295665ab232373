-- A terminal is joined to a net or parted from it: the block stays sound, and the way back leads to it.
use Rattle.std.proofs.Common.{◌≡◌, ◌≤◌, true, eqb, eq-eqb, List, ◌∷◌, ◌++◌, [], ℕ, Option, Some, None, IsTrue, refl, sym, ap, ◌∙◌, subst}
use Rattle.std.specs.Option.{IfSome, option_map}
use Rattle.std.proofs.lemmas.Bool.{false≢true, or_left, or_right}
use Rattle.slot_pool.specs.Table.{Table, is_live, record_at}
use Rattle.odb_base.specs.Ids.{IsDistinct, after, first, holds, placed, without}
use Rattle.odb_base.proofs.Ids.{holds-append}
use Rattle.odb_base.proofs.Splits.{after-split, split_at, without-split}
use Rattle.odb_base.specs.declared.codes.kind.Kind.{Kind}
use Rattle.odb_base.specs.declared.codes.kind.Kind.TheVariants as kind
use Rattle.block_records.specs.declared.iterm.ITermRec.{ITermRec}
use Rattle.tech.specs.Technology.{Technology}
use Rattle.library.specs.declared.master.Master.{Master}
use Rattle.block_store.specs.declared.entry.BTermEntry.{BTermEntry}
use Rattle.block_store.specs.declared.entry.NetEntry.{NetEntry}
use Rattle.block_store.specs.declared.list_of.ListOf.TheVariants as list
use Rattle.block_store.specs.Block.{Block, live_in}
use Rattle.block_store.specs.Fields.{HasNet, net_in}
use Rattle.slot_pool.specs.Mapped.{on_record}
use Rattle.block_store.specs.Lists.{bterm_number, iterm_number, list_in, on_list, term_number}
use Rattle.block_store.specs.Moves.{with_net}
use Rattle.block_store.specs.Sorts.{BTermsOfNet, ITermsOfNet, Sort, list_of, owner_of, sort}
use Rattle.block_store.specs.Sound.{IsSound, net_terms}
use Rattle.block_store.specs.View.{view}
use Rattle.block_store.proofs.Joined.{bterm_enters, bterm_inside, bterm_seen, iterm_enters, iterm_inside, iterm_seen, net_of_member, net_shown, none_is, shown_by, some_is, terms_distinct, terms_seen}
use Rattle.block_store.proofs.MovedMembers.{back_entered, back_left, left, member_inside, returned, sound_entered, sound_left}
use Rattle.slot_pool.proofs.Mapped.{live_record}
use Rattle.block_store.proofs.Shown.{from_one, live_by, live_on, view_at_on}
use Rattle.steps_net.specs.Can.{CanJoin, CanPart}
use Rattle.steps_net.specs.Terms.{IsJoinable, IsJoined}

module _ (tech : Technology) (library : List Master) (cap : ℕ) (d : Block) where
  -- a terminal of an instance that is joined, or isn't
  iterm_named : (id net : ℕ) → net_in kind.ITerm id d ≡ Some net → owner_of ITermsOfNet (view d) id ≡ net
  iterm_named id net joined = iterm_seen d id ∙ net_shown (λ r. r.net) (record_at d.iterm id) net joined

  iterm_there : (id net : ℕ) → net_in kind.ITerm id d ≡ Some net → IsTrue (is_live d.iterm id)
  iterm_there id net joined = let r = shown_by (λ (r : ITermRec). r.net) (record_at d.iterm id) net joined in live_by d.iterm id r.value r.is

  -- and one of the block
  bterm_named : (id net : ℕ) → net_in kind.BTerm id d ≡ Some net → owner_of BTermsOfNet (view d) id ≡ net
  bterm_named id net joined = bterm_seen d id ∙ net_shown (λ e. e.fields.net) (record_at d.bterm id) net joined

  bterm_there : (id net : ℕ) → net_in kind.BTerm id d ≡ Some net → IsTrue (is_live d.bterm id)
  bterm_there id net joined = let r = shown_by (λ (e : BTermEntry). e.fields.net) (record_at d.bterm id) net joined in live_by d.bterm id r.value r.is

  pub sound_join : (k : Kind) (id net : ℕ) → IsSound tech library cap d → CanJoin d k id net →
      IsSound tech library cap (with_net k id net (on_list (λ terms. term_number k id ∷ terms) (list.Terms (record { 0 = net })) d))
  sound_join kind.ITerm id net sound can = sound_entered tech library cap d ITermsOfNet id net sound (iterm_there id 0 can.unjoined) (iterm_named id 0 can.unjoined) can.there
  sound_join kind.BTerm id net sound can = sound_entered tech library cap d BTermsOfNet id net sound (bterm_there id 0 can.unjoined) (bterm_named id 0 can.unjoined) can.there
  sound_join other id net sound can = absurd (none_is 0 can.unjoined)

  pub sound_part : (k : Kind) (id net : ℕ) → IsSound tech library cap d → CanPart d k id net →
      IsSound tech library cap (with_net k id 0 (on_list (without (term_number k id)) (list.Terms (record { 0 = net })) d))
  sound_part kind.ITerm id net sound can = sound_left tech library cap d ITermsOfNet id net sound (iterm_there id net can.joined) can.some (iterm_named id net can.joined)
  sound_part kind.BTerm id net sound can = sound_left tech library cap d BTermsOfNet id net sound (bterm_there id net can.joined) can.some (bterm_named id net can.joined)
  sound_part other id net sound can = absurd (none_is net can.joined)

  pub back_join : (k : Kind) (id net : ℕ) → IsSound tech library cap d → CanJoin d k id net →
      with_net k id 0 (on_list (without (term_number k id)) (list.Terms (record { 0 = net })) (with_net k id net (on_list (λ terms. term_number k id ∷ terms) (list.Terms (record { 0 = net })) d))) ≡ d
  back_join kind.ITerm id net sound can = back_entered ITermsOfNet id net d (iterm_named id 0 can.unjoined)
  back_join kind.BTerm id net sound can = back_entered BTermsOfNet id net d (bterm_named id 0 can.unjoined)
  back_join other id net sound can = absurd (none_is 0 can.unjoined)

  -- a member that left the terminals of a net, as the contracts name them
  returned_is : (s : Sort) (member net : ℕ) → IsSound tech library cap d → 1 ≤ net → owner_of s (view d) member ≡ net → list_of s (view d) net ≡ net_terms d net → returned s member net (after (net_terms d net) ((sort s).number member)) (left s member net d) ≡ d
  returned_is s member net sound some named seen =
      subst (λ ids. returned s member net (after ids ((sort s).number member)) (left s member net d) ≡ d) seen
      (back_left s member net d (subst IsDistinct (sym seen) (terms_distinct tech library cap d sound net some)) (member_inside tech library cap d s sound member net some named) named)

  pub back_part : (k : Kind) (id net : ℕ) → IsSound tech library cap d → CanPart d k id net →
      with_net k id net (on_list (placed (term_number k id) (after (net_terms d net) (term_number k id))) (list.Terms (record { 0 = net })) (with_net k id 0 (on_list (without (term_number k id)) (list.Terms (record { 0 = net })) d))) ≡ d
  back_part kind.ITerm id net sound can = returned_is ITermsOfNet id net sound can.some (iterm_named id net can.joined) (terms_seen d net)
  back_part kind.BTerm id net sound can = returned_is BTermsOfNet id net sound can.some (bterm_named id net can.joined) (terms_seen d net)
  back_part other id net sound can = absurd (none_is net can.joined)

-- what the changed list of a net is
terms_on : (change : List ℕ → List ℕ) (net : ℕ) (t : Table NetEntry) → IsTrue (is_live t net) → list_in (λ e. e.terms) (record_at (on_record (λ e. record e { terms = change e.terms }) net t) net) ≡ change (list_in (λ e. e.terms) (record_at t net))
terms_on change net t live =
    let r = live_record t net live in
    view_at_on (list_in (λ e. e.terms)) (λ e. record e { terms = change e.terms }) net r.value t r.is ∙ ap change (ap (list_in (λ e. e.terms)) (sym r.is))

-- the list of a net that changed, where a terminal names another net too
terms_after : (d : Block) (k : Kind) (change : List ℕ → List ℕ) (id new net : ℕ) → IsTrue (is_live d.net net) → HasNet k → net_terms (with_net k id new (on_list change (list.Terms (record { 0 = net })) d)) net ≡ change (net_terms d net)
terms_after d kind.ITerm change id new net live has = terms_on change net d.net live
terms_after d kind.BTerm change id new net live has = terms_on change net d.net live
terms_after d other change id new net live has = absurd (false≢true has)

-- A terminal is there after a list of a net changed.
pub live_beside_list : (change : List ℕ → List ℕ) (net : ℕ) (k : Kind) (id : ℕ) (d : Block) → HasNet k → IsTrue (live_in k id d) → IsTrue (live_in k id (on_list change (list.Terms (record { 0 = net })) d))
live_beside_list change net kind.ITerm id d has live = live
live_beside_list change net kind.BTerm id d has live = live
live_beside_list change net other id d has live = absurd (false≢true has)

-- the first of a list is a member
first_inside : (front back : List ℕ) (next : ℕ) → first back ≡ Some next → holds (front ++ back) next ≡ true
first_inside front [] next is = absurd (none_is next is)
first_inside front (y ∷ ys) next is =
    holds-append front (y ∷ ys) next
    ∙ or_right (holds front next) (holds (y ∷ ys) next) (or_left (eqb y next) (holds ys next) (eq-eqb y next (some_is y next is)))

-- who stood after a member that left is still a member
after_inside : (ids : List ℕ) (id next : ℕ) → holds ids id ≡ true → after ids id ≡ Some next → holds (without id ids) next ≡ true
after_inside ids id next inside is =
    let s = split_at id ids inside in
    let first_is : first s.back ≡ Some next = sym (after-split s.front s.back id s.apart) ∙ ap (λ l. after l id) (sym s.is) ∙ is in
    ap (λ l. holds (without id l) next) s.is ∙ ap (λ l. holds l next) (without-split s.front s.back id s.apart) ∙ first_inside s.front s.back next first_is

-- where some member stood after one that left, it is one
next_inside : (ids : List ℕ) (id : ℕ) (next : Option ℕ) → holds ids id ≡ true → after ids id ≡ next → IfSome next (λ other. IsTrue (holds (without id ids) other))
next_inside ids id None inside is = tt
next_inside ids id (Some other) inside is = after_inside ids id other inside is

module _ (tech : Technology) (library : List Master) (cap : ℕ) (d : Block) where
  -- before a join, and before a part
  pub joinable : (k : Kind) (id net : ℕ) → IsSound tech library cap d → CanJoin d k id net → IsJoinable k id net d
  joinable kind.ITerm id net sound can =
      let r = shown_by (λ (r : ITermRec). r.net) (record_at d.iterm id) 0 can.unjoined in
      record { enter = iterm_enters tech library cap d sound id net can.unjoined can.there; live = live_by d.iterm id r.value r.is; kind = refl }
  joinable kind.BTerm id net sound can =
      let r = shown_by (λ (e : BTermEntry). e.fields.net) (record_at d.bterm id) 0 can.unjoined in
      record { enter = bterm_enters tech library cap d sound id net can.unjoined can.there; live = live_by d.bterm id r.value r.is; kind = refl }
  joinable other id net sound can = absurd (none_is 0 can.unjoined)

  pub joined : (k : Kind) (id net : ℕ) → IsSound tech library cap d → CanPart d k id net → IsJoined k id net d
  joined kind.ITerm id net sound can =
      let r = shown_by (λ (r : ITermRec). r.net) (record_at d.iterm id) net can.joined in
      let inside = iterm_inside tech library cap d sound id net can.some can.joined in
      record { has = net_of_member tech library cap d net (iterm_number id) inside; member = inside; live = live_by d.iterm id r.value r.is; kind = refl }
  joined kind.BTerm id net sound can =
      let r = shown_by (λ (e : BTermEntry). e.fields.net) (record_at d.bterm id) net can.joined in
      let inside = bterm_inside tech library cap d sound id net can.some can.joined in
      record { has = net_of_member tech library cap d net (bterm_number id) inside; member = inside; live = live_by d.bterm id r.value r.is; kind = refl }
  joined other id net sound can = absurd (none_is net can.joined)

  -- a terminal after it was joined can be parted
  can_part : (k : Kind) (id net : ℕ) → CanJoin d k id net → CanPart (with_net k id net (on_list (λ terms. term_number k id ∷ terms) (list.Terms (record { 0 = net })) d)) k id net
  can_part kind.ITerm id net can =
      let r = shown_by (λ (r : ITermRec). r.net) (record_at d.iterm id) 0 can.unjoined in
      record { joined = view_at_on (option_map (λ r. r.net)) (λ r. record r { net = net }) id r.value d.iterm r.is; some = from_one d.net net can.there }
  can_part kind.BTerm id net can =
      let r = shown_by (λ (e : BTermEntry). e.fields.net) (record_at d.bterm id) 0 can.unjoined in
      record { joined = view_at_on (option_map (λ e. e.fields.net)) (λ e. record e { fields = record e.fields { net = net } }) id r.value d.bterm r.is; some = from_one d.net net can.there }
  can_part other id net can = absurd (none_is 0 can.unjoined)

  -- a terminal after it was parted can be joined
  can_join : (k : Kind) (id net : ℕ) → IsSound tech library cap d → CanPart d k id net → CanJoin (with_net k id 0 (on_list (without (term_number k id)) (list.Terms (record { 0 = net })) d)) k id net
  can_join kind.ITerm id net sound can =
      let r = shown_by (λ (r : ITermRec). r.net) (record_at d.iterm id) net can.joined in
      record {
        unjoined = view_at_on (option_map (λ r. r.net)) (λ r. record r { net = 0 }) id r.value d.iterm r.is;
        there = live_on (λ e. record e { terms = without (iterm_number id) e.terms }) net d.net net (joined kind.ITerm id net sound can).has;
      }
  can_join kind.BTerm id net sound can =
      let r = shown_by (λ (e : BTermEntry). e.fields.net) (record_at d.bterm id) net can.joined in
      record {
        unjoined = view_at_on (option_map (λ e. e.fields.net)) (λ e. record e { fields = record e.fields { net = 0 } }) id r.value d.bterm r.is;
        there = live_on (λ e. record e { terms = without (bterm_number id) e.terms }) net d.net net (joined kind.BTerm id net sound can).has;
      }
  can_join other id net sound can = absurd (none_is net can.joined)

module _ (tech : Technology) (library : List Master) (cap : ℕ) (d : Block) where
  -- after a join the terminal can be parted again
  pub joined_after : (k : Kind) (id net : ℕ) → IsSound tech library cap d → CanJoin d k id net → IsJoined k id net (with_net k id net (on_list (λ terms. term_number k id ∷ terms) (list.Terms (record { 0 = net })) d))
  joined_after k id net sound can =
      let c = with_net k id net (on_list (λ terms. term_number k id ∷ terms) (list.Terms (record { 0 = net })) d) in
      joined tech library cap c k id net (sound_join tech library cap d k id net sound can) (can_part tech library cap d k id net can)

  -- after a part the terminal can be joined again
  pub joinable_after : (k : Kind) (id net : ℕ) → IsSound tech library cap d → CanPart d k id net → IsJoinable k id net (with_net k id 0 (on_list (without (term_number k id)) (list.Terms (record { 0 = net })) d))
  joinable_after k id net sound can =
      let c = with_net k id 0 (on_list (without (term_number k id)) (list.Terms (record { 0 = net })) d) in
      joinable tech library cap c k id net (sound_part tech library cap d k id net sound can) (can_join tech library cap d k id net sound can)

  -- and who stood after it is in the net
  pub next_joined : (k : Kind) (id net : ℕ) → IsSound tech library cap d → CanPart d k id net → IfSome (after (net_terms d net) (term_number k id)) (λ other. IsTrue (holds (net_terms (with_net k id 0 (on_list (without (term_number k id)) (list.Terms (record { 0 = net })) d)) net) other))
  next_joined k id net sound can =
      let is = joined tech library cap d k id net sound can in
      let next = next_inside (net_terms d net) (term_number k id) (after (net_terms d net) (term_number k id)) is.member refl in
      subst (λ terms. IfSome (after (net_terms d net) (term_number k id)) (λ other. IsTrue (holds terms other))) (sym (terms_after d k (without (term_number k id)) id 0 net is.has is.kind)) next
