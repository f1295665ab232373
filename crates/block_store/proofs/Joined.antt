-- What a sound block says of the lists of its nets, of the terminals in them, and of the terminals of instances, in
-- the words of contracts.
use Rattle.std.proofs.Common.{◌≡◌, ◌/◌, ◌%◌, ◌≤◌, true, List, [], ℕ, Option, Some, None, IsTrue, refl, sym, ap, ◌∙◌, arith, ◌⊎◌, inl, inr}
use Rattle.std.specs.Option.{option_map, option_map_or}
use Rattle.std.proofs.lemmas.Bool.{cases_eq}
use Rattle.slot_pool.specs.Table.{is_live, record_at, times}
use Rattle.odb_base.specs.Ids.{IsDistinct, holds}
use Rattle.odb_base.specs.declared.codes.kind.Kind.TheVariants as kind
use Rattle.tech.specs.Technology.{Technology}
use Rattle.library.specs.declared.master.Master.{Master}
use Rattle.block_store.specs.declared.list_of.ListOf.TheVariants as list
use Rattle.block_store.specs.Alone.{CanEnter, InNoTerms, OfBlock, OfInst}
use Rattle.block_store.specs.Block.{Block}
use Rattle.block_store.specs.Fields.{net_in}
use Rattle.block_store.specs.Lists.{bterm_number, iterm_number, list_in}
use Rattle.block_store.specs.Sorts.{AreHeld, BTermsOfNet, ITermsOfNet, list_of, owner_of}
use Rattle.block_store.specs.Sound.{IsSound, bterm_net, inst_terms, iterm_net, iterm_place, net_terms}
use Rattle.block_store.specs.TermPlaces.{ArePlaced, place_of, terminals_of}
use Rattle.block_store.specs.View.{laws, view}
use Rattle.block_store.proofs.Held.{distinct_times, held_once, held_stands, placed_stands}
use Rattle.block_store.proofs.MovedMembers.{member_inside, member_outside, object_live}
use Rattle.block_store.proofs.Shown.{live_by}

-- no value is some value, and some value is one
pub none_is : {B : Type 0} (y : B) → None ≡ Some y → ⊥
none_is y h = cc

pub some_is : {B : Type 0} (x y : B) → Some x ≡ Some y → x ≡ y
some_is x y h = cc

module _ {A B : Type 0} where
  -- what a field shows, a record has
  pub record Shows (field_of : A → B) (o : Option A) (y : B) : Type 0 where
    pub value : A
    pub is : o ≡ Some value
    pub shows : field_of value ≡ y

  pub shown_by : (field_of : A → B) (o : Option A) (y : B) → option_map field_of o ≡ Some y → Shows field_of o y
  shown_by field_of None y h = absurd (none_is y h)
  shown_by field_of (Some x) y h = record { value = x; is = refl; shows = some_is (field_of x) y h }

-- the net that a terminal shows
pub net_shown : {A : Type 0} (net_of : A → ℕ) (o : Option A) (net : ℕ) → option_map net_of o ≡ Some net → option_map_or net_of o 0 ≡ net
net_shown net_of None net h = absurd (none_is net h)
net_shown net_of (Some x) net h = some_is (net_of x) net h

-- a number stands for a terminal of an instance or of the block
pub number_is : (number : ℕ) → (number ≡ iterm_number (number / 2)) ⊎ (number ≡ bterm_number (number / 2))
number_is number = elim (cases_eq (number % 2) 0) [
  | inl even ↦ inl (omega arith)
  | inr odd ↦ inr (omega arith)
]

module _ {A L : Type 0} (see : A → L) (none : L) where
  -- a part of what an object shows is what its record says
  pub list_seen_by : (part : L → List ℕ) (o : Option A) → part none ≡ [] → part (option_map_or see o none) ≡ list_in (λ x. part (see x)) o
  list_seen_by part None h = h
  list_seen_by part (Some x) h = refl

  seen_by : {R : Type 0} (part : L → R) (o : Option A) → part (option_map_or see o none) ≡ option_map_or (λ x. part (see x)) o (part none)
  seen_by part None = refl
  seen_by part (Some x) = refl

place_seen_by : {A L R : Type 0} (see : A → L) (none : L) (part : L → Option R) (place : A → R) (o : Option A) → part none ≡ None → ((x : A) → part (see x) ≡ Some (place x)) → part (option_map_or see o none) ≡ option_map place o
place_seen_by see none part place None nowhere at = nowhere
place_seen_by see none part place (Some x) nowhere at = at x

module _ (b : Block) where
  -- what objects show in the words of contracts
  pub terms_seen : (net : ℕ) → list_of ITermsOfNet (view b) net ≡ net_terms b net
  terms_seen net = list_seen_by (laws kind.Net).see (laws kind.Net).none (λ links. links.terms) (record_at b.net net) refl

  pub iterm_seen : (id : ℕ) → owner_of ITermsOfNet (view b) id ≡ iterm_net b id
  iterm_seen id = seen_by (laws kind.ITerm).see (laws kind.ITerm).none (λ links. links.net) (record_at b.iterm id)

  pub bterm_seen : (id : ℕ) → owner_of BTermsOfNet (view b) id ≡ bterm_net b id
  bterm_seen id = seen_by (laws kind.BTerm).see (laws kind.BTerm).none (λ links. links.net) (record_at b.bterm id)

  pub terminals_seen : (inst : ℕ) → terminals_of (view b) inst ≡ inst_terms b inst
  terminals_seen inst = list_seen_by (laws kind.Inst).see (laws kind.Inst).none (λ links. links.terminals) (record_at b.inst inst) refl

  pub place_seen : (id : ℕ) → place_of (view b) id ≡ iterm_place b id
  place_seen id = place_seen_by (laws kind.ITerm).see (laws kind.ITerm).none (λ links. links.place) (λ r. (r.inst, r.index)) (record_at b.iterm id) refl (λ r. refl)

module _ (tech : Technology) (library : List Master) (cap : ℕ) (d : Block) where
  -- the ties of a sound block in the words of contracts
  pub iterms_held : IsSound tech library cap d → AreHeld (net_terms d) iterm_number (iterm_net d)
  iterms_held sound = held_stands (list_of ITermsOfNet (view d)) (net_terms d) iterm_number (owner_of ITermsOfNet (view d)) (iterm_net d) (λ net. sym (terms_seen d net)) (λ id. sym (iterm_seen d id)) (sound.joined.held ITermsOfNet)

  pub bterms_held : IsSound tech library cap d → AreHeld (net_terms d) bterm_number (bterm_net d)
  bterms_held sound = held_stands (list_of BTermsOfNet (view d)) (net_terms d) bterm_number (owner_of BTermsOfNet (view d)) (bterm_net d) (λ net. sym (terms_seen d net)) (λ id. sym (bterm_seen d id)) (sound.joined.held BTermsOfNet)

  pub terms_placed : IsSound tech library cap d → ArePlaced (inst_terms d) (iterm_place d)
  terms_placed sound = placed_stands (terminals_of (view d)) (inst_terms d) (place_of (view d)) (iterm_place d) (λ inst. sym (terminals_seen d inst)) (λ id. sym (place_seen d id)) sound.joined.placed

  -- no terminal stands in the list of a net twice
  terms_once : IsSound tech library cap d → (net number : ℕ) → 1 ≤ net → times number (net_terms d net) ≤ 1
  terms_once sound net number some = elim (number_is number) [
    | inl e ↦ rw e (held_once (net_terms d) iterm_number (iterm_net d) net (number / 2) some (iterms_held sound))
    | inr e ↦ rw e (held_once (net_terms d) bterm_number (bterm_net d) net (number / 2) some (bterms_held sound))
  ]

  pub terms_distinct : IsSound tech library cap d → (net : ℕ) → 1 ≤ net → IsDistinct (net_terms d net)
  terms_distinct sound net some = distinct_times (net_terms d net) (λ number. terms_once sound net number some)

  -- a terminal that names a net is in its list, and the net is there
  pub iterm_inside : IsSound tech library cap d → (id net : ℕ) → 1 ≤ net → net_in kind.ITerm id d ≡ Some net → holds (net_terms d net) (iterm_number id) ≡ true
  iterm_inside sound id net some joined =
      ap (λ ids. holds ids (iterm_number id)) (sym (terms_seen d net))
      ∙ member_inside tech library cap d ITermsOfNet sound id net some (iterm_seen d id ∙ net_shown (λ r. r.net) (record_at d.iterm id) net joined)

  pub bterm_inside : IsSound tech library cap d → (id net : ℕ) → 1 ≤ net → net_in kind.BTerm id d ≡ Some net → holds (net_terms d net) (bterm_number id) ≡ true
  bterm_inside sound id net some joined =
      ap (λ ids. holds ids (bterm_number id)) (sym (terms_seen d net))
      ∙ member_inside tech library cap d BTermsOfNet sound id net some (bterm_seen d id ∙ net_shown (λ e. e.fields.net) (record_at d.bterm id) net joined)

  pub net_of_member : (net member : ℕ) → holds (net_terms d net) member ≡ true → IsTrue (is_live d.net net)
  net_of_member net member inside = object_live tech library cap d ITermsOfNet net member (ap (λ ids. holds ids member) (terms_seen d net) ∙ inside)

  -- a terminal that names no net is in no list
  pub iterm_outside : IsSound tech library cap d → (id : ℕ) → iterm_net d id ≡ 0 → InNoTerms (iterm_number id) d
  iterm_outside sound id none net =
      ap (λ ids. holds ids (iterm_number id)) (sym (terms_seen d net)) ∙ member_outside tech library cap d ITermsOfNet sound id (iterm_seen d id ∙ none) net

  pub bterm_outside : IsSound tech library cap d → (id : ℕ) → bterm_net d id ≡ 0 → InNoTerms (bterm_number id) d
  bterm_outside sound id none net =
      ap (λ ids. holds ids (bterm_number id)) (sym (terms_seen d net)) ∙ member_outside tech library cap d BTermsOfNet sound id (bterm_seen d id ∙ none) net

  -- so it can enter the list of a net
  pub iterm_enters : IsSound tech library cap d → (id net : ℕ) → net_in kind.ITerm id d ≡ Some 0 → IsTrue (is_live d.net net) → CanEnter (list.Terms (record { 0 = net })) (iterm_number id) d
  iterm_enters sound id net joined live =
      let found = shown_by (λ r. r.net) (record_at d.iterm id) 0 joined in
      record { has = live; outside = (OfInst id (live_by d.iterm id found.value found.is), iterm_outside sound id (net_shown (λ r. r.net) (record_at d.iterm id) 0 joined)) }

  pub bterm_enters : IsSound tech library cap d → (id net : ℕ) → net_in kind.BTerm id d ≡ Some 0 → IsTrue (is_live d.net net) → CanEnter (list.Terms (record { 0 = net })) (bterm_number id) d
  bterm_enters sound id net joined live =
      let found = shown_by (λ e. e.fields.net) (record_at d.bterm id) 0 joined in
      record { has = live; outside = (OfBlock id (live_by d.bterm id found.value found.is), bterm_outside sound id (net_shown (λ e. e.fields.net) (record_at d.bterm id) 0 joined)) }
