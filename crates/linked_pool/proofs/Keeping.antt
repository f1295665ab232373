-- What setting links leaves, a change of a list leaves; so it leaves all of a pool but the links.
use Rattle.std.proofs.Common.{◌≡◌, ◌/◌, eqb, List, ◌∷◌, ℕ, refl, ap, ◌∙◌, inl, inr}
use Rattle.std.proofs.lemmas.Bool.{cases_Bool}
use Rattle.slot_pool.specs.Mapped.{plain}
use Rattle.slot_pool.specs.Table.{Pool, Table}
use Rattle.slot_pool.proofs.Mapped.{unseen}
use Rattle.link_list.specs.declared.link.Link.{Link}
use Rattle.link_list.specs.Ids.{before}
use Rattle.link_list.specs.Links.{linked_in, linked_out, with_after, with_before}
use Rattle.link_list.specs.Standing.{number}
use Rattle.link_list.proofs.Keeping.{linked_in_keeps, linked_out_keeps}
use Rattle.odb_base.specs.Ids.{after, placed}
use Rattle.linked_pool.specs.Changes.{with_links}
use Rattle.linked_pool.specs.Linking.{relinked, with_link}
use Rattle.linked_pool.specs.Pairs as pair
use Rattle.linked_pool.specs.declared.changes.Change.{Change}
use Rattle.linked_pool.specs.declared.changes.Change.TheVariants as change
use Rattle.linked_pool.specs.declared.linked.Linked.{Linked}
use Rattle.linked_pool.specs.declared.pairs.PairedPools.{PairedPools}

-- what no setting of a link changes
pub links_keep : {Cells Shown : Type 0} (with_link : Cells → ℕ → Link → Cells) (link_of : Cells → ℕ → Link) (shown : Cells → Shown)
    → ((cells : Cells) (id : ℕ) (link : Link) → shown (with_link cells id link) ≡ shown cells)
    → (made : Change) (ids : List ℕ) (cells : Cells) → shown (with_links with_link link_of made ids cells) ≡ shown cells
links_keep with_link link_of shown keeps (change.Enter member) ids cells = linked_in_keeps with_link link_of shown keeps (member ∷ ids) member cells
links_keep with_link link_of shown keeps (change.Return member next) ids cells = linked_in_keeps with_link link_of shown keeps (placed member next ids) member cells
links_keep with_link link_of shown keeps (change.Leave member) ids cells = linked_out_keeps with_link link_of shown keeps ids member cells

-- links that are set in a part of the cells are set in the whole
module _ {Part Whole : Type 0} (with_link : Part → ℕ → Link → Part) (link_of : Part → ℕ → Link) (with_link' : Whole → ℕ → Link → Whole)
    (link_of' : Whole → ℕ → Link) (whole : Part → Whole)
    (same : (part : Part) (id : ℕ) (link : Link) → whole (with_link part id link) ≡ with_link' (whole part) id link)
    (links : (part : Part) (id : ℕ) → link_of part id ≡ link_of' (whole part) id) where
  through_before : (id other : ℕ) (part : Part) → whole (with_before with_link link_of id other part) ≡ with_before with_link' link_of' id other (whole part)
  through_before id other part = elim (cases_Bool (eqb id 0)) [
    | inl e ↦ rw e refl
    | inr e ↦ rw e (same part id _ ∙ ap (λ (l : Link). with_link' (whole part) id (record { before = other; after = l.after })) (links part id))
  ]

  through_after : (id other : ℕ) (part : Part) → whole (with_after with_link link_of id other part) ≡ with_after with_link' link_of' id other (whole part)
  through_after id other part = elim (cases_Bool (eqb id 0)) [
    | inl e ↦ rw e refl
    | inr e ↦ rw e (same part id _ ∙ ap (λ (l : Link). with_link' (whole part) id (record { before = l.before; after = other })) (links part id))
  ]

  through_both : (left right first second : ℕ) (part : Part) → whole (with_before with_link link_of right second (with_after with_link link_of left first part)) ≡ with_before with_link' link_of' right second (with_after with_link' link_of' left first (whole part))
  through_both left right first second part =
      through_before right second _ ∙ ap (with_before with_link' link_of' right second) (through_after left first part)

  through_in : (ids : List ℕ) (id : ℕ) (part : Part) → whole (linked_in with_link link_of ids id part) ≡ linked_in with_link' link_of' ids id (whole part)
  through_in ids id part =
      through_both (number (before ids id)) (number (after ids id)) id id _
      ∙ ap (λ (w : Whole). with_before with_link' link_of' (number (after ids id)) id (with_after with_link' link_of' (number (before ids id)) id w)) (same part id _)

  through_out : (ids : List ℕ) (id : ℕ) (part : Part) → whole (linked_out with_link link_of ids id part) ≡ linked_out with_link' link_of' ids id (whole part)
  through_out ids id part = through_both (number (before ids id)) (number (after ids id)) (number (after ids id)) (number (before ids id)) part

  pub links_through : (made : Change) (ids : List ℕ) (part : Part) → whole (with_links with_link link_of made ids part) ≡ with_links with_link' link_of' made ids (whole part)
  links_through (change.Enter member) ids part = through_in (member ∷ ids) member part
  links_through (change.Return member next) ids part = through_in (placed member next ids) member part
  links_through (change.Leave member) ids part = through_out ids member part

module _ {R : Type 0} where
  -- the pool of the objects alone, without a count of moves
  abbrev pub values_of : Pool (Linked R) → Pool R
  values_of pool = record { table = plain (λ (c : Linked R). c.value) pool.table; cap = pool.cap; spare = pool.spare; moved = 0 }

  -- a link that is set isn't seen there
  pub values-with_link : (pool : Pool (Linked R)) (id : ℕ) (link : Link) → values_of (with_link pool id link) ≡ values_of pool
  values-with_link pool id link =
      ap (λ (t : Table R). record { table = t; cap = pool.cap; spare = pool.spare; moved = 0 }) (unseen (λ (c : Linked R). c.value) (relinked link) id pool.table (λ x found. refl))

-- two pools without the links
pub record BothValues (A B : Type 0) : Type 0 where
  pub first : Pool A
  pub second : Pool B

module _ {A B : Type 0} where
  abbrev both : Pool A → Pool B → BothValues A B
  both one other = record { first = one; second = other }

  abbrev pub both_values : PairedPools A B → BothValues A B
  both_values pools = record { first = values_of pools.first; second = values_of pools.second }

  -- a link that is set isn't seen there
  pub pair-with_link : (pools : PairedPools A B) (number : ℕ) (link : Link) → both_values (pair.with_link pools number link) ≡ both_values pools
  pair-with_link pools number link = elim (cases_Bool (pair.is_first number)) [
    | inl e ↦ rw e (ap (λ (p : Pool A). both p (values_of pools.second)) (values-with_link pools.first (number / 2) link))
    | inr e ↦ rw e (ap (λ (p : Pool B). both (values_of pools.first) p) (values-with_link pools.second (number / 2) link))
  ]
