-- The slots of a pool as the cells of linked lists.
use Rattle.std.proofs.Common.{◌≡◌, ◌≢◌, Bool, true, false, ℕ, Option, refl, ap, ◌∙◌}
use Rattle.std.specs.Option.{option_map, option_map_or}
use Rattle.link_list.specs.declared.link.Link.{Link}
use Rattle.slot_pool.specs.Mapped.{on_pool}
use Rattle.slot_pool.specs.Table.{Pool, is_live, record_at}
use Rattle.slot_pool.proofs.Mapped.{at_on, at_on_other, live_on, live_record}
use Rattle.linked_pool.specs.declared.linked.Linked.{Linked}

-- a link to no members
abbrev pub no_link : Link
no_link = record { before = 0; after = 0 }

module _ {R : Type 0} where
  -- the id has an object
  abbrev pub cell : Pool (Linked R) → ℕ → Bool
  cell pool id = is_live pool.table id

  -- the link beside its object
  abbrev pub link_of : Pool (Linked R) → ℕ → Link
  link_of pool id = option_map_or (λ c. c.link) (record_at pool.table id) no_link

  -- an object with another link
  abbrev pub relinked : Link → Linked R → Linked R
  relinked link c = record c { link = link }

  -- the pool with another link beside the object of an id
  abbrev pub with_link : Pool (Linked R) → ℕ → Link → Pool (Linked R)
  with_link pool id link = on_pool (relinked link) id pool

  -- The laws of cells.

  -- two objects that are the same, beside one link
  pub same_value : {one other : R} (c : Linked R) → one ≡ other → record c { value = one } ≡ record c { value = other }
  same_value c same = ap (λ x. record c { value = x }) same

  -- 0 has no object
  pub cell-none : (pool : Pool (Linked R)) → cell pool 0 ≡ false
  cell-none pool = refl

  -- where a link is set, the same ids have objects
  pub cell-with_link : (pool : Pool (Linked R)) (id other : ℕ) (link : Link) → cell pool id ≡ true → cell (with_link pool id link) other ≡ cell pool other
  cell-with_link pool id other link is = live_on (relinked link) id pool.table other

  -- the link that was set is there
  pub link_of-set : (pool : Pool (Linked R)) (id : ℕ) (link : Link) → cell pool id ≡ true → link_of (with_link pool id link) id ≡ link
  link_of-set pool id link is =
      let x = live_record pool.table id is in
      ap (λ (o : Option (Linked R)). option_map_or (λ c. c.link) o no_link) (at_on (relinked link) id pool.table ∙ ap (option_map (relinked link)) x.is)

  -- and no other link changes
  pub link_of-others : (pool : Pool (Linked R)) (id other : ℕ) (link : Link) → cell pool id ≡ true → other ≢ id → link_of (with_link pool id link) other ≡ link_of pool other
  link_of-others pool id other link is apart =
      ap (λ (o : Option (Linked R)). option_map_or (λ c. c.link) o no_link) (at_on_other (relinked link) id other pool.table apart)
