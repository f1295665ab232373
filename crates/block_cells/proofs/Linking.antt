-- Links that are set in the pools of terminals are set in the block.
use Rattle.std.proofs.Common.{◌≡◌, List, ℕ, refl, inl, inr}
use Rattle.std.proofs.lemmas.Bool.{cases_Bool}
use Rattle.link_list.specs.declared.link.Link.{Link}
use Rattle.linked_pool.specs.Changes.{with_links}
use Rattle.linked_pool.specs.Pairs as pair
use Rattle.linked_pool.specs.declared.changes.Change.{Change}
use Rattle.linked_pool.specs.declared.pairs.PairedPools.{PairedPools}
use Rattle.linked_pool.proofs.Keeping.{links_through}
use Rattle.block_records.specs.declared.iterm.ITermRec.{ITermRec}
use Rattle.block_cells.specs.declared.cells.BTermCell.{BTermCell}
use Rattle.block_cells.specs.Cells.{Cells}
use Rattle.block_cells.specs.Lists.{Terms, link_at, with_link}

module _ (old : Cells) where
  -- the block with these terminals
  abbrev whole : PairedPools ITermRec BTermCell → Cells
  whole pools = record old { iterm = pools.first.table; bterm = pools.second.table }

  same : (pools : PairedPools ITermRec BTermCell) (member : ℕ) (link : Link) → whole (pair.with_link pools member link) ≡ with_link Terms (whole pools) member link
  same pools member link = elim (cases_Bool (pair.is_first member)) [ inl e ↦ rw e refl | inr e ↦ rw e refl ]

  pub terms_through : (made : Change) (ids : List ℕ) (pools : PairedPools ITermRec BTermCell) → whole (with_links pair.with_link pair.link_of made ids pools) ≡ with_links (with_link Terms) (link_at Terms) made ids (whole pools)
  terms_through made ids pools = links_through pair.with_link pair.link_of (with_link Terms) (link_at Terms) whole same (λ pools member. refl) made ids pools
