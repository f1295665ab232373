-- What the calls of a block make of its cells, they make of the block.
use Rattle.std.proofs.Common.{◌≡◌, ℕ, Bool, IsTrue, sym, subst}
use Rattle.odb_base.specs.declared.codes.kind.Kind.{Kind}
use Rattle.block_records.specs.Header.{new_header}
use Rattle.block_records.specs.declared.record.Record.{Record}
use Rattle.block_cells.specs.Cells.{Cells, empty_cells, given_cell, taken_cell, ungiven_cell, untaken_cell}
use Rattle.block_store.specs.Alone.{IsAlone, IsNew}
use Rattle.block_store.specs.Block.{Block, empty_block, live_in}
use Rattle.block_store.specs.Consistent.{IsConsistent}
use Rattle.block_store.specs.Moves.{CanUntakeIn, given_in, taken_in, ungiven_in, untaken_in}
use Rattle.block_store.proofs.ConsistentMoves.{consistent_given, consistent_taken, consistent_ungiven, consistent_untaken}
use Rattle.block_store.proofs.ConsistentWhereSound.{consistent_empty}
use Rattle.block_links.specs.Standing.{StandsFor, block_of}
use Rattle.block_links.specs.Stores.{IsBlock}
use Rattle.block_links.proofs.Coming.{stands_empty, stands_given, stands_taken, stands_ungiven, stands_untaken}
use Rattle.block_links.proofs.Reading.{read_off}

-- the cells are those of this block
pub record Become (c : Cells) (b : Block) : Type 0 where
  pub block : block_of c ≡ b
  pub lawful : IsBlock c

pub become : (c : Cells) (b : Block) → StandsFor c b → IsConsistent b → Become c b
become c b stands is =
    let same = read_off c b stands in
    record {
      block = same;
      lawful = record { stands = subst (StandsFor c) (sym same) stands; consistent = subst IsConsistent (sym same) is };
    }

-- a block without objects
pub lawful_empty : (c : Cells) → c ≡ empty_cells new_header → IsBlock c
lawful_empty c is = subst IsBlock (sym is) ((become (empty_cells new_header) (empty_block new_header) (stands_empty new_header) consistent_empty).lawful)

module _ (c d : Cells) (lawful : IsBlock c) where
  abbrev b : Block
  b = block_of c

  pub become_taken : (r : Record) → IsNew r b → d ≡ taken_cell r c → Become d (taken_in r b)
  become_taken r new moved = subst (λ e. Become e (taken_in r b)) (sym moved)
      (become (taken_cell r c) (taken_in r b) (stands_taken c b lawful.stands lawful.consistent r) (consistent_taken r b new lawful.consistent))

  pub become_ungiven : (r : Record) → IsNew r b → d ≡ ungiven_cell r c → Become d (ungiven_in r b)
  become_ungiven r new moved = subst (λ e. Become e (ungiven_in r b)) (sym moved)
      (become (ungiven_cell r c) (ungiven_in r b) (stands_ungiven c b lawful.stands lawful.consistent r) (consistent_ungiven r b new lawful.consistent))

  pub become_given : (k : Kind) (id : ℕ) → IsTrue (live_in k id b) → IsAlone k id b → d ≡ given_cell k id c → Become d (given_in k id b)
  become_given k id live alone moved = subst (λ e. Become e (given_in k id b)) (sym moved)
      (become (given_cell k id c) (given_in k id b) (stands_given k id c b lawful.stands live alone) (consistent_given k id b live alone lawful.consistent))

  pub become_untaken : (k : Kind) (id : ℕ) (grew : Bool) → CanUntakeIn k id grew b → IsAlone k id b → d ≡ untaken_cell k id grew c → Become d (untaken_in k id grew b)
  become_untaken k id grew can alone moved = subst (λ e. Become e (untaken_in k id grew b)) (sym moved)
      (become (untaken_cell k id grew c) (untaken_in k id grew b) (stands_untaken k id grew c b lawful.stands can alone) (consistent_untaken k id grew b can alone lawful.consistent))
