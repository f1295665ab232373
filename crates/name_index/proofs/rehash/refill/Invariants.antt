-- The chains stand for the identifiers so far.
use Rattle.std.proofs.Common.{◌≡◌, ℕ, length, take}
use Rattle.name_index.specs.Names.{HasId}
use Rattle.name_index.specs.Rechained.{Rechained}
use Rattle.name_index.proofs.Refilling.{Refilled}
use Rattle.name_index.proofs.rehash.refill.Given as goal

abbrev pub invariant-loop-id : goal.invariant-loop-id
invariant-loop-id g l =
    let meaning = g.C.ChainCells in
    record {
      refilled : Refilled (meaning.cell l.cells) (meaning.name_of l.cells) (meaning.chain_of l.cells) l.heads (take l.id-index l.ids);
      kept : (other : ℕ) → meaning.cell l.cells other ≡ meaning.cell l.fn.cells other;
      named : (other : ℕ) → meaning.name_of l.cells other ≡ meaning.name_of l.fn.cells other;
      rechained : Rechained meaning.with_chain (HasId g.names) l.fn.cells l.cells;
      buckets : length l.heads ≡ length l.fn.heads;
    }
