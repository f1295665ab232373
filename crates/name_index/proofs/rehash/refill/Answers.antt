use Rattle.std.proofs.Common.{◌<◌, ◌∙◌, ap, length, length-set, refl, arith}
use Rattle.name_index.specs.Names.{HasId}
use Rattle.name_index.proofs.Refilling.{next_has_id, next_kept, next_named, rechained_more, rechained_none, refilled_more, refilled_none}
use Rattle.name_index.proofs.rehash.refill.Goals as goal

pub loop-id-init : goal.loop-id-init
loop-id-init g c =
    let meaning = g.C.ChainCells in
    record {
      refilled = refilled_none (meaning.cell c.args.cells.now) (meaning.name_of c.args.cells.now) (meaning.chain_of c.args.cells.now) c.args.heads.now (λ k h. c.requires.1.1.1.1.1.1.0 k 0 h);
      kept = λ other. refl;
      named = λ other. refl;
      rechained = rechained_none meaning.with_chain (HasId g.names) c.args.cells.now;
      buckets = refl;
    }

pub loop-id-preserved : goal.loop-id-preserved
loop-id-preserved g c =
    let meaning = g.C.ChainCells in
    let laws = g.met.C.ChainCells in
    let here = c.loop-id.invariant in
    let are = c.requires.1.1.1.1.1.1.1 in
    let some : 0 < length c.loop-id.heads = omega (arith, here.buckets, c.requires.1.1.1.1.1.0) in
    record {
      refilled = refilled_more meaning.with_chain meaning.cell meaning.name_of meaning.chain_of laws.none laws.kept laws.named laws.set laws.others c.args.cells.now c.loop-id.cells c.args.ids.now g.names are here.kept here.named c.loop-id.heads c.loop-id.id-index c.loop-id-test.true here.refilled
          c.put.new.cells c.put.new.heads some c.put.ensures.heads c.put.ensures.cells;
      kept = next_kept meaning.with_chain meaning.cell meaning.name_of meaning.chain_of laws.none laws.kept laws.named laws.set laws.others c.args.cells.now c.loop-id.cells c.args.ids.now g.names are here.kept here.named c.loop-id.heads c.loop-id.id-index c.loop-id-test.true here.refilled
          c.put.new.cells c.put.new.heads some c.put.ensures.heads c.put.ensures.cells;
      named = next_named meaning.with_chain meaning.cell meaning.name_of meaning.chain_of laws.none laws.kept laws.named laws.set laws.others c.args.cells.now c.loop-id.cells c.args.ids.now g.names are here.kept here.named c.loop-id.heads c.loop-id.id-index c.loop-id-test.true here.refilled
          c.put.new.cells c.put.new.heads some c.put.ensures.heads c.put.ensures.cells;
      rechained = rechained_more meaning.with_chain (HasId g.names) c.args.cells.now c.loop-id.cells c.put.new.cells _ _ here.rechained
          (next_has_id meaning.with_chain meaning.cell meaning.name_of meaning.chain_of laws.none laws.kept laws.named laws.set laws.others c.args.cells.now c.loop-id.cells c.args.ids.now g.names are here.kept here.named c.loop-id.heads c.loop-id.id-index c.loop-id-test.true here.refilled)
          c.put.ensures.cells;
      buckets = ap length c.put.ensures.heads ∙ length-set c.loop-id.heads _ _ ∙ here.buckets;
    }
