use Rattle.std.proofs.Common.{◌+◌, ◌-◌, ◌++◌, ◌∷◌, ◌∙◌, ap, sym, append-nil}
use Rattle.name_index.specs.Chain.{ids_from}
use Rattle.name_index.proofs.Chains.{cells_here, cells_on, ids_from-more, ids_from-zero, listed_more}
use Rattle.name_index.proofs.chain.list_chain.Goals as goal

pub chain-id-requires : goal.chain-id-requires
chain-id-requires g c =
    let cells = g.C.ChainCells in
    let more = ids_from-more (cells.chain_of c.args.cells.now) c.args.most c.loop.counter c.loop.id c.loop-test.true c.if-id-eq0.false in
    cells_here (cells.cell c.args.cells.now) _ _ c.loop.id c.loop.invariant.reached more

pub loop-preserved : goal.loop-preserved
loop-preserved g c =
    let cells = g.C.ChainCells in
    let more = ids_from-more (cells.chain_of c.args.cells.now) c.args.most c.loop.counter c.loop.id c.loop-test.true c.if-id-eq0.false ∙ ap (λ n. c.loop.id ∷ ids_from (cells.chain_of c.args.cells.now) (c.args.most - (c.loop.counter + 1)) n) (sym c.chain-id.ensures) in
    record {
      reached = cells_on (cells.cell c.args.cells.now) _ _ c.loop.id c.loop.invariant.reached more;
      listed = listed_more _ _ _ _ c.loop.id more c.in_ok-push.ensures.items ∙ c.loop.invariant.listed;
    }

pub returns-then-id-eq0 : goal.returns-then-id-eq0
returns-then-id-eq0 g c =
    let cells = g.C.ChainCells in
    let none = ap (ids_from (cells.chain_of c.args.cells.now) (c.args.most - c.loop.counter)) c.if-id-eq0.true ∙ ids_from-zero (cells.chain_of c.args.cells.now) (c.args.most - c.loop.counter) in
    sym (append-nil c.loop.ids.items) ∙ ap (λ l. c.loop.ids.items ++ l) (sym none) ∙ c.loop.invariant.listed
