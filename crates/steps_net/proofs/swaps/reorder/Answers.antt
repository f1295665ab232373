use Rattle.std.proofs.Common.{◌++◌, ◌∷◌, [], map, take, ap, ◌∙◌}
use Rattle.steps_net.proofs.SwapsOrder.{map_more, taken_for}
use Rattle.steps_net.proofs.swaps.reorder.Goals as goal

pub loop-term-preserved : goal.loop-term-preserved
loop-term-preserved c =
    let was = c.loop-term.invariant in
    let f = taken_for c.args.old.now c.args.new.now c.args.terminals.now in
    let x = c.term-item.result in
    let items =
    c.push_reserved.ensures.items
    ∙ ap (λ l. l ++ c.terminal_for.result ∷ []) was.0
    ∙ ap (λ id. map f (take c.loop-term.term-index c.items-term-items.result.now) ++ id ∷ []) c.terminal_for.ensures
    ∙ map_more f c.items-term-items.result.now c.loop-term.term-index x c.loop-term-test.true c.term-item.is in
    (items, c.push_reserved.ensures.capacity ∙ was.1)
