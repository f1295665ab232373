use Rattle.std.proofs.Common.{◌∙◌, sym}
use Rattle.std.proofs.lemmas.Result.{err_from_is_err_and}
use Rattle.lef_build.proofs.Runs.{item_fails, item_taken, no_item_left}
use Rattle.lef_build.proofs.builder.Builder.take_all.Goals as goal

pub returns-in_err-take : goal.returns-in_err-take
returns-in_err-take c =
    let exit = err_from_is_err_and c.from_residual.result c.from_residual.ensures.1 in
    rw (exit.1, exit.2)
    (λ other. sym c.loop-item.invariant ∙ item_fails c.loop-item.self c.args.items.now c.loop-item.item-index _ c.item-item.result c.loop-item-test.true c.item-item.is (c.in_err-take.ensures other))

pub loop-item-preserved : goal.loop-item-preserved
loop-item-preserved c =
    sym (item_taken c.loop-item.self c.args.items.now c.loop-item.item-index c.take.new.self c.item-item.result c.loop-item-test.true c.item-item.is c.in_ok-take.ensures)
    ∙ c.loop-item.invariant

pub returns : goal.returns
returns c = sym c.loop-item.invariant ∙ no_item_left c.loop-item.self c.args.items.now c.loop-item.item-index c.loop-item-test.false
