use Rattle.std.proofs.lemmas.Result.{err_from_is_err_and}
use Rattle.saved_fields.specs.Reading.{many_at}
use Rattle.saved_reader.proofs.Gathered.{ends, goes_on, is_done}
use Rattle.saved_reader.proofs.lists.get_many.Goals as goal

pub returns-in_err-item : goal.returns-in_err-item
returns-in_err-item g c =
    let p = err_from_is_err_and c.from_residual.result c.from_residual.ensures.1 in
    rw (p.1, p.2) (ends g.T.Spelled.format.at c.in_err-item.field-0.0 c.loop.items.items c.args.count c.loop.counter c.loop.input (many_at c.args.count g.T.Spelled.format.at c.args.input.now) c.loop-test.true c.in_err-item.ensures c.loop.invariant)

pub loop-preserved : goal.loop-preserved
loop-preserved g c =
    rw c.in_ok-push.ensures.items (goes_on g.T.Spelled.format.at c.loop.items.items c.args.count c.loop.counter c.loop.input c.get.new.input c.in_ok-item.item (many_at c.args.count g.T.Spelled.format.at c.args.input.now) c.loop-test.true c.in_ok-item.ensures c.loop.invariant)

pub returns : goal.returns
returns g c = is_done g.T.Spelled.format.at c.loop.items.items c.args.count c.loop.counter c.loop.input (many_at c.args.count g.T.Spelled.format.at c.args.input.now) c.loop-test.false c.loop.invariant
