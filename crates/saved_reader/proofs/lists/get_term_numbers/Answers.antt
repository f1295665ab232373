use Rattle.std.proofs.lemmas.Result.{err_from_is_err_and}
use Rattle.saved_fields.specs.Parts.{term_at}
use Rattle.saved_fields.specs.Reading.{many_at}
use Rattle.saved_reader.proofs.Gathered.{ends, goes_on, is_done}
use Rattle.saved_reader.proofs.lists.get_term_numbers.Goals as goal

pub returns-in_err-number : goal.returns-in_err-number
returns-in_err-number c =
    let p = err_from_is_err_and c.from_residual.result c.from_residual.ensures.1 in
    rw (p.1, p.2) (ends term_at c.in_err-number.field-0.0 c.loop.numbers.items c.args.count c.loop.counter c.loop.input (many_at c.args.count term_at c.args.input.now) c.loop-test.true c.in_err-number.ensures c.loop.invariant)

pub loop-preserved : goal.loop-preserved
loop-preserved c =
    rw c.in_ok-push.ensures.items (goes_on term_at c.loop.numbers.items c.args.count c.loop.counter c.loop.input c.get_term.new.input c.in_ok-number.number (many_at c.args.count term_at c.args.input.now) c.loop-test.true c.in_ok-number.ensures c.loop.invariant)

pub returns : goal.returns
returns c = is_done term_at c.loop.numbers.items c.args.count c.loop.counter c.loop.input (many_at c.args.count term_at c.args.input.now) c.loop-test.false c.loop.invariant
