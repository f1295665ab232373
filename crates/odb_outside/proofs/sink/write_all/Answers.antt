use Rattle.std.proofs.Common.{arith, rules}
use Rattle.std.proofs.lemmas.Result.{err_from_is_err_and}
use Rattle.odb_outside.proofs.Growing.{failed_on, written_on}
use Rattle.odb_outside.proofs.sink.write_all.Goals as goal

pub returns-in_err-done-clause-bytes : goal.returns-in_err-done-clause-bytes
returns-in_err-done-clause-bytes g c =
    let p = err_from_is_err_and c.from_residual.result c.from_residual.ensures.1 in
    let held = g.K.Sink.held in
    rw p.1
    (failed_on (held c.args.sink.now) (held c.loop-done.sink) (held c.write.new.self) c.args.bytes.now c.loop-done.done c.in_err-done.field-0.0 c.loop-done.invariant.grown c.in_err-done.ensures.bytes)

pub loop-done-preserved : goal.loop-done-preserved
loop-done-preserved g c =
    let held = g.K.Sink.held in
    record {
      done = omega (arith, c.in_ok-done.ensures.bound);
      ready = c.in_ok-done.ensures.ready;
      grown = written_on (held c.args.sink.now) (held c.loop-done.sink) (held c.write.new.self) c.args.bytes.now c.loop-done.done c.in_ok-done.field-0 c.loop-done.invariant.grown c.in_ok-done.ensures.bytes;
      later = omega (arith, c.in_ok-done.ensures.cause.later);
      rest = search rules;
    }
