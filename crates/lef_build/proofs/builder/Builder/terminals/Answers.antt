use Rattle.std.proofs.Common.{refl}
use Rattle.std.proofs.lemmas.Result.{err_from_is_err_and}
use Rattle.lef_build.specs.Causes.{are_good_shapes}
use Rattle.lef_build.specs.Stated.{terminal_of}
use Rattle.lef_build.proofs.Walked.{bad_at, made_all, made_more}
use Rattle.lef_build.proofs.builder.Builder.terminals.Goals as goal

pub loop-pin-init : goal.loop-pin-init
loop-pin-init c = record { good = refl; made = c.empty_list-made.ensures }

pub returns-in_err-terminal : goal.returns-in_err-terminal
returns-in_err-terminal c =
    let exit = err_from_is_err_and c.from_residual.result c.from_residual.ensures.1 in
    rw (exit.1, exit.2)
    (λ other. let bad = c.in_err-terminal.ensures other in
    (bad_at (λ pin. are_good_shapes c.args.self.now.tech.units pin.shapes) (terminal_of c.args.self.now.tech) c.args.pins.now c.loop-pin.pin-index c.pin-item.result c.loop-pin-test.true c.pin-item.is bad.0, bad.1))

pub returns-in_err-push : goal.returns-in_err-push
returns-in_err-push c =
    let exit = err_from_is_err_and c.from_residual-in_err-push.result c.from_residual-in_err-push.ensures.1 in
    rw (exit.1, exit.2) (λ other. absurd (other refl))

pub loop-pin-preserved : goal.loop-pin-preserved
loop-pin-preserved c =
    made_more (λ pin. are_good_shapes c.args.self.now.tech.units pin.shapes) (terminal_of c.args.self.now.tech) c.args.pins.now c.loop-pin.pin-index c.pin-item.result c.loop-pin.made c.push.new.self c.in_ok-terminal.field-0
    c.loop-pin-test.true c.pin-item.is c.loop-pin.invariant c.in_ok-terminal.ensures c.in_ok-push.ensures.ok

pub returns : goal.returns
returns c = made_all (λ pin. are_good_shapes c.args.self.now.tech.units pin.shapes) (terminal_of c.args.self.now.tech) c.args.pins.now c.loop-pin.pin-index c.loop-pin.made c.loop-pin-test.false c.loop-pin.invariant
