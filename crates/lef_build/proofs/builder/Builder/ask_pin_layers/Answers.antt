use Rattle.std.proofs.Common.{◌∙◌, sym, ap}
use Rattle.std.proofs.lemmas.Result.{err_from_is_err_and}
use Rattle.lef_build.specs.Causes.{unknown_layers}
use Rattle.lef_build.proofs.Faults.{fault_at, fault_end, fault_past}
use Rattle.lef_build.proofs.builder.Builder.ask_pin_layers.Goals as goal

pub returns-in_err-ask_layers : goal.returns-in_err-ask_layers
returns-in_err-ask_layers c =
    let exit = err_from_is_err_and c.from_residual.result c.from_residual.ensures.1 in
    rw (exit.1, exit.2)
    (λ other. sym c.loop-pin.invariant ∙ fault_at (λ pin. unknown_layers c.args.self.now.tech pin.shapes) c.args.pins.now c.loop-pin.pin-index c.pin-item.result _ c.loop-pin-test.true c.pin-item.is (ap (unknown_layers c.args.self.now.tech) (sym c.items.ensures) ∙ c.in_err-ask_layers.ensures other))

pub loop-pin-preserved : goal.loop-pin-preserved
loop-pin-preserved c =
    fault_past (λ pin. unknown_layers c.args.self.now.tech pin.shapes) c.args.pins.now c.loop-pin.pin-index c.pin-item.result c.loop-pin-test.true c.pin-item.is (ap (unknown_layers c.args.self.now.tech) (sym c.items.ensures) ∙ c.in_ok-ask_layers.ensures) ∙ c.loop-pin.invariant

pub returns : goal.returns
returns c = sym c.loop-pin.invariant ∙ fault_end (λ pin. unknown_layers c.args.self.now.tech pin.shapes) c.args.pins.now c.loop-pin.pin-index c.loop-pin-test.false
