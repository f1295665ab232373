use Rattle.std.proofs.Common.{◌∙◌, sym}
use Rattle.std.proofs.lemmas.Result.{err_from_is_err_and}
use Rattle.lef_build.specs.Causes.{unknown_layer}
use Rattle.lef_build.proofs.Faults.{fault_at, fault_end, fault_past}
use Rattle.lef_build.proofs.builder.Builder.ask_layers.Goals as goal

pub returns-in_err-ask_found : goal.returns-in_err-ask_found
returns-in_err-ask_found c =
    let exit = err_from_is_err_and c.from_residual.result c.from_residual.ensures.1 in
    rw (exit.1, exit.2)
    (λ other. sym c.loop-shape.invariant.asked ∙ fault_at (unknown_layer c.args.self.now.tech) c.args.shapes.now c.loop-shape.shape-index c.shape-item.result _ c.loop-shape-test.true c.shape-item.is (c.in_err-ask_found.ensures other))

pub loop-shape-preserved : goal.loop-shape-preserved
loop-shape-preserved c = record {
  asked = fault_past (unknown_layer c.args.self.now.tech) c.args.shapes.now c.loop-shape.shape-index c.shape-item.result c.loop-shape-test.true c.shape-item.is c.in_ok-ask_found.ensures ∙ c.loop-shape.invariant.asked;
  found = c.find_again-found.ensures;
}

pub returns : goal.returns
returns c = sym c.loop-shape.invariant.asked ∙ fault_end (unknown_layer c.args.self.now.tech) c.args.shapes.now c.loop-shape.shape-index c.loop-shape-test.false
