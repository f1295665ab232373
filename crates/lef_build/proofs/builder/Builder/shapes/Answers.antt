use Rattle.std.proofs.Common.{refl}
use Rattle.std.proofs.lemmas.Result.{err_from_is_err_and}
use Rattle.lef_build.specs.Distances.{has_corners}
use Rattle.lef_build.specs.Stated.{shape_of}
use Rattle.lef_build.proofs.Walked.{bad_at, made_all, made_more}
use Rattle.lef_build.proofs.builder.Builder.shapes.Goals as goal

pub loop-shape-init : goal.loop-shape-init
loop-shape-init c = record { made = record { good = refl; made = c.empty_list-made.ensures }; found = c.find_layer-found.ensures }

pub returns-in_err-shape : goal.returns-in_err-shape
returns-in_err-shape c =
    let exit = err_from_is_err_and c.from_residual.result c.from_residual.ensures.1 in
    rw (exit.1, exit.2)
    (λ other. let bad = c.in_err-shape.ensures other in
    (bad_at (λ s. has_corners c.args.self.now.tech.units s.rect) (shape_of c.args.self.now.tech) c.args.shapes.now c.loop-shape.shape-index c.shape-item.result c.loop-shape-test.true c.shape-item.is bad.0, bad.1))

pub returns-in_err-push : goal.returns-in_err-push
returns-in_err-push c =
    let exit = err_from_is_err_and c.from_residual-in_err-push.result c.from_residual-in_err-push.ensures.1 in
    rw (exit.1, exit.2) (λ other. absurd (other refl))

pub loop-shape-preserved : goal.loop-shape-preserved
loop-shape-preserved c = record {
  made = made_more (λ s. has_corners c.args.self.now.tech.units s.rect) (shape_of c.args.self.now.tech) c.args.shapes.now c.loop-shape.shape-index c.shape-item.result c.loop-shape.made c.push.new.self c.in_ok-shape.field-0
      c.loop-shape-test.true c.shape-item.is c.loop-shape.invariant.made c.in_ok-shape.ensures c.in_ok-push.ensures.ok;
  found = c.find_again-found.ensures;
}

pub returns : goal.returns
returns c = made_all (λ s. has_corners c.args.self.now.tech.units s.rect) (shape_of c.args.self.now.tech) c.args.shapes.now c.loop-shape.shape-index c.loop-shape.made c.loop-shape-test.false c.loop-shape.invariant.made
