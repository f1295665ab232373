use Rattle.std.proofs.Common.{length, ap, arith}
use Rattle.std.proofs.lemmas.Result.{err_from_is_err_and}
use Rattle.wires.proofs.AllPieces.{IsWithin, left_at_end, left_fault, left_item, moved}
use Rattle.wires.proofs.elements.Elements.next.Goals as goal

pub returns-then-place-self-clause-value : goal.returns-then-place-self-clause-value
returns-then-place-self-clause-value c =
    left_at_end c.args.limits c.args.self.now.due c.args.self.now.input c.end.result (omega arith) c.end.ensures

pub returns-in_err-item-clause-value : goal.returns-in_err-item-clause-value
returns-in_err-item-clause-value c =
    let p = err_from_is_err_and c.from_residual.result c.from_residual.ensures.1 in
    let old = c.args.self.now.input in
    let inside : IsWithin old = record { are = c.args.self.now.are; within = c.place.ensures.within } in
    rw (p.1, p.2) (left_fault c.args.limits c.args.self.now.due old c.in_err-item.field-0.0 inside (λ same. omega arith) c.in_err-item.ensures.value)

pub returns-clause-value : goal.returns-clause-value
returns-clause-value c =
    let old = c.args.self.now.input in
    let inside : IsWithin old = record { are = c.args.self.now.are; within = c.place.ensures.within } in
    let e = c.in_ok-item.ensures.value in
    let m = moved c.args.limits c.args.self.now.due old c.get_item.new.input _ inside e in (
      rw (c.after-self.ensures) (left_item c.args.limits c.args.self.now.due old c.get_item.new.input _ inside (λ same. omega arith) e),
      m.fits,
      c.after-self.ensures,
    )

pub returns-clause-falls : goal.returns-clause-falls
returns-clause-falls c =
    let old = c.args.self.now.input in
    let inside : IsWithin old = record { are = c.args.self.now.are; within = c.place.ensures.within } in
    let m = moved c.args.limits c.args.self.now.due old c.get_item.new.input _ inside c.in_ok-item.ensures.value in
    let size = ap length m.bytes in
    omega (arith, m.more, m.inside.within, size)
