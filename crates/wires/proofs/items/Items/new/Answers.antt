use Rattle.std.proofs.Common.{refl, arith}
use Rattle.wires.specs.Reading.{items_of}
use Rattle.wires.proofs.WholeCodes.{ok_value, read_by_widest}
use Rattle.wires.proofs.items.Items.new.Goals as goal

pub invariant_of-result : goal.invariant_of-result
invariant_of-result c =
    let limits = c.requires.limits in
    let read = ok_value (items_of limits c.args.code.now) c.requires.read in
    let wide = read_by_widest limits c.args.code.now read.0 c.requires.numbers (λ i. omega (arith, c.type_inv.code i)) read.1 in
    rw (c.new.ensures.input, c.new.ensures.due, wide) refl

pub returns : goal.returns
returns c = λ limits pieces small e.
    let wide = read_by_widest limits c.args.code.now pieces small (λ i. omega (arith, c.type_inv.code i)) e in
    rw (c.new.ensures.input, c.new.ensures.due, wide) refl
