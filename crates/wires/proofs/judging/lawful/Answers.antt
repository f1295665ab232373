use Rattle.std.proofs.Common.{sym, ◌∙◌, arith}
use Rattle.wires.specs.Pieces.{AreNumbers, limits_of}
use Rattle.wires.proofs.Decoded.{lawful_of, readable_of, suit_of}
use Rattle.wires.proofs.judging.lawful.Goals as goal

pub returns-clause-paths : goal.returns-clause-paths
returns-clause-paths c =
    let limits = limits_of c.args.layers c.args.tech_vias c.args.block_vias in
    let small : AreNumbers limits = record { layers = omega arith; tech_vias = omega arith; block_vias = omega arith } in (
      λ h. lawful_of limits c.args.special c.args.code.now (λ i. omega (arith, c.type_inv.code i)) (sym c.is_lawful_within.ensures ∙ h),
      λ lawful. c.is_lawful_within.ensures ∙ suit_of limits c.args.special c.args.code.now small lawful,
    )

pub returns-clause-readable : goal.returns-clause-readable
returns-clause-readable c = λ h.
    let limits = limits_of c.args.layers c.args.tech_vias c.args.block_vias in
    let small : AreNumbers limits = record { layers = omega arith; tech_vias = omega arith; block_vias = omega arith } in
    readable_of limits c.args.special c.args.code.now small (sym c.is_lawful_within.ensures ∙ h)
