use Rattle.std.proofs.Common.{◌≡◌, ◌⊎◌, Ok, Err, ap, arith}
use Rattle.std.specs.Prelude.{is_ok, All}
use Rattle.std.proofs.lemmas.Result.{IfErr-at_err, IfOk-at_ok, IfOk-weaker}
use Rattle.wires.specs.declared.fault.WireFault.TheVariants as fault
use Rattle.wires.specs.Paths.{ArePaths, IsShort, paths_bytes, pieces_of}
use Rattle.wires.specs.Pieces.{AreNumbers, limits_of}
use Rattle.wires.specs.Reading.{IsReadable, items_of}
use Rattle.wires.proofs.Decoded.{decoded, gives_only, short_paths}
use Rattle.wires.proofs.decoding.decode.Goals as goal

pub returns-clause-lawful : goal.returns-clause-lawful
returns-clause-lawful c =
    let limits = limits_of c.args.layers c.args.tech_vias c.args.block_vias in
    let code = c.args.code.now in
    IfOk-weaker c.decode_within.result (λ ps. items_of limits code ≡ Ok (pieces_of ps)) (λ ps. ArePaths limits ps) (λ ps e. (decoded limits code ps (λ i. omega (arith, c.type_inv.code i)) e).0) c.decode_within.ensures.elements

pub returns-clause-code : goal.returns-clause-code
returns-clause-code c =
    let limits = limits_of c.args.layers c.args.tech_vias c.args.block_vias in
    let code = c.args.code.now in
    IfOk-weaker c.decode_within.result (λ ps. items_of limits code ≡ Ok (pieces_of ps)) (λ ps. code ≡ paths_bytes ps) (λ ps e. (decoded limits code ps (λ i. omega (arith, c.type_inv.code i)) e).1) c.decode_within.ensures.elements

pub returns-clause-only : goal.returns-clause-only
returns-clause-only c = λ paths all is.
    let limits = limits_of c.args.layers c.args.tech_vias c.args.block_vias in
    let code = c.args.code.now in
    let small : AreNumbers limits = record { layers = omega arith; tech_vias = omega arith; block_vias = omega arith } in
    gives_only limits code paths c.decode_within.result small all is
    (λ ps e. IfOk-at_ok (λ qs. items_of limits code ≡ Ok (pieces_of qs)) e c.decode_within.ensures.elements)
    (λ f e. IfErr-at_err (λ f. (f ≡ fault.Memory) ⊎ (items_of limits code ≡ Err f)) e c.decode_within.ensures.fault)

pub returns-clause-readable : goal.returns-clause-readable
returns-clause-readable c =
    let limits = limits_of c.args.layers c.args.tech_vias c.args.block_vias in
    let code = c.args.code.now in
    let small : AreNumbers limits = record { layers = omega arith; tech_vias = omega arith; block_vias = omega arith } in
    IfOk-weaker c.decode_within.result (λ ps. items_of limits code ≡ Ok (pieces_of ps)) (λ ps. IsReadable code) (λ ps e. record { limits = limits; numbers = small; read = ap is_ok e }) c.decode_within.ensures.elements

pub returns-clause-short : goal.returns-clause-short
returns-clause-short c =
    let limits = limits_of c.args.layers c.args.tech_vias c.args.block_vias in
    let code = c.args.code.now in
    IfOk-weaker c.decode_within.result (λ ps. items_of limits code ≡ Ok (pieces_of ps)) (All IsShort) (λ ps e. short_paths limits ps (decoded limits code ps (λ i. omega (arith, c.type_inv.code i)) e).0) c.decode_within.ensures.elements
