use Rattle.std.proofs.Common.{◌∙◌, ap}
use Rattle.ld_words.specs.Decimal.{units_of}
use Rattle.lef_build.proofs.Ranges.{number_is}
use Rattle.lef_build.proofs.distances.number.Goals as goal

pub returns : goal.returns
returns c =
    number_is c.args.units c.args.word.now c.in_ok-number.number c.to_units.result c.try_from.result c.ok-2.result
    (c.to_units.ensures ∙ ap (units_of c.args.units) c.bytes.ensures) c.in_ok-number.ensures.value c.try_from.ensures c.ok-2.ensures.value
