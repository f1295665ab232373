use Rattle.std.proofs.Common.{◌∙◌, ap}
use Rattle.std.specs.Prelude.{unwrap_or}
use Rattle.lef_build.proofs.OneItem.{shape_made}
use Rattle.lef_build.proofs.builder.Builder.shape.Goals as goal

pub returns : goal.returns
returns c =
    shape_made c.args.self.now.tech c.args.shape.now c.units.result c.unwrap_or.result c.in_ok-rect.rect c.units.ensures c.in_ok-rect.ensures
    (c.unwrap_or.ensures ∙ ap (λ o. unwrap_or o 0) c.requires)
