use Rattle.std.proofs.Common.{◌++◌, ◌∷◌, [], List, ◌∙◌, ap}
use Rattle.edit_words.specs.declared.part.TechPart.{TechPart}
use Rattle.lef_build.specs.Building.{entered}
use Rattle.lef_build.proofs.Entering.{new_is_new, one_more}
use Rattle.lef_build.proofs.builder.Builder.enter.Goals as goal

pub enter-requires : goal.enter-requires
enter-requires c =
    new_is_new c.self.inside.tech.now c.self.inside.library.now c.self.inside.parts.items c.self.inside.passed c.self.inside.known c.args.part c.args.name.now
    c.self.invariant (rw c.self.view_is c.requires.new)

pub returns : goal.returns
returns c =
    one_more c.self.inside.tech.now c.self.inside.library.now c.self.inside.parts.items c.push_reserved.new.self.items c.args.part c.self.inside.passed
    (c.push_reserved.ensures.items ∙ ap (λ (ps : List TechPart). ps ++ c.args.part ∷ []) c.reserve.ensures.items)
    ∙ ap (entered c.args.part) c.self.view_is
