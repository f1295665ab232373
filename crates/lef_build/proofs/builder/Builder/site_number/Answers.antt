use Rattle.std.proofs.Common.{◌∙◌, Option, ℕ, unwrap_or, ap}
use Rattle.tech.specs.Technology.{find_site}
use Rattle.lef_build.proofs.builder.Builder.site_number.Goals as goal

pub returns-in-Some : goal.returns-in-Some
returns-in-Some c =
    rw c.in-Some.is
    (c.unwrap_or.ensures ∙ ap (λ (id : Option ℕ). unwrap_or id 0) (c.find_site.ensures ∙ ap (find_site c.args.self.now.tech) c.bytes.ensures.value))
