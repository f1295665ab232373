use Rattle.std.proofs.Common.{◌≡◌, ◌∙◌, false, is_some, sym, ap}
use Rattle.std.proofs.lemmas.Result.{err_from_is_err_and}
use Rattle.tech.specs.Technology.{find_site}
use Rattle.tech.specs.declared.site.Site.{Site}
use Rattle.lef_build.proofs.OneItem.{site_fails, site_name}
use Rattle.lef_build.proofs.builder.Builder.take_site.Goals as goal

pub returns-in_err-part : goal.returns-in_err-part
returns-in_err-part c =
    let new : is_some (find_site c.args.self.now.tech c.args.stated.now.name) ≡ false =
    ap (λ name. is_some (find_site c.args.self.now.tech name)) (sym c.bytes.ensures.value) ∙ ap is_some (sym c.find_site.ensures) ∙ sym c.if-is_some.ensures in
    let exit = err_from_is_err_and c.from_residual.result c.from_residual.ensures.1 in
    rw (exit.1, exit.2) (λ other. site_fails c.args.self.now c.args.stated.now _ new (c.in_err-part.ensures other))

pub enter-requires-clause-named : goal.enter-requires-clause-named
enter-requires-clause-named c = ap (λ (part : Site). part.name) c.in_ok-part.ensures.1 ∙ site_name c.args.self.now.tech.units c.args.stated.now ∙ sym c.bytes-2.ensures.value
