use Rattle.std.proofs.Common.{rules, ap, ◌∙◌}
use Rattle.tech.specs.Technology.{find_site}
use Rattle.tech_parts.specs.Adding.{cause_of}
use Rattle.tech_parts.proofs.Causes.{found_some}
use Rattle.tech_parts.proofs.judging.of_site.Goals as goal

pub returns : goal.returns
unfolding cause_of
returns c =
    let tech = ap (λ d. d.tech) c.db.view_is in
    let name = ap (find_site c.db.inside.tech) c.bytes.ensures.value ∙ ap (λ held. find_site held c.args.site.now.name) tech in
    let taken = c.is_some-taken.ensures ∙ found_some (λ id. id.0) c.find_site.result (find_site c.args.db.now.tech c.args.site.now.name) (c.find_site.ensures ∙ name) in
    let lawful = c.is_lawful_site.ensures.test in
    rw (c.first_of.ensures, taken, lawful) (search rules)
