use Rattle.std.proofs.Common.{List, ℕ, get_or, sym, ap}
use Rattle.tech.specs.declared.site.Site.{Site}
use Rattle.lef_build.specs.Building.{with_parts}
use Rattle.lef_build.proofs.NameLists.{answer_behind, stood_is_found}
use Rattle.lef_build.proofs.builder.Builder.find_site.Goals as goal

pub returns-in-Some : goal.returns-in-Some
returns-in-Some c =
    rw (← c.self.view_is)
    (sym (stood_is_found (λ (x : Site). x.name) c.self.inside.tech.now.sites (with_parts c.self.inside.tech.now c.self.inside.parts.items).sites c.self.inside.known.sites c.args.name.now c.in-Some.id.0 c.self.invariant.sites (sym c.in-Some.ensures)))

pub returns-in-None : goal.returns-in-None
returns-in-None c =
    rw (← c.self.view_is)
    (answer_behind (λ (x : Site). x.name) c.self.inside.tech.now.sites (with_parts c.self.inside.tech.now c.self.inside.parts.items).sites c.self.inside.known.sites c.args.name.now _ c.id_behind.result c.self.invariant.sites c.in-None.ensures (ap (λ (counts : List ℕ). get_or counts 2 0) c.counts.ensures.counts) c.id_behind.ensures)
