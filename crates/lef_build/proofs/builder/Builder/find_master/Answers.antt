use Rattle.std.proofs.Common.{sym}
use Rattle.library.specs.declared.master.Master.{Master}
use Rattle.lef_build.specs.Building.{with_masters}
use Rattle.lef_build.proofs.NameLists.{answer_behind, stood_is_found}
use Rattle.lef_build.proofs.builder.Builder.find_master.Goals as goal

pub returns-in-Some : goal.returns-in-Some
returns-in-Some c =
    rw (← c.self.view_is)
    (sym (stood_is_found (λ (x : Master). x.name) c.self.inside.library.now (with_masters c.self.inside.library.now c.self.inside.parts.items) c.self.inside.known.masters c.args.name.now c.in-Some.id.0 c.self.invariant.masters (sym c.in-Some.ensures)))

pub returns-in-None : goal.returns-in-None
returns-in-None c =
    rw (← c.self.view_is)
    (answer_behind (λ (x : Master). x.name) c.self.inside.library.now (with_masters c.self.inside.library.now c.self.inside.parts.items) c.self.inside.known.masters c.args.name.now c.count.result c.id_behind.result c.self.invariant.masters c.in-None.ensures c.count.ensures.count c.id_behind.ensures)
