use Rattle.std.proofs.Common.{◌≡◌, ◌∙◌, List, Result, Ok, ap, subst, sym}
use Rattle.std.specs.Result.{IfOk}
use Rattle.block_store.specs.Database.{Database}
use Rattle.lef_build.specs.Building.{built_of}
use Rattle.lef_build.specs.declared.fault.BuildFault.{BuildFault}
use Rattle.lef_build.specs.declared.parts.Parts.{Parts}
use Rattle.library.specs.declared.master.Master.{Master}
use Rattle.tech.specs.Technology.{Technology}
use Rattle.odb_run.specs.Answering.{built_answer}
use Rattle.odb_run.specs.Loaded.{GivesInSession}
use Rattle.odb_run.proofs.lef_answers.answer_tree.Goals as goal

pub returns-in-Ok : goal.returns-in-Ok
returns-in-Ok c =
    let tree = c.args.tree.now in
    let parts = c.in-Ok.parts in
    let now = c.args.session.now.database in
    let same = c.db.view_is ∙ c.database-db.ensures in
    let of_library = subst (λ (l : List Master). built_of c.db.inside.tech l tree ≡ Ok parts) (ap (λ (d : Database). d.library) same) c.in-Ok.ensures in
    let built = subst (λ (t : Technology). built_of t now.library tree ≡ Ok parts) (ap (λ (d : Database). d.tech) same) of_library in
    subst (λ (r : Result Parts BuildFault). IfOk c.answer_parts.result (λ any_refused. GivesInSession (λ m a. a ≡ built_answer m r) c.args.session.now c.answer_parts.new.session c.args.replies.now.items c.answer_parts.new.replies.items any_refused)) (sym built) c.answer_parts.ensures
