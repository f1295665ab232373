use Rattle.std.proofs.Common.{◌||◌, ◌∙◌, ap, refl, subst}
use Rattle.odb_outside.specs.Shelves.{files_told}
use Rattle.odb_run.specs.Running.{Replied, Running}
use Rattle.odb_run.proofs.Runs.{replied_gives}
use Rattle.odb_run.proofs.run.Run.reply_to.Goals as goal

pub returns-clause-ok : goal.returns-clause-ok
returns-clause-ok g c =
    let was = files_told (g.F.Shelf.told c.args.shelf.now) in
    let left = files_told (g.F.Shelf.told c.answer_line.new.shelf) in
    let inside = c.self.inside in
    let any_refused = c.in_ok-refused.refused in
    let old : Running = record { state = inside.session; line = inside.line.items; unwritten = inside.unwritten.items; refused = inside.refused } in
    let new : Running = record { state = c.answer_line.new.session; line = inside.line.items; unwritten = c.answer_line.new.replies.items; refused = inside.refused || any_refused } in
    let empty = ap (λ (run : Running). run.line) c.self.view_is ∙ c.requires.line in
    subst (λ (run : Running). Replied run was c.args.line.now new left) c.self.view_is (replied_gives old new was left c.args.line.now any_refused empty refl c.in_ok-refused.ensures.gives)
