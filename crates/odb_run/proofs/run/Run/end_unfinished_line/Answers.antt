use Rattle.std.proofs.Common.{◌||◌, List, ℕ, refl, subst}
use Rattle.odb_outside.specs.Shelves.{files_told}
use Rattle.odb_run.specs.Answering.{IsAnswer}
use Rattle.odb_run.specs.Running.{GivesTold, Replied, Running}
use Rattle.odb_run.proofs.Runs.{replied_gives}
use Rattle.odb_run.proofs.run.Run.end_unfinished_line.Goals as goal

pub returns-clause-ok : goal.returns-clause-ok
returns-clause-ok g c =
    let was = files_told (g.F.Shelf.told c.args.shelf.now) in
    let left = files_told (g.F.Shelf.told c.answer_line.new.shelf) in
    let inside = c.self.inside in
    let any_refused = c.in_ok-refused.refused in
    let old : Running = record { state = inside.session; line = inside.line.items; unwritten = inside.unwritten.items; refused = inside.refused } in
    let new : Running = record { state = c.answer_line.new.session; line = c.clear.new.self.items; unwritten = c.answer_line.new.replies.items; refused = inside.refused || any_refused } in
    let gives = subst (λ (done : List ℕ). GivesTold (λ m a. IsAnswer m done a) old.state new.state was left old.unwritten new.unwritten any_refused) c.deref.ensures.value c.in_ok-refused.ensures.gives in
    subst (λ (run : Running). Replied run was run.line new left) c.self.view_is (replied_gives old new was left old.line any_refused c.clear.ensures.items refl gives)
