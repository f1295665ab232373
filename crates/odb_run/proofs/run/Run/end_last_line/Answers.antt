use Rattle.std.proofs.Common.{◌≡◌, ◌≢◌, ◌∙◌, [], ap, eq-eqb, length, sym, vec_len, arith}
use Rattle.std.proofs.lemmas.Bool.{false≢true}
use Rattle.std.proofs.lemmas.Result.{on_ok_weaker}
use Rattle.odb_outside.specs.Shelves.{files_told}
use Rattle.odb_run.proofs.Runs.{last_line, last_lines, told_map}
use Rattle.odb_run.specs.Running.{Running}
use Rattle.odb_run.proofs.run.Run.end_last_line.Goals as goal

pub returns-clause-ok : goal.returns-clause-ok
returns-clause-ok g c =
    let run = c.args.self.now in
    let some : run.line ≢ [] = λ none.
    let empty : vec_len c.self.inside.line ≡ 0 = omega (arith, ap length (ap (λ (r : Running). r.line) c.self.view_is ∙ none), c.self.inside.line.ok.0) in
    absurd (false≢true (sym c.if-is_empty.false ∙ c.is_empty.ensures ∙ eq-eqb _ _ empty))
    in
    let was = files_told (g.F.Shelf.told c.args.shelf.now) in
    let left = files_told (g.F.Shelf.told c.end_unfinished_line.new.shelf) in
    on_ok_weaker c.end_unfinished_line.result
    (told_map was left (λ x y replied. last_line run c.end_unfinished_line.new.self x y some c.end_unfinished_line.ensures.whole replied))
    c.end_unfinished_line.ensures.ok

pub returns-clause-last : goal.returns-clause-last
returns-clause-last g c failed =
    let run = c.args.self.now in
    let some : run.line ≢ [] = λ none.
    let empty : vec_len c.self.inside.line ≡ 0 = omega (arith, ap length (ap (λ (r : Running). r.line) c.self.view_is ∙ none), c.self.inside.line.ok.0) in
    absurd (false≢true (sym c.if-is_empty.false ∙ c.is_empty.ensures ∙ eq-eqb _ _ empty))
    in
    last_lines run.line some c.end_unfinished_line.ensures.whole
