use Rattle.std.proofs.Common.{List, ℕ, refl, subst}
use Rattle.shelf_files.specs.Whole.{Reads}
use Rattle.odb_run.proofs.Answering.{loaded_gives}
use Rattle.odb_run.proofs.file_answers.answer_load.Goals as goal

pub returns-clause-gives : goal.returns-clause-gives
returns-clause-gives g c =
    let shelf = g.F.Shelf in
    let told = shelf.told c.args.shelf.now in
    let reads = subst (λ (name : List ℕ). Reads told name c.in_ok-read.read) c.as_str.ensures c.in_ok-read.ensures.reads in
    loaded_gives c.args.session.now c.answer_read.new.session c.args.replies.now.items c.answer_read.new.replies.items c.in_ok-answer_read.field-0 told (shelf.told c.read_file.new.shelf) c.args.file c.in_ok-read.read (c.if-not-is_without_eco.ensures.0 refl) reads c.in_ok-read.ensures.files c.in_ok-answer_read.ensures
