use Rattle.std.proofs.Common.{refl, arith}
use Rattle.odb_outside.specs.Shelves.{files_told}
use Rattle.odb_run.specs.Answering.{IsCommandAnswer}
use Rattle.odb_run.proofs.Answering.{session_told}
use Rattle.odb_run.proofs.answers.answer_command.Goals as goal

pub returns-in_ok-answer_in_session-in_default : goal.returns-in_ok-answer_in_session-in_default
returns-in_ok-answer_in_session-in_default g c =
    let told = files_told (g.F.Shelf.told c.args.shelf.now) in
    let old = c.args.session.now in
    let new = c.answer_in_session.new.session in
    let before = c.args.replies.now.items in
    let after = c.answer_in_session.new.replies.items in
    let any_refused = c.in_ok-answer_in_session-in_default.field-0 in
    record {
      gives = session_told old new before after any_refused (λ m a. IsCommandAnswer m c.args.command a) told told refl c.in_ok-answer_in_session-in_default.ensures;
      failed = λ e. absurd (cc e);
      hand = c.requires;
      cause = record { later = omega arith; failed = λ e. absurd (cc e) };
    }
