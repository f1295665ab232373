use Rattle.std.proofs.Common.{◌≡◌, Some, ap, ◌∙◌, sym, rules, arith, position, length, length-drop}
use Rattle.std.proofs.lemmas.Result.{err_from_is_err_and}
use Rattle.ld_words.specs.Input.{reading_at}
use Rattle.ld_words.specs.Reading.{Between, Comment, is_line_feed}
use Rattle.ld_words.proofs.Between.{comment_entered, comment_left, comment_on}
use Rattle.ld_words.proofs.Telling.{same_by, same_on, shows_on}
use Rattle.ld_words.proofs.input.Input.pass_comment.Goals as goal

pub comment-init : goal.comment-init
comment-init g c = record {
  reading = same_by _ _ (comment_entered g.S.Source.left c.args.self.now c.pass.new.self c.requires.begins c.pass.ensures);
  taken = search rules;
  at_hand = omega (arith, ap length c.pass.ensures.window, length-drop 1 c.args.self.now.window);
  ready = search rules;
  later = search rules;
  rest = search rules;
}

pub returns-in-Some-clause-reading : goal.returns-in-Some-clause-reading
returns-in-Some-clause-reading g c =
    let left = g.S.Source.left in
    let some : position is_line_feed c.comment.self.window ≡ Some c.in-Some.count = ap (position is_line_feed) (sym c.bytes-bytes.ensures.value) ∙ sym c.in-Some.ensures in
    same_on (reading_at left Between c.args.self.now) (reading_at left Comment c.comment.self) (reading_at left Between c.pass-in-Some.new.self)
    c.comment.invariant.reading
    (same_by _ _ (comment_left left c.comment.self c.pass-in-Some.new.self c.in-Some.count some c.pass-in-Some.ensures))

pub returns-in_err-more-clause-fault : goal.returns-in_err-more-clause-fault
returns-in_err-more-clause-fault g c =
    let left = g.S.Source.left in
    let p = err_from_is_err_and c.from_residual.result c.from_residual.ensures.1 in
    let passed = comment_on left c.args.self.now c.comment.self c.pass-in-comment.new.self c.bytes-bytes.result.now c.bytes-bytes.ensures.value (sym c.first_line_feed.ensures ∙ c.in_default.is) c.pass-in-comment.ensures c.comment.invariant.reading in
    rw (p.1, p.2) (shows_on (reading_at left Between c.args.self.now) (reading_at left Comment c.pass-in-comment.new.self) c.in_err-more.field-0.0 passed c.in_err-more.ensures.comment)

pub returns-then-not-branch-clause-reading : goal.returns-then-not-branch-clause-reading
returns-then-not-branch-clause-reading g c =
    let left = g.S.Source.left in
    let passed = comment_on left c.args.self.now c.comment.self c.pass-in-comment.new.self c.bytes-bytes.result.now c.bytes-bytes.ensures.value (sym c.first_line_feed.ensures ∙ c.in_default.is) c.pass-in-comment.ensures c.comment.invariant.reading in
    let ends = rw c.if-not-branch.true at c.in_ok-more.ensures.goes in
    same_on (reading_at left Between c.args.self.now) (reading_at left Comment c.pass-in-comment.new.self) (reading_at left Between c.more.new.self) passed ends.comment

pub comment-preserved : goal.comment-preserved
comment-preserved g c =
    let left = g.S.Source.left in
    let passed = comment_on left c.args.self.now c.comment.self c.pass-in-comment.new.self c.bytes-bytes.result.now c.bytes-bytes.ensures.value (sym c.first_line_feed.ensures ∙ c.in_default.is) c.pass-in-comment.ensures c.comment.invariant.reading in
    let goes = rw c.if-not-branch.false at c.in_ok-more.ensures.goes in
    record {
      reading = same_on (reading_at left Between c.args.self.now) (reading_at left Comment c.pass-in-comment.new.self) (reading_at left Comment c.more.new.self) passed (goes.reading Comment);
      taken = search rules;
      at_hand = omega (arith, ap length c.pass-in-comment.ensures.window, ap length c.bytes-bytes.ensures.value, length-drop (length c.bytes-bytes.result.now) c.comment.self.window);
      ready = search rules;
      later = search rules;
      rest = search rules;
    }
