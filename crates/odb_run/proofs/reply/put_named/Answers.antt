use Rattle.std.proofs.Common.{◌∙◌, List, ℕ, ◌++◌, ap}
use Rattle.reports.specs.Texts.{line_end, spaced, value}
use Rattle.odb_run.proofs.ReplyTexts.{named}
use Rattle.odb_run.proofs.reply.put_named.Goals as goal

pub returns : goal.returns
returns c =
    let out = c.args.out.now.items in
    let text = c.args.text.now in
    let front = c.in_ok-put_text_and_word.ensures ∙ ap (λ (word : List ℕ). out ++ (text ++ spaced word)) c.word.ensures in
    let numbered = c.in_ok-put_value.ensures ∙ ap (λ (all : List ℕ). all ++ value c.args.id) front in
    c.in_ok-end_line.ensures ∙ ap (λ (all : List ℕ). all ++ line_end) numbered ∙ named out text c.args.kind c.args.id
