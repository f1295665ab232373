use Rattle.std.proofs.Common.{List, ℕ, take, not, ap, ◌∙◌, drop, slice_get}
use Rattle.std.specs.List.{position_or_len}
use Rattle.ld_words.specs.Reading.{is_blank, line_feeds}
use Rattle.ld_words.proofs.Between.{blanks_read}
use Rattle.ld_words.proofs.Places.{denied_if, first_passes}
use Rattle.ld_words.proofs.input.Input.pass_blanks.Goals as goal

pub returns-clause-reading : goal.returns-clause-reading
returns-clause-reading g c =
    blanks_read g.S.Source.left c.args.self.now c.advance.new.self c.blanks_in-blanks.result
    (c.blanks_in-blanks.ensures.blanks ∙ ap (position_or_len (λ b. not (is_blank b))) c.bytes.ensures.value)
    (c.blanks_in-blanks.ensures.lines ∙ ap (λ (w : List ℕ). line_feeds (take c.blanks_in-blanks.result.bytes w)) c.bytes.ensures.value) c.advance.ensures

pub returns-clause-stops : goal.returns-clause-stops
returns-clause-stops g c =
    rw (c.advance.ensures.window, c.blanks_in-blanks.ensures.blanks, c.bytes.ensures.value)
    (denied_if is_blank (slice_get (drop (position_or_len (λ b. not (is_blank b)) c.args.self.now.window) c.args.self.now.window) 0) (first_passes (λ b. not (is_blank b)) c.args.self.now.window))
