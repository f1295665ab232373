-- The blanks that are left go behind those that were counted.
use Rattle.std.proofs.Common.{◌≡◌, ◌+◌, ◌≤◌, not, length, take}
use Rattle.std.specs.List.{position_or_len}
use Rattle.ld_words.specs.Reading.{is_blank, line_feeds}
use Rattle.ld_words.proofs.scan.blanks_in.Given as goal

abbrev pub invariant-blanks : goal.invariant-blanks
invariant-blanks l =
    let others = position_or_len (λ b. not (is_blank b)) l.rest in
    let all = position_or_len (λ b. not (is_blank b)) l.initial.rest in
    record {
      bytes : l.blanks.bytes + others ≡ all;
      lines : l.blanks.lines + line_feeds (take others l.rest) ≡ line_feeds (take all l.initial.rest);
      within : l.blanks.bytes + length l.rest ≡ length l.initial.rest;
      fewer : l.blanks.lines ≤ l.blanks.bytes;
    }

abbrev pub decreases-blanks : goal.decreases-blanks
decreases-blanks l = length l.rest
