-- No blank stands before this place.
use Rattle.std.proofs.Common.{◌≡◌, false, take}
use Rattle.std.specs.List.{list_any}
use Rattle.script_words.specs.Words.{is_blank}
use Rattle.script_words.proofs.words.word_len.Given as goal

abbrev pub invariant-loop-at : goal.invariant-loop-at
invariant-loop-at l = list_any is_blank (take l.at l.line) ≡ false
