use Rattle.std.proofs.Common.{◌≡◌, length}
use Rattle.wires.specs.PathReading.{AreShort, read_all}
use Rattle.wires.specs.PathWords.{words_of}
use Rattle.wires.proofs.parsing.read_words.Given as goal

abbrev pub invariant-words : goal.invariant-words
invariant-words l = record {
  read : read_all l.reader (words_of l.rest) ≡ read_all l.initial.reader (words_of l.words);
  short : AreShort l.initial.reader → AreShort l.reader;
}

abbrev pub decreases-words : goal.decreases-words
decreases-words l = length l.rest
