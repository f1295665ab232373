use Rattle.lef_reader.proofs.SpelledTexts.{texts-left, texts-read}
use Rattle.lef_reader.proofs.laws.texts_are_read.Goals as goal

pub returns : goal.returns
returns c = record { trees = texts-read c.words_are_read_in_order.ensures.lines; left = texts-left c.words_are_read_in_order.ensures.left }
