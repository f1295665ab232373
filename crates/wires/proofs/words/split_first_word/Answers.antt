use Rattle.std.proofs.Common.{sym, ◌+◌, add-one}
use Rattle.std.proofs.lemmas.List.{take_rest}
use Rattle.wires.proofs.Parted.{words_none, words_some}
use Rattle.wires.proofs.words.split_first_word.Goals as goal

pub returns-in-Some-clause-first : goal.returns-in-Some-clause-first
returns-in-Some-clause-first c = rw (take_rest c.args.words.now (c.in-Some.at + 1), add-one) (words_some c.args.words.now c.in-Some.at (sym c.in-Some.ensures)).1

pub returns-in-None-clause-last : goal.returns-in-None-clause-last
returns-in-None-clause-last c = words_none c.args.words.now (sym c.in-None.ensures)
