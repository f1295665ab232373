-- The terminals so far, with those of the words that are left behind them, are those of the line.
use Rattle.std.proofs.Common.{◌≡◌, length}
use Rattle.script_words.specs.Commands.{terminals}
use Rattle.script_words.specs.Words.{words_of}
use Rattle.script_words.proofs.TerminalLemmas.{onto}
use Rattle.script_words.proofs.master_line.terminals.Given as goal

abbrev pub invariant-terminals : goal.invariant-terminals
invariant-terminals l = onto l.terminals (terminals (words_of l.rest)) ≡ terminals (words_of l.fn.line)

abbrev pub decreases-terminals : goal.decreases-terminals
decreases-terminals l = length (words_of l.rest)
