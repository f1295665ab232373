use Rattle.std.proofs.Common.{Err, ap, sym, ◌∙◌, subst}
use Rattle.script_words.specs.Commands.{terminals}
use Rattle.script_words.specs.Answers.{IsAnswer}
use Rattle.script_words.specs.Words.{words_of}
use Rattle.script_words.proofs.TerminalLemmas.{handed-on, has-none, has-word, none-left, onto, onto-more, onto-refused, terminal-refused, terminal-taken}
use Rattle.script_words.proofs.master_line.terminals.Goals as goal

pub returns-in_err-terminal : goal.returns-in_err-terminal
returns-in_err-terminal c =
    let rest = c.terminals.rest.now in
    let why = c.in_err-terminal.field-0.0 in
    let some = has-word rest c.next_word.result c.next_word.ensures c.terminals-test.ensures in
    let all = onto-refused c.terminals.terminals _ why (terminal-refused (words_of rest) why some c.in_err-terminal.ensures) in
    handed-on _ _ why c.from_residual.ensures (subst (λ answer. IsAnswer (Err why) answer) c.terminals.invariant all)

pub terminals-smaller : goal.terminals-smaller
terminals-smaller c = (terminal-taken (words_of c.terminals.rest.now) (words_of c.in_ok-terminal.others.now) c.in_ok-terminal.terminal c.in_ok-terminal.ensures).1

pub terminals-preserved : goal.terminals-preserved
terminals-preserved c =
    let some = c.terminals.terminals in
    let first = c.in_ok-terminal.terminal in
    let others = terminals (words_of c.in_ok-terminal.others.now) in
    let taken = (terminal-taken (words_of c.terminals.rest.now) (words_of c.in_ok-terminal.others.now) first c.in_ok-terminal.ensures).0 in
    ap (λ all. onto all others) c.in_ok-push.ensures.ok ∙ onto-more some first others ∙ ap (onto some) (sym taken) ∙ c.terminals.invariant

pub returns : goal.returns
returns c =
    let none = has-none c.terminals.rest.now c.next_word.result c.next_word.ensures c.terminals-test.ensures in
    sym c.terminals.invariant ∙ none-left c.terminals.terminals (words_of c.terminals.rest.now) none
