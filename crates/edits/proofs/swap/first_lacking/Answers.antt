use Rattle.std.proofs.Common.{◌≡◌, ◌+◌, true, false, drop, is_none, is_some, not, sym, ap, ◌∙◌}
use Rattle.std.proofs.lemmas.List.{at_drop_more}
use Rattle.library.specs.Terminals.{term_index}
use Rattle.edits.specs.Plan.{first_lacking}
use Rattle.edits.proofs.Terminals.{lacking_here, lacking_later}
use Rattle.edits.proofs.swap.first_lacking.Goals as goal

pub returns-then-is_none : goal.returns-then-is_none
returns-then-is_none c =
    let m = c.args.master.now in
    let t = c.terminal-item.result in
    let i = c.loop-terminal.terminal-index in
    let named : c.term_index.result ≡ term_index m t.name = c.term_index.ensures.few c.requires ∙ ap (term_index m) c.bytes.ensures.value in
    let absent : is_some c.term_index.result ≡ false = c.if-is_none.ensures in
    let none : is_none (term_index m t.name) ≡ true = ap is_none (sym named) ∙ ap not absent in
    let here = lacking_here m t (drop (i + 1) c.args.terminals.now) none in
    let more = at_drop_more (first_lacking m) c.args.terminals.now i t c.loop-terminal-test.true in
    let same = c.terminal-item.is in
    cc (here, more, same, c.loop-terminal.invariant)

pub loop-terminal-preserved : goal.loop-terminal-preserved
loop-terminal-preserved c =
    let m = c.args.master.now in
    let t = c.terminal-item.result in
    let i = c.loop-terminal.terminal-index in
    let named : c.term_index.result ≡ term_index m t.name = c.term_index.ensures.few c.requires ∙ ap (term_index m) c.bytes.ensures.value in
    let present : is_some c.term_index.result ≡ true = c.if-is_none.ensures in
    let there : is_none (term_index m t.name) ≡ false = ap is_none (sym named) ∙ ap not present in
    let later = lacking_later m t (drop (i + 1) c.args.terminals.now) there in
    let more = at_drop_more (first_lacking m) c.args.terminals.now i t c.loop-terminal-test.true in
    let same = c.terminal-item.is in
    cc (later, more, same, c.loop-terminal.invariant)
