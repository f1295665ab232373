use Rattle.std.proofs.Common.{◌+◌, List, ℕ, min, if◌then◌else◌, ap, sym, ◌∙◌}
use Rattle.std.specs.Str.{bytes_eq}
use Rattle.block_tables.specs.Counting.{holders_in}
use Rattle.block_tables.proofs.Counts.{counted_more}
use Rattle.block_tables.proofs.headers.holders_of.Goals as goal

pub loop-terminal-preserved : goal.loop-terminal-preserved
loop-terminal-preserved c =
    let terminal = c.terminal-item.result in
    λ name.
    let held = holders_in c.loop-terminal.holders.counts name in
    c.in_ok-enter.ensures.ok name
    ∙ ap (λ (bytes : List ℕ). if bytes_eq bytes name then min 2 (held + 1) else held) c.bytes.ensures.value
    ∙ ap (λ n. if bytes_eq terminal.name name then min 2 (n + 1) else n) (c.loop-terminal.invariant name)
    ∙ sym (counted_more (λ thing. bytes_eq thing.name name) c.args.terminals.now c.loop-terminal.terminal-index terminal c.loop-terminal-test.true c.terminal-item.is)
