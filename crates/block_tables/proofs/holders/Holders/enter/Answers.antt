use Rattle.std.proofs.Common.{◌≡◌, ◌+◌, min, arith}
use Rattle.block_tables.specs.Counting.{holders_in}
use Rattle.block_tables.proofs.Counts.{entered}
use Rattle.block_tables.proofs.holders.Holders.enter.Goals as goal
use Rattle.block_tables.proofs.holders.Holders.enter.Goals.{then-of-eq0, else-of-eq0}

pub returns : goal.returns
returns c =
    let is : c.if-of-eq0.count ≡ min 2 (holders_in c.args.self.now.counts c.args.name.now + 1) = elim c.if-of-eq0.branch [ then-of-eq0 w ↦ omega (arith, c.of.ensures) | else-of-eq0 w ↦ omega (arith, c.of.ensures) ] in
    record { ok = entered c.args.self.now.counts c.insert.new.self c.args.name.now c.if-of-eq0.count c.in_ok-insert.ensures.updates is }
