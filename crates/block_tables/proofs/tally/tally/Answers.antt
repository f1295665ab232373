use Rattle.std.proofs.Common.{[], true, ◌∙◌, arith}
use Rattle.block_tables.proofs.Counts.{listed_more}
use Rattle.block_tables.proofs.tally.tally.Goals as goal

pub loop-number-preserved : goal.loop-number-preserved
loop-number-preserved c =
    let long = c.loop-number.invariant.0 in (
      c.count_one.ensures.long ∙ long,
      λ number within. listed_more (λ n. true) c.args.numbers.now c.loop-number.number-index [] c.loop-number.counts.items c.count_one.new.counts.items (omega arith) c.count_one.ensures.others c.count_one.ensures.this (λ n h. c.loop-number.invariant.1 n (omega (arith, long, h))) number (omega (arith, long, within)),
    )
