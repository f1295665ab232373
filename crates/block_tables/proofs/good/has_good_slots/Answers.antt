use Rattle.std.proofs.Common.{◌≡◌, ◌+◌, ◌<◌, ℕ, length, get_or, sym, ◌∙◌}
use Rattle.std.proofs.lemmas.Bool.{false≢true}
use Rattle.block_tables.specs.Counting.{often}
use Rattle.block_tables.proofs.GoodTables.{counted_if_good, good_if_counted}
use Rattle.block_tables.proofs.good.has_good_slots.Goals as goal
use Rattle.block_tables.proofs.good.has_good_slots.Goals.{then-all_within, else-all_within}

pub returns : goal.returns
returns g c =
    let tallied : (n : ℕ) → n < length c.args.slots.now + 1 → get_or c.in_ok-counts.counts.items n 0 ≡ often n c.args.free.now = c.in_ok-counts.ensures.counts in
    elim c.if-all_within.branch [
      | then-all_within w ↦
          let once = rw w.deref.ensures.value at w.are_free_once.ensures in
          rw w.result-is (
            (λ t. good_if_counted c.args.slots.now c.args.free.now c.in_ok-counts.counts.items tallied (record { within = c.all_within.ensures.0 w.if-all_within.true; once = once.0 t })),
            (λ good. once.1 ((counted_if_good c.args.slots.now c.args.free.now c.in_ok-counts.counts.items tallied good).once)),
          )
      | else-all_within w ↦ rw w.result-is (
        (λ t. absurd (false≢true (sym w.if-all_within.false ∙ t))),
        (λ good. c.all_within.ensures.1 ((counted_if_good c.args.slots.now c.args.free.now c.in_ok-counts.counts.items tallied good).within)),
      )
    ]
