use Rattle.std.proofs.Common.{◌≡◌, true, sym}
use Rattle.block_steps.proofs.Judged.{swap_if, swap_only}
use Rattle.block_steps.proofs.judging.can_swap.Goals as goal

pub returns-then-names_within : goal.returns-then-names_within
returns-then-names_within c =
    let is_old = sym c.in-Some-Some.ensures in
    let is_new = sym c.in-Some-Some.ensures' in (
      λ both. swap_if c.args.library.now c.args.block.now.block c.args.inst c.args.master c.in-Some-Some.old.now c.in-Some-Some.new.now is_old is_new (c.names_within.ensures.0 c.if-names_within.true) (c.names_within-then-names_within.ensures.0 both),
      λ can. c.names_within-then-names_within.ensures.1 (swap_only c.args.library.now c.args.block.now.block c.args.inst c.args.master c.in-Some-Some.old.now c.in-Some-Some.new.now is_old is_new can).1,
    )

pub returns-else-names_within : goal.returns-else-names_within
returns-else-names_within c =
    let is_old = sym c.in-Some-Some.ensures in
    let is_new = sym c.in-Some-Some.ensures' in (
      λ so. let one : c.names_within.result ≡ true = so in absurd (cc),
      λ can. c.names_within.ensures.1 (swap_only c.args.library.now c.args.block.now.block c.args.inst c.args.master c.in-Some-Some.old.now c.in-Some-Some.new.now is_old is_new can).0,
    )
