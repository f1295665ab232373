use Rattle.std.proofs.Common.{◌==◌, eqb, refl, ◌∙◌, inl, inr, arith}
use Rattle.std.proofs.lemmas.Bool.{cases_Bool, eqb-true}
use Rattle.block_tables.specs.RuleNets.{term_net}
use Rattle.block_tables.proofs.Counts.{listed_more}
use Rattle.block_tables.proofs.standing.count_list.Goals as goal

pub loop-number-init : goal.loop-number-init
loop-number-init c = (
  refl,
  λ number within. elim (cases_Bool (eqb (term_net c.args.tables.now number) c.args.net)) [
    | inl e ↦ rw e (c.requires number (eqb-true (term_net c.args.tables.now number) c.args.net e))
    | inr e ↦ rw e refl
  ],
)

pub loop-number-preserved : goal.loop-number-preserved
loop-number-preserved c =
    let long = c.loop-number.invariant.0 in (
      c.count_in_net.ensures.long ∙ long,
      λ number within. listed_more (λ n. term_net c.args.tables.now n == c.args.net) c.args.numbers.now c.loop-number.number-index c.args.counts.now.items c.loop-number.counts.items c.count_in_net.new.counts.items (omega arith) c.count_in_net.ensures.others c.count_in_net.ensures.this (λ n h. c.loop-number.invariant.1 n (omega (arith, long, h))) number (omega (arith, long, within)),
    )
