use Rattle.std.proofs.Common.{◌≡◌, ℕ, get_or, refl, subst, sym, ◌∙◌, arith}
use Rattle.block_tables.specs.RuleNets.{term_net}
use Rattle.block_tables.proofs.GoodTables.{held_place}
use Rattle.block_tables.proofs.Standings.{counted_in}
use Rattle.block_tables.proofs.nets.are_terminals.Goals as goal

pub returns : goal.returns
returns c = (
  (λ t number held.
      let place = held_place c.args.numbers.now number held in
      let within = place.1 in
      let P : ℕ → Type 0 = λ n. (term_net c.args.tables.now n ≡ c.args.net) × (get_or c.args.standing.now n 0 ≡ 1) in
      let known = subst P place.2 (c.loop-number.invariant place.0 (omega (arith, within))) in
      let often = sym (counted_in c.args.tables.now c.args.standing.now c.args.numbers.now c.args.net number c.requires.counted c.requires.list known.0) ∙ known.1 in
      (omega (arith, often), known.0)),
  (λ all. refl),
)
