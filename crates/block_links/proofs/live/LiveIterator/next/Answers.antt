use Rattle.std.proofs.Common.{◌≡◌, ◌∙◌, true, false, ◌+◌, ap, arith, length, sym}
use Rattle.block_store.specs.Block.{live_in}
use Rattle.block_store.proofs.Upward.{next_live, this_live}
use Rattle.block_links.proofs.live.LiveIterator.next.Goals as goal

pub returns-then-live-clause-steps : goal.returns-then-live-clause-steps
returns-then-live-clause-steps c =
    let s = c.loop-self.self-inside in
    let here : live_in s.kind (s.passed + 1) s.block.now.block ≡ true = sym c.live.ensures ∙ c.if-live.true in
    sym c.self.view_is ∙ sym c.loop-self.invariant.0 ∙ this_live s.kind s.block.now.block s.passed s.slots c.loop-self-test.true here

-- one identifier fewer is left
pub returns-then-live-clause-goes : goal.returns-then-live-clause-goes
returns-then-live-clause-goes c =
    let steps = returns-then-live-clause-steps c in
    record { on = λ _. (tt, tt, omega (arith, ap length steps)); keeps = tt; rests = λ _. tt }

pub loop-self-preserved : goal.loop-self-preserved
loop-self-preserved c =
    let s = c.loop-self.self-inside in
    let empty : live_in s.kind (s.passed + 1) s.block.now.block ≡ false = sym c.live.ensures ∙ c.if-live.false in
    (sym (next_live s.kind s.block.now.block s.passed s.slots c.loop-self-test.true empty) ∙ c.loop-self.invariant.0, c.loop-self.invariant.1)
