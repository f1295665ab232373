use Rattle.std.proofs.Common.{◌≡◌, ◌+◌, ◌<◌, ◌≤◌, ℕ, Bool, Some, true, false, length, slice_get, refl, sym, ap, ◌∙◌, subst, arith, inl, inr}
use Rattle.std.proofs.lemmas.Bool.{cases_Bool, false≢true}
use Rattle.std.proofs.lemmas.Option.{slice_get-get_or, slice_get_within}
use Rattle.block_steps.proofs.Following.{differs, follows}
use Rattle.block_steps.proofs.judging.are_next.Goals.{then-are_next, else-are_next}
use Rattle.block_steps.proofs.judging.are_next.Goals as goal

pub loop-id-preserved : goal.loop-id-preserved
loop-id-preserved c = elim c.if-are_next.branch [
  | then-are_next w ↦
      let t = c.args.block.now.block.iterm in
      let ids = c.args.terminals.now in
      let n = c.loop-id.id-index in
      let at = slice_get-get_or ids n 0 c.loop-id-test.true in
      let held = c.loop-id.invariant.0 w.if-are_next.true in
      let told = sym w.eq-are_next.ensures ∙ sym w.are_next-is in (
        λ is. rw w.next-is (follows t ids c.loop-id.next w.next.new.self w.next.result n _ w.next.ensures.steps held.0 held.1 at (told ∙ is)),
        λ is are. differs t ids c.loop-id.next w.next.new.self w.next.result n _ w.next.ensures.steps held.0 at (omega (arith, c.type_inv.terminals n)) (told ∙ is) are,
      )
  | else-are_next w ↦ (λ is. absurd (false≢true (sym w.if-are_next.false ∙ sym w.are_next-is ∙ is)), λ is. c.loop-id.invariant.1 w.if-are_next.false)
]

pub returns : goal.returns
returns c = (
  λ is. let held = c.loop-id.invariant.0 is in λ k id at. held.1 k id (let within = slice_get_within c.args.terminals.now k id at in omega (arith, within, c.loop-id-test.false)) at,
  λ are. elim (cases_Bool c.loop-id.are_next) [ inl is ↦ is | inr is ↦ absurd (c.loop-id.invariant.1 is are) ],
)
