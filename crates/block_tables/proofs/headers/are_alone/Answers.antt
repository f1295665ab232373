use Rattle.std.proofs.Common.{◌≡◌, Some, length, slice_get, refl, ap, sym, ◌∙◌, inl, inr, arith}
use Rattle.std.proofs.lemmas.Bool.{cases_lt, false≢true}
use Rattle.std.proofs.lemmas.Option.{slice_get_read}
use Rattle.library.specs.declared.mterm.MTerm.{MTerm}
use Rattle.block_tables.specs.Counting.{holders_in}
use Rattle.block_tables.proofs.Masters.{distinct_of_one, one_of_distinct, within_if_some}
use Rattle.block_tables.proofs.headers.are_alone.Goals as goal

pub returns-then-of-ne1 : goal.returns-then-of-ne1
returns-then-of-ne1 c =
    let item = c.terminal-item.result in
    let at : slice_get c.args.terminals.now c.loop-terminal.terminal-index ≡ Some item = slice_get_read c.args.terminals.now (length c.args.terminals.now) c.loop-terminal.terminal-index item refl (omega arith) c.terminal-item.is in (
      (λ t. absurd (false≢true t)),
      (λ distinct.
          let one = one_of_distinct (λ (t : MTerm). t.name) c.args.terminals.now distinct c.loop-terminal.terminal-index item at in
          let count : c.of.result ≡ 1 = c.of.ensures ∙ ap (λ n. holders_in c.args.holders.now.counts n) c.bytes.ensures.value ∙ c.requires item.name ∙ one in
          absurd (omega (arith, count))),
    )

pub loop-terminal-preserved : goal.loop-terminal-preserved
loop-terminal-preserved c = λ k t within at.
    let item = c.terminal-item.result in
    let item_at : slice_get c.args.terminals.now c.loop-terminal.terminal-index ≡ Some item = slice_get_read c.args.terminals.now (length c.args.terminals.now) c.loop-terminal.terminal-index item refl (omega arith) c.terminal-item.is in
    elim (cases_lt k c.loop-terminal.terminal-index) [
      | inl before ↦ c.loop-terminal.invariant k t before at
      | inr here ↦
          let place : k ≡ c.loop-terminal.terminal-index = omega (arith, within, here) in
          let same : item ≡ t = cc (place, at, item_at) in
          let count : c.of.result ≡ holders_in c.args.holders.now.counts t.name = c.of.ensures ∙ ap (λ n. holders_in c.args.holders.now.counts n) (c.bytes.ensures.value ∙ ap (λ (m : MTerm). m.name) same) in
          omega (arith, count)
    ]

pub returns : goal.returns
returns c = (
  (λ t. distinct_of_one (λ (t : MTerm). t.name) c.args.terminals.now (λ k x at.
      let near = within_if_some c.args.terminals.now k x at in
      sym (c.requires x.name) ∙ c.loop-terminal.invariant k x (omega (arith, near)) at)),
  (λ distinct. refl),
)
