use Rattle.std.proofs.Common.{◌≡◌, true, false, Some, IsSome, slice_get, length, refl, subst, sym, ap, arith}
use Rattle.std.proofs.lemmas.Option.{slice_get_read}
use Rattle.library.specs.Terminals.{term_index}
use Rattle.block_steps.proofs.Judged.{all_within, not_within, within_more}
use Rattle.block_steps.proofs.judging.names_within.Goals as goal

pub returns-then-not-has_term : goal.returns-then-not-has_term
returns-then-not-has_term c =
    let at : slice_get c.args.one.now.terminals c.loop-term.term-index ≡ Some c.term-item.result = subst (λ l. slice_get l c.loop-term.term-index ≡ Some c.term-item.result) c.items-term-items.ensures (slice_get_read c.items-term-items.result.now _ c.loop-term.term-index c.term-item.result refl c.loop-term-test.true c.term-item.is) in
    let none : IsSome (term_index c.args.other.now c.term-item.result.name) → true ≡ false = λ some.
    let so : c.has_term.result ≡ true = c.has_term.ensures.1 (subst (λ n. IsSome (term_index c.args.other.now n)) (sym c.bytes.ensures.value) some) in cc in
    (λ no. cc, λ within. absurd (not_within c.args.one.now c.args.other.now c.loop-term.term-index c.term-item.result at (λ some. let no = none some in cc) within))

pub loop-term-preserved : goal.loop-term-preserved
loop-term-preserved c =
    let at : slice_get c.args.one.now.terminals c.loop-term.term-index ≡ Some c.term-item.result = subst (λ l. slice_get l c.loop-term.term-index ≡ Some c.term-item.result) c.items-term-items.ensures (slice_get_read c.items-term-items.result.now _ c.loop-term.term-index c.term-item.result refl c.loop-term-test.true c.term-item.is) in
    let so : c.has_term.result ≡ true = cc in
    within_more c.args.one.now c.args.other.now c.loop-term.term-index c.term-item.result c.loop-term.invariant at
    (subst (λ n. IsSome (term_index c.args.other.now n)) c.bytes.ensures.value (c.has_term.ensures.0 so))

pub returns : goal.returns
returns c = (
  λ so. all_within c.args.one.now c.args.other.now (λ k x below at. c.loop-term.invariant k x (omega (arith, below, c.loop-term-test.false, ap length c.items-term-items.ensures)) at),
  λ within. refl,
)
