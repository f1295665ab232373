use Rattle.std.proofs.Common.{◌≡◌, ◌+◌, ◌≤◌, subst, ◌∙◌, inl, inr, arith}
use Rattle.std.proofs.lemmas.Bool.{cases_lt}
use Rattle.odb_base.specs.Kind.{kind_code}
use Rattle.odb_base.specs.declared.codes.kind.Kind.{Kind}
use Rattle.block_store.specs.Block.{slots_in}
use Rattle.odb_base.proofs.KindCodes.{same_kind}
use Rattle.block_tables.proofs.KindOrder.{all_passed, code_of_item}
use Rattle.block_tables.proofs.caps.fits.Goals as goal

pub loop-kind-preserved : goal.loop-kind-preserved
loop-kind-preserved c = λ k near.
    let code = code_of_item c.every-kind-items.result.now c.loop-kind.kind-index c.every-kind-items.ensures c.loop-kind-test.true in
    elim (cases_lt c.loop-kind.kind-index (kind_code k)) [
      | inl here ↦
          let next : c.loop-kind.kind-index + 1 ≡ kind_code k = omega arith in
          let same = same_kind _ k (code ∙ next) in
          let P : Kind → Type 0 = λ kind. slots_in kind c.args.tables.now ≤ c.args.cap in
          subst P same (omega (arith, c.slots.ensures))
      | inr before ↦ c.loop-kind.invariant k before
    ]

pub returns-clause-within : goal.returns-clause-within
returns-clause-within c = λ t k. c.loop-kind.invariant k (all_passed c.every-kind-items.result.now c.loop-kind.kind-index c.every-kind-items.ensures c.loop-kind-test.false k)
