use Rattle.std.proofs.Common.{◌≡◌, ◌+◌, ◌≤◌, subst, ◌∙◌, inl, inr, arith}
use Rattle.std.proofs.lemmas.Bool.{cases_lt}
use Rattle.odb_base.specs.Kind.{kind_code}
use Rattle.odb_base.specs.declared.codes.kind.Kind.{Kind}
use Rattle.block_store.specs.Block.{slots_in}
use Rattle.block_tables.specs.Rules.{IsSoundKind}
use Rattle.odb_base.proofs.KindCodes.{same_kind}
use Rattle.block_tables.proofs.KindOrder.{all_passed, code_of_item}
use Rattle.block_tables.proofs.check.check_kinds.Goals as goal

pub returns-in-Some-clause-err : goal.returns-in-Some-clause-err
returns-in-Some-clause-err c = λ cap few header.
    let code = code_of_item c.every-kind-items.result.now c.loop-kind.kind-index c.every-kind-items.ensures c.loop-kind-test.true in
    record {
      header = header;
      lesser = λ other below. c.loop-kind.invariant other (omega (arith, code, below)) cap (few other);
      first = c.in_ok-fault_in.ensures.first c.in-Some.id c.in-Some.is cap (few _);
    }

pub loop-kind-preserved : goal.loop-kind-preserved
loop-kind-preserved c = λ k near cap few.
    let code = code_of_item c.every-kind-items.result.now c.loop-kind.kind-index c.every-kind-items.ensures c.loop-kind-test.true in
    elim (cases_lt c.loop-kind.kind-index (kind_code k)) [
      | inl here ↦
          let same = same_kind _ k (code ∙ (let next : c.loop-kind.kind-index + 1 ≡ kind_code k = omega arith in next)) in
          let P : Kind → Type 0 = λ kind. slots_in kind c.args.judge.now.tables.now ≤ cap → IsSoundKind c.args.judge.now.tech.now c.args.judge.now.library.now cap c.args.judge.now.tables.now kind in
          subst P same (c.in_ok-fault_in.ensures.none c.in-None.is cap) few
      | inr before ↦ c.loop-kind.invariant k before cap few
    ]

pub returns-clause-ok : goal.returns-clause-ok
returns-clause-ok c = λ cap few k. c.loop-kind.invariant k (all_passed c.every-kind-items.result.now c.loop-kind.kind-index c.every-kind-items.ensures c.loop-kind-test.false k) cap (few k)
