use Rattle.std.proofs.Common.{◌≡◌, ◌∷◌, List, length, ap, subst, arith}
use Rattle.std.proofs.lemmas.Result.{err_from_is_err_and}
use Rattle.std.specs.Vec.Iter.{into_iter_items}
use Rattle.edit_words.specs.declared.part.TechPart.{TechPart}
use Rattle.tech_parts.proofs.Entered.{IsUnderWay, one_done, one_refused}
use Rattle.tech_parts.proofs.adding.enter_all.Goals as goal

pub loop-part-preserved : goal.loop-part-preserved
loop-part-preserved c =
    let at = c.loop-part in
    let p = c.in-Some.part in
    let rest = into_iter_items c.next.new.self in
    let steps : into_iter_items at.part-iterator ≡ p ∷ rest = c.in-Some.ensures.steps.0 in
    let way = subst (λ (l : List TechPart). IsUnderWay c.args.parts.items l at.at at.last c.args.db.now at.db) steps at.invariant.way in
    record {
      way = one_done c.args.parts.items rest p at.at at.last c.in_ok-last.last c.args.db.now at.db c.enter.new.db way c.in_ok-last.ensures.may c.in_ok-last.ensures.ok c.in_ok-last.ensures.id;
      counted = (
          let was = at.invariant.counted in
          let gone = c.in-Some.ensures.steps.1 in
          let short = ap length steps in
          omega arith);
    }

pub returns-in_err-last-clause-fault : goal.returns-in_err-last-clause-fault
returns-in_err-last-clause-fault c =
    let at = c.loop-part in
    let p = c.in-Some.part in
    let rest = into_iter_items c.next.new.self in
    let steps : into_iter_items at.part-iterator ≡ p ∷ rest = c.in-Some.ensures.steps.0 in
    let way = subst (λ (l : List TechPart). IsUnderWay c.args.parts.items l at.at at.last c.args.db.now at.db) steps at.invariant.way in
    let fault = one_refused c.args.parts.items rest p at.at at.last c.args.db.now at.db c.in_err-last.field-0.0 way c.in_err-last.ensures.fault in
    let exit = err_from_is_err_and c.from_residual.result c.from_residual.ensures.1 in
    rw (exit.1, exit.2) fault
