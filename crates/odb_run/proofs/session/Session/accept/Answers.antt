use Rattle.std.proofs.Common.{◌∙◌, ap, reverse}
use Rattle.odb_run.proofs.Accepting.{goes_on, next_first}
use Rattle.odb_run.proofs.session.Session.accept.Goals as goal

pub loop-step-preserved : goal.loop-step-preserved
loop-step-preserved g c =
    let left = ap reverse c.in-Some.ensures.items ∙ next_first c.pop.new.self.items c.in-Some.step in
    let can = rw left at c.loop-step.invariant.can in
    let way = rw left at c.loop-step.invariant.under_way in
    record {
      can = rw c.in_ok-do_step.ensures.ok can.2;
      under_way = goes_on _ _ _ _ _ _ way c.in_ok-do_step.ensures.ok;
    }
