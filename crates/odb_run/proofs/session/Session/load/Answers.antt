use Rattle.std.proofs.Common.{◌≡◌, ◌∙◌, ℕ, ap, subst, sym}
use Rattle.block_store.specs.Database.{Database}
use Rattle.odb_run.specs.Machine.{State}
use Rattle.odb_run.specs.declared.session.Session.TheInside.{Inside}
use Rattle.odb_save.specs.Loading.{IsLoaded}
use Rattle.odb_run.proofs.Answering.{eco_without, leads_without}
use Rattle.odb_run.proofs.session.Session.load.Goals as goal

pub invariant_of-self : goal.invariant_of-self
invariant_of-self c = leads_without c.self.inside.journal c.self.inside.database c.put_in.new.place (ap (λ (s : State). s.eco) c.self.view_is ∙ c.requires)

pub returns : goal.returns
returns c =
    let none = ap (λ (s : State). s.eco) c.self.view_is ∙ c.requires in
    let db = c.put_in.new.place in
    let capped : c.cap.result ≡ c.args.self.now.database.cap = c.cap.ensures.cap ∙ ap (λ (i : Inside). i.database.cap) c.self-inside.view_is ∙ ap (λ (s : State). s.database.cap) c.self.view_is in
    let loaded = subst (λ (d : Database). IsLoaded c.cap.result c.args.bytes.now d) (sym c.put_in.ensures) c.in_ok-database.ensures.answer in
    record {
      puts = (
        subst (λ (cap : ℕ). IsLoaded cap c.args.bytes.now db) capped loaded,
        ap (λ eco. record { database = db; eco = eco }) (eco_without c.self.inside.journal c.self.inside.database db none ∙ ap (λ (s : State). s.eco) c.self.view_is),
      );
    }
