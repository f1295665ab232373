use Rattle.std.proofs.Common.{◌≡◌, subst}
use Rattle.std.specs.Prelude.{IfErr}
use Rattle.saved_reader.specs.declared.saved.Saved.{Saved}
use Rattle.odb_save.specs.Loading.{IsPartFault}
use Rattle.odb_save.specs.Spelled.{spelled_with}
use Rattle.odb_save.proofs.loading.make_database.Goals as goal

pub returns-in-Ok-clause-err : goal.returns-in-Ok-clause-err
returns-in-Ok-clause-err c =
    let same : spelled_with c.in-Ok.design c.args.saved.tables ≡ c.args.saved =
    (λ i. record { tech = c.in-Ok.ensures.tech i; library = c.in-Ok.ensures.library i; tables = c.args.saved.tables })
    in
    let P : Saved → Type 0 = λ s. IfErr c.with_tables.result (λ fault. IsPartFault c.args.cap s fault) in
    subst P same c.with_tables.ensures.err
