use Rattle.std.proofs.Common.{subst, sym}
use Rattle.block_store.specs.Database.{Database}
use Rattle.block_tables.specs.Causes.{IsRefusal}
use Rattle.odb_save.specs.declared.load_fault.LoadFault.{LoadFault}
use Rattle.odb_save.specs.Design.{IsDesign}
use Rattle.odb_save.specs.Loading.{IsPartFault}
use Rattle.odb_save.specs.Spelled.{spelled_with}
use Rattle.odb_save.proofs.Loads.{part_of_tables}
use Rattle.odb_save.proofs.loading.with_tables.Goals as goal

pub returns-in-Err-clause-err : goal.returns-in-Err-clause-err
returns-in-Err-clause-err c =
    let Lawful : Database → Type 0 = λ d. IsDesign d.tech d.library in
    let Refused : Database → Type 0 = λ d. IsRefusal d.tech d.library c.args.cap c.args.tables c.in-Err.fault in
    let lawful = subst Lawful c.design.view_is (record { tech = c.design.invariant.tech; library = c.design.invariant.library }) in
    let refused = subst Refused c.design.view_is c.in-Err.ensures.unsound in
    let P : LoadFault → Type 0 = IsPartFault c.args.cap (spelled_with c.args.design c.args.tables) in
    subst P (sym c.from.ensures) (part_of_tables c.args.cap (spelled_with c.args.design c.args.tables) c.in-Err.fault lawful refused)
