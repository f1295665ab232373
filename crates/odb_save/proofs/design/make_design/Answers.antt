use Rattle.std.proofs.Common.{◌≡◌, ℕ, ap, subst, sym, ◌∙◌}
use Rattle.tech.specs.Technology.{Technology, empty_technology, with_units}
use Rattle.block_store.specs.Database.{Database, empty_database, with_tech}
use Rattle.odb_save.specs.declared.load_fault.LoadFault.{LoadFault}
use Rattle.odb_save.specs.Loading.{IsDesignFault}
use Rattle.odb_save.proofs.Designs.{entered_design, refused_design}
use Rattle.odb_save.proofs.design.make_design.Goals as goal

-- the database with these units alone
without_parts : (t s : Technology) (cap : ℕ) (old new : Database) → s ≡ t → old ≡ empty_database cap → new ≡ with_tech (with_units s.units old.tech) old
    → new ≡ with_tech (with_units t.units empty_technology) (empty_database cap)
without_parts t s cap old new same empty stated =
    stated ∙ ap (λ (d : Database). with_tech (with_units s.units d.tech) d) empty
    ∙ ap (λ (u : Technology). with_tech (with_units u.units empty_technology) (empty_database cap)) same

pub returns-in-Ok-clause-tech : goal.returns-in-Ok-clause-tech
returns-in-Ok-clause-tech c =
    let none = without_parts c.args.tech _ c.args.cap c.in_ok-db.db c.set_units.new.self c.tech.view_is c.in_ok-db.ensures c.set_units.ensures in
    ap (λ (d : Database). d.tech) (entered_design c.args.tech c.args.library (empty_database c.args.cap) _ _ c.in_ok-parts.ensures none c.add_parts.new.db c.in-Ok.ensures.ok)

pub returns-in-Ok-clause-library : goal.returns-in-Ok-clause-library
returns-in-Ok-clause-library c =
    let none = without_parts c.args.tech _ c.args.cap c.in_ok-db.db c.set_units.new.self c.tech.view_is c.in_ok-db.ensures c.set_units.ensures in
    ap (λ (d : Database). d.library) (entered_design c.args.tech c.args.library (empty_database c.args.cap) _ _ c.in_ok-parts.ensures none c.add_parts.new.db c.in-Ok.ensures.ok)

pub returns-in-Err-clause-err : goal.returns-in-Err-clause-err
returns-in-Err-clause-err c =
    let none = without_parts c.args.tech _ c.args.cap c.in_ok-db.db c.set_units.new.self c.tech.view_is c.in_ok-db.ensures c.set_units.ensures in
    let P : LoadFault → Type 0 = IsDesignFault c.args.tech c.args.library in
    subst P (sym c.from.ensures) (refused_design c.args.tech c.args.library (empty_database c.args.cap) _ _ c.in_ok-parts.ensures none c.in-Err.fault c.in-Err.ensures.fault)
