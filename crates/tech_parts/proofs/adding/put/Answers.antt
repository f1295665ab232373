use Rattle.std.proofs.Common.{◌≡◌, None, subst}
use Rattle.edit_words.specs.declared.part.TechPart.{TechPart}
use Rattle.tech_parts.specs.Adding.{cause_of}
use Rattle.tech_parts.proofs.Causes.{units_are_few}
use Rattle.tech_parts.proofs.adding.put.Goals as goal

pub set_units-requires : goal.set_units-requires
set_units-requires c = units_are_few c.args.db.now c.in-Units.units (subst (λ (p : TechPart). cause_of c.args.db.now p ≡ None) c.in-Units.is c.requires)
