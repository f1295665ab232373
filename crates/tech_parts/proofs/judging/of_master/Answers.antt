use Rattle.std.proofs.Common.{rules, ap, ◌∙◌}
use Rattle.library.specs.Masters.{find_master}
use Rattle.tech_parts.specs.Adding.{cause_of}
use Rattle.tech_parts.proofs.Causes.{found_some}
use Rattle.tech_parts.proofs.judging.of_master.Goals as goal

pub returns : goal.returns
unfolding cause_of
returns c =
    let library = ap (λ d. d.library) c.db.view_is in
    let name = ap (find_master c.db.inside.library) c.bytes.ensures.value ∙ ap (λ held. find_master held c.args.master.now.name) library in
    let taken = c.is_some-taken.ensures ∙ found_some (λ id. id.0) c.find_master.result (find_master c.args.db.now.library c.args.master.now.name) (c.find_master.ensures ∙ name) in
    let lawful = c.is_lawful_master-lawful.ensures.test in
    rw (c.first_of.ensures, taken, lawful) (search rules)
