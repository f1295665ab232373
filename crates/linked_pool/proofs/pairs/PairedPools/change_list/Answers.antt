use Rattle.std.proofs.Common.{◌∙◌, ap, lives, rules}
use Rattle.linked_pool.specs.Pairs.{link_of, with_link}
use Rattle.linked_pool.proofs.Keeping.{both_values, links_keep, pair-with_link}
use Rattle.linked_pool.proofs.pairs.PairedPools.change_list.Goals as goal

pub change_list-requires : goal.change_list-requires
change_list-requires g c κs within = (search (rules, lives, within.0, within.1.0) depth 60 fits 1000000, (search (rules, lives, within.1.1) depth 24 fits 20000, (c.requires.1.1.1.0, c.requires.1.1.1.1)))

pub returns-clause-caps : goal.returns-clause-caps
returns-clause-caps g c =
    let same = ap (both_values {A = g.row.A.Denot} {B = g.row.B.Denot}) c.change_list.ensures.cells ∙ links_keep with_link link_of both_values pair-with_link c.args.change g.ids c.args.self.now in
    (ap (λ b. b.first.cap) same, ap (λ b. b.second.cap) same)

pub returns-clause-spares : goal.returns-clause-spares
returns-clause-spares g c =
    let same = ap (both_values {A = g.row.A.Denot} {B = g.row.B.Denot}) c.change_list.ensures.cells ∙ links_keep with_link link_of both_values pair-with_link c.args.change g.ids c.args.self.now in
    (ap (λ b. b.first.spare) same, ap (λ b. b.second.spare) same)
