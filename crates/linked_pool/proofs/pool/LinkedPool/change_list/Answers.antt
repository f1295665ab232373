use Rattle.std.proofs.Common.{◌∙◌, ap, lives, refl, rules}
use Rattle.linked_pool.specs.Linking.{link_of, with_link}
use Rattle.linked_pool.specs.declared.pool.LinkedPool.{LinkedPool}
use Rattle.linked_pool.proofs.Keeping.{links_keep, links_through, values-with_link, values_of}
use Rattle.linked_pool.proofs.pool.LinkedPool.change_list.Goals as goal

pub change_list-requires : goal.change_list-requires
change_list-requires g c κs within = (search (rules, lives, within.0) depth 24 fits 20000, (search (rules, lives, within.1) depth 24 fits 20000, (c.requires.1.1.0, c.requires.1.1.1)))

pub returns-clause-cells : goal.returns-clause-cells
returns-clause-cells g c =
    ap (λ (s : LinkedPool g.row.R.Denot). s.pool) c.change_list.ensures.cells
    ∙ links_through (λ (s : LinkedPool g.row.R.Denot) id link. record s { pool = with_link s.pool id link }) (λ (s : LinkedPool g.row.R.Denot) id. link_of s.pool id) with_link link_of
    (λ (s : LinkedPool g.row.R.Denot). s.pool) (λ s id link. refl) (λ s id. refl) c.args.change g.ids c.args.self.now

pub returns-clause-cap : goal.returns-clause-cap
returns-clause-cap g c =
    let same = ap (λ (s : LinkedPool g.row.R.Denot). values_of s.pool) c.change_list.ensures.cells
    ∙ links_keep (λ (s : LinkedPool g.row.R.Denot) id link. record s { pool = with_link s.pool id link }) (λ (s : LinkedPool g.row.R.Denot) id. link_of s.pool id)
    (λ (s : LinkedPool g.row.R.Denot). values_of s.pool) (λ s id link. values-with_link s.pool id link) c.args.change g.ids c.args.self.now in
    ap (λ p. p.cap) same

pub returns-clause-spare : goal.returns-clause-spare
returns-clause-spare g c =
    let same = ap (λ (s : LinkedPool g.row.R.Denot). values_of s.pool) c.change_list.ensures.cells
    ∙ links_keep (λ (s : LinkedPool g.row.R.Denot) id link. record s { pool = with_link s.pool id link }) (λ (s : LinkedPool g.row.R.Denot) id. link_of s.pool id)
    (λ (s : LinkedPool g.row.R.Denot). values_of s.pool) (λ s id link. values-with_link s.pool id link) c.args.change g.ids c.args.self.now in
    ap (λ p. p.spare) same
