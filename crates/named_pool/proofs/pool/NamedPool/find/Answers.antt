use Rattle.std.proofs.Common.{◌∙◌, rules}
use Rattle.std.proofs.Common.{lives}
use Rattle.named_pool.proofs.Holding.{are_held, found_same}
use Rattle.named_pool.proofs.pool.NamedPool.find.Goals as goal

pub find-requires : goal.find-requires
find-requires g c κs within = (search (rules, lives, within) depth 24 fits 20000, c.self.invariant.stands)

pub returns : goal.returns
returns g c =
    let cells = c.self.inside.cells in
    let are = are_held g.R.Named.own_name cells c.self.inside.index c.self.invariant in
    c.find.ensures ∙ rw (← c.self.view_is) (found_same g.R.Named.own_name cells c.self.inside.index _ c.args.name.now are)
