use Rattle.std.proofs.Common.{lives, rules, ap, ◌≡◌, true, sym, ◌∙◌}
use Rattle.named_pool.specs.Cells.{cell}
use Rattle.named_pool.specs.Held.{held}
use Rattle.named_pool.proofs.HeldUpTo.{holds_added, holds_new, holds_to}
use Rattle.named_pool.proofs.Holding.{rechained_same}
use Rattle.named_pool.proofs.loading.hold.Goals as goal

pub add-requires : goal.add-requires
add-requires g c κs within =
    let own = g.R.Named.own_name in
    let cells = c.args.cells.now in
    let names = held own cells c.args.index.now in
    let live : cell cells c.args.id ≡ true = sym c.live.ensures ∙ c.if-live.true in (
      search (rules, lives, within.0) depth 24 fits 20000,
      (
        search (rules, lives, within.1) depth 24 fits 20000,
        (c.requires.before.stands, (live, (holds_new own cells c.args.index.now names c.args.id c.requires.some c.requires.before c.requires.names live, c.requires.room))),
      ),
    )

pub returns-then-live-clause-now : goal.returns-then-live-clause-now
returns-then-live-clause-now g c =
    let own = g.R.Named.own_name in
    let cells = c.args.cells.now in
    let names = held own cells c.args.index.now in
    let live : cell cells c.args.id ≡ true = sym c.live.ensures ∙ c.if-live.true in
    let add = c.add.ensures in
    holds_to own c.add.new.cells c.add.new.self _ c.args.id (holds_added own cells c.args.index.now names c.args.id c.requires.some c.requires.before c.add.new.cells c.add.new.self c.requires.names live add.kept add.named add.stands)

pub returns-then-live-clause-objects : goal.returns-then-live-clause-objects
returns-then-live-clause-objects g c = ap (λ p. p.table) (rechained_same _ c.args.cells.now c.add.new.cells c.add.ensures.cells)

pub returns-then-live-clause-cap : goal.returns-then-live-clause-cap
returns-then-live-clause-cap g c = ap (λ p. p.cap) (rechained_same _ c.args.cells.now c.add.new.cells c.add.ensures.cells)
