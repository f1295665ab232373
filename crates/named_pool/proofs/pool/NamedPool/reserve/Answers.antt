use Rattle.std.proofs.Common.{lives, rules, arith, ap, ◌≡◌, ◌∙◌}
use Rattle.slot_pool.specs.Mapped.{plain}
use Rattle.named_pool.specs.declared.cells.NameCell.{NameCell}
use Rattle.named_pool.specs.declared.cells.NameCells.{NameCells}
use Rattle.named_pool.specs.Held.{objects}
use Rattle.named_pool.proofs.Holding.{rechained_same}
use Rattle.named_pool.proofs.Moving.{reserved_is, table_same}
use Rattle.named_pool.proofs.pool.NamedPool.reserve.Goals as goal

pub invariant_of-self : goal.invariant_of-self
invariant_of-self g c =
    let new : NameCells g.row.R.Denot = record { pool = c.reserve.new.self } in
    table_same g.R.Named.own_name c.self.inside.cells new c.self.inside.index c.self.invariant c.reserve.ensures.table

pub reserve-requires-2 : goal.reserve-requires-2
reserve-requires-2 g c κs within =
    let new : NameCells g.row.R.Denot = record { pool = c.reserve.new.self } in
    (search (rules, lives, within) depth 24 fits 20000, (table_same g.R.Named.own_name c.self.inside.cells new c.self.inside.index c.self.invariant c.reserve.ensures.table).stands)

pub invariant_of-self-in_err-reserve-2 : goal.invariant_of-self-in_err-reserve-2
invariant_of-self-in_err-reserve-2 g c =
    let own = g.R.Named.own_name in
    let new : NameCells g.row.R.Denot = record { pool = c.reserve.new.self } in
    let index = c.self.inside.index in
    let is = table_same own c.self.inside.cells new index c.self.invariant c.reserve.ensures.table in
    let more = c.reserve-2.ensures in
    reserved_is own new c.reserve-2.new.cells index c.reserve-2.new.self _ is more.cells more.kept more.named more.spare more.stands

pub invariant_of-self-2 : goal.invariant_of-self-2
invariant_of-self-2 g c =
    let own = g.R.Named.own_name in
    let new : NameCells g.row.R.Denot = record { pool = c.reserve.new.self } in
    let index = c.self.inside.index in
    let is = table_same own c.self.inside.cells new index c.self.invariant c.reserve.ensures.table in
    let more = c.reserve-2.ensures in
    reserved_is own new c.reserve-2.new.cells index c.reserve-2.new.self _ is more.cells more.kept more.named more.spare more.stands

pub returns-clause-ok : goal.returns-clause-ok
returns-clause-ok g c =
    let new : NameCells g.row.R.Denot = record { pool = c.reserve.new.self } in
    let same = ap (λ p. p.spare) (rechained_same _ new c.reserve-2.new.cells c.reserve-2.ensures.cells) in
    omega (arith, same, c.in_ok-reserve.ensures.ok, c.in_ok-reserve-2.ensures.room)

pub returns-clause-table : goal.returns-clause-table
returns-clause-table g c =
    let new : NameCells g.row.R.Denot = record { pool = c.reserve.new.self } in
    let shown : objects c.reserve-2.new.cells ≡ objects new = ap (λ p. p.table) (rechained_same _ new c.reserve-2.new.cells c.reserve-2.ensures.cells) in
    rw (← c.self.view_is) (shown ∙ ap (plain (λ (c : NameCell g.row.R.Denot). c.value)) c.reserve.ensures.table)

pub returns-clause-cap : goal.returns-clause-cap
returns-clause-cap g c =
    let new : NameCells g.row.R.Denot = record { pool = c.reserve.new.self } in
    rw (← c.self.view_is) (ap (λ p. p.cap) (rechained_same _ new c.reserve-2.new.cells c.reserve-2.ensures.cells) ∙ c.reserve.ensures.cap)

pub returns-clause-spare : goal.returns-clause-spare
returns-clause-spare g c =
    let new : NameCells g.row.R.Denot = record { pool = c.reserve.new.self } in
    let same = ap (λ p. p.spare) (rechained_same _ new c.reserve-2.new.cells c.reserve-2.ensures.cells) in
    rw (← c.self.view_is) (omega (arith, same, c.reserve.ensures.spare, c.reserve-2.ensures.spare))
