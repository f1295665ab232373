use Rattle.std.proofs.Common.{arith, length, lives, rules, ap, ◌≡◌, ◌∙◌, sym}
use Rattle.std.specs.Option.{option_map}
use Rattle.slot_pool.specs.Mapped.{plain}
use Rattle.slot_pool.specs.Table.{given, record_at}
use Rattle.slot_pool.proofs.Mapped.{at_given, at_given_other, at_plain, plain_given, plain_taken}
use Rattle.named_pool.specs.declared.cells.NameCell.{NameCell}
use Rattle.named_pool.specs.declared.cells.NameCells.{NameCells}
use Rattle.named_pool.specs.Held.{objects}
use Rattle.named_pool.proofs.Holding.{rechained_same}
use Rattle.named_pool.proofs.Moving.{cell_of_object, left_is}
use Rattle.named_pool.proofs.pool.NamedPool.give.Goals as goal

pub drop_name-requires : goal.drop_name-requires
drop_name-requires g c κs within =
    let is_cell = cell_of_object c.self.inside.cells c.args.id (rw (← c.self.view_is) at c.requires) in (
      search (rules, lives, within.0) depth 24 fits 20000,
      (search (rules, lives, within.1) depth 24 fits 20000, (c.self.invariant.stands, (is_cell, c.self.invariant.each c.args.id is_cell))),
    )

pub invariant_of-self : goal.invariant_of-self
invariant_of-self g c =
    let id = c.args.id in
    let old = c.self.inside.cells in
    let new = c.drop_name.new.cells in
    let drop = c.drop_name.ensures in
    let last : NameCells g.row.R.Denot = record { pool = c.give.new.self } in
    let is_cell = cell_of_object old id (rw (← c.self.view_is) at c.requires) in
    let live = drop.kept id ∙ is_cell in
    let moved = c.give.ensures.table in
    let few = ap (λ t. length t.free) moved in
    left_is g.R.Named.own_name old new c.self.inside.index id c.drop_name.new.self _ c.self.invariant is_cell drop.cells drop.kept drop.named drop.stands drop.spare last
    (λ other apart. ap (λ t. record_at t other) moved ∙ at_given_other id other new.pool.table live apart)
    (ap (λ t. record_at t id) moved ∙ at_given id new.pool.table live)
    (omega (arith, few))

pub returns-clause-value : goal.returns-clause-value
returns-clause-value g c =
    let new = c.drop_name.new.cells in
    let shown = sym (ap (λ p. p.table) (rechained_same _ c.self.inside.cells new c.drop_name.ensures.cells)) in
    rw (← c.self.view_is) (ap (λ t. record_at t c.args.id) shown ∙ at_plain (λ (c : NameCell g.row.R.Denot). c.value) new.pool.table c.args.id ∙ ap (option_map (λ (c : NameCell g.row.R.Denot). c.value)) c.give.ensures.value)

pub returns-clause-table : goal.returns-clause-table
returns-clause-table g c =
    let new = c.drop_name.new.cells in
    let shown : objects new ≡ objects c.self.inside.cells = ap (λ p. p.table) (rechained_same _ c.self.inside.cells new c.drop_name.ensures.cells) in
    rw (← c.self.view_is) (ap (plain (λ (c : NameCell g.row.R.Denot). c.value)) c.give.ensures.table ∙ plain_given (λ (c : NameCell g.row.R.Denot). c.value) c.args.id new.pool.table ∙ ap (given c.args.id) shown)

pub returns-clause-cap : goal.returns-clause-cap
returns-clause-cap g c =
    let same = ap (λ p. p.cap) (rechained_same _ c.self.inside.cells c.drop_name.new.cells c.drop_name.ensures.cells) in
    rw (← c.self.view_is) (c.give.ensures.cap ∙ same)

pub returns-clause-spare : goal.returns-clause-spare
returns-clause-spare g c =
    let same = ap (λ p. p.spare) (rechained_same _ c.self.inside.cells c.drop_name.new.cells c.drop_name.ensures.cells) in
    rw (← c.self.view_is) (omega (arith, same, c.give.ensures.spare, c.drop_name.ensures.spare))

pub returns-clause-back : goal.returns-clause-back
returns-clause-back g c =
    let shown : objects c.drop_name.new.cells ≡ objects c.self.inside.cells = ap (λ p. p.table) (rechained_same _ c.self.inside.cells c.drop_name.new.cells c.drop_name.ensures.cells) in
    rw (← c.self.view_is) (sym (plain_taken (λ (c : NameCell g.row.R.Denot). c.value) c.give.result c.give.new.self.table) ∙ ap (plain (λ (c : NameCell g.row.R.Denot). c.value)) c.give.ensures.back ∙ shown)
