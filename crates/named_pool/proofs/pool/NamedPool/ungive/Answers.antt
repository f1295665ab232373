use Rattle.std.proofs.Common.{arith, lives, rules, ap, ◌≡◌, ◌∙◌, sym}
use Rattle.slot_pool.specs.Mapped.{plain}
use Rattle.slot_pool.specs.Table.{given}
use Rattle.slot_pool.proofs.Mapped.{plain_given, plain_taken}
use Rattle.named_pool.specs.declared.cells.NameCell.{NameCell}
use Rattle.named_pool.specs.declared.cells.NameCells.{NameCells}
use Rattle.named_pool.specs.Held.{objects}
use Rattle.named_pool.proofs.Holding.{rechained_same}
use Rattle.named_pool.proofs.Moving.{entered_but, entered_cell, entered_is, entered_new, some_free, unchained}
use Rattle.named_pool.proofs.pool.NamedPool.ungive.Goals as goal

pub add-requires : goal.add-requires
add-requires g c κs within =
    let own = g.R.Named.own_name in
    let old = c.self.inside.cells in
    let new : NameCells g.row.R.Denot = record { pool = c.ungive-id.new.self } in
    let index = c.self.inside.index in
    let free = rw (← c.self.view_is) at c.requires.name in
    let some = some_free old.pool.table.free (rw (← c.self.view_is) at c.requires.can) in
    let good = c.ungive-id.ensures.good in
    let at = c.ungive-id.ensures in (
      search (rules, lives, within.0) depth 24 fits 20000,
      (
        search (rules, lives, within.1) depth 24 fits 20000,
        (
          (entered_but own old new index c.args.value c.ungive-id.result c.self.invariant good at.id at.table).stands,
          (
            entered_cell own old new index c.args.value c.ungive-id.result c.self.invariant good at.id at.table,
            (entered_new own old new index c.args.value c.ungive-id.result c.self.invariant good at.id at.table free, omega (arith, some, c.self.invariant.room)),
          ),
        ),
      ),
    )

pub invariant_of-self : goal.invariant_of-self
invariant_of-self g c =
    let own = g.R.Named.own_name in
    let old = c.self.inside.cells in
    let new : NameCells g.row.R.Denot = record { pool = c.ungive-id.new.self } in
    let free = rw (← c.self.view_is) at c.requires.name in
    let at = c.ungive-id.ensures in
    let add = c.add.ensures in
    entered_is own old new c.self.inside.index c.args.value c.ungive-id.result c.self.invariant c.ungive-id.ensures.good at.id at.table
    c.add.new.cells c.add.new.self _ free add.cells add.kept add.named add.spare add.stands

pub returns-clause-table : goal.returns-clause-table
returns-clause-table g c =
    let new : NameCells g.row.R.Denot = record { pool = c.ungive-id.new.self } in
    let same = rechained_same _ new c.add.new.cells c.add.ensures.cells in
    let shown : objects c.add.new.cells ≡ objects new = ap (λ p. p.table) same in
    rw (← c.self.view_is) (shown ∙ ap (plain (λ (c : NameCell g.row.R.Denot). c.value)) c.ungive-id.ensures.table ∙ plain_taken (λ (c : NameCell g.row.R.Denot). c.value) (unchained c.args.value) c.self.inside.cells.pool.table)

pub returns-clause-cap : goal.returns-clause-cap
returns-clause-cap g c =
    let new : NameCells g.row.R.Denot = record { pool = c.ungive-id.new.self } in
    let same = rechained_same _ new c.add.new.cells c.add.ensures.cells in
    rw (← c.self.view_is) (ap (λ p. p.cap) same ∙ c.ungive-id.ensures.cap)

pub returns-clause-spare : goal.returns-clause-spare
returns-clause-spare g c =
    let new : NameCells g.row.R.Denot = record { pool = c.ungive-id.new.self } in
    let same = ap (λ p. p.spare) (rechained_same _ new c.add.new.cells c.add.ensures.cells) in
    rw (← c.self.view_is) (omega (arith, same, c.ungive-id.ensures.spare, c.add.ensures.spare))

pub returns-clause-back : goal.returns-clause-back
returns-clause-back g c =
    let new : NameCells g.row.R.Denot = record { pool = c.ungive-id.new.self } in
    let same = rechained_same _ new c.add.new.cells c.add.ensures.cells in
    let shown : objects c.add.new.cells ≡ objects new = ap (λ p. p.table) same in
    let id = c.ungive-id.result in
    rw (← c.self.view_is) (ap (given id) shown ∙ sym (plain_given (λ (c : NameCell g.row.R.Denot). c.value) id c.ungive-id.new.self.table) ∙ ap (plain (λ (c : NameCell g.row.R.Denot). c.value)) c.ungive-id.ensures.back)
