use Rattle.std.proofs.Common.{arith, lives, rules, refl, ap, ◌≡◌, ◌∙◌, Some, subst, sym}
use Rattle.std.specs.Option.{option_map}
use Rattle.slot_pool.specs.Mapped.{on_record}
use Rattle.slot_pool.specs.Table.{record_at, replaced, with_record}
use Rattle.slot_pool.proofs.Mapped.{at_plain, on_found, plain_replaced}
use Rattle.named_pool.specs.declared.cells.NameCell.{NameCell}
use Rattle.named_pool.specs.declared.cells.NameCells.{NameCells}
use Rattle.named_pool.specs.Held.{objects}
use Rattle.named_pool.specs.Names.{IsFreeBut}
use Rattle.named_pool.proofs.Holding.{rechained_same}
use Rattle.named_pool.proofs.Moving.{cell_of_object, renamed_but, renamed_cell, renamed_is, renamed_new}
use Rattle.named_pool.proofs.pool.NamedPool.rename.Goals as goal

pub drop_name-requires : goal.drop_name-requires
drop_name-requires g c κs within =
    let is_cell = cell_of_object c.self.inside.cells c.args.id (rw (← c.self.view_is) at c.requires.live) in (
      search (rules, lives, within.0) depth 24 fits 20000,
      (search (rules, lives, within.1) depth 24 fits 20000, (c.self.invariant.stands, (is_cell, c.self.invariant.each c.args.id is_cell))),
    )

pub add-requires : goal.add-requires
add-requires g c κs within =
    let own = g.R.Named.own_name in
    let id = c.args.id in
    let old = c.self.inside.cells in
    let new = c.drop_name.new.cells in
    let drop = c.drop_name.ensures in
    let was = c.change.result.now in
    let now : NameCell g.row.R.Denot = record { value = c.set_name-old.new.self; chain = was.chain } in
    let last : NameCells g.row.R.Denot = record { pool = with_record new.pool id now } in
    let is_cell = cell_of_object old id (rw (← c.self.view_is) at c.requires.live) in
    let name : own now.value ≡ c.args.name = ap own c.set_name-old.ensures.new ∙ g.met.R.Named.named was.value c.args.name in
    let free : IsFreeBut own id c.args.name (objects old) = rw (← c.self.view_is) at c.requires.name in
    let free_name = subst (λ n. IsFreeBut own id n (objects old)) (sym name) free in (
      search (rules, lives, within.0) depth 24 fits 20000,
      (
        search (rules, lives, within.1) depth 24 fits 20000,
        (
          (renamed_but own old new last c.self.inside.index c.drop_name.new.self id was now _ c.self.invariant is_cell drop.cells drop.kept drop.named drop.stands drop.spare c.change.ensures.value refl).stands,
          (renamed_cell own old new last c.self.inside.index c.drop_name.new.self id was now _ c.self.invariant is_cell drop.cells drop.kept drop.named drop.stands drop.spare c.change.ensures.value refl, (renamed_new own old new last c.self.inside.index c.drop_name.new.self id was now _ c.self.invariant is_cell drop.cells drop.kept drop.named drop.stands drop.spare c.change.ensures.value refl free_name, omega (arith, drop.spare))),
        ),
      ),
    )

pub invariant_of-self : goal.invariant_of-self
invariant_of-self g c =
    let own = g.R.Named.own_name in
    let id = c.args.id in
    let old = c.self.inside.cells in
    let new = c.drop_name.new.cells in
    let drop = c.drop_name.ensures in
    let was = c.change.result.now in
    let now : NameCell g.row.R.Denot = record { value = c.set_name-old.new.self; chain = was.chain } in
    let last : NameCells g.row.R.Denot = record { pool = with_record new.pool id now } in
    let is_cell = cell_of_object old id (rw (← c.self.view_is) at c.requires.live) in
    let name : own now.value ≡ c.args.name = ap own c.set_name-old.ensures.new ∙ g.met.R.Named.named was.value c.args.name in
    let free : IsFreeBut own id c.args.name (objects old) = rw (← c.self.view_is) at c.requires.name in
    let free_name = subst (λ n. IsFreeBut own id n (objects old)) (sym name) free in
    let add = c.add.ensures in
    renamed_is own old new last c.self.inside.index c.drop_name.new.self id was now _ c.self.invariant is_cell drop.cells drop.kept drop.named drop.stands drop.spare c.change.ensures.value refl
    c.add.new.cells c.add.new.self _ free_name add.cells add.kept add.named add.spare add.stands

pub returns-clause-value : goal.returns-clause-value
returns-clause-value g c =
    let id = c.args.id in
    let own = g.R.Named.own_name in
    let new = c.drop_name.new.cells in
    let was = c.change.result.now in
    let shown : objects c.self.inside.cells ≡ objects new = sym (ap (λ p. p.table) (rechained_same _ c.self.inside.cells new c.drop_name.ensures.cells)) in
    let found : record_at (objects new) id ≡ Some was.value = at_plain (λ (c : NameCell g.row.R.Denot). c.value) new.pool.table id ∙ ap (option_map (λ (c : NameCell g.row.R.Denot). c.value)) c.change.ensures.value in
    rw (← c.self.view_is) (ap (λ t. option_map own (record_at t id)) shown ∙ ap (option_map own) found ∙ ap Some (sym c.set_name-old.ensures.old))

pub returns-clause-table : goal.returns-clause-table
returns-clause-table g c =
    let id = c.args.id in
    let old = c.self.inside.cells in
    let new = c.drop_name.new.cells in
    let was = c.change.result.now in
    let now : NameCell g.row.R.Denot = record { value = c.set_name-old.new.self; chain = was.chain } in
    let last : NameCells g.row.R.Denot = record { pool = with_record new.pool id now } in
    let change = g.R.Named.with_name c.args.name in
    let added : objects c.add.new.cells ≡ objects last = ap (λ p. p.table) (rechained_same _ last c.add.new.cells c.add.ensures.cells) in
    let dropped : objects new ≡ objects old = ap (λ p. p.table) (rechained_same _ old new c.drop_name.ensures.cells) in
    let found : record_at (objects new) id ≡ Some was.value = at_plain (λ (c : NameCell g.row.R.Denot). c.value) new.pool.table id ∙ ap (option_map (λ (c : NameCell g.row.R.Denot). c.value)) c.change.ensures.value in
    rw (← c.self.view_is) (added ∙ plain_replaced (λ (c : NameCell g.row.R.Denot). c.value) id now new.pool.table ∙ ap (λ y. replaced id y (objects new)) c.set_name-old.ensures.new
    ∙ sym (on_found change id was.value (objects new) found) ∙ ap (on_record change id) dropped)

pub returns-clause-cap : goal.returns-clause-cap
returns-clause-cap g c =
    let new = c.drop_name.new.cells in
    let now : NameCell g.row.R.Denot = record { value = c.set_name-old.new.self; chain = c.change.result.now.chain } in
    let last : NameCells g.row.R.Denot = record { pool = with_record new.pool c.args.id now } in
    rw (← c.self.view_is) (ap (λ p. p.cap) (rechained_same _ last c.add.new.cells c.add.ensures.cells) ∙ ap (λ p. p.cap) (rechained_same _ c.self.inside.cells new c.drop_name.ensures.cells))

pub returns-clause-spare : goal.returns-clause-spare
returns-clause-spare g c =
    let new = c.drop_name.new.cells in
    let now : NameCell g.row.R.Denot = record { value = c.set_name-old.new.self; chain = c.change.result.now.chain } in
    let last : NameCells g.row.R.Denot = record { pool = with_record new.pool c.args.id now } in
    let same = ap (λ p. p.spare) (rechained_same _ last c.add.new.cells c.add.ensures.cells) ∙ ap (λ p. p.spare) (rechained_same _ c.self.inside.cells new c.drop_name.ensures.cells) in
    rw (← c.self.view_is) (omega (arith, same, c.drop_name.ensures.spare, c.add.ensures.spare))
