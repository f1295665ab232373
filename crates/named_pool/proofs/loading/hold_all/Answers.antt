use Rattle.std.proofs.Common.{arith, length, lives, rules, ap, ◌≡◌, ◌∙◌, subst, sym}
use Rattle.slot_pool.proofs.Mapped.{slots_plain}
use Rattle.named_pool.specs.declared.cells.NameCell.{NameCell}
use Rattle.named_pool.specs.Held.{held, objects}
use Rattle.named_pool.specs.Names.{AreNamed}
use Rattle.named_pool.proofs.HeldUpTo.{holds_all, holds_over, holds_to}
use Rattle.named_pool.proofs.Holding.{rechained_same}
use Rattle.named_pool.proofs.loading.hold_all.Goals as goal

pub reserve-requires : goal.reserve-requires
reserve-requires g c κs within = (search (rules, lives, within) depth 24 fits 20000, c.requires.none.stands)

pub loop-place-init : goal.loop-place-init
loop-place-init g c =
    let own = g.R.Named.own_name in
    let cells = c.args.cells.now in
    let names = held own cells c.args.index.now in
    let more = c.reserve.ensures in
    let same = rechained_same _ cells c.reserve.new.cells more.cells in
    record {
      holds = holds_to own c.reserve.new.cells c.reserve.new.self names 0 (holds_over own cells c.args.index.now names 0 c.reserve.new.cells c.reserve.new.self c.requires.none more.kept more.named more.stands);
      objects = ap (λ p. p.table) same;
      cap = ap (λ p. p.cap) same;
      room = omega (arith, c.in_ok-reserve.ensures.room);
    }

pub hold-requires-clause-names : goal.hold-requires-clause-names
hold-requires-clause-names g c = subst (λ t. AreNamed g.R.Named.own_name t) (sym c.loop-place.invariant.objects) c.requires.names

pub reserve-requires-2 : goal.reserve-requires-2
reserve-requires-2 g c κs within = (search (rules, lives, within) depth 24 fits 20000, c.loop-place.invariant.holds.stands)

pub returns-clause-all : goal.returns-clause-all
returns-clause-all g c =
    let own = g.R.Named.own_name in
    let old = c.args.cells.now in
    let cells = c.loop-place.cells in
    let new = c.reserve-2.new.cells in
    let names = held own cells c.loop-place.index in
    let more = c.reserve-2.ensures in
    let same : objects new ≡ objects old = ap (λ p. p.table) (rechained_same _ cells new more.cells) ∙ c.loop-place.invariant.objects in
    let long = sym (slots_plain (λ (c : NameCell g.row.R.Denot). c.value) new.pool.table) ∙ ap (λ t. length t.slots) same ∙ slots_plain (λ (c : NameCell g.row.R.Denot). c.value) old.pool.table in
    let few = ap (λ t. length t.free) same in
    holds_all own new c.reserve-2.new.self names c.loop-place.place
    (holds_over own cells c.loop-place.index names c.loop-place.place new c.reserve-2.new.self c.loop-place.invariant.holds more.kept more.named more.stands)
    (omega (arith, long, c.slots-slots.ensures.count, c.loop-place-test.false))
    (omega (arith, few, c.slots-slots.ensures.count, c.live_count.ensures.others, c.in_ok-reserve-2.ensures.room))

pub returns-clause-objects : goal.returns-clause-objects
returns-clause-objects g c = ap (λ p. p.table) (rechained_same _ c.loop-place.cells c.reserve-2.new.cells c.reserve-2.ensures.cells) ∙ c.loop-place.invariant.objects

pub returns-clause-cap : goal.returns-clause-cap
returns-clause-cap g c = ap (λ p. p.cap) (rechained_same _ c.loop-place.cells c.reserve-2.new.cells c.reserve-2.ensures.cells) ∙ c.loop-place.invariant.cap
