-- What a pool or a slot ends as, where a `&mut` to a record in it is returned.
use Rattle.std.specs.Prelude.{ℕ}
use Rattle.std.specs.Borrow.{Lends, Fml, RattleType, MutBor}
use Rattle.slot_pool.specs.Table.{Pool, with_record}
use Rattle.slot_pool.specs.contracts.pool.SlotPool.{the_row}

-- once the borrow r ends, the id has the last value written through r
abbrev pub LendsRecord : (T : RattleType) → MutBor (Pool T.Denot) → ℕ → MutBor T.Denot → Fml
LendsRecord T pool id r = Lends (the_row T) T pool r (with_record pool.now id)
