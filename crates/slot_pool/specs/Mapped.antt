-- Tables with one record changed, and tables as they look through a function of each record.
use Rattle.std.specs.Prelude.{ℕ, Option, None, Some, map, option_map}
use Rattle.slot_pool.specs.Table.{Pool, Table, once_more, record_at, replaced}

module _ {A : Type 0} where
  -- the table with the record in a slot changed, where it has one
  abbrev pub on_slot : (A → A) → ℕ → Table A → Option A → Table A
  on_slot change id t None = t
  on_slot change id t (Some x) = replaced id (change x) t

  -- the table with the record of an id changed, where it has one
  abbrev pub on_record : (A → A) → ℕ → Table A → Table A
  on_record change id t = on_slot change id t (record_at t id)

  -- the pool after a move that changed the record of an id, where it has one
  abbrev pub on_pool : (A → A) → ℕ → Pool A → Pool A
  on_pool change id p = record p { table = on_record change id p.table; moved = once_more p.moved }

-- the table that has in place of each record what the function shows of it
abbrev pub plain : {A B : Type 0} → (A → B) → Table A → Table B
plain show t = record { slots = map (option_map show) t.slots; free = t.free }
