-- Tables of numbered slots, their good states, and the moves on them.
use Rattle.std.specs.Prelude.{◌≡◌, ◌≢◌, ◌==◌, ◌&&◌, ℕ, ◌+◌, ◌-◌, ◌≤◌, Bool, true, false, List, [], ◌∷◌, ◌++◌, Option, Some, None, IsTrue, if◌then◌else◌, is_some, is_none, length, take, All, count_by, min, ◌^◌, nat_le, slice_index_or, slice_set}

-- a list of slots, each with a record or empty, and a list of free ids, top first: id k names the k-th
-- slot, from 1
pub record Table (A : Type 0) : Type 0 where
  pub slots : List (Option A)
  pub free : List ℕ

-- what a pool is: its table, the greatest number of slots, for how many takes there is memory, and how many
-- moves it has made
pub record Pool (A : Type 0) : Type 0 where
  pub table : Table A
  pub cap : ℕ
  pub spare : ℕ
  pub moved : ℕ

-- a count of moves after one more; it stops at the greatest number of 64 bits
abbrev pub once_more : ℕ → ℕ
once_more moved = min (moved + 1) (2 ^ 64 - 1)

-- how often an id stands in a list
abbrev pub times : ℕ → List ℕ → ℕ
times id ids = count_by (λ other. other == id) ids

abbrev pub once_if : Bool → ℕ
once_if b = if b then 1 else 0

module _ {A : Type 0} where
  -- the record in the slot of an id: none for 0, for an id past the slots, and for an empty slot
  abbrev pub record_in : List (Option A) → ℕ → Option A
  record_in slots id = if id == 0 then None else slice_index_or slots (id - 1) None

  -- the id names a slot, and that slot is empty
  abbrev pub is_vacant : List (Option A) → ℕ → Bool
  is_vacant slots id = nat_le 1 id && nat_le id (length slots) && is_none (record_in slots id)

  -- the slots, where the one of this id, from 1 on, has this content
  abbrev pub with_slot : ℕ → Option A → List (Option A) → List (Option A)
  with_slot id content slots = slice_set slots (id - 1) content

  -- the record of an id
  abbrev pub record_at : Table A → ℕ → Option A
  record_at t id = record_in t.slots id

  -- the id has a record
  abbrev pub is_live : Table A → ℕ → Bool
  is_live t id = is_some (record_at t id)

  -- the free list holds the id of each empty slot exactly once and no other id
  abbrev pub IsGood : Table A → Type 0
  IsGood t = (id : ℕ) → times id t.free ≡ once_if (is_vacant t.slots id)

  -- the id that the take after k further takes gives: the k-th free id from the top, from 0, and past
  -- these the ids of slots that are still to come
  abbrev pub next_id : Table A → ℕ → ℕ
  next_id t k = slice_index_or t.free k (length t.slots + (k + 1 - length t.free))

  -- how many slots have a record
  abbrev pub live_count : Table A → ℕ
  live_count t = count_by is_some t.slots

  -- how many takes the cap allows: one for each free id, and one for each slot still to come
  abbrev pub takes_left : Pool A → ℕ
  takes_left p = length p.table.free + (p.cap - length p.table.slots)

  -- what is spare is at least the free ids, and at most what the cap allows
  pub record IsSpareBounded (p : Pool A) : Type 0 where
    pub low : length p.table.free ≤ p.spare
    pub high : p.spare ≤ takes_left p

  -- the record goes into the slot of the top free id, or becomes the last slot where no id is free
  abbrev pub taken_by : A → List (Option A) → List ℕ → Table A
  taken_by x slots [] = record { slots = slots ++ Some x ∷ []; free = [] }
  taken_by x slots (top ∷ below) = record { slots = with_slot top (Some x) slots; free = below }

  -- the table after a take of this record
  abbrev pub taken : A → Table A → Table A
  taken x t = taken_by x t.slots t.free

  -- the slot of the id is emptied, and the id goes on top of the free list
  abbrev pub given : ℕ → Table A → Table A
  given id t = record { slots = with_slot id None t.slots; free = id ∷ t.free }

  -- the slot of the id has this record in place of its own
  abbrev pub replaced : ℕ → A → Table A → Table A
  replaced id x t = record t { slots = with_slot id (Some x) t.slots }

  -- the pool after one move that put this record in place of that of the id
  abbrev pub with_record : Pool A → ℕ → A → Pool A
  with_record p id x = record p { table = replaced id x p.table; moved = once_more p.moved }

  -- the way back of a take: the last slot goes where the take added it, else the id is given
  abbrev pub untaken : ℕ → Bool → Table A → Table A
  untaken id true t = record t { slots = take (length t.slots - 1) t.slots }
  untaken id false t = given id t

  -- the way back of a give: a take, as the id that was given is on top
  abbrev pub ungiven : A → Table A → Table A
  ungiven x t = taken x t

  -- the take of this id can be taken back: the id is live and, where the take added its slot, that slot
  -- is the last and no id is free
  pub record CanUntake (t : Table A) (id : ℕ) (grew : Bool) : Type 0 where
    pub live : IsTrue (is_live t id)
    pub last : IsTrue grew → id ≡ length t.slots
    pub none_free : IsTrue grew → t.free ≡ []

  -- some id is free
  abbrev pub CanUngive : Table A → Type 0
  CanUngive t = t.free ≢ []

  -- each free id names an empty slot
  abbrev pub FreeIdsAreVacant : Table A → Type 0
  FreeIdsAreVacant t = All (λ id. IsTrue (is_vacant t.slots id)) t.free

  -- no id that takes will give has a record yet
  abbrev pub NextIdsAreNew : Table A → Type 0
  NextIdsAreNew t = (k : ℕ) → record_at t (next_id t k) ≡ None

  -- a take puts the record at the next id, and leaves what the other ids have
  abbrev pub RecordsAfterTake : A → Table A → Type 0
  RecordsAfterTake x t = (id : ℕ) → record_at (taken x t) id ≡ (if id == next_id t 0 then Some x else record_at t id)

  -- a give takes the record of the id away, and leaves what the other ids have
  abbrev pub RecordsAfterGive : ℕ → Table A → Type 0
  RecordsAfterGive id t = (other : ℕ) → record_at (given id t) other ≡ (if other == id then None else record_at t other)

  -- the id has the new record, and the other ids what they had
  abbrev pub RecordsAfterReplace : ℕ → A → Table A → Type 0
  RecordsAfterReplace id x t = (other : ℕ) → record_at (replaced id x t) other ≡ (if other == id then Some x else record_at t other)
