-- For how much there is room in memory, kind by kind.
use Rattle.std.specs.Prelude.{◌≡◌, ◌≤◌, ◌+◌, ◌-◌, ℕ, length}
use Rattle.odb_base.specs.declared.codes.kind.Kind.{Kind}
use Rattle.odb_base.specs.declared.codes.kind.Kind.TheVariants as kind
use Rattle.block_cells.specs.Cells.{Cells, free_in, slots_in}

-- for how many new objects of each kind there is room
pub record Rooms : Type 0 where
  pub inst : ℕ
  pub iterm : ℕ
  pub net : ℕ
  pub bterm : ℕ
  pub pin : ℕ
  pub row : ℕ
  pub track : ℕ
  pub wire : ℕ
  pub blockage : ℕ
  pub region : ℕ
  pub group : ℕ
  pub prop : ℕ

-- the cells, the cap of their tables, and for what there is room
pub record CellStore : Type 0 where
  pub cells : Cells
  pub cap : ℕ
  pub room : Rooms

-- for how many new objects of a kind there is room
abbrev pub room_of : Kind → Rooms → ℕ
room_of kind.Inst r = r.inst
room_of kind.ITerm r = r.iterm
room_of kind.Net r = r.net
room_of kind.BTerm r = r.bterm
room_of kind.Pin r = r.pin
room_of kind.Row r = r.row
room_of kind.Track r = r.track
room_of kind.Wire r = r.wire
room_of kind.Blockage r = r.blockage
room_of kind.Region r = r.region
room_of kind.Group r = r.group
room_of kind.Prop r = r.prop

-- room for so many new objects of a kind, and for all else as before
abbrev pub with_room : Kind → ℕ → Rooms → Rooms
with_room kind.Inst n r = record r { inst = n }
with_room kind.ITerm n r = record r { iterm = n }
with_room kind.Net n r = record r { net = n }
with_room kind.BTerm n r = record r { bterm = n }
with_room kind.Pin n r = record r { pin = n }
with_room kind.Row n r = record r { row = n }
with_room kind.Track n r = record r { track = n }
with_room kind.Wire n r = record r { wire = n }
with_room kind.Blockage n r = record r { blockage = n }
with_room kind.Region n r = record r { region = n }
with_room kind.Group n r = record r { group = n }
with_room kind.Prop n r = record r { prop = n }

-- the room for objects of one kind changed, and no other
abbrev pub ChangesRoom : Kind → Rooms → Rooms → Type 0
ChangesRoom k old new = new ≡ with_room k (room_of k new) old

-- how many new objects of the kind the cap allows
abbrev pub left_in : Kind → CellStore → ℕ
left_in k s = length (free_in k s.cells) + (s.cap - slots_in k s.cells)

-- there is room for as many objects of the kind as have a free identifier, and for no more than the cap allows
pub record IsRoomBounded (k : Kind) (s : CellStore) : Type 0 where
  pub low : length (free_in k s.cells) ≤ room_of k s.room
  pub high : room_of k s.room ≤ left_in k s
