-- A block that lies in cells: for what there is room, and when the cells are those of a block.
use Rattle.std.specs.Prelude.{ℕ}
use Rattle.block_cells.specs.Cells.{Cells}
use Rattle.block_cells.specs.declared.list_of.ListOf as cell
use Rattle.block_cells.specs.declared.list_of.ListOf.TheVariants as cell_list
use Rattle.block_cells.specs.Rooms.{CellStore}
use Rattle.block_store.specs.declared.list_of.ListOf.{ListOf}
use Rattle.block_store.specs.declared.list_of.ListOf.TheVariants as list
use Rattle.block_store.specs.Consistent.{IsConsistent}
use Rattle.block_store.specs.Store.{Store}
use Rattle.block_links.specs.Standing.{StandsFor, block_of}

-- a list of the cells, as a list of the block
abbrev pub named : cell.ListOf → ListOf
named (cell_list.Terms net) = list.Terms net
named (cell_list.Wires net) = list.Wires net
named (cell_list.Members group) = list.Members group
named (cell_list.Pins bterm) = list.Pins bterm
named (cell_list.Groups region) = list.Groups region
named (cell_list.Props k id) = list.Props k id
named (cell_list.InstTerms inst) = list.InstTerms inst

-- the cells stand for the block that is read off them, and it is consistent
pub record IsBlock (c : Cells) : Type 0 where
  pub stands : StandsFor c (block_of c)
  pub consistent : IsConsistent (block_of c)

-- the block with its cap and its room, and with room for a list of so many identifiers
abbrev pub store_of : CellStore → ℕ → Store
store_of s list = record {
  block = block_of s.cells;
  cap = s.cap;
  room = record {
    inst = s.room.inst;
    iterm = s.room.iterm;
    net = s.room.net;
    bterm = s.room.bterm;
    pin = s.room.pin;
    row = s.room.row;
    track = s.room.track;
    wire = s.room.wire;
    blockage = s.room.blockage;
    region = s.room.region;
    group = s.room.group;
    prop = s.room.prop;
    list = list;
  };
}
