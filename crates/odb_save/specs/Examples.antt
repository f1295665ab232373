-- Databases whose saved bytes are written out by hand.
use Rattle.std.specs.Prelude.{◌++◌, List, [], ◌∷◌, ℕ, zero, suc, pos, negsuc, None, Some, false, true, codes}
use Rattle.odb_base.specs.declared.codes.direction.Direction.TheVariants as direction
use Rattle.odb_base.specs.declared.codes.orient.Orient.TheVariants as orient
use Rattle.odb_base.specs.declared.codes.place_status.PlaceStatus.TheVariants as status
use Rattle.odb_base.specs.declared.codes.usage.Usage.TheVariants as usage
use Rattle.block_records.specs.Header.{new_header}
use Rattle.block_records.specs.declared.iterm.ITermRec.{ITermRec}
use Rattle.tech.specs.Technology.{empty_technology, with_units}
use Rattle.library.specs.declared.master.Master.{Master}
use Rattle.block_store.specs.declared.entry.InstEntry.{InstEntry}
use Rattle.block_store.specs.declared.entry.NetEntry.{NetEntry}
use Rattle.block_store.specs.declared.entry.BTermEntry.{BTermEntry}
use Rattle.block_store.specs.Block.{empty_block}
use Rattle.block_store.specs.Database.{Database, empty_database}

-- so many zeros
unfoldable pub zeros : ℕ → List ℕ
zeros zero = []
zeros (suc n) = 0 ∷ zeros n

-- four bytes of which only the first isn't zero
abbrev pub small : ℕ → List ℕ
small n = n ∷ 0 ∷ 0 ∷ 0 ∷ []

-- the mark and the version; units, layers, vias, sites, masters and design; divider and bus characters
abbrev pub new_front : List ℕ
new_front = codes "ODBS" ++ small 1 ++ zeros 24 ++ small 1 ++ codes "/" ++ small 2 ++ codes "[]"

-- the empty database: behind the bus characters, no die, no definitions, no vias, and twelve empty tables
unfoldable pub empty_saved : List ℕ
empty_saved = new_front ++ zeros 105

-- a net `a`, alone in its database
abbrev pub lone_net : NetEntry
lone_net = record {
  fields = record { name = codes "a"; usage = usage.None; special = false; kept = []; special_kept = [] };
  terms = [];
  wires = [];
  props = [];
}

-- a database with nothing but the net `a`
abbrev pub one_net : ℕ → Database
one_net cap =
    let empty : Database = empty_database cap in
    record empty { block = record empty.block { net = record { slots = Some lone_net ∷ []; free = [] } } }

-- the saved bytes of that net alone: one slot of nets, with this name, and nothing else
unfoldable pub one_net_saved : List ℕ
one_net_saved = new_front ++ zeros 25 ++ small 1 ++ 1 ∷ small 1 ++ codes "a" ++ zeros 98

-- a master `M` with one terminal
abbrev pub gate : Master
gate = record {
  name = codes "M";
  class = codes "CORE";
  origin_x = negsuc 4;
  origin_y = pos 0;
  width = pos 10;
  height = pos 20;
  symmetry = 3;
  site = 0;
  foreign = [];
  terminals = record { name = codes "A"; direction = direction.Input; usage = usage.Signal; shapes = [] } ∷ [];
  obstructions = [];
}

-- an instance of the master
abbrev pub placed_inst : InstEntry
placed_inst = record {
  fields = record {
    name = codes "i";
    master = 1;
    place = record { status = status.Placed; x = pos 7; y = negsuc 1; orientation = orient.W };
    group = 0;
    terminals = 1 ∷ [];
    kept = [];
  };
  props = [];
}

-- the instance's terminal, which the net joins
abbrev pub joined_iterm : ITermRec
joined_iterm = record { inst = 1; index = 0; net = 1 }

-- a net that joins the terminal of the block and that of the instance
abbrev pub joining_net : NetEntry
joining_net = record {
  fields = record { name = codes "n"; usage = usage.Clock; special = true; kept = []; special_kept = [] };
  terms = 3 ∷ 2 ∷ [];
  wires = [];
  props = [];
}

-- a terminal of the block, which the net joins
abbrev pub joined_bterm : BTermEntry
joined_bterm = record {
  fields = record { name = codes "p"; net = 1; direction = direction.Output; usage = usage.None; kept = [] };
  pins = [];
}

-- A database with the master, its instance, and a net that joins the instance's terminal and one of the block,
-- where two more nets were and are gone.
abbrev pub one_gate : ℕ → Database
one_gate cap = record {
  tech = with_units 1000 empty_technology;
  library = gate ∷ [];
  block = record (empty_block new_header) {
    inst = record { slots = Some placed_inst ∷ []; free = [] };
    iterm = record { slots = Some joined_iterm ∷ []; free = [] };
    net = record { slots = Some joining_net ∷ None ∷ None ∷ []; free = 3 ∷ 2 ∷ [] };
    bterm = record { slots = Some joined_bterm ∷ []; free = [] };
  };
  cap = cap;
}

-- name, class; origin and size; symmetry, site, no FOREIGN; one terminal and its name, direction, use, no shapes; no obstructions
abbrev pub gate_saved : List ℕ
gate_saved =
    small 1 ++ codes "M" ++ small 4 ++ codes "CORE"
    ++ 251 ∷ 255 ∷ 255 ∷ 255 ∷ small 0 ++ small 10 ++ small 20
    ++ 3 ∷ zeros 8
    ++ small 1 ++ small 1 ++ codes "A" ++ 1 ∷ 1 ∷ zeros 4
    ++ zeros 4

-- one slot: name, master; status, point and orientation; no group; one terminal; nothing else, and no free identifier
abbrev pub insts_saved : List ℕ
insts_saved = small 1 ++ 1 ∷ small 1 ++ codes "i" ++ small 1 ++ 1 ∷ small 7 ++ 254 ∷ 255 ∷ 255 ∷ 255 ∷ 2 ∷ zeros 4 ++ small 1 ++ small 1 ++ zeros 8 ++ zeros 4

-- one slot: instance, index, net; no free identifier
abbrev pub iterms_saved : List ℕ
iterms_saved = small 1 ++ 1 ∷ small 1 ++ zeros 4 ++ small 1 ++ zeros 4

-- three slots: name, use, special; two terminals, the first of the block; nothing else; two empty slots, and two free identifiers
abbrev pub nets_saved : List ℕ
nets_saved = small 3 ++ 1 ∷ small 1 ++ codes "n" ++ 5 ∷ 1 ∷ small 2 ++ 4 ∷ small 1 ++ 2 ∷ small 1 ++ zeros 16 ++ 0 ∷ 0 ∷ small 2 ++ small 3 ++ small 2

-- one slot: name, net, direction, use; nothing else, and no free identifier
abbrev pub bterms_saved : List ℕ
bterms_saved = small 1 ++ 1 ∷ small 1 ++ codes "p" ++ small 1 ++ 2 ∷ 0 ∷ zeros 8 ++ zeros 4

-- the saved bytes of that master and its instance: units, master, header, four tables, and eight empty ones
unfoldable pub one_gate_saved : List ℕ
one_gate_saved =
    codes "ODBS" ++ small 1 ++ 232 ∷ 3 ∷ zeros 14 ++ small 1 ++ gate_saved
    ++ zeros 4 ++ small 1 ++ codes "/" ++ small 2 ++ codes "[]" ++ zeros 9
    ++ insts_saved ++ iterms_saved ++ nets_saved ++ bterms_saved ++ zeros 64
