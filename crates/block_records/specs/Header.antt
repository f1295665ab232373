-- The header of a new block.
use Rattle.std.specs.Prelude.{[], None, codes}
use Rattle.block_records.specs.declared.header.Header.{Header}

-- the divider is `/`, the bus characters are `[]`, and all else is empty
abbrev pub new_header : Header
new_header = record { design = []; divider = codes "/"; bus = codes "[]"; die = None; definitions = []; vias = [] }
