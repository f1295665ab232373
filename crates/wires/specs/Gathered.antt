-- The elements of the paths that were decoded so far.
use Rattle.std.specs.Prelude.{◌++◌, Bool, List, ◌==◌, ◌||◌, is_some}
use Rattle.wires.specs.declared.decoding.PathsSoFar.{PathsSoFar}
use Rattle.wires.specs.Pieces.{Piece, kind_of}
use Rattle.wires.specs.Paths.{open_pieces, pieces_of}

-- all elements, those of the last path at the end
abbrev pub gathered : PathsSoFar → List Piece
gathered so_far = pieces_of so_far.done ++ open_pieces so_far.last

-- there is a last path, or the element begins one
abbrev pub has_place : PathsSoFar → Piece → Bool
has_place so_far piece = kind_of piece == 1 || is_some so_far.last
