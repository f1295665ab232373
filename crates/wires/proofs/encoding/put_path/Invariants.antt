use Rattle.std.proofs.Common.{◌≡◌, ◌++◌, take}
use Rattle.std.specs.List.{flat_map}
use Rattle.wires.specs.Paths.{element_piece, head_of}
use Rattle.wires.specs.Pieces.{piece_bytes}
use Rattle.wires.proofs.encoding.put_path.Given as goal

abbrev pub invariant-loop-element : goal.invariant-loop-element
invariant-loop-element l =
    l.out.items ≡ l.fn.out.items ++ (piece_bytes (head_of l.path) ++ flat_map (λ e. piece_bytes (element_piece e)) (take l.element-index l.element-items))
