use Rattle.std.proofs.Common.{◌≡◌, ◌++◌, ℕ, List, take, sym, ap, ◌∙◌, arith}
use Rattle.std.specs.List.{flat_map}
use Rattle.std.proofs.lemmas.List.{take_all}
use Rattle.wires.specs.Paths.{element_piece, head_of}
use Rattle.wires.specs.Pieces.{piece_bytes}
use Rattle.wires.proofs.PathPieces.{path_bytes_parts}
use Rattle.wires.proofs.encoding.put_path.Goals as goal

pub returns : goal.returns
returns c =
    let items = c.items-element-items.result.now in
    let all : take c.loop-element.element-index items ≡ items = take_all c.loop-element.element-index items (omega arith) in
    c.loop-element.invariant
    ∙ ap (λ (t : List ℕ). c.args.out.now.items ++ t) (ap (λ es. piece_bytes (head_of c.args.path.now) ++ flat_map (λ e. piece_bytes (element_piece e)) es) (all ∙ c.items-element-items.ensures) ∙ sym (path_bytes_parts c.args.path.now))
