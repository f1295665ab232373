use Rattle.std.proofs.Common.{sym, ap, ◌∙◌}
use Rattle.std.specs.Prelude.{is_some}
use Rattle.std.proofs.lemmas.Bool.{or_right}
use Rattle.wires.specs.Gathered.{gathered}
use Rattle.wires.specs.Paths.{with_pieces}
use Rattle.wires.specs.Pieces.{piece_of}
use Rattle.wires.specs.Reading.{is_start, items_left}
use Rattle.wires.proofs.PathPieces.{has_place_from, tapered_from, with_more}
use Rattle.wires.proofs.decoding.read_elements.Goals as goal

pub put-requires-clause-place : goal.put-requires-clause-place
put-requires-clause-place c =
    let given = rw c.in-Some.is at c.in_ok-item.ensures.value in
    has_place_from _ c.elements.elements.due (is_some c.elements.paths.last) (piece_of c.in-Some.item) given.1 c.elements.invariant.last

pub put-requires-clause-taper : goal.put-requires-clause-taper
put-requires-clause-taper c =
    let given = rw c.in-Some.is at c.in_ok-item.ensures.value in
    tapered_from _ (piece_of c.in-Some.item) given.1.fits

pub elements-preserved : goal.elements-preserved
elements-preserved c =
    let given = rw c.in-Some.is at c.in_ok-item.ensures.value in
    let limits = c.args.limits in
    let front = gathered c.elements.paths in
    let piece = piece_of c.in-Some.item in
    let rest = items_left limits c.next.new.self.due c.next.new.self.input in
    record {
      read =
          c.elements.invariant.read
          ∙ ap (with_pieces front) given.0
          ∙ with_more front piece rest
          ∙ ap (λ f. with_pieces f rest) (sym c.in_ok-put.ensures.gathered);
      last = or_right (is_start c.next.new.self.due) (is_some c.put.new.self.last) c.in_ok-put.ensures.last;
    }
