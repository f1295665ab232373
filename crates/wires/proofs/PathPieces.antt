-- Paths and the elements of their code.
use Rattle.std.proofs.Common.{◌≡◌, ◌||◌, ◌==◌, Bool, true, ℕ, pos, List, [], ◌∷◌, ◌++◌, Result, Ok, Err, refl, sym, ap, ◌∙◌, arith, append_assoc}
use Rattle.std.specs.List.{flat_map}
use Rattle.std.proofs.lemmas.Bool.{and_parts}
use Rattle.std.proofs.Math.Bool.{or-true}
use Rattle.std.proofs.lemmas.List.Concat.{flat_map-append}
use Rattle.std.proofs.lemmas.List.Folds.{flat_map-map}
use Rattle.wires.specs.declared.fault.WireFault.{WireFault}
use Rattle.wires.specs.declared.fields.TextSort.TheVariants as sort
use Rattle.wires.specs.declared.limits.Limits.{Limits}
use Rattle.wires.specs.declared.elements.Due.{Due}
use Rattle.wires.specs.declared.elements.Due.TheVariants as due
use Rattle.wires.specs.declared.path.Path.{Path}
use Rattle.wires.specs.declared.path.ViaRef.{ViaRef}
use Rattle.wires.specs.Fields.{is_between, is_from_to, text_fits}
use Rattle.wires.specs.Pieces.{Layer, Piece, Point, Rect, Via, code_of, is_tapered, kind_of, piece_bytes, piece_fits, taper_fits}
use Rattle.wires.specs.Paths.{element_piece, head_of, path_bytes, path_pieces, paths_bytes, pieces_of, with_pieces}
use Rattle.wires.specs.Reading.{FitsAt, is_start, with_piece}
use Rattle.wires.proofs.Ranges.{between_below}

-- a lawful element is tapered in a lawful way
pub tapered_from : (limits : Limits) (piece : Piece) → piece_fits limits piece ≡ true → is_tapered piece ≡ true
unfolding piece_fits
tapered_from limits (Layer layer width shape taper rule) h =
    let a = and_parts (is_between 1 limits.layers layer) _ h in
    let b = and_parts (is_from_to (pos 0) width) _ a.1 in
    (and_parts (text_fits sort.NameOrEmpty shape) (taper_fits taper rule) b.1).1
tapered_from limits (Point x y ext) h = refl
tapered_from limits (Via block via orient) h = refl
tapered_from limits (Rect dx1 dy1 dx2 dy2) h = refl

-- one more element in front of the others
pub with_more : (front : List Piece) (piece : Piece) (r : Result (List Piece) WireFault) → with_pieces front (with_piece piece r) ≡ with_pieces (front ++ piece ∷ []) r
with_more front piece (Ok pieces) = ap Ok (sym (append_assoc front (piece ∷ []) pieces))
with_more front piece (Err f) = refl

-- at the start the element is a layer
pub has_place_from : (limits : Limits) (state : Due) (stands : Bool) (piece : Piece) → FitsAt limits state piece → (is_start state || stands) ≡ true → (kind_of piece == 1 || stands) ≡ true
has_place_from limits due.Layer stands piece fits h =
    let p = between_below 1 1 (kind_of piece) fits.stands in
    let one : kind_of piece ≡ 1 = omega arith in
    rw one refl
has_place_from limits due.Point stands piece fits h = rw h (or-true (kind_of piece == 1))
has_place_from limits due.Any stands piece fits h = rw h (or-true (kind_of piece == 1))

-- the code of paths is the code of their elements
pub code_of-pieces : (paths : List (Path ℕ ViaRef)) → code_of (pieces_of paths) ≡ paths_bytes paths
code_of-pieces [] = refl
code_of-pieces (path ∷ paths) = flat_map-append piece_bytes (path_pieces path) (pieces_of paths) ∙ ap (λ (t : List ℕ). path_bytes path ++ t) (code_of-pieces paths)

-- a path as its head and the bytes of its elements
pub path_bytes_parts : (path : Path ℕ ViaRef) → path_bytes path ≡ piece_bytes (head_of path) ++ flat_map (λ e. piece_bytes (element_piece e)) path.elements
path_bytes_parts path = ap (λ (t : List ℕ). piece_bytes (head_of path) ++ t) (flat_map-map piece_bytes element_piece path.elements)
