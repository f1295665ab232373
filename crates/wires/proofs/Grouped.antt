-- Elements of a code as paths, and back.
use Rattle.std.proofs.Common.{◌≡◌, true, false, ℕ, zero, suc, List, [], ◌∷◌, ◌++◌, map, eqb, length, refl, sym, ap, ◌∙◌, append-nil, arith}
use Rattle.std.specs.List.{AllByRecursion, list_all}
use Rattle.std.proofs.lemmas.Bool.{and_from, and_parts, eqb-true}
use Rattle.wires.specs.declared.limits.Limits.{Limits}
use Rattle.wires.specs.declared.elements.Due.{Due}
use Rattle.wires.specs.declared.elements.Due.TheVariants as due
use Rattle.wires.specs.declared.path.Path.{Path}
use Rattle.wires.specs.declared.path.Element.{Element}
use Rattle.wires.specs.declared.path.Element.TheVariants as element
use Rattle.wires.specs.declared.path.Taper.{Taper}
use Rattle.wires.specs.declared.path.Taper.TheVariants as taper
use Rattle.wires.specs.declared.path.ViaRef.{ViaRef}
use Rattle.wires.specs.declared.path.ViaRef.TheVariants as via_ref
use Rattle.wires.specs.Fields.{is_between, text_fits}
use Rattle.wires.specs.Pieces.{Layer, Piece, Point, Rect, Via, kind_of, piece_fits, rule_sort, taper_fits}
use Rattle.wires.specs.Paths.{ArePaths, IsPath, begins_at_point, element_piece, pieces_of, taper_code, taper_rule, via_ref_of}
use Rattle.wires.specs.Reading.{AreItems, due_after}
use Rattle.wires.proofs.PathPieces.{tapered_from}
use Rattle.wires.proofs.Ranges.{between_below}

-- ---- elements as paths

-- a taper of its number and rule
abbrev taper_from : ℕ → List ℕ → Taper
taper_from zero rule = taper.None
taper_from (suc zero) rule = taper.Layer
taper_from (suc (suc n)) rule = taper.Rule rule

taper_again : (t : Taper) → taper_from (taper_code t) (taper_rule t) ≡ t
taper_again taper.None = refl
taper_again taper.Layer = refl
taper_again (taper.Rule rule) = refl

-- the elements before the first layer, and the paths behind them
abbrev grouped : List Piece → List (Element ViaRef) × List (Path ℕ ViaRef)
grouped [] = ([], [])
grouped (Layer layer width shape taper rule ∷ pieces) =
    ([], record { layer = layer; width = width; shape = shape; taper = taper_from taper rule; elements = (grouped pieces).0 } ∷ (grouped pieces).1)
grouped (Point x y ext ∷ pieces) = (element.Point x y ext ∷ (grouped pieces).0, (grouped pieces).1)
grouped (Via block via orient ∷ pieces) = (element.Via (via_ref_of block via) orient ∷ (grouped pieces).0, (grouped pieces).1)
grouped (Rect dx1 dy1 dx2 dy2 ∷ pieces) = (element.Rect dx1 dy1 dx2 dy2 ∷ (grouped pieces).0, (grouped pieces).1)

grouped_elements : (es : List (Element ViaRef)) (rest : List Piece) → grouped (map element_piece es ++ rest) ≡ (es ++ (grouped rest).0, (grouped rest).1)
grouped_elements [] rest = refl
grouped_elements (element.Point x y ext ∷ es) rest = rw (grouped_elements es rest) refl
grouped_elements (element.Via (via_ref.Tech via) orient ∷ es) rest = rw (grouped_elements es rest) refl
grouped_elements (element.Via (via_ref.Block via) orient ∷ es) rest = rw (grouped_elements es rest) refl
grouped_elements (element.Rect dx1 dy1 dx2 dy2 ∷ es) rest = rw (grouped_elements es rest) refl

-- the paths of the elements of paths
grouped_paths : (ps : List (Path ℕ ViaRef)) → grouped (pieces_of ps) ≡ ([], ps)
grouped_paths [] = refl
grouped_paths (p ∷ ps) =
    let tail = grouped_elements p.elements (pieces_of ps) in
    rw (tail, grouped_paths ps, append-nil p.elements, taper_again p.taper) refl

-- paths with the same elements are the same
pub same_paths : (ps qs : List (Path ℕ ViaRef)) → pieces_of ps ≡ pieces_of qs → ps ≡ qs
same_paths ps qs e =
    ap (λ (g : List (Element ViaRef) × List (Path ℕ ViaRef)). g.1) (sym (grouped_paths ps) ∙ ap grouped e ∙ grouped_paths qs)

-- ---- lawful elements

not_empty : (b : ℕ) (bytes : List ℕ) → eqb (length (b ∷ bytes)) 0 ≡ true → ⊥
not_empty b bytes h = let e = eqb-true (length (b ∷ bytes)) 0 h in omega (arith, e)

-- a taper that is lawful has just its number and its rule
taper_is : (code : ℕ) (rule : List ℕ) → taper_fits code rule ≡ true → (taper_code (taper_from code rule) ≡ code) × (taper_rule (taper_from code rule) ≡ rule)
taper_is zero [] h = (refl, refl)
taper_is zero (b ∷ rule) h = absurd (not_empty b rule (and_parts (is_between 0 2 0) (eqb (length (b ∷ rule)) 0) h).1)
taper_is (suc zero) [] h = (refl, refl)
taper_is (suc zero) (b ∷ rule) h = absurd (not_empty b rule (and_parts (is_between 0 2 1) (eqb (length (b ∷ rule)) 0) h).1)
taper_is (suc (suc zero)) rule h = (refl, refl)
taper_is (suc (suc (suc n))) rule h =
    absurd (let p = and_parts (is_between 0 2 (suc (suc (suc n)))) (text_fits (rule_sort (suc (suc (suc n)))) rule) h in
    let q = between_below 0 2 (suc (suc (suc n))) p.0 in omega arith)

-- lawful elements are those of the paths that they make
pub grouped_back : (limits : Limits) (state : Due) (pieces : List Piece) → AreItems limits state pieces → map element_piece (grouped pieces).0 ++ pieces_of (grouped pieces).1 ≡ pieces
grouped_back limits state [] items = refl
grouped_back limits state (Layer layer width shape taper rule ∷ pieces) items =
    let t = taper_is taper rule (tapered_from limits (Layer layer width shape taper rule) items.0.fits) in
    rw (t.0, t.1) (ap (λ (xs : List Piece). Layer layer width shape taper rule ∷ xs) (grouped_back limits due.Point pieces items.1))
grouped_back limits state (Point x y ext ∷ pieces) items = ap (λ (xs : List Piece). Point x y ext ∷ xs) (grouped_back limits due.Any pieces items.1)
grouped_back limits state (Via true via orient ∷ pieces) items = ap (λ (xs : List Piece). Via true via orient ∷ xs) (grouped_back limits due.Any pieces items.1)
grouped_back limits state (Via false via orient ∷ pieces) items = ap (λ (xs : List Piece). Via false via orient ∷ xs) (grouped_back limits due.Any pieces items.1)
grouped_back limits state (Rect dx1 dy1 dx2 dy2 ∷ pieces) items = ap (λ (xs : List Piece). Rect dx1 dy1 dx2 dy2 ∷ xs) (grouped_back limits due.Any pieces items.1)

-- at the start there is no element before the first layer
none_before : (limits : Limits) (pieces : List Piece) → AreItems limits due.Layer pieces → (grouped pieces).0 ≡ []
none_before limits [] items = refl
none_before limits (Layer layer width shape taper rule ∷ pieces) items = refl
none_before limits (Point x y ext ∷ pieces) items = absurd (let p = between_below 1 1 2 items.0.stands in omega arith)
none_before limits (Via block via orient ∷ pieces) items = absurd (let p = between_below 1 1 3 items.0.stands in omega arith)
none_before limits (Rect dx1 dy1 dx2 dy2 ∷ pieces) items = absurd (let p = between_below 1 1 4 items.0.stands in omega arith)

-- the elements of a code are those of paths
pub paths_from : (limits : Limits) (pieces : List Piece) → AreItems limits due.Layer pieces → (ps : List (Path ℕ ViaRef)) × (pieces_of ps ≡ pieces)
paths_from limits pieces items =
    let back = grouped_back limits due.Layer pieces items in
    ((grouped pieces).1, rw (none_before limits pieces items) at back)

-- ---- lawful paths

-- each element of a path may stand anywhere behind its layer, and any may follow it
any_stands : (e : Element ViaRef) → (is_between 1 4 (kind_of (element_piece e)) ≡ true) × (due_after (element_piece e) ≡ due.Any)
any_stands (element.Point x y ext) = (refl, refl)
any_stands (element.Via (via_ref.Tech via) orient) = (refl, refl)
any_stands (element.Via (via_ref.Block via) orient) = (refl, refl)
any_stands (element.Rect dx1 dy1 dx2 dy2) = (refl, refl)

elements_in : (limits : Limits) (es : List (Element ViaRef)) (rest : List Piece) → list_all (λ e. piece_fits limits (element_piece e)) es ≡ true → AreItems limits due.Any rest → AreItems limits due.Any (map element_piece es ++ rest)
elements_in limits [] rest fit items = items
elements_in limits (e ∷ es) rest fit items =
    let p = and_parts (piece_fits limits (element_piece e)) (list_all (λ e. piece_fits limits (element_piece e)) es) fit in
    let s = any_stands e in
    (record { stands = s.0; fits = p.0 }, rw (s.1) (elements_in limits es rest p.1 items))

point_in : (limits : Limits) (es : List (Element ViaRef)) (rest : List Piece) → begins_at_point es ≡ true → list_all (λ e. piece_fits limits (element_piece e)) es ≡ true → AreItems limits due.Any rest → AreItems limits due.Point (map element_piece es ++ rest)
point_in limits [] rest begins fit items = absurd cc
point_in limits (element.Point x y ext ∷ es) rest begins fit items =
    let p = and_parts (piece_fits limits (Point x y ext)) (list_all (λ e. piece_fits limits (element_piece e)) es) fit in
    (record { stands = refl; fits = p.0 }, elements_in limits es rest p.1 items)
point_in limits (element.Via via orient ∷ es) rest begins fit items = absurd cc
point_in limits (element.Rect dx1 dy1 dx2 dy2 ∷ es) rest begins fit items = absurd cc

others_in : (limits : Limits) (ps : List (Path ℕ ViaRef)) → AllByRecursion (IsPath limits) ps → AreItems limits due.Any (pieces_of ps)
others_in limits [] all = refl
others_in limits (p ∷ ps) all =
    (record { stands = refl; fits = all.0.head }, point_in limits p.elements (pieces_of ps) all.0.begins all.0.elements (others_in limits ps all.1))

-- the elements of lawful paths are lawful and in order
pub paths_in : (limits : Limits) (ps : List (Path ℕ ViaRef)) → ArePaths limits ps → AreItems limits due.Layer (pieces_of ps)
paths_in limits [] all = absurd all
paths_in limits (p ∷ ps) all =
    (record { stands = refl; fits = all.0.head }, point_in limits p.elements (pieces_of ps) all.0.begins all.0.elements (others_in limits ps all.1))

elements_out : (limits : Limits) (es : List (Element ViaRef)) (rest : List Piece) → AreItems limits due.Any (map element_piece es ++ rest) → (list_all (λ e. piece_fits limits (element_piece e)) es ≡ true) × AreItems limits due.Any rest
elements_out limits [] rest items = (refl, items)
elements_out limits (e ∷ es) rest items =
    let s = any_stands e in
    let next : AreItems limits due.Any (map element_piece es ++ rest) = rw (s.1) at items.1 in
    let out = elements_out limits es rest next in
    (and_from (piece_fits limits (element_piece e)) (list_all (λ e. piece_fits limits (element_piece e)) es) items.0.fits out.0, out.1)

point_out : (limits : Limits) (es : List (Element ViaRef)) (ps : List (Path ℕ ViaRef)) → AreItems limits due.Point (map element_piece es ++ pieces_of ps)
    → (begins_at_point es ≡ true) × (list_all (λ e. piece_fits limits (element_piece e)) es ≡ true) × AreItems limits due.Any (pieces_of ps)
point_out limits [] [] items = absurd cc
point_out limits [] (p ∷ ps) items = absurd (let q = between_below 2 2 1 items.0.stands in omega arith)
point_out limits (element.Point x y ext ∷ es) ps items =
    let out = elements_out limits es (pieces_of ps) items.1 in
    (refl, and_from (piece_fits limits (Point x y ext)) (list_all (λ e. piece_fits limits (element_piece e)) es) items.0.fits out.0, out.1)
point_out limits (element.Via (via_ref.Tech via) orient ∷ es) ps items = absurd (let q = between_below 2 2 3 items.0.stands in omega arith)
point_out limits (element.Via (via_ref.Block via) orient ∷ es) ps items = absurd (let q = between_below 2 2 3 items.0.stands in omega arith)
point_out limits (element.Rect dx1 dy1 dx2 dy2 ∷ es) ps items = absurd (let q = between_below 2 2 4 items.0.stands in omega arith)

others_out : (limits : Limits) (ps : List (Path ℕ ViaRef)) → AreItems limits due.Any (pieces_of ps) → AllByRecursion (IsPath limits) ps
others_out limits [] items = tt
others_out limits (p ∷ ps) items =
    let out = point_out limits p.elements ps items.1 in
    (record { head = items.0.fits; begins = out.0; elements = out.1 }, others_out limits ps out.2)

-- paths whose elements are lawful and in order are lawful
pub paths_out : (limits : Limits) (ps : List (Path ℕ ViaRef)) → AreItems limits due.Layer (pieces_of ps) → ArePaths limits ps
paths_out limits [] items = absurd cc
paths_out limits (p ∷ ps) items =
    let out = point_out limits p.elements ps items.1 in
    (record { head = items.0.fits; begins = out.0; elements = out.1 }, others_out limits ps out.2)
