-- What elements that were read say of paths and their code.
use Rattle.std.proofs.Common.{◌≡◌, ◌&&◌, ◌⊎◌, ◌<◌, ◌^◌, Bool, true, ℕ, pos, List, [], ◌∷◌, ◌++◌, map, length, Result, Ok, Err, refl, sym, ap, ◌∙◌, inl, inr}
use Rattle.std.specs.Prelude.{All, is_ok}
use Rattle.std.specs.List.{AllByRecursion, list_all}
use Rattle.std.proofs.lemmas.Bool.{and_parts}
use Rattle.std.proofs.lemmas.List.Elements.{All-from_recursion}
use Rattle.odb_fields.specs.Bytes.{AreBytes}
use Rattle.wires.specs.declared.fault.WireFault.{WireFault}
use Rattle.wires.specs.declared.fault.WireFault.TheVariants as fault
use Rattle.wires.specs.declared.limits.Limits.{Limits}
use Rattle.wires.specs.declared.path.Path.{Path}
use Rattle.wires.specs.declared.path.Element.{Element}
use Rattle.wires.specs.declared.path.Element.TheVariants as element
use Rattle.wires.specs.declared.path.ViaRef.{ViaRef}
use Rattle.wires.specs.declared.path.ViaRef.TheVariants as via_ref
use Rattle.wires.specs.declared.fields.TextSort.TheVariants as sort
use Rattle.wires.specs.Fields.{is_between, is_from_to, text_fits}
use Rattle.wires.specs.Pieces.{AreNumbers, Piece, piece_fits, rule_sort, suits, taper_fits}
use Rattle.wires.specs.Paths.{ArePaths, GivesPaths, IsLawfulCode, IsPath, IsShort, element_piece, head_of, path_suits, paths_bytes, pieces_of, taper_code, taper_rule}
use Rattle.wires.specs.Reading.{IsReadable, all_suit, items_of}
use Rattle.wires.proofs.Grouped.{paths_from, paths_in, paths_out, same_paths}
use Rattle.wires.proofs.PathPieces.{code_of-pieces}
use Rattle.wires.proofs.Ranges.{text_short}
use Rattle.wires.proofs.WholeCodes.{codes_back, codes_only}

-- paths whose elements were read are lawful, and the code is theirs
pub decoded : (limits : Limits) (code : List ℕ) (ps : List (Path ℕ ViaRef)) → AreBytes code → items_of limits code ≡ Ok (pieces_of ps) → ArePaths limits ps × (code ≡ paths_bytes ps)
decoded limits code ps are e =
    let o = codes_only limits code (pieces_of ps) are e in
    (paths_out limits ps o.1, o.0 ∙ code_of-pieces ps)

-- the code of lawful paths has just their elements
pub encoded : (limits : Limits) (ps : List (Path ℕ ViaRef)) → AreNumbers limits → ArePaths limits ps → items_of limits (paths_bytes ps) ≡ Ok (pieces_of ps)
encoded limits ps small all = ap (items_of limits) (sym (code_of-pieces ps)) ∙ codes_back limits (pieces_of ps) small (paths_in limits ps all)

-- an answer about a code that is that of lawful paths
pub gives_only : (limits : Limits) (code : List ℕ) (ps : List (Path ℕ ViaRef)) (r : Result (List (Path ℕ ViaRef)) WireFault) → AreNumbers limits → ArePaths limits ps → code ≡ paths_bytes ps
    → ((qs : List (Path ℕ ViaRef)) → r ≡ Ok qs → items_of limits code ≡ Ok (pieces_of qs))
    → ((f : WireFault) → r ≡ Err f → (f ≡ fault.Memory) ⊎ (items_of limits code ≡ Err f)) → GivesPaths ps r
gives_only limits code ps (Ok qs) small all is ok err =
    let e = sym (ok qs refl) ∙ ap (items_of limits) is ∙ encoded limits ps small all in
    let same : pieces_of qs ≡ pieces_of ps = cc in
    inl (ap Ok (same_paths qs ps same))
gives_only limits code ps (Err f) small all is ok err =
    elim (err f refl) [
      | inl memory ↦ inr (ap Err memory)
      | inr bad ↦ absurd (let e = sym bad ∙ ap (items_of limits) is ∙ encoded limits ps small all in cc)
    ]

-- ---- wires of a sort

elements_suit : (special : Bool) (es : List (Element ViaRef)) (rest : List Piece) → list_all (suits special) (map element_piece es ++ rest) ≡ list_all (suits special) rest
elements_suit special [] rest = refl
elements_suit special (element.Point x y ext ∷ es) rest = elements_suit special es rest
elements_suit special (element.Via (via_ref.Tech via) orient ∷ es) rest = elements_suit special es rest
elements_suit special (element.Via (via_ref.Block via) orient ∷ es) rest = elements_suit special es rest
elements_suit special (element.Rect dx1 dy1 dx2 dy2 ∷ es) rest = elements_suit special es rest

-- the elements of paths suit a wire where their layers do
paths_suit : (special : Bool) (ps : List (Path ℕ ViaRef)) → list_all (suits special) (pieces_of ps) ≡ list_all (path_suits special) ps
paths_suit special [] = refl
paths_suit special (p ∷ ps) = ap (λ (b : Bool). suits special (head_of p) && b) (elements_suit special p.elements (pieces_of ps) ∙ paths_suit special ps)

lawful_from : (limits : Limits) (special : Bool) (code : List ℕ) (r : Result (List Piece) WireFault) → AreBytes code → items_of limits code ≡ r → all_suit special r ≡ true → IsLawfulCode limits special code
lawful_from limits special code (Ok pieces) are e suit =
    let o = codes_only limits code pieces are e in
    let ps = paths_from limits pieces o.1 in
    let d = decoded limits code ps.0 are (e ∙ ap Ok (sym ps.1)) in
    record { paths = ps.0; code_is = d.1; lawful = d.0; suit = sym (paths_suit special ps.0) ∙ ap (list_all (suits special)) ps.1 ∙ suit }
lawful_from limits special code (Err f) are e suit = absurd cc

-- elements that suit a wire make a lawful code of it
pub lawful_of : (limits : Limits) (special : Bool) (code : List ℕ) → AreBytes code → all_suit special (items_of limits code) ≡ true → IsLawfulCode limits special code
lawful_of limits special code are suit = lawful_from limits special code (items_of limits code) are refl suit

-- and a lawful code has such elements
pub suit_of : (limits : Limits) (special : Bool) (code : List ℕ) → AreNumbers limits → IsLawfulCode limits special code → all_suit special (items_of limits code) ≡ true
suit_of limits special code small lawful =
    ap (all_suit special) (ap (items_of limits) lawful.code_is ∙ encoded limits lawful.paths small lawful.lawful) ∙ paths_suit special lawful.paths ∙ lawful.suit

readable_from : (limits : Limits) (special : Bool) (code : List ℕ) (r : Result (List Piece) WireFault) → AreNumbers limits → items_of limits code ≡ r → all_suit special r ≡ true → IsReadable code
readable_from limits special code (Ok pieces) small e suit = record { limits = limits; numbers = small; read = ap is_ok e }
readable_from limits special code (Err f) small e suit = absurd cc

-- such a code is readable
pub readable_of : (limits : Limits) (special : Bool) (code : List ℕ) → AreNumbers limits → all_suit special (items_of limits code) ≡ true → IsReadable code
readable_of limits special code small suit = readable_from limits special code (items_of limits code) small refl suit

-- ---- lengths

rule_short : (limits : Limits) (p : Path ℕ ViaRef) → piece_fits limits (head_of p) ≡ true → (length p.shape < 2 ^ 32) × (length (taper_rule p.taper) < 2 ^ 32)
unfolding piece_fits
rule_short limits p h =
    let a = and_parts (is_between 1 limits.layers p.layer) (is_from_to (pos 0) p.width && (text_fits sort.NameOrEmpty p.shape && taper_fits (taper_code p.taper) (taper_rule p.taper))) h in
    let b = and_parts (is_from_to (pos 0) p.width) (text_fits sort.NameOrEmpty p.shape && taper_fits (taper_code p.taper) (taper_rule p.taper)) a.1 in
    let c = and_parts (text_fits sort.NameOrEmpty p.shape) (taper_fits (taper_code p.taper) (taper_rule p.taper)) b.1 in
    let d = and_parts (is_between 0 2 (taper_code p.taper)) (text_fits (rule_sort (taper_code p.taper)) (taper_rule p.taper)) c.1 in
    (text_short sort.NameOrEmpty p.shape c.0, text_short (rule_sort (taper_code p.taper)) (taper_rule p.taper) d.1)

path_short : (limits : Limits) (p : Path ℕ ViaRef) → IsPath limits p → IsShort p
path_short limits p lawful = let r = rule_short limits p lawful.head in record { shape = r.0; rule = r.1 }

all_short : (limits : Limits) (ps : List (Path ℕ ViaRef)) → AllByRecursion (IsPath limits) ps → AllByRecursion IsShort ps
all_short limits [] all = tt
all_short limits (p ∷ ps) all = (path_short limits p all.0, all_short limits ps all.1)

-- the texts of lawful paths are short
pub short_paths : (limits : Limits) (ps : List (Path ℕ ViaRef)) → ArePaths limits ps → All IsShort ps
short_paths limits [] all = absurd all
short_paths limits (p ∷ ps) all = All-from_recursion IsShort (p ∷ ps) (path_short limits p all.0, all_short limits ps all.1)
