-- Paths as the elements of a code, and their bytes.
use Rattle.std.specs.Prelude.{◌≡◌, ◌<◌, ◌^◌, ◌++◌, ◌⊎◌, Bool, true, false, List, [], ◌∷◌, ℕ, Option, Some, None, Result, Ok, Err, if◌then◌else◌, length, map}
use Rattle.std.specs.List.{AllByRecursion, flat_map, list_all}
use Rattle.wires.specs.declared.fault.WireFault.{WireFault}
use Rattle.wires.specs.declared.fault.WireFault.TheVariants as fault
use Rattle.wires.specs.declared.limits.Limits.{Limits}
use Rattle.wires.specs.declared.path.Path.{Path}
use Rattle.wires.specs.declared.path.Element.{Element}
use Rattle.wires.specs.declared.path.Element.TheVariants as element
use Rattle.wires.specs.declared.path.Taper.{Taper}
use Rattle.wires.specs.declared.path.Taper.TheVariants as taper
use Rattle.wires.specs.declared.path.ViaRef.{ViaRef}
use Rattle.wires.specs.declared.path.ViaRef.TheVariants as via_ref
use Rattle.wires.specs.Pieces.{Layer, Piece, Point, Rect, Via, code_of, piece_fits, suits}

-- a path with numbers for its layer and vias
abbrev pub NamedByNumber : Type 0
NamedByNumber = Path ℕ ViaRef

-- how a path is tapered, as a number
abbrev pub taper_code : Taper → ℕ
taper_code taper.None = 0
taper_code taper.Layer = 1
taper_code (taper.Rule rule) = 2

-- the rule by which it is, empty for none
abbrev pub taper_rule : Taper → List ℕ
taper_rule taper.None = []
taper_rule taper.Layer = []
taper_rule (taper.Rule rule) = rule

-- a path without its elements
abbrev pub head_of : Path ℕ ViaRef → Piece
head_of path = Layer path.layer path.width path.shape (taper_code path.taper) (taper_rule path.taper)

-- a via of the block or of the technology
abbrev pub via_ref_of : Bool → ℕ → ViaRef
via_ref_of block via = if block then via_ref.Block via else via_ref.Tech via

-- an element of a path
abbrev pub element_piece : Element ViaRef → Piece
element_piece (element.Point x y ext) = Point x y ext
element_piece (element.Via (via_ref.Tech via) orient) = Via false via orient
element_piece (element.Via (via_ref.Block via) orient) = Via true via orient
element_piece (element.Rect dx1 dy1 dx2 dy2) = Rect dx1 dy1 dx2 dy2

-- a path and then its elements
abbrev pub path_pieces : Path ℕ ViaRef → List Piece
path_pieces path = head_of path ∷ map element_piece path.elements

-- the paths one after another
abbrev pub pieces_of : List (Path ℕ ViaRef) → List Piece
pieces_of paths = flat_map path_pieces paths

-- the bytes of a path
abbrev pub path_bytes : Path ℕ ViaRef → List ℕ
path_bytes path = code_of (path_pieces path)

-- the code of paths
abbrev pub paths_bytes : List (Path ℕ ViaRef) → List ℕ
paths_bytes paths = flat_map path_bytes paths

-- its texts have lengths of four bytes
pub record IsShort {L V : Type 0} (path : Path L V) : Type 0 where
  pub shape : length path.shape < 2 ^ 32
  pub rule : length (taper_rule path.taper) < 2 ^ 32

-- ---- rules

-- the first element is a point
abbrev pub begins_at_point : List (Element ViaRef) → Bool
begins_at_point (element.Point x y ext ∷ elements) = true
begins_at_point _ = false

-- a path's fields are lawful, it begins at a point, and its elements are lawful
pub record IsPath (limits : Limits) (path : Path ℕ ViaRef) : Type 0 where
  pub head : piece_fits limits (head_of path) ≡ true
  pub begins : begins_at_point path.elements ≡ true
  pub elements : list_all (λ e. piece_fits limits (element_piece e)) path.elements ≡ true

-- there is a path, and each is lawful
abbrev pub ArePaths : Limits → List (Path ℕ ViaRef) → Type 0
ArePaths limits [] = ⊥
ArePaths limits (path ∷ paths) = IsPath limits path × AllByRecursion (IsPath limits) paths

-- just these paths were decoded, or memory ran out
abbrev pub GivesPaths : List (Path ℕ ViaRef) → Result (List (Path ℕ ViaRef)) WireFault → Type 0
GivesPaths paths result = (result ≡ Ok paths) ⊎ (result ≡ Err fault.Memory)

-- ---- paths so far

-- an optional path as a list
abbrev pub open_pieces : Option (Path ℕ ViaRef) → List Piece
open_pieces None = []
open_pieces (Some path) = path_pieces path

-- elements in front of what was read
abbrev pub with_pieces : List Piece → Result (List Piece) WireFault → Result (List Piece) WireFault
with_pieces front (Ok pieces) = Ok (front ++ pieces)
with_pieces front (Err f) = Err f

-- a path may be one of such a wire
abbrev pub path_suits : Bool → Path ℕ ViaRef → Bool
path_suits special path = suits special (head_of path)

-- the bytes are the code of lawful paths, each of which may be one of such a wire
pub record IsLawfulCode (limits : Limits) (special : Bool) (code : List ℕ) : Type 0 where
  pub paths : List (Path ℕ ViaRef)
  pub code_is : code ≡ paths_bytes paths
  pub lawful : ArePaths limits paths
  pub suit : list_all (path_suits special) paths ≡ true
