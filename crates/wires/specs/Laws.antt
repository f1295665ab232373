-- Laws of codes, over all codes and paths.
use Rattle.std.specs.Prelude.{◌≡◌, ◌<◌, ◌^◌, ◌+◌, Bool, List, ℕ, Ok, FitsSigned, IfSome, length}
use Rattle.std.specs.Int.{w32}
use Rattle.std.specs.List.{AllByRecursion}
use Rattle.odb_fields.specs.Bytes.{AreBytes}
use Rattle.wires.specs.declared.limits.Limits.{Limits}
use Rattle.wires.specs.Pieces.{AreNumbers, Layer, Piece, Point, Rect, Via}
use Rattle.wires.specs.Paths.{ArePaths, NamedByNumber, paths_bytes, pieces_of}
use Rattle.wires.specs.Reading.{items_of}
use Rattle.wires.specs.declared.path_reader.PathReader.{PathReader}
use Rattle.wires.specs.PathReading.{NamedPath, finished, read_all, start}
use Rattle.wires.specs.PathSpelling.{joined, paths_words}

-- the code of lawful paths is read as their elements
abbrev pub CodesAreReadBack : Type 0
CodesAreReadBack = (limits : Limits) (paths : List NamedByNumber) → AreNumbers limits → ArePaths limits paths → items_of limits (paths_bytes paths) ≡ Ok (pieces_of paths)

-- a code that is read as the elements of paths has just their bytes, and the paths are lawful
abbrev pub CodesHaveOneSpelling : Type 0
CodesHaveOneSpelling = (limits : Limits) (code : List ℕ) (paths : List NamedByNumber) → AreBytes code → items_of limits code ≡ Ok (pieces_of paths) → (code ≡ paths_bytes paths) × ArePaths limits paths

-- paths with the same elements are the same
abbrev pub ElementsTellPaths : Type 0
ElementsTellPaths = (some others : List NamedByNumber) → pieces_of some ≡ pieces_of others → some ≡ others

-- the values of an element are of the types that hold them
abbrev pub IsHeld : Piece → Type 0
IsHeld (Layer layer width shape taper rule) = (layer < 2 ^ 32) × FitsSigned w32 width × (length shape < 2 ^ 32) × (taper < 2 ^ 8) × (length rule < 2 ^ 32)
IsHeld (Point x y ext) = FitsSigned w32 x × FitsSigned w32 y × IfSome ext (FitsSigned w32)
IsHeld (Via block via orient) = via < 2 ^ 32
IsHeld (Rect dx1 dy1 dx2 dy2) = FitsSigned w32 dx1 × FitsSigned w32 dy1 × FitsSigned w32 dx2 × FitsSigned w32 dy2

-- paths whose code is accepted, whatever else they are, are lawful and are what is decoded
abbrev pub AcceptedCodesAreDecoded : Type 0
AcceptedCodesAreDecoded = (limits : Limits) (paths : List NamedByNumber) (pieces : List Piece) → AreNumbers limits → AllByRecursion IsHeld (pieces_of paths) → AreBytes (paths_bytes paths)
    → items_of limits (paths_bytes paths) ≡ Ok pieces → (pieces ≡ pieces_of paths) × ArePaths limits paths

-- paths that were read take from the room, which is 1,000,000 bytes, what their words take, written whole with one space between them
abbrev pub WordsTakeRoom : Type 0
WordsTakeRoom = (special : Bool) (words : List (List ℕ)) (reader : PathReader) (paths : List NamedPath) → read_all (start special) words ≡ Ok reader → finished reader ≡ Ok paths
    → reader.room + length (joined (paths_words special paths)) ≡ 1000000
