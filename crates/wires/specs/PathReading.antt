-- Reading paths, one word after another, each by what is due and with no view of later words.
use Rattle.std.specs.Prelude.{◌≡◌, ◌+◌, ◌-◌, ◌++◌, ◌&&◌, Bool, true, false, List, [], ◌∷◌, ℕ, ℤ, pos, Option, Some, None, Result, Ok, Err, ⊤, if◌then◌else◌, length, nat_lt, All, IfSome}
use Rattle.std.specs.Option.{option_map}
use Rattle.odb_base.specs.declared.codes.orient.Orient.{Orient}
use Rattle.odb_base.specs.declared.geometry.Point.{Point}
use Rattle.odb_fields.specs.Reading.{◌>>=◌}
use Rattle.wires.specs.declared.fault.PathFault.{PathFault}
use Rattle.wires.specs.declared.fault.PathFault.TheVariants as fault
use Rattle.wires.specs.declared.fault.PathFlaw.{PathFlaw}
use Rattle.wires.specs.declared.fault.PathFlaw.TheVariants as flaw
use Rattle.wires.specs.declared.fault.PathStop.{PathStop}
use Rattle.wires.specs.declared.fault.PathStop.TheVariants as stop
use Rattle.wires.specs.declared.open_path.OpenPath.{OpenPath}
use Rattle.wires.specs.declared.path.Path.{Path}
use Rattle.wires.specs.declared.path.Element.{Element}
use Rattle.wires.specs.declared.path.Element.TheVariants as element
use Rattle.wires.specs.declared.path.Taper.{Taper}
use Rattle.wires.specs.declared.path.Taper.TheVariants as taper
use Rattle.wires.specs.declared.path_reader.PathReader.{PathReader}
use Rattle.wires.specs.declared.path_word.PathWord.TheVariants as word
use Rattle.wires.specs.declared.spot.Spot.{Spot}
use Rattle.wires.specs.declared.spot.Spot.TheVariants as spot
use Rattle.wires.specs.declared.spot.HeadSpot.{HeadSpot}
use Rattle.wires.specs.declared.spot.HeadSpot.TheVariants as head
use Rattle.wires.specs.declared.spot.PointSpot.{PointSpot}
use Rattle.wires.specs.declared.spot.PointSpot.TheVariants as point
use Rattle.wires.specs.declared.spot.RectSpot.{RectSpot}
use Rattle.wires.specs.declared.spot.RectSpot.TheVariants as rect
use Rattle.wires.specs.PathPlaces.{ends, flaw_of, name_in, number_at, via_in, whole}
use Rattle.wires.specs.Paths.{IsShort}
use Rattle.wires.specs.PathWords.{is, is_unsupported, orient_from}

-- a path with names
abbrev pub NamedPath : Type 0
NamedPath = Path (List ℕ) (List ℕ)

-- ---- a path of which words may still come

-- where this word is due
abbrev pub due : Spot → OpenPath → OpenPath
due s o = record o { spot = s }

-- a path with one more element
abbrev pub with_element : Element (List ℕ) → NamedPath → NamedPath
with_element e path = record path { elements = path.elements ++ e ∷ [] }

-- with a width
abbrev pub with_width : ℤ → OpenPath → OpenPath
with_width width o = record o { path = record o.path { width = width }; spot = spot.Head head.AfterWidth }

-- with a shape
abbrev pub with_shape : List ℕ → OpenPath → OpenPath
with_shape shape o = record o { path = record o.path { shape = shape }; spot = spot.Head head.Last }

-- with a taper
abbrev pub with_taper : Taper → OpenPath → OpenPath
with_taper taper o = record o { path = record o.path { taper = taper }; spot = spot.Head head.Last }

-- with a point at its end
abbrev pub with_point : Point → Option ℤ → OpenPath → OpenPath
with_point p ext o = record o { path = with_element (element.Point p.x p.y ext) o.path; former = Some p; spot = spot.Element }

-- with a rectangle between two corners at its end
abbrev pub with_rect : Point → Point → OpenPath → OpenPath
with_rect first second o = record o { path = with_element (element.Rect first.x first.y second.x second.y) o.path; spot = spot.Element }

-- with a via at its end
abbrev pub with_via : List ℕ → Option Orient → OpenPath → OpenPath
with_via via orient o = record o { path = with_element (element.Via via orient) o.path }

-- ---- before the first point

-- a width
abbrev pub width_step : Option ℤ → OpenPath → Option OpenPath
width_step width o = option_map (λ w. with_width w o) width

-- the name of a shape
unfoldable pub shape_step : List ℕ → OpenPath → Option OpenPath
shape_step bytes o = option_map (λ shape. with_shape shape o) (name_in bytes)

-- the name of a rule
unfoldable pub rule_step : List ℕ → OpenPath → Option OpenPath
rule_step bytes o = option_map (λ rule. with_taper (taper.Rule rule) o) (name_in bytes)

-- the first point begins
abbrev pub first_step : OpenPath → List ℕ → Option OpenPath
first_step o bytes = if is word.Open bytes then Some (due (spot.Point point.X) o) else None

-- a word before the first point, which may stand for a number
unfoldable pub head_step : HeadSpot → Option ℤ → OpenPath → List ℕ → Option OpenPath
head_step head.Width number o bytes = width_step number o
head_step head.AfterWidth number o bytes = if is word.Plus bytes then Some (due (spot.Head head.Shape) o) else first_step o bytes
head_step head.Shape number o bytes = if is word.Shape bytes then Some (due (spot.Head head.ShapeName) o) else None
head_step head.ShapeName number o bytes = shape_step bytes o
head_step head.AfterLayer number o bytes =
    if is word.Taper bytes then Some (with_taper taper.Layer o)
    else if is word.TaperRule bytes then Some (due (spot.Head head.RuleName) o)
    else first_step o bytes
head_step head.RuleName number o bytes = rule_step bytes o
head_step head.Last number o bytes = first_step o bytes

-- ---- points

-- a word of a point, which may stand for a number
unfoldable pub point_step : PointSpot → Option ℤ → OpenPath → List ℕ → Option OpenPath
point_step point.X (Some x) o bytes = Some (due (spot.Point (point.Y x)) o)
point_step point.X None o bytes = None
point_step (point.Y x) (Some y) o bytes = Some (due (spot.Point (point.AfterY (record { x = x; y = y }))) o)
point_step (point.Y x) None o bytes = None
point_step (point.AfterY p) (Some ext) o bytes = Some (due (spot.Point (point.Close p ext)) o)
point_step (point.AfterY p) None o bytes = if is word.Close bytes then Some (with_point p None o) else None
point_step (point.Close p ext) number o bytes = if is word.Close bytes then Some (with_point p (Some ext) o) else None

-- ---- rectangles

-- a word of a rectangle, which may stand for a number
unfoldable pub rect_step : RectSpot → Option ℤ → OpenPath → List ℕ → Option OpenPath
rect_step rect.Open number o bytes = if is word.Open bytes then Some (due (spot.Rect rect.X1) o) else None
rect_step rect.X1 (Some dx1) o bytes = Some (due (spot.Rect (rect.Y1 dx1)) o)
rect_step rect.X1 None o bytes = None
rect_step (rect.Y1 dx1) (Some dy1) o bytes = Some (due (spot.Rect (rect.X2 (record { x = dx1; y = dy1 }))) o)
rect_step (rect.Y1 dx1) None o bytes = None
rect_step (rect.X2 first) (Some dx2) o bytes = Some (due (spot.Rect (rect.Y2 first dx2)) o)
rect_step (rect.X2 first) None o bytes = None
rect_step (rect.Y2 first dx2) (Some dy2) o bytes = Some (due (spot.Rect (rect.Close first (record { x = dx2; y = dy2 }))) o)
rect_step (rect.Y2 first dx2) None o bytes = None
rect_step (rect.Close first second) number o bytes = if is word.Close bytes then Some (with_rect first second o) else None

-- ---- elements

-- the first word of an element
unfoldable pub element_step : OpenPath → List ℕ → Option OpenPath
element_step o bytes =
    if is word.Open bytes then Some (due (spot.Point point.X) o)
    else if is word.Rect bytes then Some (due (spot.Rect rect.Open) o)
    else option_map (λ via. record o { via = Some via }) (via_in bytes)

-- the orientation of a via, or else the first word of what stands behind it
abbrev pub via_step : List ℕ → Option Orient → OpenPath → List ℕ → Option OpenPath
via_step via (Some orient) o bytes = Some (with_via via (Some orient) o)
via_step via None o bytes = element_step (with_via via None o) bytes

-- a word between elements, the last of which may be a via without its orientation
abbrev pub between_step : Option (List ℕ) → OpenPath → List ℕ → Option OpenPath
between_step None o bytes = element_step o bytes
between_step (Some via) o bytes = via_step via (orient_from bytes) (record o { via = None }) bytes

-- ---- a path

-- a word of a path, by what is due
abbrev pub by_spot : Spot → Option ℤ → OpenPath → List ℕ → Option OpenPath
by_spot (spot.Head s) number o bytes = head_step s number o bytes
by_spot (spot.Point s) number o bytes = point_step s number o bytes
by_spot (spot.Rect s) number o bytes = rect_step s number o bytes
by_spot spot.Element number o bytes = between_step o.via o bytes

-- a word of a path, which may stand for a number
unfoldable pub path_step : Option ℤ → OpenPath → List ℕ → Option OpenPath
path_step number o bytes = by_spot o.spot number o bytes

-- a path behind its layer
abbrev pub begun : Bool → List ℕ → OpenPath
begun special layer = record {
  path = record { layer = layer; width = pos 0; shape = []; taper = taper.None; elements = [] };
  former = None;
  via = None;
  spot = spot.Head (if special then head.Width else head.AfterLayer);
}

-- a path with the via that stands last, if there is one
abbrev pub with_last_via : Option (List ℕ) → NamedPath → NamedPath
with_last_via None path = path
with_last_via (Some via) path = with_element (element.Via via None) path

-- a path where its words end
abbrev pub ended : OpenPath → NamedPath
ended o = with_last_via o.via o.path

-- ---- paths

-- no path yet, with room for 1,000,000 bytes of words and a space behind the last
abbrev pub start : Bool → PathReader
start special = record { special = special; room = 1000001; done = []; last = None }

-- what is wrong with a word that can't stand where it does: where a layer is due, and in a path
abbrev pub flaw_at : Option OpenPath → PathFlaw
flaw_at None = flaw.BadName
flaw_at (Some o) = flaw_of o.spot

-- the number for which a word stands, where a number can stand
abbrev pub number_due : Option OpenPath → List ℕ → Option ℤ
number_due None bytes = None
number_due (Some o) bytes = number_at o.spot o.former bytes

-- the words may end: the last path has its first point, and they aren't inside a point or a rectangle
abbrev pub last_may_end : Option OpenPath → Bool
last_may_end None = false
last_may_end (Some o) = ends o.spot

abbrev pub may_end : PathReader → Bool
may_end reader = last_may_end reader.last

-- the last path has ended
abbrev pub with_ended : Option OpenPath → PathReader → PathReader
with_ended None reader = reader
with_ended (Some o) reader = record reader { done = reader.done ++ ended o ∷ []; last = None }

-- a path begins with its layer
abbrev pub with_begun : Option (List ℕ) → PathReader → Option PathReader
with_begun layer reader = option_map (λ l. record reader { last = Some (begun reader.special l) }) layer

-- a word of the last path, or `NEW` where that may end
abbrev pub in_path : Option ℤ → List ℕ → OpenPath → PathReader → Option PathReader
in_path number bytes o reader =
    if is word.New bytes && ends o.spot then Some (with_ended (Some o) reader)
    else option_map (λ next. record reader { last = Some next }) (path_step number o bytes)

-- a layer, or a word of the last path
abbrev pub in_last : Option ℤ → List ℕ → Option OpenPath → PathReader → Option PathReader
in_last number bytes None reader = with_begun (name_in bytes) reader
in_last number bytes (Some o) reader = in_path number bytes o reader

-- with room for so much less
abbrev pub with_less_room : ℕ → PathReader → PathReader
with_less_room n reader = record reader { room = reader.room - n }

-- a word that may stand here, written whole and with a space, if there is room for it
abbrev pub taken : Option ℤ → List ℕ → PathReader → Option PathReader
taken number bytes reader =
    if nat_lt (length (whole number bytes)) reader.room then in_last number bytes reader.last (with_less_room (length (whole number bytes) + 1) reader)
    else None

-- what is there, or this fault
abbrev pub or_flaw : {A : Type 0} → PathFlaw → Option A → Result A PathFlaw
or_flaw f (Some x) = Ok x
or_flaw f None = Err f

-- a word of paths
unfoldable pub step_of : PathReader → List ℕ → Result PathReader PathFlaw
step_of reader bytes =
    if is_unsupported bytes then Err flaw.Unsupported
    else or_flaw (flaw_at reader.last) (taken (number_due reader.last bytes) bytes reader)

-- the paths where the words end
abbrev pub finished : PathReader → Result (List NamedPath) PathFlaw
finished reader = if may_end reader then Ok (with_ended reader.last reader).done else Err (flaw_at reader.last)

-- ---- words together

-- a fault, which names a word that isn't supported
abbrev pub with_fault : {A : Type 0} → List ℕ → Result A PathFlaw → Result A PathFault
with_fault bytes (Ok x) = Ok x
with_fault bytes (Err flaw.Unsupported) = Err (fault.Unsupported bytes)
with_fault bytes (Err _) = Err fault.Bad

-- one word after another
abbrev pub read_all : PathReader → List (List ℕ) → Result PathReader PathFault
read_all reader [] = Ok reader
read_all reader (bytes ∷ words) = with_fault bytes (step_of reader bytes) >>= λ next. read_all next words

-- what is there, or that the words are no paths
abbrev pub or_bad : {A : Type 0} → Result A PathFlaw → Result A PathFault
or_bad (Ok x) = Ok x
or_bad (Err f) = Err fault.Bad

-- the paths of words, or the fault of the first that can't stand where it does
abbrev pub paths_of : Bool → List (List ℕ) → Result (List NamedPath) PathFault
paths_of special words = read_all (start special) words >>= λ reader. or_bad (finished reader)

-- ---- answers

-- a word was taken and left this, just where it may stand
abbrev pub Takes : {A : Type 0} → Option A → A → Bool → Type 0
Takes due new true = due ≡ Some new
Takes due new false = due ≡ None

-- a call in place gave what is due, or memory ran out
abbrev pub Gives : {A U : Type 0} → Result A PathFlaw → A → Result U PathStop → Type 0
Gives due new (Ok u) = due ≡ Ok new
Gives due new (Err stop.Memory) = ⊤
Gives due new (Err (stop.Flaw f)) = due ≡ Err f

-- a call gave what is due, or memory ran out
abbrev pub IsGiven : {A : Type 0} → Result A PathFlaw → Result A PathStop → Type 0
IsGiven due (Ok x) = due ≡ Ok x
IsGiven due (Err stop.Memory) = ⊤
IsGiven due (Err (stop.Flaw f)) = due ≡ Err f

-- words were read and left what is due, or memory ran out
abbrev pub ReadsWords : {A U : Type 0} → Result A PathFault → A → Result U PathFault → Type 0
ReadsWords due new (Ok u) = due ≡ Ok new
ReadsWords due new (Err fault.Memory) = ⊤
ReadsWords due new (Err fault.Bad) = due ≡ Err fault.Bad
ReadsWords due new (Err (fault.Unsupported bytes)) = due ≡ Err (fault.Unsupported bytes)

-- words gave what is due, or memory ran out
abbrev pub Parses : {A : Type 0} → Result A PathFault → Result A PathFault → Type 0
Parses due (Ok x) = due ≡ Ok x
Parses due (Err fault.Memory) = ⊤
Parses due (Err fault.Bad) = due ≡ Err fault.Bad
Parses due (Err (fault.Unsupported bytes)) = due ≡ Err (fault.Unsupported bytes)

-- the texts of all paths so far have lengths of four bytes
pub record AreShort (reader : PathReader) : Type 0 where
  pub done : All IsShort reader.done
  pub last : IfSome reader.last (λ o. IsShort o.path)
