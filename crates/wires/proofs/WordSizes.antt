-- Each word of a path adds its own size, written whole, to the words so far.
use Rattle.std.proofs.Common.{◌≡◌, ◌+◌, ◌++◌, ℕ, ℤ, Bool, true, false, List, [], ◌∷◌, Option, Some, None, length, refl, sym, ap, ◌∙◌, arith, inl, inr}
use Rattle.std.proofs.Math.Dec.{eqb-suc-zero}
use Rattle.std.specs.Fmt.{signed_decimal}
use Rattle.std.specs.List.{flat_map}
use Rattle.std.specs.Option.{option_map}
use Rattle.std.specs.Str.{bytes_eq}
use Rattle.std.proofs.lemmas.Slice.Eq.{bytes_eq-Decides}
use Rattle.odb_base.specs.declared.codes.orient.Orient.{Orient}
use Rattle.odb_base.specs.declared.geometry.Point.{Point}
use Rattle.odb_base.specs.Name.{name_fault}
use Rattle.odb_base.specs.Orient.{orient_word, orients}
use Rattle.wires.specs.declared.open_path.OpenPath.{OpenPath}
use Rattle.wires.specs.declared.path.Element.TheVariants as element
use Rattle.wires.specs.declared.path.Taper.TheVariants as taper
use Rattle.wires.specs.declared.path_word.PathWord.TheVariants as word
use Rattle.wires.specs.declared.spot.Spot.{Spot}
use Rattle.wires.specs.declared.spot.Spot.TheVariants as spot
use Rattle.wires.specs.declared.spot.HeadSpot.{HeadSpot}
use Rattle.wires.specs.declared.spot.HeadSpot.TheVariants as head
use Rattle.wires.specs.declared.spot.PointSpot.{PointSpot}
use Rattle.wires.specs.declared.spot.PointSpot.TheVariants as point
use Rattle.wires.specs.declared.spot.RectSpot.{RectSpot}
use Rattle.wires.specs.declared.spot.RectSpot.TheVariants as rect
use Rattle.wires.specs.PathPlaces.{name_in, number_at, number_in_head, number_in_point, number_in_rect, size_in, via_in, whole}
use Rattle.wires.specs.PathReading.{NamedPath, between_step, by_spot, element_step, ended, first_step, head_step, path_step, point_step, rect_step, rule_step, shape_step, via_step, width_step, with_last_via, with_shape, with_taper, with_via}
use Rattle.wires.specs.PathSpelling.{element_words, head_words, path_words, shape_words}
use Rattle.wires.specs.PathWords.{is, orient_from}
use Rattle.wires.proofs.Sizes.{found_passes, if_either, if_one, if_then, keyword_length, size, size_both, size_push, some_same}

-- a number and a space
abbrev number_size : ℤ → ℕ
number_size z = length (signed_decimal z) + 1

-- ---- the words so far of a path

abbrev head_size : Bool → NamedPath → ℕ
head_size special path = size (head_words special path)

abbrev elements_size : NamedPath → ℕ
elements_size path = size (flat_map element_words path.elements)

abbrev via_size : Option (List ℕ) → ℕ
via_size None = 0
via_size (Some via) = length via + 1

-- all but the layer, the elements and the last via
abbrev part_size : Bool → Spot → NamedPath → ℕ
part_size special (spot.Head head.Width) path = 0
part_size special (spot.Head head.AfterWidth) path = head_size special path
part_size special (spot.Head head.Shape) path = head_size special path + 2
part_size special (spot.Head head.ShapeName) path = head_size special path + 8
part_size special (spot.Head head.AfterLayer) path = head_size special path
part_size special (spot.Head head.RuleName) path = head_size special path + 10
part_size special (spot.Head head.Last) path = head_size special path
part_size special (spot.Point point.X) path = head_size special path + 2
part_size special (spot.Point (point.Y x)) path = head_size special path + 2 + number_size x
part_size special (spot.Point (point.AfterY p)) path = head_size special path + 2 + number_size p.x + number_size p.y
part_size special (spot.Point (point.Close p ext)) path = head_size special path + 2 + number_size p.x + number_size p.y + number_size ext
part_size special (spot.Rect rect.Open) path = head_size special path + 5
part_size special (spot.Rect rect.X1) path = head_size special path + 7
part_size special (spot.Rect (rect.Y1 dx1)) path = head_size special path + 7 + number_size dx1
part_size special (spot.Rect (rect.X2 first)) path = head_size special path + 7 + number_size first.x + number_size first.y
part_size special (spot.Rect (rect.Y2 first dx2)) path = head_size special path + 7 + number_size first.x + number_size first.y + number_size dx2
part_size special (spot.Rect (rect.Close first second)) path =
    head_size special path + 7 + number_size first.x + number_size first.y + number_size second.x + number_size second.y
part_size special spot.Element path = head_size special path

-- those of a path where this word is due
abbrev size_at : Bool → Spot → OpenPath → ℕ
size_at special s o = length o.path.layer + 1 + elements_size o.path + via_size o.via + part_size special s o.path

abbrev pub open_size : Bool → OpenPath → ℕ
open_size special o = size_at special o.spot o

-- what a word before the first point may yet set isn't set
abbrev pub IsUnset : Bool → Spot → NamedPath → Type 0
IsUnset special (spot.Head head.Width) path = (special ≡ true) × (path.shape ≡ [])
IsUnset special (spot.Head head.AfterWidth) path = (special ≡ true) × (path.shape ≡ [])
IsUnset special (spot.Head head.Shape) path = (special ≡ true) × (path.shape ≡ [])
IsUnset special (spot.Head head.ShapeName) path = (special ≡ true) × (path.shape ≡ [])
IsUnset special (spot.Head head.AfterLayer) path = (special ≡ false) × (path.taper ≡ taper.None)
IsUnset special (spot.Head head.RuleName) path = (special ≡ false) × (path.taper ≡ taper.None)
IsUnset special _ path = Unit {0}

-- a word of so many bytes led from a path where this word was due to the next
pub record Grows (special : Bool) (s : Spot) (o next : OpenPath) (n : ℕ) : Type 0 where
  pub size : open_size special next ≡ size_at special s o + n + 1
  pub unset : IsUnset special next.spot next.path

-- ---- before the first point

head_of_special : (path : NamedPath) → path.shape ≡ [] → head_size true path ≡ number_size path.width
head_of_special path bare = rw bare (omega arith)

shape_is_named : (bytes shape : List ℕ) → name_in bytes ≡ Some shape → (shape ≡ bytes) × (size (shape_words bytes) ≡ length bytes + 9)
unfolding name_in name_fault
shape_is_named [] shape e = absurd cc
shape_is_named (b ∷ bytes) shape e = (sym (if_one _ e).1, rw (eqb-suc-zero (length bytes)) (omega arith))

pub is_the_name : (bytes name : List ℕ) → name_in bytes ≡ Some name → name ≡ bytes
unfolding name_in
is_the_name bytes name e = sym (if_one _ e).1

pub first_grows : (special : Bool) (s : Spot) (o next : OpenPath) (bytes : List ℕ) → part_size special s o.path ≡ head_size special o.path → first_step o bytes ≡ Some next
    → Grows special s o next (length bytes)
first_grows special s o next bytes whole_head e =
    let p = if_one (is word.Open bytes) e in
    let long = keyword_length word.Open bytes p.0 in
    rw (sym p.1) (record { size = omega (arith, whole_head, long); unset = tt })

width_grows : (special : Bool) (width : Option ℤ) (o next : OpenPath) (bytes : List ℕ) → IsUnset special (spot.Head head.Width) o.path → width_step width o ≡ Some next
    → Grows special (spot.Head head.Width) o next (length (whole width bytes))
width_grows special (Some z) o next bytes unset e =
    let bare = head_of_special (record o.path { width = z }) unset.1 in
    rw (sym (some_same e), unset.0) (record { size = omega (arith, bare); unset = (refl, unset.1) })
width_grows special None o next bytes unset e = absurd cc

shape_grows : (special : Bool) (o next : OpenPath) (bytes : List ℕ) → IsUnset special (spot.Head head.ShapeName) o.path → shape_step bytes o ≡ Some next
    → Grows special (spot.Head head.ShapeName) o next (length bytes)
unfolding shape_step
shape_grows special o next bytes unset e = elim (name_in bytes) as (λ n. name_in bytes ≡ n → option_map (λ shape. with_shape shape o) n ≡ Some next → Grows special (spot.Head head.ShapeName) o next (length bytes)) [
  | Some shape ↦ λ named e.
      let p = shape_is_named bytes shape named in
      let bare = head_of_special o.path unset.1 in
      rw (sym (some_same e), p.0, unset.0) (record { size = omega (arith, bare, p.1); unset = tt })
  | None ↦ λ named e. absurd cc
] refl e

rule_grows : (special : Bool) (o next : OpenPath) (bytes : List ℕ) → IsUnset special (spot.Head head.RuleName) o.path → rule_step bytes o ≡ Some next
    → Grows special (spot.Head head.RuleName) o next (length bytes)
unfolding rule_step
rule_grows special o next bytes unset e = elim (name_in bytes) as (λ n. name_in bytes ≡ n → option_map (λ rule. with_taper (taper.Rule rule) o) n ≡ Some next → Grows special (spot.Head head.RuleName) o next (length bytes)) [
  | Some rule ↦ λ named e. rw (sym (some_same e), is_the_name bytes rule named, unset.0, unset.1) (record { size = omega arith; unset = tt })
  | None ↦ λ named e. absurd cc
] refl e

head_grows : (special : Bool) (s : HeadSpot) (o next : OpenPath) (bytes : List ℕ) → IsUnset special (spot.Head s) o.path → head_step s (number_in_head s bytes) o bytes ≡ Some next
    → Grows special (spot.Head s) o next (length (whole (number_in_head s bytes) bytes))
unfolding head_step
head_grows special head.Width o next bytes unset e = width_grows special (size_in bytes) o next bytes unset e
head_grows special head.AfterWidth o next bytes unset e = elim (if_either (is word.Plus bytes) (first_step o bytes) e) [
  | inl p ↦ (let long = keyword_length word.Plus bytes p.0 in rw (sym p.1) (record { size = omega (arith, long); unset = unset }))
  | inr q ↦ first_grows special (spot.Head head.AfterWidth) o next bytes refl q
]
head_grows special head.Shape o next bytes unset e =
    let p = if_one (is word.Shape bytes) e in
    let long = keyword_length word.Shape bytes p.0 in
    rw (sym p.1) (record { size = omega (arith, long); unset = unset })
head_grows special head.ShapeName o next bytes unset e = shape_grows special o next bytes unset e
head_grows special head.AfterLayer o next bytes unset e = elim (if_either (is word.Taper bytes) _ e) [
  | inl p ↦ (let long = keyword_length word.Taper bytes p.0 in rw (sym p.1, unset.0, unset.1) (record { size = omega (arith, long); unset = tt }))
  | inr q ↦ elim (if_either (is word.TaperRule bytes) (first_step o bytes) q) [
    | inl p ↦ (let long = keyword_length word.TaperRule bytes p.0 in rw (sym p.1) (record { size = omega (arith, long); unset = unset }))
    | inr q ↦ first_grows special (spot.Head head.AfterLayer) o next bytes refl q
  ]
]
head_grows special head.RuleName o next bytes unset e = rule_grows special o next bytes unset e
head_grows special head.Last o next bytes unset e = first_grows special (spot.Head head.Last) o next bytes refl e

-- ---- points and rectangles

-- no number can stand where a point is closed
abbrev IsPointNumber : PointSpot → Option ℤ → Type 0
IsPointNumber (point.Close p ext) number = number ≡ None
IsPointNumber _ number = Unit {0}

is_point_number : (s : PointSpot) (former : Option Point) (bytes : List ℕ) → IsPointNumber s (number_in_point s former bytes)
is_point_number point.X former bytes = tt
is_point_number (point.Y x) former bytes = tt
is_point_number (point.AfterY p) former bytes = tt
is_point_number (point.Close p ext) former bytes = refl

point_grows : (special : Bool) (s : PointSpot) (number : Option ℤ) (o next : OpenPath) (bytes : List ℕ) → IsPointNumber s number → point_step s number o bytes ≡ Some next
    → Grows special (spot.Point s) o next (length (whole number bytes))
unfolding point_step element_words
point_grows special point.X (Some x) o next bytes none e = rw (sym (some_same e)) (record { size = omega arith; unset = tt })
point_grows special point.X None o next bytes none e = absurd cc
point_grows special (point.Y x) (Some y) o next bytes none e = rw (sym (some_same e)) (record { size = omega arith; unset = tt })
point_grows special (point.Y x) None o next bytes none e = absurd cc
point_grows special (point.AfterY p) (Some ext) o next bytes none e = rw (sym (some_same e)) (record { size = omega arith; unset = tt })
point_grows special (point.AfterY p) None o next bytes none e =
    let q = if_one (is word.Close bytes) e in
    let long = keyword_length word.Close bytes q.0 in
    let grown = size_push element_words o.path.elements (element.Point p.x p.y None) in
    rw (sym q.1) (record { size = omega (arith, long, grown); unset = tt })
point_grows special (point.Close p ext) number o next bytes none e =
    let q = if_one (is word.Close bytes) e in
    let long = keyword_length word.Close bytes q.0 in
    let grown = size_push element_words o.path.elements (element.Point p.x p.y (Some ext)) in
    rw (sym q.1, none) (record { size = omega (arith, long, grown); unset = tt })

-- no number can stand where a rectangle is opened or closed
abbrev IsRectNumber : RectSpot → Option ℤ → Type 0
IsRectNumber rect.Open number = number ≡ None
IsRectNumber (rect.Close first second) number = number ≡ None
IsRectNumber _ number = Unit {0}

is_rect_number : (s : RectSpot) (bytes : List ℕ) → IsRectNumber s (number_in_rect s bytes)
is_rect_number rect.Open bytes = refl
is_rect_number rect.X1 bytes = tt
is_rect_number (rect.Y1 dx1) bytes = tt
is_rect_number (rect.X2 first) bytes = tt
is_rect_number (rect.Y2 first dx2) bytes = tt
is_rect_number (rect.Close first second) bytes = refl

rect_grows : (special : Bool) (s : RectSpot) (number : Option ℤ) (o next : OpenPath) (bytes : List ℕ) → IsRectNumber s number → rect_step s number o bytes ≡ Some next
    → Grows special (spot.Rect s) o next (length (whole number bytes))
unfolding rect_step element_words
rect_grows special rect.Open number o next bytes none e =
    let q = if_one (is word.Open bytes) e in
    let long = keyword_length word.Open bytes q.0 in
    rw (sym q.1, none) (record { size = omega (arith, long); unset = tt })
rect_grows special rect.X1 (Some dx1) o next bytes none e = rw (sym (some_same e)) (record { size = omega arith; unset = tt })
rect_grows special rect.X1 None o next bytes none e = absurd cc
rect_grows special (rect.Y1 dx1) (Some dy1) o next bytes none e = rw (sym (some_same e)) (record { size = omega arith; unset = tt })
rect_grows special (rect.Y1 dx1) None o next bytes none e = absurd cc
rect_grows special (rect.X2 first) (Some dx2) o next bytes none e = rw (sym (some_same e)) (record { size = omega arith; unset = tt })
rect_grows special (rect.X2 first) None o next bytes none e = absurd cc
rect_grows special (rect.Y2 first dx2) (Some dy2) o next bytes none e = rw (sym (some_same e)) (record { size = omega arith; unset = tt })
rect_grows special (rect.Y2 first dx2) None o next bytes none e = absurd cc
rect_grows special (rect.Close first second) number o next bytes none e =
    let q = if_one (is word.Close bytes) e in
    let long = keyword_length word.Close bytes q.0 in
    let grown = size_push element_words o.path.elements (element.Rect first.x first.y second.x second.y) in
    rw (sym q.1, none) (record { size = omega (arith, long, grown); unset = tt })

-- ---- between elements

via_is_named : (bytes via : List ℕ) → via_in bytes ≡ Some via → via ≡ bytes
unfolding via_in
via_is_named bytes via e = is_the_name bytes via (if_then _ e).1

element_grows : (special : Bool) (o next : OpenPath) (bytes : List ℕ) → o.via ≡ None → o.spot ≡ spot.Element → element_step o bytes ≡ Some next → Grows special spot.Element o next (length bytes)
unfolding element_step
element_grows special o next bytes bare at e = elim (if_either (is word.Open bytes) _ e) [
  | inl p ↦ (let long = keyword_length word.Open bytes p.0 in rw (sym p.1) (record { size = omega (arith, long); unset = tt }))
  | inr q ↦ elim (if_either (is word.Rect bytes) _ q) [
    | inl p ↦ (let long = keyword_length word.Rect bytes p.0 in rw (sym p.1) (record { size = omega (arith, long); unset = tt }))
    | inr q ↦ elim (via_in bytes) as (λ v. via_in bytes ≡ v → option_map (λ via. record o { via = Some via }) v ≡ Some next → Grows special spot.Element o next (length bytes)) [
      | Some via ↦ λ named e. rw (sym (some_same e), via_is_named bytes via named, bare, at) (record { size = omega arith; unset = tt })
      | None ↦ λ named e. absurd cc
    ] refl q
  ]
]

orient_length : (bytes : List ℕ) (orient : Orient) → orient_from bytes ≡ Some orient → length (orient_word orient) ≡ length bytes
unfolding orient_from
orient_length bytes orient e = ap length ((bytes_eq-Decides (orient_word orient) bytes).0 (found_passes (λ o. bytes_eq (orient_word o) bytes) orients orient e))

via_grows : (special : Bool) (via : List ℕ) (orient : Option Orient) (o next : OpenPath) (bytes : List ℕ) → o.via ≡ Some via → o.spot ≡ spot.Element → orient_from bytes ≡ orient
    → via_step via orient (record o { via = None }) bytes ≡ Some next → Grows special spot.Element o next (length bytes)
unfolding element_words
via_grows special via (Some orient) o next bytes last at named e =
    let long = orient_length bytes orient named in
    let grown = size_push element_words o.path.elements (element.Via via (Some orient)) in
    rw (sym (some_same e), last, at) (record { size = omega (arith, long, grown); unset = tt })
via_grows special via None o next bytes last at named e =
    let put = with_via via None (record o { via = None }) in
    let grown = size_push element_words o.path.elements (element.Via via None) in
    let rest = element_grows special put next bytes refl at e in
    let more = rest.size in
    rw last (record { size = omega (arith, grown, more); unset = rest.unset })

between_grows : (special : Bool) (o next : OpenPath) (bytes : List ℕ) → o.spot ≡ spot.Element → between_step o.via o bytes ≡ Some next → Grows special spot.Element o next (length bytes)
between_grows special o next bytes at e = elim o.via as (λ v. o.via ≡ v → between_step v o bytes ≡ Some next → Grows special spot.Element o next (length bytes)) [
  | None ↦ λ bare e. element_grows special o next bytes bare at e
  | Some via ↦ λ last e. via_grows special via (orient_from bytes) o next bytes last at refl e
] refl e

-- ---- a path

-- a word of a path adds its own size
pub path_grows : (special : Bool) (o next : OpenPath) (bytes : List ℕ) → IsUnset special o.spot o.path → path_step (number_at o.spot o.former bytes) o bytes ≡ Some next
    → Grows special o.spot o next (length (whole (number_at o.spot o.former bytes) bytes))
unfolding path_step
path_grows special o next bytes unset e =
    elim o.spot as (λ s.
    o.spot ≡ s → IsUnset special s o.path → by_spot s (number_at s o.former bytes) o bytes ≡ Some next → Grows special s o next (length (whole (number_at s o.former bytes) bytes))) [
      | spot.Head s ↦ λ at unset e. head_grows special s o next bytes unset e
      | spot.Point s ↦ λ at unset e. point_grows special s _ o next bytes (is_point_number s o.former bytes) e
      | spot.Rect s ↦ λ at unset e. rect_grows special s _ o next bytes (is_rect_number s bytes) e
      | spot.Element ↦ λ at unset e. between_grows special o next bytes at e
    ] refl unset e

-- the words of a path that has ended are the words so far
pub ended_size : (special : Bool) (o : OpenPath) → o.spot ≡ spot.Element → size (path_words special (ended o)) ≡ open_size special o
unfolding element_words
ended_size special o at = elim o.via as (λ v. o.via ≡ v → size (path_words special (with_last_via v o.path)) ≡ size_at special spot.Element (record o { via = v })) [
  | None ↦ λ bare. (let both = size_both (head_words special o.path) (flat_map element_words o.path.elements) in omega (arith, both))
  | Some via ↦ λ last.
      let grown = size_push element_words o.path.elements (element.Via via None) in
      let both = size_both (head_words special o.path) (flat_map element_words (o.path.elements ++ element.Via via None ∷ [])) in
      omega (arith, grown, both)
] refl ∙ rw at refl
