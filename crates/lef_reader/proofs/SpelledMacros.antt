-- Vias, pins and macros that are spelled out are read as they are.
use Rattle.std.proofs.Common.{◌≡◌, ℕ, ◌+◌, ◌-◌, ◌^◌, ◌&&◌, Bool, true, false, List, [], ◌∷◌, ◌++◌, Option, Some, None, codes, fold, if◌then◌else◌, min, not, refl, sym, ap, ◌∙◌, append_assoc}
use Rattle.std.proofs.lemmas.Bool.{true≢false}
use Rattle.std.proofs.lemmas.Slice.Eq.{bytes_eq-Decides}
use Rattle.std.specs.List.{AllByRecursion, flat_map}
use Rattle.odb_base.specs.Direction.{direction_word}
use Rattle.odb_base.specs.Orient.{orient_word}
use Rattle.lef_forms.specs.declared.form.Statement.TheVariants as statement
use Rattle.lef_forms.specs.declared.keyword.Keyword.TheVariants as keyword
use Rattle.lef_forms.specs.declared.word_set.WordSet.TheVariants as set
use Rattle.lef_forms.specs.Forms.{form_of}
use Rattle.lef_forms.specs.Keywords.{is, text_of}
use Rattle.ld_forms.specs.Names.{is_name, is_orientation, is_via_name}
use Rattle.lef_forms.specs.Numbers.{is_number}
use Rattle.ld_forms.specs.Places.{fit_in, is_semicolon, left_out}
use Rattle.ld_reader.specs.Laws.{run}
use Rattle.ld_reader.specs.Reading.{between, by_fit, in_form, moved, step_of, whole}
use Rattle.lef_forms.specs.Classes.{judged}
use Rattle.lef_forms.specs.WordSets.{direction_in, has}
use Rattle.lef_drafts.specs.declared.draft.Closed.TheVariants as closed
use Rattle.lef_drafts.specs.declared.draft.Draft.TheVariants as draft
use Rattle.ld_reader.specs.Reading.{at}
use Rattle.lef_reader.specs.declared.so_far.SoFar.{SoFar}
use Rattle.lef_tree.specs.declared.tree.LefItem.TheVariants as item
use Rattle.lef_tree.specs.declared.tree.LefMacro.{LefMacro}
use Rattle.lef_tree.specs.declared.tree.LefPin.{LefPin}
use Rattle.lef_tree.specs.declared.tree.LefRect.{LefRect}
use Rattle.lef_tree.specs.declared.tree.LefShape.{LefShape}
use Rattle.lef_tree.specs.declared.tree.LefVia.{LefVia}
use Rattle.lef_drafts.specs.Drafts.{close, macro_set, new_macro, new_pin, new_via, opened, pin_set, set as set_of, shapes_set, with_pin}
use Rattle.lef_reader.specs.Laws.{MacroLinesAreRead, MacrosAreRead, OrientationsNameNoVia, PinsAreRead, Reads, ViasAreRead, in_macro, in_text, with_draft, with_item, with_macro}
use Rattle.lef_reader.specs.MacroSpelling.{AreCorners, AreShapes, Counted, Drawn, ForeignIs, IsMacroLine, IsMask, IsPinLine, IsRect, MacroClassIs, MacroLine, MacroSizeIs, MacroSymmetryIs, ObsIs, OriginIs, PartIs, PinDirectionIs, PinIs, PinIsOutput, PinIsTristate, PinLine, PinUseIs, PortIs, RectLine, Shapes, SiteNamed, ViaHeader, drawn_with, header_words, macro_with, macro_words, pin_of, pin_with, pin_words, rect_words, shapes_words, with_named_pin, with_rect_on}
use Rattle.lef_tree.specs.Pins.{has_pin}
use Rattle.lef_reader.specs.Reading.{begun_by, begun_in, by_closed, closed_of, closing, rules, set_in}
use Rattle.lef_reader.specs.Spelling.{AreOther, semicolon}
use Rattle.lef_drafts.specs.Values.{Words}
use Rattle.lef_reader.proofs.Spelled.{lines-read, more-read, no_symmetry, not_keyword, parts-passed, same_bytes, through-read}

no_mask : is_number (text_of keyword.Mask) ≡ false
unfolding is_number
no_mask = refl

no_output : has set.PinDirection (text_of keyword.Output) ≡ false
unfolding has direction_in direction_word
no_output = refl

no_any : has set.Any semicolon ≡ false
unfolding has is_semicolon
no_any = refl

any_word : (w : List ℕ) → is_semicolon w ≡ false → has set.Any w ≡ true
unfolding has
any_word w other = ap not other

any_words : (words : Words) → AreOther words → AllByRecursion (λ v. has set.Any v ≡ true) words
any_words [] all = tt
any_words (w ∷ words) all = (any_word w all.0, any_words words all.1)

-- ---- shapes

-- the shapes of any section that has them
module _ (state : Drawn → SoFar)
    (layer-ok : (d : Drawn) (l : List ℕ) → is_name l ≡ true → Reads (state d) (codes "LAYER" ∷ l ∷ semicolon ∷ []) (state (Some l, d.1)))
    (rect-ok : (l : List ℕ) (shapes : List LefShape) (r : RectLine) → IsRect r → Reads (state (Some l, shapes)) (rect_words r) (state (Some l, with_rect_on l shapes r))) where
  one-read : (d : Drawn) (s : Shapes) → AreShapes s → Reads (state d) (shapes_words s) (state (drawn_with d s))
  one-read d s fits rest =
      layer-ok d s.layer fits.0 (flat_map rect_words s.rects ++ rest)
      ∙ lines-read (λ shapes. state (Some s.layer, shapes)) rect_words (with_rect_on s.layer) IsRect (rect-ok s.layer) d.1 s.rects fits.1 rest

  shapes-read : (d : Drawn) (more : List Shapes) → AllByRecursion AreShapes more → Reads (state d) (flat_map shapes_words more) (state (fold drawn_with d more))
  shapes-read d more all = lines-read state shapes_words drawn_with AreShapes one-read d more all

abbrev in_via : SoFar → LefVia → Drawn → SoFar
in_via so_far via d = with_draft so_far (draft.Via (record via { shapes = d.1 }) d.0)

via-layer : (so_far : SoFar) (via : LefVia) (d : Drawn) (l : List ℕ) → is_name l ≡ true → Reads (in_via so_far via d) (codes "LAYER" ∷ l ∷ semicolon ∷ []) (in_via so_far via (Some l, d.1))
unfolding run step_of between moved in_form by_fit whole fit_in left_out is_semicolon judged begun_in begun_by form_of is set_in set_of shapes_set
via-layer so_far via d l fits rest = rw (fits, fits) refl

via-rect-on : (so_far : SoFar) (via : LefVia) (l : List ℕ) (shapes : List LefShape) (mask : Option (List ℕ)) (r : LefRect) → IsMask mask → AreCorners r
    → Reads (in_via so_far via (Some l, shapes)) (rect_words (record { mask = mask; rect = r })) (in_via so_far via (Some l, with_rect_on l shapes (record { mask = mask; rect = r })))
unfolding run step_of between moved in_form by_fit whole fit_in left_out is_semicolon judged begun_in begun_by form_of is set_in set_of shapes_set
via-rect-on so_far via l shapes None r masked fits rest =
    let unlike = not_keyword keyword.Mask is_number r.x1 no_mask fits.0 in
    let x1 = fits.0 in let y1 = fits.1 in let x2 = fits.2 in let y2 = fits.3 in rw (unlike, x1, y1, x2, y2) refl
via-rect-on so_far via l shapes (Some n) r masked fits rest =
    let x1 = fits.0 in let y1 = fits.1 in let x2 = fits.2 in let y2 = fits.3 in rw (masked, x1, y1, x2, y2) refl

via-rect : (so_far : SoFar) (via : LefVia) (l : List ℕ) (shapes : List LefShape) (r : RectLine) → IsRect r → Reads (in_via so_far via (Some l, shapes)) (rect_words r) (in_via so_far via (Some l, with_rect_on l shapes r))
via-rect so_far via l shapes r fits = via-rect-on so_far via l shapes r.mask r.rect fits.0 fits.1

abbrev in_port : SoFar → LefMacro → LefPin → Drawn → SoFar
in_port so_far body pin d = with_draft so_far (draft.Port body (record pin { shapes = d.1 }) d.0)

port-layer : (so_far : SoFar) (body : LefMacro) (pin : LefPin) (d : Drawn) (l : List ℕ) → is_name l ≡ true → Reads (in_port so_far body pin d) (codes "LAYER" ∷ l ∷ semicolon ∷ []) (in_port so_far body pin (Some l, d.1))
unfolding run step_of between moved in_form by_fit whole fit_in left_out is_semicolon judged begun_in begun_by form_of is set_in set_of shapes_set
port-layer so_far body pin d l fits rest = rw (fits, fits) refl

port-rect-on : (so_far : SoFar) (body : LefMacro) (pin : LefPin) (l : List ℕ) (shapes : List LefShape) (mask : Option (List ℕ)) (r : LefRect) → IsMask mask → AreCorners r
    → Reads (in_port so_far body pin (Some l, shapes)) (rect_words (record { mask = mask; rect = r })) (in_port so_far body pin (Some l, with_rect_on l shapes (record { mask = mask; rect = r })))
unfolding run step_of between moved in_form by_fit whole fit_in left_out is_semicolon judged begun_in begun_by form_of is set_in set_of shapes_set
port-rect-on so_far body pin l shapes None r masked fits rest =
    let unlike = not_keyword keyword.Mask is_number r.x1 no_mask fits.0 in
    let x1 = fits.0 in let y1 = fits.1 in let x2 = fits.2 in let y2 = fits.3 in rw (unlike, x1, y1, x2, y2) refl
port-rect-on so_far body pin l shapes (Some n) r masked fits rest =
    let x1 = fits.0 in let y1 = fits.1 in let x2 = fits.2 in let y2 = fits.3 in rw (masked, x1, y1, x2, y2) refl

port-rect : (so_far : SoFar) (body : LefMacro) (pin : LefPin) (l : List ℕ) (shapes : List LefShape) (r : RectLine) → IsRect r → Reads (in_port so_far body pin (Some l, shapes)) (rect_words r) (in_port so_far body pin (Some l, with_rect_on l shapes r))
port-rect so_far body pin l shapes r fits = port-rect-on so_far body pin l shapes r.mask r.rect fits.0 fits.1

abbrev in_obs : SoFar → LefMacro → Drawn → SoFar
in_obs so_far body d = with_draft so_far (draft.Obs (record body { obstructions = d.1 }) d.0)

obs-layer : (so_far : SoFar) (body : LefMacro) (d : Drawn) (l : List ℕ) → is_name l ≡ true → Reads (in_obs so_far body d) (codes "LAYER" ∷ l ∷ semicolon ∷ []) (in_obs so_far body (Some l, d.1))
unfolding run step_of between moved in_form by_fit whole fit_in left_out is_semicolon judged begun_in begun_by form_of is set_in set_of shapes_set
obs-layer so_far body d l fits rest = rw (fits, fits) refl

obs-rect-on : (so_far : SoFar) (body : LefMacro) (l : List ℕ) (shapes : List LefShape) (mask : Option (List ℕ)) (r : LefRect) → IsMask mask → AreCorners r
    → Reads (in_obs so_far body (Some l, shapes)) (rect_words (record { mask = mask; rect = r })) (in_obs so_far body (Some l, with_rect_on l shapes (record { mask = mask; rect = r })))
unfolding run step_of between moved in_form by_fit whole fit_in left_out is_semicolon judged begun_in begun_by form_of is set_in set_of shapes_set
obs-rect-on so_far body l shapes None r masked fits rest =
    let unlike = not_keyword keyword.Mask is_number r.x1 no_mask fits.0 in
    let x1 = fits.0 in let y1 = fits.1 in let x2 = fits.2 in let y2 = fits.3 in rw (unlike, x1, y1, x2, y2) refl
obs-rect-on so_far body l shapes (Some n) r masked fits rest =
    let x1 = fits.0 in let y1 = fits.1 in let x2 = fits.2 in let y2 = fits.3 in rw (masked, x1, y1, x2, y2) refl

obs-rect : (so_far : SoFar) (body : LefMacro) (l : List ℕ) (shapes : List LefShape) (r : RectLine) → IsRect r → Reads (in_obs so_far body (Some l, shapes)) (rect_words r) (in_obs so_far body (Some l, with_rect_on l shapes r))
obs-rect so_far body l shapes r fits = obs-rect-on so_far body l shapes r.mask r.rect fits.0 fits.1

-- ---- vias

-- the words of a header
abbrev header : Bool → Bool → Bool → ViaHeader
header default generated top_of_stack = record { default = default; generated = generated; top_of_stack = top_of_stack }

via_is_named : (name : List ℕ) → is_via_name name ≡ true → is_name name ≡ true
unfolding is_via_name
via_is_named name h = elim (is_orientation name) as (λ b. (not b && is_name name) ≡ true → is_name name ≡ true) [ true ↦ λ e. cc | false ↦ λ e. e ] h

via-begins : (so_far : SoFar) (name : List ℕ) (default generated top : Bool) (more : List Shapes) (rest : Words) → is_via_name name ≡ true → is_name name ≡ true
    → run rules (in_text (with_draft so_far draft.Top)) (codes "VIA" ∷ name ∷ (header_words (header default generated top) ++ (flat_map shapes_words more ++ codes "END" ∷ rest)))
    ≡ run rules (in_text (in_via so_far (new_via name default) (None, []))) (flat_map shapes_words more ++ codes "END" ∷ rest)
unfolding run step_of between moved in_form by_fit whole fit_in left_out is_semicolon judged begun_in begun_by form_of is set_in set_of opened
via-begins so_far name false false false [] rest fits named = rw (fits, named) refl
via-begins so_far name false false false (s ∷ more) rest fits named = rw (fits, named) refl
via-begins so_far name false false true more rest fits named = rw (fits, named) refl
via-begins so_far name false true false [] rest fits named = rw (fits, named) refl
via-begins so_far name false true false (s ∷ more) rest fits named = rw (fits, named) refl
via-begins so_far name false true true more rest fits named = rw (fits, named) refl
via-begins so_far name true false false [] rest fits named = rw (fits, named) refl
via-begins so_far name true false false (s ∷ more) rest fits named = rw (fits, named) refl
via-begins so_far name true false true more rest fits named = rw (fits, named) refl
via-begins so_far name true true false [] rest fits named = rw (fits, named) refl
via-begins so_far name true true false (s ∷ more) rest fits named = rw (fits, named) refl
via-begins so_far name true true true more rest fits named = rw (fits, named) refl

via-ends : (so_far : SoFar) (via : LefVia) (d : Drawn) (rest : Words)
    → run rules (in_text (in_via so_far via d)) (codes "END" ∷ via.name ∷ rest) ≡ run rules (in_text (with_item so_far (item.Via (record via { shapes = d.1 })))) rest
unfolding run step_of between moved in_form by_fit whole fit_in left_out is_semicolon judged begun_in begun_by form_of is set_in closing closed_of close
via-ends so_far via d rest = rw (same_bytes via.name) refl

pub vias-read : ViasAreRead
vias-read so_far name h more named all rest =
    let text = λ (t : Words). run rules (in_text (with_draft so_far draft.Top)) (codes "VIA" ∷ name ∷ t) in
    let via = new_via name h.default in
    ap text (append_assoc (header_words h ++ flat_map shapes_words more) (codes "END" ∷ name ∷ []) rest
    ∙ append_assoc (header_words h) (flat_map shapes_words more) (codes "END" ∷ name ∷ rest))
    ∙ via-begins so_far name h.default h.generated h.top_of_stack more (name ∷ rest) named (via_is_named name named)
    ∙ shapes-read (in_via so_far via) (via-layer so_far via) (via-rect so_far via) (None, []) more all (codes "END" ∷ name ∷ rest)
    ∙ via-ends so_far via (fold drawn_with (None, []) more) rest

-- a `;` isn't in a set that lacks it
no_semicolon : (fits : List ℕ → Bool) (w : List ℕ) → fits semicolon ≡ false → fits w ≡ true → is_semicolon w ≡ false
unfolding is_semicolon
no_semicolon fits w unlike alike = elim (is_semicolon w) as (λ b. is_semicolon w ≡ b → b ≡ false) [
  | true ↦ λ e. let same : w ≡ semicolon = (bytes_eq-Decides w semicolon).0 e in absurd (true≢false (sym alike ∙ ap fits same ∙ unlike))
  | false ↦ λ e. refl
] refl

no_orientation : is_orientation semicolon ≡ false
unfolding is_orientation orient_word
no_orientation = refl

pub orientations-name-none : OrientationsNameNoVia
unfolding run step_of between moved in_form by_fit whole fit_in left_out is_semicolon judged begun_in begun_by form_of is set_in is_via_name
orientations-name-none so_far word rest turned =
    let unlike = no_semicolon is_orientation word no_orientation turned in rw (turned, unlike) refl

-- ---- pins

abbrev in_pin : SoFar → LefMacro → LefPin → SoFar
in_pin so_far body pin = with_draft so_far (draft.Pin body pin)

port-opens : (so_far : SoFar) (body : LefMacro) (pin : LefPin) (rest : Words)
    → run rules (in_text (in_pin so_far body pin)) (codes "PORT" ∷ rest) ≡ run rules (in_text (in_port so_far body pin (None, pin.shapes))) rest
unfolding run step_of between moved in_form by_fit whole fit_in left_out is_semicolon judged begun_in begun_by form_of is set_in set_of pin_set
port-opens so_far body pin rest = refl

port-ends : (so_far : SoFar) (body : LefMacro) (pin : LefPin) (d : Drawn) (rest : Words)
    → run rules (in_text (in_port so_far body pin d)) (codes "END" ∷ rest) ≡ run rules (in_text (in_pin so_far body (record pin { shapes = d.1 }))) rest
unfolding run step_of between moved in_form by_fit whole fit_in left_out is_semicolon judged begun_in begun_by form_of is set_in closing closed_of close
port-ends so_far body pin d rest = refl

port-read : (so_far : SoFar) (body : LefMacro) (pin : LefPin) (more : List Shapes) → AllByRecursion AreShapes more
    → Reads (in_pin so_far body pin) (pin_words (PortIs more)) (in_pin so_far body (pin_with pin (PortIs more)))
port-read so_far body pin more all rest =
    let text = λ (t : Words). run rules (in_text (in_pin so_far body pin)) (codes "PORT" ∷ t) in
    ap text (append_assoc (flat_map shapes_words more) (codes "END" ∷ []) rest)
    ∙ port-opens so_far body pin (flat_map shapes_words more ++ codes "END" ∷ rest)
    ∙ shapes-read (in_port so_far body pin) (port-layer so_far body pin) (port-rect so_far body pin) (None, pin.shapes) more all (codes "END" ∷ rest)
    ∙ port-ends so_far body pin (fold drawn_with (None, pin.shapes) more) rest

pin-line-read : (so_far : SoFar) (body : LefMacro) (pin : LefPin) (line : PinLine) → IsPinLine line → Reads (in_pin so_far body pin) (pin_words line) (in_pin so_far body (pin_with pin line))
unfolding run step_of between moved in_form by_fit whole fit_in left_out is_semicolon judged begun_in begun_by form_of is set_in set_of pin_set
pin-line-read so_far body pin (PinDirectionIs w) fits rest =
    let unlike = not_keyword keyword.Output (has set.PinDirection) w no_output fits in rw (unlike, fits, unlike) refl
pin-line-read so_far body pin PinIsOutput fits rest = refl
pin-line-read so_far body pin PinIsTristate fits rest = refl
pin-line-read so_far body pin (PinUseIs w) fits rest = rw fits refl
pin-line-read so_far body pin (PortIs more) fits rest = port-read so_far body pin more fits rest

pin_name : (pin : LefPin) (lines : List PinLine) → (fold pin_with pin lines).name ≡ pin.name
pin_name pin [] = refl
pin_name pin (PinDirectionIs w ∷ lines) = pin_name (pin_with pin (PinDirectionIs w)) lines
pin_name pin (PinIsOutput ∷ lines) = pin_name (pin_with pin PinIsOutput) lines
pin_name pin (PinIsTristate ∷ lines) = pin_name (pin_with pin PinIsTristate) lines
pin_name pin (PinUseIs w ∷ lines) = pin_name (pin_with pin (PinUseIs w)) lines
pin_name pin (PortIs more ∷ lines) = pin_name (pin_with pin (PortIs more)) lines

-- with so many parts that were passed over
abbrev counting : SoFar → ℕ → SoFar
counting so_far n = record so_far { passed = n }

pin-opens : (so_far : SoFar) (m : Counted) (name : List ℕ) (rest : Words) → is_name name ≡ true
    → run rules (in_text (in_macro so_far m)) (codes "PIN" ∷ name ∷ rest) ≡ run rules (in_text (in_pin (counting so_far m.1) m.0 (new_pin name))) rest
unfolding run step_of between moved in_form by_fit whole fit_in left_out is_semicolon judged begun_in begun_by form_of is set_in set_of macro_set
pin-opens so_far m name rest named = rw (named, named) refl

-- in a text that goes on
abbrev live : SoFar → SoFar
live so_far = record so_far { done = false }

-- a second pin of a name is left out
pin-closes : (so_far : SoFar) (m : Counted) (pin : LefPin) (rest : Words)
    → run rules (at (by_closed (live (in_pin (counting so_far m.1) m.0 pin)) (with_pin m.0 pin))) rest ≡ run rules (in_text (in_macro so_far (with_named_pin m pin))) rest
pin-closes so_far m pin rest =
    let grown : LefMacro = record m.0 { terminals = m.0.terminals ++ pin ∷ [] } in
    elim (has_pin pin.name m.0.terminals) as (λ b.
    run rules (at (by_closed (live (in_pin (counting so_far m.1) m.0 pin)) (if b then closed.LeftOut (draft.Macro m.0) else closed.Inner (draft.Macro grown)))) rest
    ≡ run rules (in_text (in_macro so_far (if b then (m.0, min (m.1 + 1) (2 ^ 64 - 1)) else (grown, m.1)))) rest) [
      | true ↦ refl
      | false ↦ refl
    ]

pin-ends : (so_far : SoFar) (m : Counted) (pin : LefPin) (rest : Words)
    → run rules (in_text (in_pin (counting so_far m.1) m.0 pin)) (codes "END" ∷ pin.name ∷ rest) ≡ run rules (in_text (in_macro so_far (with_named_pin m pin))) rest
unfolding run step_of between moved in_form by_fit whole fit_in left_out is_semicolon judged begun_in begun_by form_of is set_in closing closed_of close
pin-ends so_far m pin rest = rw (same_bytes pin.name) (pin-closes so_far m pin rest)

pub pins-read : PinsAreRead
pins-read so_far m name lines named all rest =
    let inside = counting so_far m.1 in
    let pin_open = λ (t : Words). run rules (in_text (in_pin inside m.0 (new_pin name))) t in
    let pin_end = λ (n : List ℕ). run rules (in_text (in_pin inside m.0 (pin_of name lines))) (codes "END" ∷ n ∷ rest) in
    pin-opens so_far m name ((flat_map pin_words lines ++ codes "END" ∷ name ∷ []) ++ rest) named
    ∙ ap pin_open (append_assoc (flat_map pin_words lines) (codes "END" ∷ name ∷ []) rest)
    ∙ lines-read (λ p. in_pin inside m.0 p) pin_words pin_with IsPinLine (pin-line-read inside m.0) (new_pin name) lines all (codes "END" ∷ name ∷ rest)
    ∙ ap pin_end (sym (pin_name (new_pin name) lines))
    ∙ pin-ends so_far m (pin_of name lines) rest

-- ---- macros

obs-opens : (so_far : SoFar) (m : Counted) (rest : Words)
    → run rules (in_text (in_macro so_far m)) (codes "OBS" ∷ rest) ≡ run rules (in_text (in_obs (counting so_far m.1) m.0 (None, m.0.obstructions))) rest
unfolding run step_of between moved in_form by_fit whole fit_in left_out is_semicolon judged begun_in begun_by form_of is set_in set_of macro_set
obs-opens so_far m rest = refl

obs-ends : (so_far : SoFar) (m : Counted) (d : Drawn) (rest : Words)
    → run rules (in_text (in_obs (counting so_far m.1) m.0 d)) (codes "END" ∷ rest) ≡ run rules (in_text (in_macro so_far (record m.0 { obstructions = d.1 }, m.1))) rest
unfolding run step_of between moved in_form by_fit whole fit_in left_out is_semicolon judged begun_in begun_by form_of is set_in closing closed_of close
obs-ends so_far m d rest = refl

obs-read : (so_far : SoFar) (m : Counted) (more : List Shapes) → AllByRecursion AreShapes more
    → Reads (in_macro so_far m) (macro_words (ObsIs more)) (in_macro so_far (macro_with m (ObsIs more)))
obs-read so_far m more all rest =
    let text = λ (t : Words). run rules (in_text (in_macro so_far m)) (codes "OBS" ∷ t) in
    let inside = counting so_far m.1 in
    ap text (append_assoc (flat_map shapes_words more) (codes "END" ∷ []) rest)
    ∙ obs-opens so_far m (flat_map shapes_words more ++ codes "END" ∷ rest)
    ∙ shapes-read (in_obs inside m.0) (obs-layer inside m.0) (obs-rect inside m.0) (None, m.0.obstructions) more all (codes "END" ∷ rest)
    ∙ obs-ends so_far m (fold drawn_with (None, m.0.obstructions) more) rest

pub macro-line-read : MacroLinesAreRead
unfolding run step_of between moved in_form by_fit whole fit_in left_out is_semicolon judged begun_in begun_by form_of is set_in set_of macro_set
macro-line-read so_far m (MacroClassIs w others) fits rest =
    let w_fits = any_word w fits.0 in
    rw (w_fits, append_assoc others (semicolon ∷ []) rest)
    (more-read statement.MacroClass set.Any no_any (in_macro so_far m) (w ∷ []) others rest (any_words others fits.1))
macro-line-read so_far m (ForeignIs w others) fits rest =
    let w_fits = any_word w fits.0 in
    rw (w_fits, append_assoc others (semicolon ∷ []) rest)
    (more-read statement.Foreign set.Any no_any (in_macro so_far m) (w ∷ []) others rest (any_words others fits.1))
macro-line-read so_far m (OriginIs x y) fits rest = let x_fits = fits.0 in let y_fits = fits.1 in rw (x_fits, y_fits) refl
macro-line-read so_far m (MacroSizeIs w h) fits rest = let w_fits = fits.0 in let h_fits = fits.1 in rw (w_fits, h_fits) refl
macro-line-read so_far m (MacroSymmetryIs w others) fits rest =
    let w_fits = fits.0 in
    rw (w_fits, append_assoc others (semicolon ∷ []) rest)
    (more-read statement.Symmetry set.Symmetry no_symmetry (in_macro so_far m) (w ∷ []) others rest fits.1)
macro-line-read so_far m (SiteNamed name others) fits rest =
    let named = fits.0 in
    rw (named, append_assoc others (semicolon ∷ []) rest)
    (through-read statement.MacroSite (in_macro so_far m) (name ∷ []) others rest fits.1 ∙ (rw named refl))
macro-line-read so_far m (PinIs name lines) fits rest = pins-read so_far m name lines fits.0 fits.1 rest
macro-line-read so_far m (ObsIs more) fits rest = obs-read so_far m more fits rest
macro-line-read so_far m (PartIs first words) fits rest = parts-passed (in_macro so_far m) first words fits rest

pin_keeps_name : (m : Counted) (pin : LefPin) → (with_named_pin m pin).0.name ≡ m.0.name
pin_keeps_name m pin =
    let grown : LefMacro = record m.0 { terminals = m.0.terminals ++ pin ∷ [] } in
    let chosen : Bool → Counted = λ b. if b then (m.0, min (m.1 + 1) (2 ^ 64 - 1)) else (grown, m.1) in
    elim (has_pin pin.name m.0.terminals) as (λ b. (chosen b).0.name ≡ m.0.name) [ true ↦ refl | false ↦ refl ]

macro_name : (m : Counted) (lines : List MacroLine) → (fold macro_with m lines).0.name ≡ m.0.name
macro_name m [] = refl
macro_name m (MacroClassIs w others ∷ lines) = macro_name (macro_with m (MacroClassIs w others)) lines
macro_name m (ForeignIs w others ∷ lines) = macro_name (macro_with m (ForeignIs w others)) lines
macro_name m (OriginIs x y ∷ lines) = macro_name (macro_with m (OriginIs x y)) lines
macro_name m (MacroSizeIs w h ∷ lines) = macro_name (macro_with m (MacroSizeIs w h)) lines
macro_name m (MacroSymmetryIs w others ∷ lines) = macro_name (macro_with m (MacroSymmetryIs w others)) lines
macro_name m (SiteNamed name others ∷ lines) = macro_name (macro_with m (SiteNamed name others)) lines
macro_name m (PinIs name more ∷ lines) = macro_name (macro_with m (PinIs name more)) lines ∙ pin_keeps_name m (pin_of name more)
macro_name m (ObsIs more ∷ lines) = macro_name (macro_with m (ObsIs more)) lines
macro_name m (PartIs first words ∷ lines) = macro_name (macro_with m (PartIs first words)) lines

macro-opens : (so_far : SoFar) (name : List ℕ) (rest : Words) → is_name name ≡ true
    → run rules (in_text (with_draft so_far draft.Top)) (codes "MACRO" ∷ name ∷ rest) ≡ run rules (in_text (in_macro so_far (new_macro name, so_far.passed))) rest
unfolding run step_of between moved in_form by_fit whole fit_in left_out is_semicolon judged begun_in begun_by form_of is set_in set_of opened
macro-opens so_far name rest named = rw (named, named) refl

macro-ends : (so_far : SoFar) (m : Counted) (rest : Words)
    → run rules (in_text (in_macro so_far m)) (codes "END" ∷ m.0.name ∷ rest) ≡ run rules (in_text (with_macro so_far m)) rest
unfolding run step_of between moved in_form by_fit whole fit_in left_out is_semicolon judged begun_in begun_by form_of is set_in closing closed_of close
macro-ends so_far m rest = rw (same_bytes m.0.name) refl

pub macros-read : MacrosAreRead
macros-read so_far name lines named all rest =
    let first : Counted = (new_macro name, so_far.passed) in
    let macro_open = λ (t : Words). run rules (in_text (in_macro so_far first)) t in
    let macro_end = λ (n : List ℕ). run rules (in_text (in_macro so_far (fold macro_with first lines))) (codes "END" ∷ n ∷ rest) in
    macro-opens so_far name ((flat_map macro_words lines ++ codes "END" ∷ name ∷ []) ++ rest) named
    ∙ ap macro_open (append_assoc (flat_map macro_words lines) (codes "END" ∷ name ∷ []) rest)
    ∙ lines-read (in_macro so_far) macro_words macro_with IsMacroLine (macro-line-read so_far) first lines all (codes "END" ∷ name ∷ rest)
    ∙ ap macro_end (sym (macro_name first lines))
    ∙ macro-ends so_far (fold macro_with first lines) rest
