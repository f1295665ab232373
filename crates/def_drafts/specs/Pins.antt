-- A pin that is being read.
use Rattle.std.specs.Prelude.{◌++◌, Bool, true, false, List, [], ◌∷◌, ℕ, Option, Some, None, Result, Ok, Err, codes, if◌then◌else◌, length, nat_le, not, slice_get}
use Rattle.odb_base.specs.declared.codes.direction.Direction.{Direction}
use Rattle.odb_base.specs.declared.codes.direction.Direction.TheVariants as direction
use Rattle.odb_base.specs.declared.codes.usage.Usage.{Usage}
use Rattle.odb_base.specs.declared.codes.usage.Usage.TheVariants as usage
use Rattle.odb_base.specs.declared.geometry.Placement.{Placement}
use Rattle.odb_fields.specs.Reading.{◌>>=◌}
use Rattle.ld_forms.specs.Names.{is_name}
use Rattle.ld_forms.specs.Worded.{usage_in}
use Rattle.ld_reader.specs.declared.language.Begun.TheVariants as begun
use Rattle.def_forms.specs.declared.flaw.Flaw.{Flaw}
use Rattle.def_forms.specs.declared.flaw.Flaw.TheVariants as flaw
use Rattle.def_forms.specs.declared.form.Statement.{Statement}
use Rattle.def_forms.specs.declared.form.Statement.TheVariants as statement
use Rattle.def_forms.specs.declared.keyword.Keyword.TheVariants as keyword
use Rattle.def_forms.specs.Keywords.{is}
use Rattle.def_forms.specs.WordSets.{direction_in}
use Rattle.def_tree.specs.declared.pins.DefBox.{DefBox}
use Rattle.def_tree.specs.declared.pins.DefPin.{DefPin}
use Rattle.def_tree.specs.declared.pins.DefPort.{DefPort}
use Rattle.def_drafts.specs.declared.pin.PinDraft.{PinDraft}
use Rattle.def_drafts.specs.declared.pin.PinSpot.{PinSpot}
use Rattle.def_drafts.specs.declared.pin.PinSpot.TheVariants as spot
use Rattle.def_drafts.specs.declared.pin.PortDraft.{PortDraft}
use Rattle.def_drafts.specs.Components.{place_option, placement_in, unplaced}
use Rattle.def_drafts.specs.KeptWords.{kept_option, kept_with}
use Rattle.def_drafts.specs.Options.{Begins, plus_or, unless_ends}
use Rattle.def_drafts.specs.Values.{Words, name_at, name_in, rect_in, said, text_at}

-- ---- ports

-- a port of which nothing is said
abbrev pub new_port : PortDraft
new_port = record { boxes = []; place = unplaced; kept = [] }

-- what it is
abbrev pub port_of : PortDraft → DefPort
port_of p = record { boxes = p.boxes; place = p.place; kept = p.kept }

-- ports with the last one, where there is one
abbrev pub with_last : Option PortDraft → List DefPort → List DefPort
with_last (Some p) ports = ports ++ port_of p ∷ []
with_last None ports = ports

-- the last port, or before any one that opens
abbrev pub port_or_new : Option PortDraft → PortDraft
port_or_new (Some p) = p
port_or_new None = new_port

-- ---- pins

-- behind its name
abbrev pub new_pin : List ℕ → PinDraft
new_pin name =
    record {
      name = name;
      net = None;
      direction = direction.None;
      usage = usage.None;
      kept = [];
      ports = [];
      port = None;
      in_port = false;
      spot = spot.Between;
    }

abbrev pub at_spot : PinSpot → PinDraft → PinDraft
at_spot s p = record p { spot = s }

-- ---- first words

-- what places a port, or another word of an option
abbrev pub unless_placed : Option Statement → List ℕ → Begins
unless_placed (Some s) word = begun.Taken s
unless_placed None word =
    if is keyword.Layer word then begun.Taken statement.Layer
    else if is keyword.Port word then begun.Taken statement.Port
    else if is keyword.Net word then begun.Taken statement.Net
    else if is keyword.Direction word then begun.Taken statement.Direction
    else if is keyword.Use word then begun.Taken statement.Use
    else begun.Within statement.KeptWord

-- the word of an option
unfoldable pub pin_option : List ℕ → Begins
pin_option word = unless_placed (place_option word) word

-- the word behind `+ LAYER +`, where no rectangle may begin
abbrev pub behind_layer_plus : List ℕ → Begins
behind_layer_plus word = if is keyword.Open word then begun.Bad flaw.Unexpected else pin_option word

-- the word behind `+ LAYER` and another word: `(` says that the other one is a layer
abbrev pub behind_layer_word : List ℕ → List ℕ → Begins
behind_layer_word layer word =
    if not (is keyword.Open word) then plus_or word (unless_ends word statement.KeptWord)
    else if is_name layer then begun.Within statement.Rect
    else begun.Bad flaw.Unexpected

abbrev pub begun_at : PinSpot → List ℕ → Begins
begun_at spot.Between word = plus_or word statement.EndElement
begun_at spot.Word word = pin_option word
begun_at spot.Kept word = plus_or word (unless_ends word statement.KeptWord)
begun_at spot.Layer word = plus_or word (unless_ends word statement.LayerWord)
begun_at spot.LayerPlus word = behind_layer_plus word
begun_at (spot.LayerWord layer) word = behind_layer_word layer word

-- what a word begins
unfoldable pub pin_begun : PinDraft → List ℕ → Begins
pin_begun p word = begun_at p.spot word

-- ---- options that are kept

-- the words of the last port with others, behind PORT, or those of the pin
abbrev pub kept_on : (List ℕ → Result (List ℕ) Flaw) → PinDraft → Bool → Option PortDraft → Result PinDraft Flaw
kept_on more p true (Some port) = more port.kept >>= λ kept. Ok (record p { port = Some (record port { kept = kept }) })
kept_on more p true None = more p.kept >>= λ kept. Ok (record p { kept = kept })
kept_on more p false port = more p.kept >>= λ kept. Ok (record p { kept = kept })

-- the first word of an option
abbrev pub with_option : List ℕ → PinDraft → Result PinDraft Flaw
with_option word p = kept_on (λ kept. kept_option kept word) p p.in_port p.port

-- a further word of one
abbrev pub with_kept_word : List ℕ → PinDraft → Result PinDraft Flaw
with_kept_word word p = kept_on (λ kept. kept_with kept word) p p.in_port p.port

-- a word of an option: the first one stands behind `+`
abbrev pub kept_by : PinSpot → Words → PinDraft → Result PinDraft Flaw
kept_by spot.Word words p = with_option (text_at words 0) p >>= λ more. Ok (at_spot spot.Kept more)
kept_by other words p = with_kept_word (text_at words 0) p >>= λ more. Ok (at_spot spot.Kept more)

-- `+ LAYER` is kept
abbrev pub with_layer : PinSpot → PinDraft → Result PinDraft Flaw
with_layer s p = with_option (codes "LAYER") p >>= λ more. Ok (at_spot s more)

-- and so is the word behind it
abbrev pub with_layer_and : List ℕ → PinDraft → Result PinDraft Flaw
with_layer_and word p =
    with_option (codes "LAYER") p >>= λ more. with_kept_word word more >>= λ both. Ok (at_spot spot.Kept both)

-- the option of which it wasn't known yet whether it is kept is kept
unfoldable pub flushed : PinSpot → PinDraft → Result PinDraft Flaw
flushed spot.Layer p = with_layer spot.Between p
flushed spot.LayerPlus p = with_layer spot.Word p
flushed (spot.LayerWord word) p = with_layer_and word (at_spot spot.Between p)
flushed other p = Ok p

-- ---- what is set

-- the direction and the use that the first word names
abbrev pub direction_at : Words → Direction
direction_at words = said direction_in direction.None (slice_get words 0)

abbrev pub usage_at : Words → Usage
usage_at words = said usage_in usage.None (slice_get words 0)

-- where the last port stands
abbrev pub with_place : Placement → PinDraft → PinDraft
with_place place p = record p { port = Some (record (port_or_new p.port) { place = place }) }

-- a further box, of which there are at most 1,000,000
abbrev pub with_one_box : List DefBox → DefBox → Result (List DefBox) Flaw
with_one_box boxes b = if nat_le 1000000 (length boxes) then Err flaw.Unexpected else Ok (boxes ++ b ∷ [])

abbrev pub with_shape : DefBox → PinDraft → Result PinDraft Flaw
with_shape b p =
    with_one_box (port_or_new p.port).boxes b >>= λ boxes.
    Ok (record p { port = Some (record (port_or_new p.port) { boxes = boxes }) })

-- a rectangle on the layer that was named
abbrev pub with_box : Words → PinSpot → PinDraft → Result PinDraft Flaw
with_box words (spot.LayerWord word) p =
    name_in word >>= λ layer. with_shape (record { layer = layer; rect = rect_in words }) (at_spot spot.Between p)
with_box words other p = Ok (at_spot spot.Between p)

-- a further port
abbrev pub with_port : PinDraft → PinDraft
with_port p = record p { ports = with_last p.port p.ports; port = Some new_port; in_port = true; spot = spot.Between }

-- the word behind LAYER
abbrev pub with_layer_word : Words → PinDraft → PinDraft
with_layer_word words p = at_spot (spot.LayerWord (text_at words 0)) p

-- `+`; behind LAYER the next word says whether the option is kept
abbrev pub with_plus : PinSpot → PinDraft → Result PinDraft Flaw
with_plus spot.Layer p = Ok (at_spot spot.LayerPlus p)
with_plus other p = flushed other p >>= λ more. Ok (at_spot spot.Word more)

-- with one more statement behind the options that are kept
unfoldable pub set_behind : PinDraft → Statement → Words → Result PinDraft Flaw
set_behind p statement.KeptWord words = kept_by p.spot words p
set_behind p statement.Net words = name_at words 0 >>= λ net. Ok (record p { net = Some net; spot = spot.Between })
set_behind p statement.Direction words = Ok (record p { direction = direction_at words; spot = spot.Between })
set_behind p statement.Use words = Ok (record p { usage = usage_at words; spot = spot.Between })
set_behind p (statement.Place s) words = Ok (at_spot spot.Between (with_place (placement_in s words) p))
set_behind p statement.Port words = Ok (with_port p)
set_behind p other words = Ok p

-- with one more statement
unfoldable pub pin_set : PinDraft → Statement → Words → Result PinDraft Flaw
pin_set p statement.Layer words = flushed p.spot p >>= λ more. Ok (at_spot spot.Layer more)
pin_set p statement.LayerWord words = Ok (with_layer_word words p)
pin_set p statement.Rect words = with_box words p.spot p
pin_set p statement.Plus words = with_plus p.spot p
pin_set p other words = flushed p.spot p >>= λ more. set_behind more other words

-- its name and what it is
abbrev pub pin_of : PinDraft → List ℕ × DefPin
pin_of p = (p.name, record { net = p.net; direction = p.direction; usage = p.usage; kept = p.kept; ports = with_last p.port p.ports })
