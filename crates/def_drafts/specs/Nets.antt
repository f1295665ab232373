-- A net that is being read, in one of its two sections.
use Rattle.std.specs.Prelude.{◌+◌, ◌-◌, ◌^◌, ◌++◌, ◌&&◌, Bool, true, false, List, [], ◌∷◌, ℕ, Option, Some, None, Result, Ok, Err, find, if◌then◌else◌, is_some, min, not, slice_get}
use Rattle.std.specs.Str.{bytes_eq}
use Rattle.odb_base.specs.declared.codes.usage.Usage.TheVariants as usage
use Rattle.odb_base.specs.declared.codes.wire_status.WireStatus.{WireStatus}
use Rattle.odb_base.specs.WireStatus.{wire_status_word, wire_statuses}
use Rattle.odb_fields.specs.Reading.{◌>>=◌}
use Rattle.ld_forms.specs.Places.{is_semicolon}
use Rattle.ld_reader.specs.declared.language.Begun.TheVariants as begun
use Rattle.wires.specs.declared.fault.PathFlaw.{PathFlaw}
use Rattle.wires.specs.declared.fault.PathFlaw.TheVariants as path_flaw
use Rattle.wires.specs.declared.path_reader.PathReader.{PathReader}
use Rattle.wires.specs.PathReading as paths
use Rattle.wires.specs.PathReading.{NamedPath, may_end}
use Rattle.def_forms.specs.declared.flaw.Flaw.{Flaw}
use Rattle.def_forms.specs.declared.flaw.Flaw.TheVariants as flaw
use Rattle.def_forms.specs.declared.form.Statement.{Statement}
use Rattle.def_forms.specs.declared.form.Statement.TheVariants as statement
use Rattle.def_forms.specs.declared.keyword.Keyword.TheVariants as keyword
use Rattle.def_forms.specs.Keywords.{is}
use Rattle.def_tree.specs.declared.connections.Connections.{Connections}
use Rattle.def_tree.specs.declared.nets.DefNet.{DefNet}
use Rattle.def_tree.specs.declared.nets.DefWire.{DefWire}
use Rattle.def_tree.specs.ByName.{put}
use Rattle.def_tree.specs.Pairs.{with_pair}
use Rattle.def_drafts.specs.declared.net.NetDraft.{NetDraft}
use Rattle.def_drafts.specs.declared.net.Wire.{Wire}
use Rattle.def_drafts.specs.declared.net.Wire.TheVariants as wire
use Rattle.def_drafts.specs.KeptWords.{kept_option}
use Rattle.def_drafts.specs.Options.{Begins, between, no_options, options_begun, options_set, plus_or, unless_ends}
use Rattle.def_drafts.specs.Pins.{usage_at}
use Rattle.def_drafts.specs.Values.{Words, text_at}

-- behind its name, with what the other section says of it
abbrev pub new_net : List ℕ → Bool → DefNet → NetDraft
new_net name special net =
    record { name = name; special = special; net = net; listing = true; wire = wire.None; options = no_options; passed = 0 }

abbrev pub at_wire : Wire → NetDraft → NetDraft
at_wire w n = record n { wire = w }

-- ---- paths

-- what is wrong with a word of a path
abbrev pub flaw_of : PathFlaw → Flaw
flaw_of path_flaw.Unexpected = flaw.Unexpected
flaw_of path_flaw.BadNumber = flaw.BadNumber
flaw_of path_flaw.BadName = flaw.BadName
flaw_of path_flaw.Unsupported = flaw.Unsupported

abbrev pub as_flaw : {A : Type 0} → Result A PathFlaw → Result A Flaw
as_flaw (Ok x) = Ok x
as_flaw (Err f) = Err (flaw_of f)

-- one word further in a path
abbrev pub path_stepped : PathReader → List ℕ → Result PathReader Flaw
path_stepped reader word = as_flaw (paths.step_of reader word)

-- the paths of a wire that ends
abbrev pub paths_ended : PathReader → Result (List NamedPath) Flaw
paths_ended reader = as_flaw (paths.finished reader)

-- ---- first words

-- the status of a wire
abbrev pub wire_status_in : List ℕ → Option WireStatus
wire_status_in word = find (λ s. bytes_eq (wire_status_word s) word) wire_statuses

-- the word of an option
abbrev pub wire_or : Option WireStatus → List ℕ → Begins
wire_or (Some s) word = begun.Taken (statement.Wire s)
wire_or None word =
    if is keyword.Use word then begun.Taken statement.Use
    else if is keyword.Property word then begun.Taken statement.Property
    else if is keyword.Subnet word then begun.Bad flaw.Unsupported
    else begun.Within statement.KeptWord

unfoldable pub net_option : List ℕ → Begins
net_option word = wire_or (wire_status_in word) word

-- in a path, which ends before `+` and `;` where it may
abbrev pub begun_in_path : PathReader → List ℕ → Begins
begun_in_path reader word =
    if may_end reader then plus_or word (unless_ends word statement.PathWord) else begun.Within statement.PathWord

abbrev pub begun_by : Wire → NetDraft → List ℕ → Begins
begun_by (wire.Status s) n word = plus_or word (unless_ends word statement.PathWord)
begun_by (wire.Paths s reader) n word = begun_in_path reader word
begun_by wire.None n word =
    if n.listing && (not (is_semicolon word) && not (is keyword.Plus word)) then begun.Within (statement.Connection n.special)
    else options_begun n.options word (net_option word)

-- what a word begins
unfoldable pub net_begun : NetDraft → List ℕ → Begins
net_begun n word = begun_by n.wire n word

-- ---- what is set

-- with what a connection names: a pin, a terminal of each component, or one of this component
abbrev pub with_connection : List ℕ → List ℕ → Connections → Connections
with_connection first second c =
    if is keyword.Pin first then record c { pins = put second tt c.pins }
    else if is keyword.Star first then record c { every = put second tt c.every }
    else record c { terminals = with_pair first second c.terminals }

-- a count with one more; it stops at its type's end
abbrev pub one_more : ℕ → ℕ
one_more n = min (n + 1) (2 ^ 64 - 1)

-- with a connection, of which `+ SYNTHESIZED` is passed over
abbrev pub joined : Words → NetDraft → NetDraft
joined words n =
    record n {
      net = record n.net { connections = with_connection (text_at words 0) (text_at words 1) n.net.connections };
      passed = if is_some (slice_get words 2) then one_more n.passed else n.passed;
    }

-- with a word of a path
abbrev pub pathed : List ℕ → Wire → NetDraft → Result NetDraft Flaw
pathed word (wire.Status s) n = path_stepped (paths.start n.special) word >>= λ reader. Ok (at_wire (wire.Paths s reader) n)
pathed word (wire.Paths s reader) n = path_stepped reader word >>= λ next. Ok (at_wire (wire.Paths s next) n)
pathed word wire.None n = Ok n

-- with one more wire
abbrev pub with_wire : DefWire → NetDraft → NetDraft
with_wire w n =
    if n.special then record n { net = record n.net { special_wires = n.net.special_wires ++ w ∷ [] } }
    else record n { net = record n.net { wires = n.net.wires ++ w ∷ [] } }

-- the wire has ended; a status without a path is an option that is kept
abbrev pub ended_wire : Wire → NetDraft → Result NetDraft Flaw
ended_wire wire.None n = Ok (at_wire wire.None n)
ended_wire (wire.Status s) n =
    kept_option n.options.kept (wire_status_word s) >>= λ kept.
    Ok (record n { wire = wire.None; options = record n.options { kept = kept } })
ended_wire (wire.Paths s reader) n =
    paths_ended reader >>= λ done. Ok (with_wire (record { status = s; paths = done }) (at_wire wire.None n))

-- behind the connections and any wire
abbrev pub behind : Statement → Words → NetDraft → Result NetDraft Flaw
behind s words n =
    ended_wire n.wire (record n { listing = false }) >>= λ more.
    options_set more.options s words >>= λ options. Ok (record more { options = options })

-- with one more statement
unfoldable pub net_set : NetDraft → Statement → Words → Result NetDraft Flaw
net_set n (statement.Connection special) words = Ok (joined words n)
net_set n (statement.Wire s) words = Ok (record n { wire = wire.Status s; options = between n.options })
net_set n statement.PathWord words = pathed (text_at words 0) n.wire n
net_set n statement.Use words = Ok (record n { net = record n.net { usage = usage_at words }; options = between n.options })
net_set n statement.Plus words = behind statement.Plus words n
net_set n statement.EndElement words = behind statement.EndElement words n
net_set n other words = options_set n.options other words >>= λ options. Ok (record n { options = options })

-- its name and what it is
abbrev pub net_of : NetDraft → List ℕ × DefNet
net_of n = (
  n.name,
  if n.special then record n.net { special_kept = n.options.kept; special_props = n.options.props }
      else record n.net { kept = n.options.kept; props = n.options.props },
)
