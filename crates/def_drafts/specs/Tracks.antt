-- Tracks that are being read.
use Rattle.std.specs.Prelude.{◌++◌, ◌==◌, Bool, List, [], ◌∷◌, ℕ, Result, Ok, Err, if◌then◌else◌, length, nat_le, not, slice_get}
use Rattle.odb_base.specs.declared.codes.track_axis.TrackAxis.{TrackAxis}
use Rattle.odb_base.specs.declared.codes.track_axis.TrackAxis.TheVariants as axis
use Rattle.odb_fields.specs.Reading.{◌>>=◌}
use Rattle.ld_forms.specs.Places.{is_semicolon}
use Rattle.ld_reader.specs.declared.language.Begun.TheVariants as begun
use Rattle.def_forms.specs.declared.flaw.Flaw.{Flaw}
use Rattle.def_forms.specs.declared.flaw.Flaw.TheVariants as flaw
use Rattle.def_forms.specs.declared.form.Statement.{Statement}
use Rattle.def_forms.specs.declared.form.Statement.TheVariants as statement
use Rattle.def_forms.specs.declared.keyword.Keyword.TheVariants as keyword
use Rattle.def_forms.specs.Keywords.{is}
use Rattle.def_forms.specs.WordSets.{axis_in}
use Rattle.def_drafts.specs.declared.track.TrackDraft.{TrackDraft}
use Rattle.def_drafts.specs.Options.{Begins}
use Rattle.def_drafts.specs.Values.{Words, coordinate_at, count_at, name_at, said, step_at}

-- the axis that the first word names
abbrev pub axis_at : Words → TrackAxis
axis_at words = said axis_in axis.X (slice_get words 0)

-- `axis start DO n STEP s`
abbrev pub track_in : Words → TrackDraft
track_in words =
    record {
      track = record { axis = axis_at words; start = coordinate_at words 1; count = count_at words 2; step = step_at words 3; layers = [] };
    }

-- what a word begins: the end, a layer behind others, or LAYER
abbrev pub track_begun : TrackDraft → List ℕ → Begins
track_begun t word =
    if is_semicolon word then begun.Within statement.EndElement
    else if not (length t.track.layers == 0) then begun.Within statement.TrackLayer
    else if is keyword.Layer word then begun.Taken statement.TrackLayer
    else begun.Within statement.EndElement

-- with a further layer, of which there are at most 1,000,000
abbrev pub with_layer : TrackDraft → Words → Result TrackDraft Flaw
with_layer t words =
    name_at words 0 >>= λ layer.
    if nat_le 1000000 (length t.track.layers) then Err flaw.Unexpected
    else Ok (record { track = record t.track { layers = t.track.layers ++ layer ∷ [] } })

-- with one more statement
abbrev pub track_set : TrackDraft → Statement → Words → Result TrackDraft Flaw
track_set t statement.TrackLayer words = with_layer t words
track_set t other words = Ok t
