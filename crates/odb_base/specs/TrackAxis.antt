-- Track axes: their codes and words.
use Rattle.std.specs.Prelude.{List, [], ◌∷◌, ℕ, codes}
use Rattle.odb_base.specs.declared.codes.track_axis.TrackAxis.{TrackAxis}
use Rattle.odb_base.specs.declared.codes.track_axis.TrackAxis.TheVariants as track_axis

-- the track axes, in the order of the codes
abbrev pub track_axes : List TrackAxis
track_axes = track_axis.X ∷ track_axis.Y ∷ []

-- the code
abbrev pub track_axis_code : TrackAxis → ℕ
track_axis_code track_axis.X = 0
track_axis_code track_axis.Y = 1

-- the word
unfoldable pub track_axis_word : TrackAxis → List ℕ
track_axis_word track_axis.X = codes "X"
track_axis_word track_axis.Y = codes "Y"
