-- A blockage that is being read.
use Rattle.std.specs.Prelude.{Bool, List, [], ◌∷◌, ℕ, Option, Some, None, Result, Ok, Err, if◌then◌else◌}
use Rattle.odb_fields.specs.Reading.{◌>>=◌}
use Rattle.ld_forms.specs.Places.{is_semicolon}
use Rattle.ld_reader.specs.declared.language.Begun.TheVariants as begun
use Rattle.def_forms.specs.declared.flaw.Flaw.{Flaw}
use Rattle.def_forms.specs.declared.flaw.Flaw.TheVariants as flaw
use Rattle.def_forms.specs.declared.form.Statement.{Statement}
use Rattle.def_forms.specs.declared.form.Statement.TheVariants as statement
use Rattle.def_forms.specs.declared.keyword.Keyword.TheVariants as keyword
use Rattle.def_forms.specs.Keywords.{is}
use Rattle.def_tree.specs.declared.floorplan.DefBlockage.{DefBlockage}
use Rattle.def_drafts.specs.declared.blockage.BlockageDraft.{BlockageDraft}
use Rattle.def_drafts.specs.declared.blockage.BlockageSpot.{BlockageSpot}
use Rattle.def_drafts.specs.declared.blockage.BlockageSpot.TheVariants as spot
use Rattle.def_drafts.specs.KeptWords.{kept_option, kept_with}
use Rattle.def_drafts.specs.Options.{Begins}
use Rattle.def_drafts.specs.Regions.{with_rect}
use Rattle.def_drafts.specs.Values.{Words, name_at, rect_in, text_at}

-- behind `-`
abbrev pub new_blockage : BlockageDraft
new_blockage = record { layer = None; rects = []; kept = []; spot = spot.First }

-- ---- first words

-- what is blocked
abbrev pub first_begun : List ℕ → Begins
first_begun word =
    if is keyword.Layer word then begun.Taken statement.BlockedLayer
    else if is keyword.Placement word then begun.Taken statement.BlockedPlacement
    else begun.Bad flaw.Unexpected

-- `+`, RECT or a word of this statement; a blockage doesn't end before a rectangle
abbrev pub or_rect : List ℕ → Statement → Begins
or_rect word other =
    if is keyword.Plus word then begun.Taken statement.Plus
    else if is keyword.Rect word then begun.Taken statement.BlockedRect
    else if is_semicolon word then begun.Bad flaw.Unexpected
    else begun.Within other

-- the word of an option
abbrev pub option_begun : List ℕ → Begins
option_begun word = if is keyword.Rect word then begun.Bad flaw.Unexpected else begun.Within statement.KeptWord

-- behind a rectangle
abbrev pub or_end : List ℕ → Begins
or_end word = if is keyword.Rect word then begun.Taken statement.BlockedRect else begun.Within statement.EndElement

abbrev pub begun_at : BlockageSpot → List ℕ → Begins
begun_at spot.First word = first_begun word
begun_at spot.Between word = or_rect word statement.EndElement
begun_at spot.Word word = option_begun word
begun_at spot.Kept word = or_rect word statement.KeptWord
begun_at spot.Rects word = or_end word

-- what a word begins; polygons aren't read here
unfoldable pub blockage_begun : BlockageDraft → List ℕ → Begins
blockage_begun b word = if is keyword.Polygon word then begun.Bad flaw.Unsupported else begun_at b.spot word

-- ---- what is set

-- a word of an option: the first one stands behind `+`
abbrev pub kept_text : BlockageSpot → List ℕ → List ℕ → Result (List ℕ) Flaw
kept_text spot.Word kept word = kept_option kept word
kept_text other kept word = kept_with kept word

abbrev pub kept_by : BlockageDraft → List ℕ → Result BlockageDraft Flaw
kept_by b word = kept_text b.spot b.kept word >>= λ kept. Ok (record b { kept = kept })

abbrev pub at_spot : BlockageSpot → BlockageDraft → BlockageDraft
at_spot s b = record b { spot = s }

-- with one more statement
unfoldable pub blockage_set : BlockageDraft → Statement → Words → Result BlockageDraft Flaw
blockage_set b statement.BlockedLayer words = name_at words 0 >>= λ layer. Ok (record b { layer = Some layer; spot = spot.Between })
blockage_set b statement.BlockedPlacement words = Ok (at_spot spot.Between b)
blockage_set b statement.Plus words = Ok (at_spot spot.Word b)
blockage_set b statement.KeptWord words = kept_by b (text_at words 0) >>= λ more. Ok (at_spot spot.Kept more)
blockage_set b statement.BlockedRect words = with_rect b.rects (rect_in words) >>= λ rects. Ok (record b { rects = rects; spot = spot.Rects })
blockage_set b other words = Ok b

-- what it is
abbrev pub blockage_of : BlockageDraft → DefBlockage
blockage_of b = record { layer = b.layer; rects = b.rects; kept = b.kept }
