-- A region that is being read.
use Rattle.std.specs.Prelude.{◌++◌, ◌==◌, ◌&&◌, ◌||◌, Bool, true, false, List, [], ◌∷◌, ℕ, Result, Ok, Err, if◌then◌else◌, length, nat_le, slice_get}
use Rattle.odb_base.specs.declared.codes.region_type.RegionType.{RegionType}
use Rattle.odb_base.specs.declared.codes.region_type.RegionType.TheVariants as region
use Rattle.odb_base.specs.declared.geometry.Rect.{Rect}
use Rattle.odb_fields.specs.Reading.{◌>>=◌}
use Rattle.ld_reader.specs.declared.language.Begun.TheVariants as begun
use Rattle.def_forms.specs.declared.flaw.Flaw.{Flaw}
use Rattle.def_forms.specs.declared.flaw.Flaw.TheVariants as flaw
use Rattle.def_forms.specs.declared.form.Statement.{Statement}
use Rattle.def_forms.specs.declared.form.Statement.TheVariants as statement
use Rattle.def_forms.specs.declared.keyword.Keyword.TheVariants as keyword
use Rattle.def_forms.specs.Keywords.{is}
use Rattle.def_forms.specs.WordSets.{region_type_in}
use Rattle.def_tree.specs.declared.floorplan.DefRegion.{DefRegion}
use Rattle.def_drafts.specs.declared.region.RegionDraft.{RegionDraft}
use Rattle.def_drafts.specs.Options.{Begins, between, no_options, options_begun, options_set}
use Rattle.def_drafts.specs.Values.{Words, rect_in, said}

-- with one more rectangle, of which there are at most 1,000,000
abbrev pub with_rect : List Rect → Rect → Result (List Rect) Flaw
with_rect rects rect = if nat_le 1000000 (length rects) then Err flaw.Unexpected else Ok (rects ++ rect ∷ [])

-- behind its name
abbrev pub new_region : List ℕ → RegionDraft
new_region name = record { name = name; rects = []; listing = true; sort = region.None; options = no_options }

-- the word of an option
unfoldable pub region_option : List ℕ → Begins
region_option word =
    if is keyword.Type word then begun.Taken statement.RegionType
    else if is keyword.Property word then begun.Taken statement.Property
    else begun.Within statement.KeptWord

-- what a word begins: a rectangle, of which one must stand here, or else what it begins of the options
abbrev pub region_begun : RegionDraft → List ℕ → Begins
region_begun r word =
    if length r.rects == 0 || r.listing && is keyword.Open word then begun.Within statement.Rect
    else options_begun r.options word (region_option word)

-- the type that the first word names
abbrev pub type_at : Words → RegionType
type_at words = said region_type_in region.None (slice_get words 0)

-- with one more statement
unfoldable pub region_set : RegionDraft → Statement → Words → Result RegionDraft Flaw
region_set r statement.Rect words = with_rect r.rects (rect_in words) >>= λ rects. Ok (record r { rects = rects })
region_set r statement.RegionType words = Ok (record r { sort = type_at words; options = between r.options })
region_set r other words = options_set r.options other words >>= λ options. Ok (record r { listing = false; options = options })

-- its name and what it is
abbrev pub region_of : RegionDraft → List ℕ × DefRegion
region_of r = (r.name, record { sort = r.sort; rects = r.rects; kept = r.options.kept; props = r.options.props })
