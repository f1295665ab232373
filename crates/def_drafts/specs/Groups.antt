-- A group that is being read.
use Rattle.std.specs.Prelude.{◌&&◌, Bool, true, false, List, [], ◌∷◌, ℕ, Option, Some, None, Result, Ok, Err, if◌then◌else◌, is_some, not}
use Rattle.odb_fields.specs.Reading.{◌>>=◌}
use Rattle.ld_forms.specs.Places.{is_semicolon}
use Rattle.ld_reader.specs.declared.language.Begun.TheVariants as begun
use Rattle.def_forms.specs.declared.flaw.Flaw.{Flaw}
use Rattle.def_forms.specs.declared.flaw.Flaw.TheVariants as flaw
use Rattle.def_forms.specs.declared.form.Statement.{Statement}
use Rattle.def_forms.specs.declared.form.Statement.TheVariants as statement
use Rattle.def_forms.specs.declared.keyword.Keyword.TheVariants as keyword
use Rattle.def_forms.specs.Keywords.{is}
use Rattle.def_tree.specs.declared.placed.DefGroup.{DefGroup}
use Rattle.def_tree.specs.ByName.{found, put}
use Rattle.def_drafts.specs.declared.group.GroupDraft.{GroupDraft}
use Rattle.def_drafts.specs.Options.{Begins, between, no_options, options_begun, options_set}
use Rattle.def_drafts.specs.Values.{Words, name_at}

-- behind its name
abbrev pub new_group : List ℕ → GroupDraft
new_group name = record { name = name; members = []; listing = true; region = None; options = no_options }

-- the word of an option
unfoldable pub group_option : List ℕ → Begins
group_option word =
    if is keyword.Region word then begun.Taken statement.GroupRegion
    else if is keyword.Property word then begun.Taken statement.Property
    else begun.Within statement.KeptWord

-- what a word begins: a member, or else what it begins of the options
abbrev pub group_begun : GroupDraft → List ℕ → Begins
group_begun g word =
    if g.listing && (not (is_semicolon word) && not (is keyword.Plus word)) then begun.Within statement.Member
    else options_begun g.options word (group_option word)

-- with a further member, which may not be one already
abbrev pub with_member : GroupDraft → Words → Result GroupDraft Flaw
with_member g words =
    name_at words 0 >>= λ name.
    if is_some (found name g.members) then Err flaw.Duplicate else Ok (record g { members = put name tt g.members })

-- with one more statement
unfoldable pub group_set : GroupDraft → Statement → Words → Result GroupDraft Flaw
group_set g statement.Member words = with_member g words
group_set g statement.GroupRegion words = name_at words 0 >>= λ name. Ok (record g { region = Some name; options = between g.options })
group_set g other words = options_set g.options other words >>= λ options. Ok (record g { listing = false; options = options })

-- its name and what it is
abbrev pub group_of : GroupDraft → List ℕ × DefGroup
group_of g = (g.name, record { members = g.members; region = g.region; kept = g.options.kept; props = g.options.props })
