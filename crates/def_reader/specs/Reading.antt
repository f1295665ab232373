-- What the statements of a DEF text begin and set, and what the text holds.
use Rattle.std.specs.Prelude.{◌+◌, ◌-◌, ◌^◌, ◌==◌, ◌&&◌, Bool, true, false, List, [], ℕ, Option, Some, None, Result, Ok, Err, if◌then◌else◌, is_some, min, not}
use Rattle.odb_fields.specs.Reading.{◌>>=◌}
use Rattle.ld_reader.specs.declared.language.Begun.{Begun}
use Rattle.ld_reader.specs.declared.language.Begun.TheVariants as begun
use Rattle.ld_reader.specs.Rules.{Rules}
use Rattle.def_forms.specs.declared.class.Class.{Class}
use Rattle.def_forms.specs.declared.flaw.Flaw.{Flaw}
use Rattle.def_forms.specs.declared.flaw.Flaw.TheVariants as flaw
use Rattle.def_forms.specs.declared.form.Statement.{Statement}
use Rattle.def_forms.specs.declared.form.Statement.TheVariants as statement
use Rattle.def_forms.specs.declared.keyword.Keyword.TheVariants as keyword
use Rattle.def_forms.specs.declared.section.Section.{Section}
use Rattle.def_forms.specs.declared.section.Section.TheVariants as section
use Rattle.def_forms.specs.Classes.{judged}
use Rattle.def_forms.specs.Forms.{places_of}
use Rattle.def_forms.specs.Keywords.{is}
use Rattle.def_forms.specs.Numbers.{stated_in as number_stated}
use Rattle.def_tree.specs.declared.nets.DefNet.{DefNet}
use Rattle.def_tree.specs.ByName.{found, put, without}
use Rattle.def_tree.specs.Empty.{empty_tree}
use Rattle.def_drafts.specs.declared.element.Element.{Element}
use Rattle.def_drafts.specs.declared.element.Element.TheVariants as element
use Rattle.def_drafts.specs.Elements.{element_begun, element_set}
use Rattle.def_drafts.specs.Nets.{new_net}
use Rattle.def_drafts.specs.Options.{Begins}
use Rattle.def_drafts.specs.Values.{Words, name_at, text_at}
use Rattle.def_reader.specs.declared.inside.Counted.{Counted}
use Rattle.def_reader.specs.declared.inside.Inside.{Inside}
use Rattle.def_reader.specs.declared.inside.Inside.TheVariants as inside
use Rattle.def_reader.specs.declared.so_far.SoFar.{SoFar}
use Rattle.def_reader.specs.Closing.{net_or_empty, passed_in, with_element}
use Rattle.def_reader.specs.Headers.{stated_in}
use Rattle.def_reader.specs.Inside.{behind, one_more, word_of}
use Rattle.def_reader.specs.Opening.{element_in, section_begun, top_begun}

-- before the first word
abbrev pub start : SoFar
start = record { tree = empty_tree; in_nets = []; inside = inside.Top; passed = 0; miscounted = 0; done = false }

-- with this open
abbrev pub moved_into : Inside → SoFar → SoFar
moved_into o so_far = record so_far { inside = o }

-- ---- sections

-- behind the word of a section: its number is due, where it has one
abbrev pub header_of : Section → Inside
header_of section.Definitions = inside.Section (record { section = section.Definitions; stated = None; seen = 0 })
header_of other = inside.Header other

-- the number of elements that the header states
abbrev pub section_with : Words → Inside → SoFar → SoFar
section_with words (inside.Header s) so_far = moved_into (inside.Section (record { section = s; stated = number_stated (text_at words 0); seen = 0 })) so_far
section_with words other so_far = so_far

abbrev pub section_opened : Words → SoFar → SoFar
section_opened words so_far = section_with words so_far.inside so_far

-- the section that is open
abbrev pub counted_in : Inside → Option Counted
counted_in (inside.Section c) = Some c
counted_in (inside.Element c e) = c
counted_in other = None

-- the section has as many elements as it states, or states none
abbrev pub is_stated : ℕ → Option ℕ → Bool
is_stated seen (Some n) = n == seen
is_stated seen None = false

abbrev pub has_count : Section → Bool
has_count section.Definitions = false
has_count other = true

abbrev pub count_miss : Counted → SoFar → SoFar
count_miss c so_far =
    if has_count c.section && not (is_stated c.seen c.stated) then record so_far { miscounted = one_more so_far.miscounted }
    else so_far

-- behind END and a word
abbrev pub ended_by : Option Counted → List ℕ → SoFar → Result SoFar Flaw
ended_by None word so_far = if is keyword.Design word then Ok (record so_far { done = true }) else Err flaw.Unexpected
ended_by (Some c) word so_far = if is (word_of c.section) word then Ok (moved_into inside.Top (count_miss c so_far)) else Err flaw.Unexpected

unfoldable pub ended : Words → SoFar → Result SoFar Flaw
ended words so_far = ended_by (counted_in so_far.inside) (text_at words 0) so_far

-- ---- elements

-- an element begins
unfoldable pub element_opened : Statement → Words → SoFar → Result SoFar Flaw
element_opened s words so_far = element_in so_far.tree s words >>= λ e. Ok (moved_into (inside.Element (counted_in so_far.inside) e) so_far)

-- the section has a net of this name already
abbrev pub is_special : Option DefNet → Bool
is_special (Some n) = n.special
is_special None = false

abbrev pub has_net : Bool → List ℕ → SoFar → Bool
has_net special name so_far = if special then is_special (found name so_far.tree.nets) else is_some (found name so_far.in_nets)

-- NETS has a net of this name
abbrev pub net_entered : Bool → List ℕ → SoFar → SoFar
net_entered special name so_far = if special then so_far else record so_far { in_nets = put name tt so_far.in_nets }

-- what is known of a net, which is special where SPECIALNETS has it
abbrev pub net_taken : Bool → Option DefNet → DefNet
net_taken special n = if special then record (net_or_empty n) { special = true } else net_or_empty n

abbrev pub without_net : List ℕ → SoFar → SoFar
without_net name so_far = record so_far { tree = record so_far.tree { nets = without name so_far.tree.nets } }

-- a net begins, with what the other section says of it
unfoldable pub net_opened : Bool → Words → SoFar → Result SoFar Flaw
net_opened special words so_far =
    name_at words 0 >>= λ name.
    if has_net special name so_far then Err flaw.Duplicate
    else Ok (moved_into (inside.Element (counted_in so_far.inside) (element.Net (new_net name special (net_taken special (found name so_far.tree.nets)))))
    (without_net name (net_entered special name so_far)))

-- a statement of the element that is open, or one outside all sections
abbrev pub set_inside : Inside → Statement → Words → SoFar → Result SoFar Flaw
set_inside (inside.Element c e) s words so_far = element_set e s words >>= λ next. Ok (moved_into (inside.Element c next) so_far)
set_inside other s words so_far = stated_in s words so_far.tree >>= λ tree. Ok (record so_far { tree = tree })

-- the element that is open has ended
unfoldable pub closed : Inside → SoFar → Result SoFar Flaw
closed (inside.Element c e) so_far =
    Ok (record so_far { tree = with_element e so_far.tree; inside = behind c; passed = min (so_far.passed + passed_in e) (2 ^ 64 - 1) })
closed other so_far = Ok so_far

-- ---- statements

-- what a first word begins
abbrev pub begun_by : Inside → List ℕ → Begins
begun_by inside.Top word = top_begun word
begun_by (inside.Header s) word = begun.Within statement.Count
begun_by (inside.Section c) word = section_begun c.section word
begun_by (inside.Element c e) word = element_begun e word

unfoldable pub begun_in : SoFar → List ℕ → Begins
begun_in so_far word = begun_by so_far.inside word

-- what was read with one more statement
unfoldable pub set_in : SoFar → Statement → Words → Result SoFar Flaw
set_in so_far (statement.Header s) words = Ok (moved_into (header_of s) so_far)
set_in so_far statement.Count words = Ok (section_opened words so_far)
set_in so_far statement.End words = ended words so_far
set_in so_far statement.Row words = element_opened statement.Row words so_far
set_in so_far statement.Tracks words = element_opened statement.Tracks words so_far
set_in so_far (statement.Definition o) words = element_opened (statement.Definition o) words so_far
set_in so_far (statement.Element section.SpecialNets) words = net_opened true words so_far
set_in so_far (statement.Element section.Nets) words = net_opened false words so_far
set_in so_far (statement.Element s) words = element_opened (statement.Element s) words so_far
set_in so_far statement.EndElement words = set_inside so_far.inside statement.EndElement words so_far >>= λ next. closed next.inside next
set_in so_far other words = set_inside so_far.inside other words so_far

-- one more part was passed over; an element outside all sections with it
abbrev pub left : Inside → Inside
left (inside.Element None e) = inside.Top
left other = other

abbrev pub counted : SoFar → SoFar
counted so_far = record so_far { passed = one_more so_far.passed; inside = left so_far.inside }

-- a word that its place doesn't take is a fault in sections
abbrev pub is_strict_in : Inside → Bool
is_strict_in inside.Top = false
is_strict_in (inside.Element None e) = false
is_strict_in other = true

-- DEF as a language of statements
abbrev pub rules : Rules SoFar Class Statement Flaw
rules =
    record {
      judged = judged;
      places = places_of;
      begun = begun_in;
      set = set_in;
      counted = counted;
      is_strict = λ so_far. is_strict_in so_far.inside;
      is_done = λ so_far. so_far.done;
      may_end = λ so_far. false;
      unexpected = flaw.Unexpected;
      cut = flaw.Cut;
    }
