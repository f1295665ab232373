-- Which refusals apply to an edit, each said by itself, whatever others apply; and which of them comes first. The plan
-- of an edit refuses it with the first.
use Rattle.std.specs.Prelude.{◌≡◌, ◌≢◌, ◌<◌, ◌≤◌, ◌⊎◌, Bool, true, false, List, [], ◌∷◌, ℕ, Option, None, Some, Contains, MatchOption, Err, Ok, unwrap_or}
use Rattle.std.specs.Option.{option_and_then}
use Rattle.odb_base.specs.Direction.{is_bterm_direction}
use Rattle.odb_base.specs.Geometry.{is_coordinate}
use Rattle.odb_base.specs.Kind.{has_names, has_place, has_usage, is_terminal, kind_code}
use Rattle.odb_base.specs.Name.{IsName}
use Rattle.odb_base.specs.declared.codes.kind.Kind.{Kind}
use Rattle.odb_base.specs.declared.codes.kind.Kind.TheVariants as kind
use Rattle.library.specs.Masters.{find_master, master_at}
use Rattle.library.specs.declared.master.Master.{Master}
use Rattle.tech.specs.Technology.{Technology, find_site}
use Rattle.edit_words.specs.declared.edit.Edit.{Edit}
use Rattle.edit_words.specs.declared.edit.Edit.TheVariants as edit
use Rattle.edit_words.specs.declared.edit.RowSites.{RowSites}
use Rattle.edit_words.specs.declared.edit.RowSites.TheVariants as sites
use Rattle.edit_words.specs.declared.refusal.Refusal.{Refusal}
use Rattle.edit_words.specs.declared.refusal.Refusal.TheVariants as refusal
use Rattle.edit_words.specs.declared.step.Step.{Step}
use Rattle.block_store.specs.Block.{Block, left_in, live_in}
use Rattle.block_store.specs.Fields.{net_in, special_in}
use Rattle.block_store.specs.Instances.{term_count}
use Rattle.block_store.specs.Names.{name_in}
use Rattle.steps_net.specs.Can.{inst_master}
use Rattle.edits.specs.Plan.{differing, fits_status, is_site_count, plan}

-- the number of a refusal in a reply; want of memory, which has no reply, comes behind the others
abbrev pub refusal_number : Refusal → ℕ
refusal_number (refusal.NotLive k id) = 2
refusal_number (refusal.BadValue word) = 3
refusal_number (refusal.BadName word) = 4
refusal_number (refusal.Unknown word) = 5
refusal_number (refusal.NameTaken id) = 6
refusal_number (refusal.Joined net) = 7
refusal_number refusal.NotJoined = 8
refusal_number (refusal.TermsDiffer name) = 9
refusal_number refusal.Special = 13
refusal_number (refusal.TableFull k) = 15
refusal_number refusal.Memory = 16

-- an object that a line names: the place of its identifier in the line, its kind and the identifier
pub record Named : Type 0 where
  pub at : ℕ
  pub kind : Kind
  pub id : ℕ

-- the objects that the line of an edit names
abbrev pub objects : Edit → List Named
objects (edit.NewBTerm name (Some net)) = record { at = 2; kind = kind.Net; id = net } ∷ []
objects (edit.Destroy k id) = record { at = 2; kind = k; id = id } ∷ []
objects (edit.Rename k id name) = record { at = 2; kind = k; id = id } ∷ []
objects (edit.Swap inst master) = record { at = 1; kind = kind.Inst; id = inst } ∷ []
objects (edit.Place k id status x y orientation) = record { at = 2; kind = k; id = id } ∷ []
objects (edit.SetUse k id usage) = record { at = 2; kind = k; id = id } ∷ []
objects (edit.SetDir bterm way) = record { at = 1; kind = kind.BTerm; id = bterm } ∷ []
objects (edit.MakeSpecial net) = record { at = 1; kind = kind.Net; id = net } ∷ []
objects (edit.Join k id net) = record { at = 2; kind = k; id = id } ∷ record { at = 3; kind = kind.Net; id = net } ∷ []
objects (edit.Part k id) = record { at = 2; kind = k; id = id } ∷ []
objects other = []

-- a value in a line: the place of its first word, and whether it is in its set and its limit
pub record Value : Type 0 where
  pub at : ℕ
  pub allowed : Bool

-- objects of the kind can be destroyed: all but terminals of instances, which go with their instance
abbrev pub is_destroyed_alone : Kind → Bool
is_destroyed_alone kind.ITerm = false
is_destroyed_alone other = true

-- the values that say how the sites of a row are repeated
abbrev pub site_values : RowSites → List Value
site_values sites.One = []
site_values (sites.Counted nx ny) = record { at = 6; allowed = is_site_count nx } ∷ record { at = 7; allowed = is_site_count ny } ∷ []
site_values (sites.Stepped nx ny sx sy) =
    record { at = 6; allowed = is_site_count nx } ∷ record { at = 7; allowed = is_site_count ny }
    ∷ record { at = 8; allowed = is_coordinate sx } ∷ record { at = 9; allowed = is_coordinate sy } ∷ []

-- the values in the line of an edit that have a set or a limit, a kind among them
abbrev pub values : Edit → List Value
values (edit.NewRow name site x y orientation sites) =
    record { at = 3; allowed = is_coordinate x } ∷ record { at = 4; allowed = is_coordinate y } ∷ site_values sites
values (edit.Destroy k id) = record { at = 1; allowed = is_destroyed_alone k } ∷ []
values (edit.Rename k id name) = record { at = 1; allowed = has_names k } ∷ []
values (edit.Place k id status x y orientation) =
    record { at = 1; allowed = has_place k } ∷ record { at = 3; allowed = fits_status status x y orientation }
    ∷ record { at = 4; allowed = is_coordinate x } ∷ record { at = 5; allowed = is_coordinate y } ∷ []
values (edit.SetUse k id usage) = record { at = 1; allowed = has_usage k } ∷ []
values (edit.SetDir bterm way) = record { at = 2; allowed = is_bterm_direction way } ∷ []
values (edit.Join k id net) = record { at = 1; allowed = is_terminal k } ∷ []
values (edit.Part k id) = record { at = 1; allowed = is_terminal k } ∷ []
values other = []

-- a name that an object is to have: its place in the line, the kind of the object, and the name
pub record NewName : Type 0 where
  pub at : ℕ
  pub kind : Kind
  pub name : List ℕ

-- the name that an edit gives an object
abbrev pub new_name : Edit → Option NewName
new_name (edit.NewInst name master) = Some (record { at = 1; kind = kind.Inst; name = name })
new_name (edit.NewNet name) = Some (record { at = 1; kind = kind.Net; name = name })
new_name (edit.NewBTerm name net) = Some (record { at = 1; kind = kind.BTerm; name = name })
new_name (edit.NewRow name site x y orientation sites) = Some (record { at = 1; kind = kind.Row; name = name })
new_name (edit.Rename k id name) = Some (record { at = 3; kind = k; name = name })
new_name other = None

-- a master or a site that a line names: the place of the name, and the identifier of what has it
pub record Sought : Type 0 where
  pub at : ℕ
  pub found : Option ℕ

-- the master or the site that the line of an edit names
abbrev pub sought : Technology → List Master → Edit → Option Sought
sought tech library (edit.NewInst name master) = Some (record { at = 2; found = find_master library master })
sought tech library (edit.NewRow name site x y orientation sites) = Some (record { at = 2; found = find_site tech site })
sought tech library (edit.Swap inst master) = Some (record { at = 2; found = find_master library master })
sought tech library other = None

-- the terminal that an edit joins is joined to this net already
abbrev pub JoinsJoined : Block → Edit → ℕ → Type 0
JoinsJoined b (edit.Join k id net) other = (net_in k id b ≡ Some other) × (other ≢ 0)
JoinsJoined b e other = ⊥

-- the terminal that an edit parts is joined to no net
abbrev pub PartsUnjoined : Block → Edit → Type 0
PartsUnjoined b (edit.Part k id) = unwrap_or (net_in k id b) 0 ≡ 0
PartsUnjoined b e = ⊥

-- the masters that an edit swaps differ in a terminal of this name, and in none before it
abbrev pub SwapsDiffering : List Master → Block → Edit → List ℕ → Type 0
SwapsDiffering library b (edit.Swap inst master) name =
    option_and_then (λ id. differing (inst_master library b inst) (master_at library id)) (find_master library master) ≡ Some name
SwapsDiffering library b e name = ⊥

-- the net that an edit makes special is special already
abbrev pub MakesSpecialAgain : Block → Edit → Type 0
MakesSpecialAgain b (edit.MakeSpecial net) = special_in net b ≡ Some true
MakesSpecialAgain b e = ⊥

-- so many new objects of a kind
pub record Made : Type 0 where
  pub kind : Kind
  pub count : ℕ

-- how many terminals the master of a name has, 0 where none has the name
abbrev pub terms_named : List Master → List ℕ → ℕ
terms_named library master = unwrap_or (option_and_then (term_count library) (find_master library master)) 0

-- the objects that an edit makes, kind by kind
abbrev pub makes : List Master → Edit → List Made
makes library (edit.NewInst name master) = record { kind = kind.Inst; count = 1 } ∷ record { kind = kind.ITerm; count = terms_named library master } ∷ []
makes library (edit.NewNet name) = record { kind = kind.Net; count = 1 } ∷ []
makes library (edit.NewBTerm name net) = record { kind = kind.BTerm; count = 1 } ∷ []
makes library (edit.NewRow name site x y orientation sites) = record { kind = kind.Row; count = 1 } ∷ []
makes library other = []

-- a refusal applies to an edit, about the word at this place of its line; one that is about no word has the place 0, and
-- one about a table the code of its kind
abbrev pub Applies : Technology → List Master → ℕ → Block → Edit → Refusal → ℕ → Type 0
Applies tech library cap b e (refusal.NotLive k id) at = Contains (objects e) (record { at = at; kind = k; id = id }) × (live_in k id b ≡ false)
Applies tech library cap b e (refusal.BadValue word) at = (at ≡ word) × Contains (values e) (record { at = word; allowed = false })
Applies tech library cap b e (refusal.BadName word) at = (at ≡ word) × MatchOption (new_name e) ⊥ (λ new. (word ≡ new.at) × ¬ (IsName new.name))
Applies tech library cap b e (refusal.Unknown word) at = (at ≡ word) × MatchOption (sought tech library e) ⊥ (λ s. (word ≡ s.at) × (s.found ≡ None))
Applies tech library cap b e (refusal.NameTaken id) at = (at ≡ 0) × MatchOption (new_name e) ⊥ (λ new. name_in new.kind id b ≡ Some new.name)
Applies tech library cap b e (refusal.Joined net) at = (at ≡ 0) × JoinsJoined b e net
Applies tech library cap b e refusal.NotJoined at = (at ≡ 0) × PartsUnjoined b e
Applies tech library cap b e (refusal.TermsDiffer name) at = (at ≡ 0) × SwapsDiffering library b e name
Applies tech library cap b e refusal.Special at = (at ≡ 0) × MakesSpecialAgain b e
Applies tech library cap b e (refusal.TableFull k) at = (at ≡ kind_code k) × ((n : ℕ) × Contains (makes library e) (record { kind = k; count = n }) × (left_in k cap b < n))
Applies tech library cap b e refusal.Memory at = ⊥

-- a number and a place come no later than others: by the numbers, and where these are equal by the places
abbrev pub ComesNoLater : ℕ → ℕ → ℕ → ℕ → Type 0
ComesNoLater number at other place = (number < other) ⊎ ((number ≡ other) × (at ≤ place))

-- a refusal applies to an edit, and no other that applies comes earlier
pub record IsFirst (tech : Technology) (library : List Master) (cap : ℕ) (b : Block) (e : Edit) (why : Refusal) : Type 0 where
  pub at : ℕ
  pub applies : Applies tech library cap b e why at
  pub least : (other : Refusal) (place : ℕ) → Applies tech library cap b e other place → ComesNoLater (refusal_number why) at (refusal_number other) place

-- no refusal applies to an edit
abbrev pub NoneApplies : Technology → List Master → ℕ → Block → Edit → Type 0
NoneApplies tech library cap b e = (why : Refusal) (at : ℕ) → ¬ (Applies tech library cap b e why at)

-- the plan of an edit refuses it with the first refusal that applies
abbrev pub RefusesFirst : Technology → List Master → ℕ → Block → Edit → Type 0
RefusesFirst tech library cap b e = (why : Refusal) → plan tech library cap b e ≡ Err why → IsFirst tech library cap b e why

-- an edit that has steps is one to which no refusal applies
abbrev pub PlansUnrefused : Technology → List Master → ℕ → Block → Edit → Type 0
PlansUnrefused tech library cap b e = (steps : List Step) → plan tech library cap b e ≡ Ok steps → NoneApplies tech library cap b e

-- the refusal that is the first to apply to an edit is the one that its plan has
abbrev pub FirstIsPlanned : Technology → List Master → ℕ → Block → Edit → Type 0
FirstIsPlanned tech library cap b e = (why : Refusal) → IsFirst tech library cap b e why → plan tech library cap b e ≡ Err why
