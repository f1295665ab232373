-- The plan of an edit: the steps that it comes to, in the order in which they are done, or its one refusal. The
-- questions of each edit stand in the order in which they refuse it.
use Rattle.std.specs.Prelude.{◌≡◌, ◌==◌, ◌&&◌, ◌+◌, ◌/◌, ◌%◌, Bool, true, false, List, [], ◌∷◌, ◌++◌, ℕ, zero, suc, ℤ, pos, negsuc, Option, None, Some, Result, Ok, Err, if◌then◌else◌, is_none, nat_le, not, unwrap_or}
use Rattle.std.specs.List.{find}
use Rattle.std.specs.Option.{option_map, option_map_or, option_or}
use Rattle.slot_pool.specs.Table.{Table, next_id}
use Rattle.odb_base.specs.Direction.{is_bterm_direction}
use Rattle.odb_base.specs.Geometry.{is_coordinate}
use Rattle.odb_base.specs.Kind.{has_names, has_place, has_usage, is_terminal}
use Rattle.odb_base.specs.declared.codes.direction.Direction.{Direction}
use Rattle.odb_base.specs.declared.codes.kind.Kind.{Kind}
use Rattle.odb_base.specs.declared.codes.kind.Kind.TheVariants as kind
use Rattle.odb_base.specs.declared.codes.orient.Orient.{Orient}
use Rattle.odb_base.specs.declared.codes.orient.Orient.TheVariants as orient
use Rattle.odb_base.specs.declared.codes.place_status.PlaceStatus.{PlaceStatus}
use Rattle.odb_base.specs.declared.codes.place_status.PlaceStatus.TheVariants as status
use Rattle.odb_base.specs.declared.codes.row_form.RowForm.TheVariants as form
use Rattle.odb_base.specs.declared.codes.usage.Usage.{Usage}
use Rattle.library.specs.Masters.{find_master, master_at}
use Rattle.library.specs.Terminals.{term_index}
use Rattle.library.specs.declared.master.Master.{Master}
use Rattle.tech.specs.Technology.{Technology, find_site}
use Rattle.library.specs.declared.mterm.MTerm.{MTerm}
use Rattle.block_records.specs.declared.row.RowRec.{RowRec}
use Rattle.edit_words.specs.Tag.{new_at, tag_of}
use Rattle.edit_words.specs.declared.edit.Edit.{Edit}
use Rattle.edit_words.specs.declared.edit.RowSites.{RowSites}
use Rattle.edit_words.specs.declared.edit.RowSites.TheVariants as sites
use Rattle.edit_words.specs.declared.edit.Edit.TheVariants as edit
use Rattle.edit_words.specs.declared.refusal.Refusal.{Refusal}
use Rattle.edit_words.specs.declared.refusal.Refusal.TheVariants as refusal
use Rattle.edit_words.specs.declared.step.Step.{Step}
use Rattle.edit_words.specs.declared.step.Step.TheVariants as step
use Rattle.block_store.specs.Block.{Block, next_in}
use Rattle.block_store.specs.Fields.{net_in, special_in}
use Rattle.block_store.specs.Instances.{term_count}
use Rattle.block_store.specs.Sound.{inst_terms, net_terms}
use Rattle.steps_net.specs.Can.{Can, inst_master}
use Rattle.steps_net.specs.Do.{do_step}
use Rattle.steps_net.specs.Room.{lacks}
use Rattle.edits.specs.declared.rows.Repeat.{Repeat}
use Rattle.edits.specs.Checks.{◌>>=◌, allowed, holds_or, lawful, live, nothing_lacks, some_or, unheld}

-- what planning an edit comes to: its steps, or its refusal
abbrev pub Planned : Type 0
Planned = Result (List Step) Refusal

-- the plan of one step
abbrev pub one : Step → Planned
one s = Ok (s ∷ [])

-- a step whose new objects the tables allow
abbrev pub new_one : ℕ → Block → Step → Planned
new_one cap b s = do
  room ← nothing_lacks (lacks s cap b)
  one s

-- so many identifiers that a table gives next
abbrev pub next_ids : {A : Type 0} → ℕ → ℕ → Table A → List ℕ
next_ids from zero t = []
next_ids from (suc n) t = next_id t from ∷ next_ids (from + 1) n t

-- a new instance of the master of an identifier
abbrev pub new_inst_of : List Master → Block → List ℕ → ℕ → Step
new_inst_of library b name master =
    step.NewInst (next_in kind.Inst b) name master (next_ids 0 (unwrap_or (term_count library master) 0) b.iterm)

-- a new instance; refused for a bad name, an unknown master, a name that is taken, or a full table
abbrev pub plan_new_inst : List Master → ℕ → Block → List ℕ → List ℕ → Planned
plan_new_inst library cap b name master = do
  good ← lawful name 1
  id ← some_or (find_master library master) (refusal.Unknown 2)
  new ← unheld b kind.Inst name
  new_one cap b (new_inst_of library b name id)

-- a new net; refused for a bad name, a name that is taken, or a full table
abbrev pub plan_new_net : ℕ → Block → List ℕ → Planned
plan_new_net cap b name = do
  good ← lawful name 1
  new ← unheld b kind.Net name
  new_one cap b (step.NewNet (next_in kind.Net b) name)

-- the net that a new block terminal is to be joined to, if one is given
abbrev pub given_net : Block → Option ℕ → Result (Unit {0}) Refusal
given_net b None = Ok tt
given_net b (Some net) = live b kind.Net net

-- a new block terminal is joined to the net, if one is given
abbrev pub joined_to : ℕ → Option ℕ → List Step
joined_to id None = []
joined_to id (Some net) = step.Join kind.BTerm id net ∷ []

-- a new block terminal; refused where the net isn't there, for a bad or taken name, or a full table
abbrev pub plan_new_bterm : ℕ → Block → List ℕ → Option ℕ → Planned
plan_new_bterm cap b name net = do
  there ← given_net b net
  good ← lawful name 1
  new ← unheld b kind.BTerm name
  room ← nothing_lacks (lacks (step.NewBTerm (next_in kind.BTerm b) name) cap b)
  Ok (step.NewBTerm (next_in kind.BTerm b) name ∷ joined_to (next_in kind.BTerm b) net)

-- the coordinate at this place of the line
abbrev pub coordinate : ℤ → ℕ → Result ℤ Refusal
coordinate n place = if is_coordinate n then Ok n else Err (refusal.BadValue place)

-- so many sites along an axis are allowed
abbrev pub is_site_count : ℤ → Bool
is_site_count (pos n) = nat_le 1 n && nat_le n 1000000
is_site_count (negsuc n) = false

-- a number that isn't negative as a whole number
abbrev pub whole : ℤ → ℕ
whole (pos n) = n
whole (negsuc n) = 0

-- the number of sites at this place of the line
abbrev pub site_count : ℤ → ℕ → Result ℕ Refusal
site_count n place = if is_site_count n then Ok (whole n) else Err (refusal.BadValue place)

-- how the sites of a new row are repeated; refused for the first count or step outside its limit
abbrev pub repeat_of : RowSites → Result Repeat Refusal
repeat_of sites.One = Ok (record { form = form.Bare; nx = 1; ny = 1; sx = pos 0; sy = pos 0 })
repeat_of (sites.Counted nx ny) = do
  along_x ← site_count nx 6
  along_y ← site_count ny 7
  Ok (record { form = form.Do; nx = along_x; ny = along_y; sx = pos 0; sy = pos 0 })
repeat_of (sites.Stepped nx ny sx sy) = do
  along_x ← site_count nx 6
  along_y ← site_count ny 7
  step_x ← coordinate sx 8
  step_y ← coordinate sy 9
  Ok (record { form = form.DoStep; nx = along_x; ny = along_y; sx = step_x; sy = step_y })

-- the row of this name, site, place, orientation and repetition
abbrev pub row_of : List ℕ → ℕ → ℤ → ℤ → Orient → Repeat → RowRec
row_of name site x y orientation repeat = record {
  name = name;
  site = site;
  x = x;
  y = y;
  orientation = orientation;
  form = repeat.form;
  nx = repeat.nx;
  ny = repeat.ny;
  sx = repeat.sx;
  sy = repeat.sy;
}

-- a new row; refused for a coordinate, a count or a step outside its limit, a bad name, an unknown site, a name that
-- is taken, or a full table
abbrev pub plan_new_row : Technology → ℕ → Block → List ℕ → List ℕ → ℤ → ℤ → Orient → RowSites → Planned
plan_new_row tech cap b name site x y orientation sites = do
  along_x ← coordinate x 3
  along_y ← coordinate y 4
  repeat ← repeat_of sites
  good ← lawful name 1
  id ← some_or (find_site tech site) (refusal.Unknown 2)
  new ← unheld b kind.Row name
  new_one cap b (step.NewRow (next_in kind.Row b) (row_of name id along_x along_y orientation repeat))

-- a terminal is parted from the net that it is joined to, 0 for none
abbrev pub parted_from : Kind → ℕ → ℕ → List Step
parted_from k id net = if net == 0 then [] else step.Part k id net ∷ []

-- a terminal is parted where it is joined
abbrev pub parted : Block → Kind → ℕ → List Step
parted b k id = parted_from k id (unwrap_or (net_in k id b) 0)

-- the terminals of an instance that are joined are parted, in their order
abbrev pub parted_terms : Block → List ℕ → List Step
parted_terms b [] = []
parted_terms b (id ∷ ids) = parted b kind.ITerm id ++ parted_terms b ids

-- the kind of the terminal that a number in the list of a net stands for
abbrev pub kind_of_number : ℕ → Kind
kind_of_number number = if number % 2 == 0 then kind.ITerm else kind.BTerm

-- the terminals of a net are parted, in the order of its list
abbrev pub parted_members : ℕ → List ℕ → List Step
parted_members net [] = []
parted_members net (number ∷ numbers) = step.Part (kind_of_number number) (number / 2) net ∷ parted_members net numbers

-- an object goes, and first what hangs on it
abbrev pub plan_destroy : Block → Kind → ℕ → Planned
plan_destroy b kind.Inst id = Ok (parted_terms b (inst_terms b id) ++ step.Del kind.Inst id ∷ [])
plan_destroy b kind.ITerm id = Err (refusal.BadValue 1)
plan_destroy b kind.Net id = Ok (parted_members id (net_terms b id) ++ step.Del kind.Net id ∷ [])
plan_destroy b kind.BTerm id = Ok (parted b kind.BTerm id ++ step.Del kind.BTerm id ∷ [])
plan_destroy b other id = one (step.Del other id)

-- another name; refused where the object isn't there, its kind has no names, or the name is bad or taken
abbrev pub plan_rename : Block → Kind → ℕ → List ℕ → Planned
plan_rename b k id name = do
  there ← live b k id
  named ← allowed (has_names k) 1
  good ← lawful name 3
  new ← unheld b k name
  one (step.Rename k id name)

-- the name of the first terminal in a list that a master lacks
abbrev pub first_lacking : Master → List MTerm → Option (List ℕ)
first_lacking master terminals = option_map (λ t. t.name) (find (λ t. is_none (term_index master t.name)) terminals)

-- the name of the first terminal of the old master that the new one lacks, else of the new that the old lacks
abbrev pub first_differing : Master → Master → Option (List ℕ)
first_differing old new = option_or (first_lacking new old.terminals) (first_lacking old new.terminals)

-- the name of the first terminal in which two masters differ, where both are there
abbrev pub differing : Option Master → Option Master → Option (List ℕ)
differing (Some old) (Some new) = first_differing old new
differing None new = None
differing (Some old) None = None

-- no terminal differs, or the edit is refused with the name of the first that does
abbrev pub same_terms : Option (List ℕ) → Result (Unit {0}) Refusal
same_terms None = Ok tt
same_terms (Some name) = Err (refusal.TermsDiffer name)

-- another master; refused where the instance isn't there, the master is unknown, or their terminals differ
abbrev pub plan_swap : List Master → Block → ℕ → List ℕ → Planned
plan_swap library b inst master = do
  there ← live b kind.Inst inst
  id ← some_or (find_master library master) (refusal.Unknown 2)
  same ← same_terms (differing (inst_master library b inst) (master_at library id))
  one (step.Swap inst id)

-- the number is 0
abbrev pub is_zero : ℤ → Bool
is_zero (pos n) = n == 0
is_zero (negsuc n) = false

-- the orientation is N
abbrev pub is_north : Orient → Bool
is_north orient.N = true
is_north other = false

-- who is unplaced stands at 0, 0 and is turned N
abbrev pub fits_status : PlaceStatus → ℤ → ℤ → Orient → Bool
fits_status status.Unplaced x y orientation = is_zero x && is_zero y && is_north orientation
fits_status other x y orientation = true

-- another place; refused where the object isn't there, its kind has none,
-- or the status doesn't fit the place or a coordinate is beyond the limit
abbrev pub plan_place : Block → Kind → ℕ → PlaceStatus → ℤ → ℤ → Orient → Planned
plan_place b k id status x y orientation = do
  there ← live b k id
  placed ← allowed (has_place k) 1
  fits ← allowed (fits_status status x y orientation) 3
  along_x ← coordinate x 4
  along_y ← coordinate y 5
  one (step.Place k id (record { status = status; x = along_x; y = along_y; orientation = orientation }))

-- another use; refused where the object isn't there or its kind has none
abbrev pub plan_set_use : Block → Kind → ℕ → Usage → Planned
plan_set_use b k id usage = do
  there ← live b k id
  used ← allowed (has_usage k) 1
  one (step.SetUse k id usage)

-- another direction; refused where the block terminal isn't there or may not have it
abbrev pub plan_set_dir : Block → ℕ → Direction → Planned
plan_set_dir b bterm way = do
  there ← live b kind.BTerm bterm
  fits ← allowed (is_bterm_direction way) 2
  one (step.SetDir bterm way)

-- a net becomes special; refused where it isn't there or is special already
abbrev pub plan_make_special : Block → ℕ → Planned
plan_make_special b net = do
  there ← live b kind.Net net
  plain ← holds_or (not (unwrap_or (special_in net b) false)) refusal.Special
  one (step.MakeSpecial net)

-- a terminal is joined to no net, or the edit is refused with the net
abbrev pub unjoined : Option ℕ → Result (Unit {0}) Refusal
unjoined None = Ok tt
unjoined (Some net) = holds_or (net == 0) (refusal.Joined net)

-- a terminal is joined to a net; refused where either isn't there,
-- or where the object is no terminal or is joined already
abbrev pub plan_join : Block → Kind → ℕ → ℕ → Planned
plan_join b k id net = do
  there ← live b k id
  net_there ← live b kind.Net net
  terminal ← allowed (is_terminal k) 1
  free ← unjoined (net_in k id b)
  one (step.Join k id net)

-- the net that a terminal is joined to, or the refusal of one that is joined to none
abbrev pub joined : Option ℕ → Result ℕ Refusal
joined None = Err refusal.NotJoined
joined (Some net) = if net == 0 then Err refusal.NotJoined else Ok net

-- a terminal is parted from its net; refused where it isn't there, is no terminal, or isn't joined
abbrev pub plan_part : Block → Kind → ℕ → Planned
plan_part b k id = do
  there ← live b k id
  terminal ← allowed (is_terminal k) 1
  net ← joined (net_in k id b)
  one (step.Part k id net)

-- an object is destroyed; refused where it isn't there, or is a terminal of an instance
abbrev pub plan_destroyed : Block → Kind → ℕ → Planned
plan_destroyed b k id = do
  there ← live b k id
  plan_destroy b k id

-- the steps of an edit in the order in which they are done, or its one refusal
unfoldable pub plan : Technology → List Master → ℕ → Block → Edit → Planned
plan tech library cap b (edit.NewInst name master) = plan_new_inst library cap b name master
plan tech library cap b (edit.NewNet name) = plan_new_net cap b name
plan tech library cap b (edit.NewBTerm name net) = plan_new_bterm cap b name net
plan tech library cap b (edit.NewRow name site x y orientation sites) = plan_new_row tech cap b name site x y orientation sites
plan tech library cap b (edit.Destroy k id) = plan_destroyed b k id
plan tech library cap b (edit.Rename k id name) = plan_rename b k id name
plan tech library cap b (edit.Swap inst master) = plan_swap library b inst master
plan tech library cap b (edit.Place k id status x y orientation) = plan_place b k id status x y orientation
plan tech library cap b (edit.SetUse k id usage) = plan_set_use b k id usage
plan tech library cap b (edit.SetDir bterm way) = plan_set_dir b bterm way
plan tech library cap b (edit.MakeSpecial net) = plan_make_special b net
plan tech library cap b (edit.Join k id net) = plan_join b k id net
plan tech library cap b (edit.Part k id) = plan_part b k id

-- the identifier of the object that the steps of an edit make, 0 where they make none
abbrev pub made : List Step → ℕ
made [] = 0
made (s ∷ steps) = option_map_or (λ new. new.1) (new_at (tag_of s)) 0

-- the steps can be done one after the other, and the tables allow their new objects
abbrev pub CanAll : Technology → List Master → ℕ → Block → List Step → Type 0
CanAll tech library cap b [] = Unit {0}
CanAll tech library cap b (s ∷ steps) = Can tech library b s × (lacks s cap b ≡ None) × CanAll tech library cap (do_step library s b) steps
