-- What a line of the script asks for.
use Rattle.std.specs.Prelude.{◌==◌, List, [], ◌∷◌, ℕ, ℤ, pos, Option, None, Some, Result, Ok, Err, if◌then◌else◌, codes, slice_index}
use Rattle.std.specs.Str.{bytes_eq}
use Rattle.edit_words.specs.declared.edit.Edit.TheVariants as edit
use Rattle.edit_words.specs.declared.edit.RowSites.{RowSites}
use Rattle.edit_words.specs.declared.edit.RowSites.TheVariants as sites
use Rattle.library.specs.declared.master.Master.{Master}
use Rattle.library.specs.declared.mterm.MTerm.{MTerm}
use Rattle.odb_base.specs.declared.codes.direction.Direction.{Direction}
use Rattle.odb_base.specs.declared.codes.layer_direction.LayerDirection.TheVariants as layer_direction
use Rattle.odb_base.specs.declared.codes.layer_type.LayerType.{LayerType}
use Rattle.odb_base.specs.declared.codes.site_class.SiteClass.{SiteClass}
use Rattle.odb_base.specs.declared.codes.usage.Usage.TheVariants as usage
use Rattle.script_words.specs.declared.command_words.Command.{Command}
use Rattle.script_words.specs.declared.command_words.Command.TheVariants as command
use Rattle.script_words.specs.declared.fault.LineFault.{LineFault}
use Rattle.script_words.specs.declared.fault.LineFault.TheVariants as fault
use Rattle.script_words.specs.declared.verb.Verb.{Verb}
use Rattle.script_words.specs.declared.verb.Verb.TheVariants as verb
use Rattle.tech.specs.declared.layer.Layer.{Layer}
use Rattle.tech.specs.declared.site.Site.{Site}
use Rattle.script_words.specs.Answers.{IsAnswer}
use Rattle.script_words.specs.Forms.{◌>>=◌, Taken, Words, direction_at, end_at, file_at, id_at, kind_at, layer_type_at, name_at, named_kind_at, number_at, object_at, orient_at, site_class_at, size_at, status_at, usage_at, word_at}
use Rattle.script_words.specs.Verb.{verb_named}
use Rattle.script_words.specs.Words.{words_of}

-- a command, no command in a blank line or a comment, or why the line is none
abbrev pub Request : Type 0
Request = Result (Option Command) LineFault

-- what the words behind a command's word ask for
abbrev pub Line : Type 0
Line = Words → Result Command LineFault

-- The lines of edits. Their names are any words.

-- `new_inst NAME MASTER`
unfoldable pub new_inst : Line
new_inst words = do
  (name, words) ← word_at words
  (master, words) ← word_at words
  done ← end_at words
  Ok (command.Edit (edit.NewInst name master))

-- `new_net NAME`
unfoldable pub new_net : Line
new_net words = do
  (name, words) ← word_at words
  done ← end_at words
  Ok (command.Edit (edit.NewNet name))

-- the identifier that ends a line, or nothing
unfoldable pub last_id : Words → Result (Option ℕ) LineFault
last_id [] = Ok None
last_id (word ∷ words) = do
  (id, words) ← id_at (word ∷ words)
  done ← end_at words
  Ok (Some id)

-- `new_bterm NAME [NET]`
unfoldable pub new_bterm : Line
new_bterm words = do
  (name, words) ← word_at words
  net ← last_id words
  Ok (command.Edit (edit.NewBTerm name net))

-- the steps of so many sites of a row, to the end of the line
unfoldable pub steps_to_end : ℤ → ℤ → Words → Result RowSites LineFault
steps_to_end nx ny [] = Ok (sites.Counted nx ny)
steps_to_end nx ny (word ∷ words) = do
  (sx, words) ← number_at (word ∷ words)
  (sy, words) ← number_at words
  done ← end_at words
  Ok (sites.Stepped nx ny sx sy)

-- how often the site of a row is repeated, to the end of the line
unfoldable pub sites_to_end : Words → Result RowSites LineFault
sites_to_end [] = Ok sites.One
sites_to_end (word ∷ words) = do
  (nx, words) ← number_at (word ∷ words)
  (ny, words) ← number_at words
  steps_to_end nx ny words

-- `new_row NAME SITE X Y ORIENT [NX NY [SX SY]]`
unfoldable pub new_row : Line
new_row words = do
  (name, words) ← word_at words
  (site, words) ← word_at words
  (x, words) ← number_at words
  (y, words) ← number_at words
  (orientation, words) ← orient_at words
  repeated ← sites_to_end words
  Ok (command.Edit (edit.NewRow name site x y orientation repeated))

-- `destroy KIND ID`
unfoldable pub destroy : Line
destroy words = do
  ((kind, id), words) ← object_at words
  done ← end_at words
  Ok (command.Edit (edit.Destroy kind id))

-- `rename KIND ID NAME`
unfoldable pub rename : Line
rename words = do
  ((kind, id), words) ← object_at words
  (name, words) ← word_at words
  done ← end_at words
  Ok (command.Edit (edit.Rename kind id name))

-- `swap INST MASTER`
unfoldable pub swap : Line
swap words = do
  (inst, words) ← id_at words
  (master, words) ← word_at words
  done ← end_at words
  Ok (command.Edit (edit.Swap inst master))

-- `place KIND ID STATUS X Y ORIENT`
unfoldable pub place : Line
place words = do
  ((kind, id), words) ← object_at words
  (status, words) ← status_at words
  (x, words) ← number_at words
  (y, words) ← number_at words
  (orientation, words) ← orient_at words
  done ← end_at words
  Ok (command.Edit (edit.Place kind id status x y orientation))

-- `set_use KIND ID USE|-`
unfoldable pub set_use : Line
set_use words = do
  ((kind, id), words) ← object_at words
  (usage, words) ← usage_at words
  done ← end_at words
  Ok (command.Edit (edit.SetUse kind id usage))

-- `set_dir BTERM DIR|-`
unfoldable pub set_dir : Line
set_dir words = do
  (bterm, words) ← id_at words
  (direction, words) ← direction_at words
  done ← end_at words
  Ok (command.Edit (edit.SetDir bterm direction))

-- `make_special NET`
unfoldable pub make_special : Line
make_special words = do
  (net, words) ← id_at words
  done ← end_at words
  Ok (command.Edit (edit.MakeSpecial net))

-- `join KIND ID NET`
unfoldable pub join : Line
join words = do
  ((kind, id), words) ← object_at words
  (net, words) ← id_at words
  done ← end_at words
  Ok (command.Edit (edit.Join kind id net))

-- `part KIND ID`
unfoldable pub part : Line
part words = do
  ((kind, id), words) ← object_at words
  done ← end_at words
  Ok (command.Edit (edit.Part kind id))

-- The lines of the technology and of masters. Their names are lawful.

-- `units N`, where N has the form of an identifier
unfoldable pub units : Line
units words = do
  (n, words) ← id_at words
  done ← end_at words
  Ok (command.Units n)

-- a layer of which no more is said than its name and its type
abbrev pub plain_layer : List ℕ → LayerType → Layer
plain_layer name sort = record {
  name = name;
  sort = sort;
  direction = layer_direction.None;
  pitch_x = pos 0;
  pitch_y = pos 0;
  width = pos 0;
  spacing = pos 0;
}

-- `layer NAME TYPE`
unfoldable pub layer : Line
layer words = do
  (name, words) ← name_at words
  (sort, words) ← layer_type_at words
  done ← end_at words
  Ok (command.Layer (plain_layer name sort))

-- a site of which no more is said than its name, its class and its size
abbrev pub plain_site : List ℕ → SiteClass → ℤ → ℤ → Site
plain_site name class width height = record {
  name = name;
  class = class;
  symmetry = record { 0 = 0 };
  width = width;
  height = height;
}

-- `site NAME CLASS W H`
unfoldable pub site : Line
site words = do
  (name, words) ← name_at words
  (class, words) ← site_class_at words
  (width, words) ← size_at words
  (height, words) ← size_at words
  done ← end_at words
  Ok (command.Site (plain_site name class width height))

-- a terminal of no use and without shapes
abbrev pub plain_terminal : List ℕ → Direction → MTerm
plain_terminal name direction = record { name = name; direction = direction; usage = usage.None; shapes = [] }

-- `TERM DIR|-`
unfoldable pub terminal_at : Words → Taken MTerm
terminal_at words = do
  (name, words) ← name_at words
  (direction, words) ← direction_at words
  Ok (plain_terminal name direction, words)

-- `[TERM DIR|-]...` to the end of the line
unfoldable pub terminals : Words → Result (List MTerm) LineFault
terminals [] = Ok []
terminals (name ∷ []) = Err fault.BadWords
terminals (name ∷ direction ∷ words) = do
  (first, rest) ← terminal_at (name ∷ direction ∷ words)
  others ← terminals words
  Ok (first ∷ others)

-- a master of which no more is said than its name, its size and its terminals
abbrev pub plain_master : List ℕ → ℤ → ℤ → List MTerm → Master
plain_master name width height terminals = record {
  name = name;
  class = [];
  origin_x = pos 0;
  origin_y = pos 0;
  width = width;
  height = height;
  symmetry = 0;
  site = 0;
  foreign = [];
  terminals = terminals;
  obstructions = [];
}

-- `master NAME W H [TERM DIR|-]...`
unfoldable pub master : Line
master words = do
  (name, words) ← name_at words
  (width, words) ← size_at words
  (height, words) ← size_at words
  terminals ← terminals words
  Ok (command.Master (plain_master name width height terminals))

-- The lines of queries.

-- `find KIND NAME`
unfoldable pub find : Line
find words = do
  (kind, words) ← named_kind_at words
  (name, words) ← word_at words
  done ← end_at words
  Ok (command.Find kind name)

-- `list KIND`
unfoldable pub list : Line
list words = do
  (kind, words) ← kind_at words
  done ← end_at words
  Ok (command.List kind)

-- `free KIND`
unfoldable pub free : Line
free words = do
  (kind, words) ← kind_at words
  done ← end_at words
  Ok (command.Free kind)

-- `terms NET`
unfoldable pub terms : Line
terms words = do
  (net, words) ← id_at words
  done ← end_at words
  Ok (command.Terms net)

-- The other lines.

-- the name of a file that ends the line
unfoldable pub last_file : Words → Result (List ℕ) LineFault
last_file words = do
  (file, words) ← file_at words
  done ← end_at words
  Ok file

-- a command on a file, as `load FILE`
unfoldable pub on_file : (List ℕ → Command) → Line
on_file c words = do
  file ← last_file words
  Ok (c file)

-- a command without arguments, as `counts`
unfoldable pub bare : Command → Line
bare c words = do
  done ← end_at words
  Ok c

-- `save -` or `save FILE`
unfoldable pub save : Line
save [] = Err fault.BadWords
save (word ∷ words) = if bytes_eq word (codes "-") then bare command.SaveShown words else on_file command.Save (word ∷ words)

-- the line of a verb
unfoldable pub line_of : Verb → Line
line_of verb.NewInst words = new_inst words
line_of verb.NewNet words = new_net words
line_of verb.NewBTerm words = new_bterm words
line_of verb.NewRow words = new_row words
line_of verb.Destroy words = destroy words
line_of verb.Rename words = rename words
line_of verb.Swap words = swap words
line_of verb.Place words = place words
line_of verb.SetUse words = set_use words
line_of verb.SetDir words = set_dir words
line_of verb.MakeSpecial words = make_special words
line_of verb.Join words = join words
line_of verb.Part words = part words
line_of verb.Units words = units words
line_of verb.Layer words = layer words
line_of verb.Site words = site words
line_of verb.Master words = master words
line_of verb.ReadLef words = on_file command.ReadLef words
line_of verb.Find words = find words
line_of verb.List words = list words
line_of verb.Free words = free words
line_of verb.Counts words = bare command.Counts words
line_of verb.Terms words = terms words
line_of verb.Save words = save words
line_of verb.Load words = on_file command.Load words
line_of verb.EcoBegin words = bare command.EcoBegin words
line_of verb.EcoUndo words = bare command.EcoUndo words

-- the verb that was named, if one was
abbrev pub known : Option Verb → Result Verb LineFault
known (Some verb) = Ok verb
known None = Err fault.UnknownCommand

-- what a first word and the words behind it ask for
unfoldable pub named : List ℕ → Line
named word words = do
  verb ← known (verb_named word)
  line_of verb words

-- by the words of the line; a first word that begins with `#` makes it a comment
abbrev pub asked : Words → Request
asked [] = Ok None
asked (word ∷ words) = if slice_index word 0 == 35 then Ok None else do
  c ← named word words
  Ok (Some c)

-- what a line of the script asks for
unfoldable pub request_of : List ℕ → Request
request_of line = asked (words_of line)

-- The call answered this; or it answered that there is no memory, which says nothing.
abbrev pub IsRequest : Request → Request → Type 0
IsRequest result request = IsAnswer result request
