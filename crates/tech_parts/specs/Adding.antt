-- Entering parts into a database.
use Rattle.std.specs.Prelude.{option_map, ◌≡◌, ◌==◌, ◌+◌, ◌-◌, ◌&&◌, ◌⊎◌, Bool, true, false, List, [], ◌∷◌, ℕ, Option, None, Some, Result, Ok, Err, if◌then◌else◌, is_some, length, nat_le, nat_lt, not}
use Rattle.tech.specs.Technology.{find_layer, find_site, find_via, with_layer, with_site, with_units, with_via}
use Rattle.library.specs.Masters.{find_master}
use Rattle.lawful_parts.specs.Tests.{is_layer, is_master, is_site, is_tech_via}
use Rattle.edit_words.specs.declared.part.TechPart.{TechPart}
use Rattle.edit_words.specs.declared.part.TechPart.TheVariants as part
use Rattle.block_store.specs.Database.{Database, with_master, with_tech}
use Rattle.tech_parts.specs.declared.adding.Added.{Added}
use Rattle.tech_parts.specs.declared.fault.PartCause.{PartCause}
use Rattle.tech_parts.specs.declared.fault.PartCause.TheVariants as cause
use Rattle.tech_parts.specs.declared.fault.PartFault.{PartFault}
use Rattle.tech_parts.specs.declared.fault.PartFault.TheVariants as fault

-- other units than these stand
abbrev pub are_changed : ℕ → ℕ → Bool
are_changed had got = not (had == 0) && not (had == got)

-- units are 1 to 100,000
abbrev pub are_units : ℕ → Bool
are_units n = nat_le 1 n && nat_le n 100000

-- the first of these that holds: the part's name is taken, it isn't lawful, the list is full
abbrev pub first_cause : Bool → Bool → Bool → Option PartCause
first_cause taken lawful full =
    if taken then Some cause.NameTaken
    else if lawful then (if full then Some cause.Full else None)
    else Some cause.BadPart

-- why these units aren't entered where those stand
abbrev pub units_cause : ℕ → ℕ → Option PartCause
units_cause had got =
    if are_changed had got then Some (cause.UnitsChanged had got)
    else if are_units got then None
    else Some cause.BadPart

-- why a part isn't entered, if it isn't
unfoldable pub cause_of : Database → TechPart → Option PartCause
cause_of d (part.Units n) = units_cause d.tech.units n
cause_of d (part.Layer l) = first_cause (is_some (find_layer d.tech l.name)) (is_layer l) (nat_le 1000000 (length d.tech.layers))
cause_of d (part.Via v) = first_cause (is_some (find_via d.tech v.name)) (is_tech_via d.tech v) (nat_le 1000000 (length d.tech.vias))
cause_of d (part.Site s) = first_cause (is_some (find_site d.tech s.name)) (is_site s) (nat_le 1000000 (length d.tech.sites))
cause_of d (part.Master m) = first_cause (is_some (find_master d.library m.name)) (is_master d.tech m) (nat_le 1000000 (length d.library))

-- the fault of the part at this place
abbrev pub fault_at : ℕ → PartCause → PartFault
fault_at at (cause.UnitsChanged had got) = fault.UnitsChanged had got
fault_at at cause.NameTaken = fault.NameTaken at
fault_at at cause.BadPart = fault.BadPart at
fault_at at cause.Full = fault.Full at

-- the database with one more part
abbrev pub with_part : TechPart → Database → Database
with_part (part.Units n) d = with_tech (with_units n d.tech) d
with_part (part.Layer l) d = with_tech (with_layer l d.tech) d
with_part (part.Via v) d = with_tech (with_via v d.tech) d
with_part (part.Site s) d = with_tech (with_site s d.tech) d
with_part (part.Master m) d = with_master m d

-- the fault of the part at this place, where it has a cause, and else what follows
abbrev pub goes_on : ℕ → Option PartCause → Result Database PartFault → Result Database PartFault
goes_on at None rest = rest
goes_on at (Some why) rest = Err (fault_at at why)

-- the database with these parts, of which so many stand before the first, or why one of them isn't entered
abbrev pub with_parts : ℕ → List TechPart → Database → Result Database PartFault
with_parts before [] d = Ok d
with_parts before (p ∷ parts) d = goes_on (before + 1) (cause_of d p) (with_parts (before + 1) parts (with_part p d))

-- the identifier of a part that was entered last, 0 for units
abbrev pub last_id : Database → TechPart → ℕ
last_id d (part.Units n) = 0
last_id d (part.Layer l) = length d.tech.layers
last_id d (part.Via v) = length d.tech.vias
last_id d (part.Site s) = length d.tech.sites
last_id d (part.Master m) = length d.library

-- the identifier of the last of these parts, once they are entered; 0 where there is none
abbrev pub last_id_in : List TechPart → Database → ℕ
last_id_in [] d = 0
last_id_in (p ∷ []) d = last_id d p
last_id_in (p ∷ q ∷ parts) d = last_id_in (q ∷ parts) d

-- how many of each sort were entered, and the identifier of the last one
abbrev pub added_by : List TechPart → Database → Database → Added
added_by parts old new = record {
  layers = length new.tech.layers - length old.tech.layers;
  vias = length new.tech.vias - length old.tech.vias;
  sites = length new.tech.sites - length old.tech.sites;
  masters = length new.library - length old.library;
  last = last_id_in parts new;
}

-- the answer is this fault, or that there is no memory
abbrev pub IsFault : Result Database PartFault → PartFault → Type 0
IsFault answer why = (why ≡ fault.Memory) ⊎ (answer ≡ Err why)

-- the answer for a part at this place is the fault of its cause, or that there is no memory
abbrev pub IsFaultAt : ℕ → Option PartCause → PartFault → Type 0
IsFaultAt at cause why = (why ≡ fault.Memory) ⊎ (option_map (fault_at at) cause ≡ Some why)
