-- The parts that a LEF text holds, item by item.
use Rattle.std.specs.Prelude.{◌==◌, ◌||◌, ◌+◌, ◌-◌, ◌^◌, ◌++◌, ◌∷◌, [], List, ℕ, Option, Some, None, Result, Ok, Err, if◌then◌else◌, fold, is_some, min}
use Rattle.tech.specs.Technology.{Technology, find_layer, find_site, find_via, with_layer, with_site, with_units, with_via}
use Rattle.library.specs.Masters.{find_master}
use Rattle.library.specs.declared.master.Master.{Master}
use Rattle.edit_words.specs.declared.part.TechPart.{TechPart}
use Rattle.edit_words.specs.declared.part.TechPart.TheVariants as part
use Rattle.lef_tree.specs.declared.tree.LefItem.{LefItem}
use Rattle.lef_tree.specs.declared.tree.LefItem.TheVariants as item
use Rattle.lef_tree.specs.declared.tree.LefTree.{LefTree}
use Rattle.lef_build.specs.declared.fault.BuildFault.{BuildFault}
use Rattle.lef_build.specs.declared.fault.BuildFault.TheVariants as fault
use Rattle.lef_build.specs.declared.parts.Parts.{Parts}
use Rattle.lef_build.specs.Causes.{layer_fault, macro_fault, site_fault, via_fault}
use Rattle.lef_build.specs.Stated.{layer_of, master_of, site_of, via_of}

-- the technology once a part is entered; a master changes the library only
abbrev pub with_part : Technology → TechPart → Technology
with_part t (part.Units n) = with_units n t
with_part t (part.Layer layer) = with_layer layer t
with_part t (part.Via via) = with_via via t
with_part t (part.Site site) = with_site site t
with_part t (part.Master master) = t

-- the library once a part is entered; only a master changes it
abbrev pub with_master : List Master → TechPart → List Master
with_master library (part.Units n) = library
with_master library (part.Layer layer) = library
with_master library (part.Via via) = library
with_master library (part.Site site) = library
with_master library (part.Master master) = library ++ master ∷ []

-- the technology once parts are entered one after the other
abbrev pub with_parts : Technology → List TechPart → Technology
with_parts t parts = fold with_part t parts

-- the library once parts are entered one after the other
abbrev pub with_masters : List Master → List TechPart → List Master
with_masters library parts = fold with_master library parts

-- what items come to: the technology and the library with their parts entered, the parts, and how many parts were
-- passed over or left out
pub record Build : Type 0 where
  pub tech : Technology
  pub library : List Master
  pub parts : List TechPart
  pub passed : ℕ

-- what parts lead to
abbrev pub build_of : Technology → List Master → List TechPart → ℕ → Build
build_of t library parts passed = record {
  tech = with_parts t parts;
  library = with_masters library parts;
  parts = parts;
  passed = passed;
}

-- what items come to, with one more part
abbrev pub entered : TechPart → Build → Build
entered p b = record {
  tech = with_part b.tech p;
  library = with_master b.library p;
  parts = b.parts ++ p ∷ [];
  passed = b.passed;
}

-- what items come to, with one more that is left out; the count stops at 2^64 - 1
abbrev pub left_out : Build → Build
left_out b = record b { passed = min (b.passed + 1) (2 ^ 64 - 1) }

-- what items come to with this part, where there is no cause against it
abbrev pub tried : Option BuildFault → TechPart → Build → Result Build BuildFault
tried (Some why) p b = Err why
tried None p b = Ok (entered p b)

-- what items come to with these units, where they are the ones that stand or none stand
abbrev pub with_stated : ℕ → Build → Result Build BuildFault
with_stated n b =
    if b.tech.units == 0 || b.tech.units == n then Ok (entered (part.Units n) b)
    else Err (fault.UnitsChanged b.tech.units n)

-- what items come to with one more, or the first cause why it has no part
unfoldable pub with_item : Build → LefItem → Result Build BuildFault
with_item b (item.Units n) = with_stated n b
with_item b (item.Layer l) =
    if is_some (find_layer b.tech l.name) then Ok (left_out b)
    else tried (layer_fault b.tech.units l) (part.Layer (layer_of b.tech.units l)) b
with_item b (item.Via v) =
    if is_some (find_via b.tech v.name) then Ok (left_out b)
    else tried (via_fault b.tech v) (part.Via (via_of b.tech v)) b
with_item b (item.Site s) =
    if is_some (find_site b.tech s.name) then Ok (left_out b)
    else tried (site_fault b.tech.units s) (part.Site (site_of b.tech.units s)) b
with_item b (item.Macro m) =
    if is_some (find_master b.library m.name) then Ok (left_out b)
    else tried (macro_fault b.tech m) (part.Master (master_of b.tech m)) b

-- what items come to with those of a list one after the other, or the first fault
abbrev pub with_items : Result Build BuildFault → List LefItem → Result Build BuildFault
with_items (Err why) is = Err why
with_items (Ok b) [] = Ok b
with_items (Ok b) (i ∷ is) = with_items (with_item b i) is

-- before the first item
abbrev pub start : Technology → List Master → ℕ → Build
start t library passed = build_of t library [] passed

-- the parts that items come to and how many were passed over or left out, or the fault
abbrev pub parts_in : Result Build BuildFault → Result Parts BuildFault
parts_in (Err why) = Err why
parts_in (Ok b) = Ok (record { parts = b.parts; passed = b.passed })

-- the parts that a tree stands for beside a technology and a library, or its first fault
abbrev pub built_of : Technology → List Master → LefTree → Result Parts BuildFault
built_of t library tree = parts_in (with_items (Ok (start t library tree.passed)) tree.items)
