-- The words of commands.
use Rattle.std.specs.Prelude.{List, [], ◌∷◌, ℕ, Option, codes}
use Rattle.script_words.specs.declared.verb.Verb.{Verb}
use Rattle.script_words.specs.declared.verb.Verb.TheVariants as verb
use Rattle.script_words.specs.Forms.{value_named}

-- every verb
abbrev pub verbs : List Verb
verbs = verb.NewInst ∷ verb.NewNet ∷ verb.NewBTerm ∷ verb.NewRow ∷ verb.Destroy ∷ verb.Rename ∷ verb.Swap
    ∷ verb.Place ∷ verb.SetUse ∷ verb.SetDir ∷ verb.MakeSpecial ∷ verb.Join ∷ verb.Part
    ∷ verb.Units ∷ verb.Layer ∷ verb.Site ∷ verb.Master ∷ verb.ReadLef ∷ verb.Find
    ∷ verb.List ∷ verb.Free ∷ verb.Counts ∷ verb.Terms ∷ verb.Save ∷ verb.Load
    ∷ verb.EcoBegin ∷ verb.EcoUndo ∷ []

-- the word
unfoldable pub verb_word : Verb → List ℕ
verb_word verb.NewInst = codes "new_inst"
verb_word verb.NewNet = codes "new_net"
verb_word verb.NewBTerm = codes "new_bterm"
verb_word verb.NewRow = codes "new_row"
verb_word verb.Destroy = codes "destroy"
verb_word verb.Rename = codes "rename"
verb_word verb.Swap = codes "swap"
verb_word verb.Place = codes "place"
verb_word verb.SetUse = codes "set_use"
verb_word verb.SetDir = codes "set_dir"
verb_word verb.MakeSpecial = codes "make_special"
verb_word verb.Join = codes "join"
verb_word verb.Part = codes "part"
verb_word verb.Units = codes "units"
verb_word verb.Layer = codes "layer"
verb_word verb.Site = codes "site"
verb_word verb.Master = codes "master"
verb_word verb.ReadLef = codes "read_lef"
verb_word verb.Find = codes "find"
verb_word verb.List = codes "list"
verb_word verb.Free = codes "free"
verb_word verb.Counts = codes "counts"
verb_word verb.Terms = codes "terms"
verb_word verb.Save = codes "save"
verb_word verb.Load = codes "load"
verb_word verb.EcoBegin = codes "eco_begin"
verb_word verb.EcoUndo = codes "eco_undo"

-- the verb of a word
unfoldable pub verb_named : List ℕ → Option Verb
verb_named word = value_named verbs verb_word word
