-- Layer types: their codes and words.
use Rattle.std.specs.Prelude.{List, [], ◌∷◌, ℕ, codes}
use Rattle.odb_base.specs.declared.codes.layer_type.LayerType.{LayerType}
use Rattle.odb_base.specs.declared.codes.layer_type.LayerType.TheVariants as layer_type

-- the layer types, in the order of the codes
abbrev pub layer_types : List LayerType
layer_types = layer_type.Other ∷ layer_type.Routing ∷ layer_type.Cut ∷ layer_type.Masterslice ∷ layer_type.Overlap ∷ layer_type.Implant ∷ []

-- the code
abbrev pub layer_type_code : LayerType → ℕ
layer_type_code layer_type.Other = 0
layer_type_code layer_type.Routing = 1
layer_type_code layer_type.Cut = 2
layer_type_code layer_type.Masterslice = 3
layer_type_code layer_type.Overlap = 4
layer_type_code layer_type.Implant = 5

-- the word
unfoldable pub layer_type_word : LayerType → List ℕ
layer_type_word layer_type.Other = codes "other"
layer_type_word layer_type.Routing = codes "ROUTING"
layer_type_word layer_type.Cut = codes "CUT"
layer_type_word layer_type.Masterslice = codes "MASTERSLICE"
layer_type_word layer_type.Overlap = codes "OVERLAP"
layer_type_word layer_type.Implant = codes "IMPLANT"
