-- Region types: their codes and words.
use Rattle.std.specs.Prelude.{List, [], ◌∷◌, ℕ, codes}
use Rattle.odb_base.specs.declared.codes.region_type.RegionType.{RegionType}
use Rattle.odb_base.specs.declared.codes.region_type.RegionType.TheVariants as region_type

-- the region types, in the order of the codes
abbrev pub region_types : List RegionType
region_types = region_type.None ∷ region_type.Fence ∷ region_type.Guide ∷ []

-- the code
abbrev pub region_type_code : RegionType → ℕ
region_type_code region_type.None = 0
region_type_code region_type.Fence = 1
region_type_code region_type.Guide = 2

-- the word
unfoldable pub region_type_word : RegionType → List ℕ
region_type_word region_type.None = codes "-"
region_type_word region_type.Fence = codes "FENCE"
region_type_word region_type.Guide = codes "GUIDE"
