-- Types of properties: their codes and words.
use Rattle.std.specs.Prelude.{List, [], ◌∷◌, ℕ, codes}
use Rattle.odb_base.specs.declared.codes.prop_type.PropType.{PropType}
use Rattle.odb_base.specs.declared.codes.prop_type.PropType.TheVariants as prop_type

-- the types of properties, in the order of the codes
abbrev pub prop_types : List PropType
prop_types = prop_type.Integer ∷ prop_type.Real ∷ prop_type.String ∷ []

-- the code
abbrev pub prop_type_code : PropType → ℕ
prop_type_code prop_type.Integer = 1
prop_type_code prop_type.Real = 2
prop_type_code prop_type.String = 3

-- the word
unfoldable pub prop_type_word : PropType → List ℕ
prop_type_word prop_type.Integer = codes "INTEGER"
prop_type_word prop_type.Real = codes "REAL"
prop_type_word prop_type.String = codes "STRING"
