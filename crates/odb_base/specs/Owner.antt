-- Owners of properties: their codes and words.
use Rattle.std.specs.Prelude.{List, [], ◌∷◌, ℕ, codes}
use Rattle.odb_base.specs.declared.codes.owner.Owner.{Owner}
use Rattle.odb_base.specs.declared.codes.owner.Owner.TheVariants as owner

-- the owners of properties, in the order of the codes
abbrev pub owners : List Owner
owners = owner.Design ∷ owner.Component ∷ owner.Net ∷ owner.SpecialNet ∷ owner.Row ∷ owner.Region ∷ owner.Group ∷ owner.ComponentPin ∷ []

-- the code
abbrev pub owner_code : Owner → ℕ
owner_code owner.Design = 1
owner_code owner.Component = 2
owner_code owner.Net = 3
owner_code owner.SpecialNet = 4
owner_code owner.Row = 5
owner_code owner.Region = 6
owner_code owner.Group = 7
owner_code owner.ComponentPin = 8

-- the word
unfoldable pub owner_word : Owner → List ℕ
owner_word owner.Design = codes "DESIGN"
owner_word owner.Component = codes "COMPONENT"
owner_word owner.Net = codes "NET"
owner_word owner.SpecialNet = codes "SPECIALNET"
owner_word owner.Row = codes "ROW"
owner_word owner.Region = codes "REGION"
owner_word owner.Group = codes "GROUP"
owner_word owner.ComponentPin = codes "COMPONENTPIN"
