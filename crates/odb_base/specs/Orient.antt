-- Orientations: their codes and words.
use Rattle.std.specs.Prelude.{List, [], ◌∷◌, ℕ, codes}
use Rattle.odb_base.specs.declared.codes.orient.Orient.{Orient}
use Rattle.odb_base.specs.declared.codes.orient.Orient.TheVariants as orient

-- the orientations, in the order of the codes
abbrev pub orients : List Orient
orients = orient.N ∷ orient.S ∷ orient.W ∷ orient.E ∷ orient.FN ∷ orient.FS ∷ orient.FW ∷ orient.FE ∷ []

-- the code
abbrev pub orient_code : Orient → ℕ
orient_code orient.N = 0
orient_code orient.S = 1
orient_code orient.W = 2
orient_code orient.E = 3
orient_code orient.FN = 4
orient_code orient.FS = 5
orient_code orient.FW = 6
orient_code orient.FE = 7

-- the word
unfoldable pub orient_word : Orient → List ℕ
orient_word orient.N = codes "N"
orient_word orient.S = codes "S"
orient_word orient.W = codes "W"
orient_word orient.E = codes "E"
orient_word orient.FN = codes "FN"
orient_word orient.FS = codes "FS"
orient_word orient.FW = codes "FW"
orient_word orient.FE = codes "FE"
