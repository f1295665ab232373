-- The words of SYMMETRY: their bits.
use Rattle.std.specs.Prelude.{List, [], ◌∷◌, ℕ, codes}
use Rattle.lef_forms.specs.declared.symmetry.Symmetry.{Symmetry}
use Rattle.lef_forms.specs.declared.symmetry.Symmetry.TheVariants as symmetry

-- all symmetries, in the order of their bits
abbrev pub symmetries : List Symmetry
symmetries = symmetry.X ∷ symmetry.Y ∷ symmetry.R90 ∷ []

-- the bit
abbrev pub symmetry_code : Symmetry → ℕ
symmetry_code symmetry.X = 1
symmetry_code symmetry.Y = 2
symmetry_code symmetry.R90 = 4

-- the word
unfoldable pub symmetry_word : Symmetry → List ℕ
symmetry_word symmetry.X = codes "X"
symmetry_word symmetry.Y = codes "Y"
symmetry_word symmetry.R90 = codes "R90"
