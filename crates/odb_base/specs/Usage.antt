-- Uses: their codes and words.
use Rattle.std.specs.Prelude.{List, [], ◌∷◌, ℕ, codes}
use Rattle.odb_base.specs.declared.codes.usage.Usage.{Usage}
use Rattle.odb_base.specs.declared.codes.usage.Usage.TheVariants as usage

-- the uses, in the order of the codes
abbrev pub usages : List Usage
usages = usage.None ∷ usage.Signal ∷ usage.Analog ∷ usage.Power ∷ usage.Ground ∷ usage.Clock ∷ usage.Reset ∷ usage.Scan ∷ usage.TieOff ∷ []

-- the code
abbrev pub usage_code : Usage → ℕ
usage_code usage.None = 0
usage_code usage.Signal = 1
usage_code usage.Analog = 2
usage_code usage.Power = 3
usage_code usage.Ground = 4
usage_code usage.Clock = 5
usage_code usage.Reset = 6
usage_code usage.Scan = 7
usage_code usage.TieOff = 8

-- the word
unfoldable pub usage_word : Usage → List ℕ
usage_word usage.None = codes "-"
usage_word usage.Signal = codes "SIGNAL"
usage_word usage.Analog = codes "ANALOG"
usage_word usage.Power = codes "POWER"
usage_word usage.Ground = codes "GROUND"
usage_word usage.Clock = codes "CLOCK"
usage_word usage.Reset = codes "RESET"
usage_word usage.Scan = codes "SCAN"
usage_word usage.TieOff = codes "TIEOFF"
