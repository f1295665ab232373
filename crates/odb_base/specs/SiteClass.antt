-- Site classes: their codes and words.
use Rattle.std.specs.Prelude.{List, [], ◌∷◌, ℕ, codes}
use Rattle.odb_base.specs.declared.codes.site_class.SiteClass.{SiteClass}
use Rattle.odb_base.specs.declared.codes.site_class.SiteClass.TheVariants as site_class

-- the site classes, in the order of the codes
abbrev pub site_classes : List SiteClass
site_classes = site_class.Core ∷ site_class.Pad ∷ []

-- the code
abbrev pub site_class_code : SiteClass → ℕ
site_class_code site_class.Core = 1
site_class_code site_class.Pad = 2

-- the word
unfoldable pub site_class_word : SiteClass → List ℕ
site_class_word site_class.Core = codes "CORE"
site_class_word site_class.Pad = codes "PAD"
