-- What a word is to a class of words.
use Rattle.std.specs.Prelude.{Bool, List, ℕ, if◌then◌else◌, is_some}
use Rattle.ld_forms.specs.declared.place.Judged.{Judged}
use Rattle.ld_forms.specs.declared.place.Judged.TheVariants as judged_as
use Rattle.lef_forms.specs.declared.class.Class.{Class}
use Rattle.lef_forms.specs.declared.class.Class.TheVariants as class
use Rattle.lef_forms.specs.declared.kind.LefKind.{LefKind}
use Rattle.lef_forms.specs.declared.kind.LefKind.TheVariants as kind
use Rattle.lef_forms.specs.Keywords.{is}
use Rattle.ld_forms.specs.Names.{is_name, is_via_name, per_micron_in}
use Rattle.lef_forms.specs.Numbers.{is_number}
use Rattle.lef_forms.specs.WordSets.{has}

-- one of the class, or what it is instead
abbrev pub fits_or : Bool → Judged LefKind → Judged LefKind
fits_or fits other = if fits then judged_as.Fits else other

-- what a word is to a class
unfoldable pub judged : Class → List ℕ → Judged LefKind
judged (class.Word k) word = fits_or (is k word) judged_as.Other
judged class.Number word = fits_or (is_number word) (judged_as.Bad kind.BadNumber)
judged class.PerMicron word = fits_or (is_some (per_micron_in word)) (judged_as.Bad kind.BadNumber)
judged class.Name word = fits_or (is_name word) (judged_as.Bad kind.BadName)
judged class.ViaName word = fits_or (is_via_name word) (judged_as.Bad kind.BadName)
judged (class.OneOf set) word = fits_or (has set word) judged_as.Other
judged class.Every word = judged_as.Fits
