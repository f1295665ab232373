-- What a word is to a class of words.
use Rattle.std.specs.Prelude.{◌==◌, ◌&&◌, ◌||◌, Bool, List, ℕ, if◌then◌else◌, is_some, not}
use Rattle.std.specs.List.{list_any}
use Rattle.ld_forms.specs.declared.place.Judged.{Judged}
use Rattle.ld_forms.specs.declared.place.Judged.TheVariants as judged_as
use Rattle.ld_forms.specs.Names.{is_name, is_via_name, per_micron_in}
use Rattle.ld_forms.specs.Places.{is_semicolon}
use Rattle.wires.specs.PathWords.{number_of}
use Rattle.def_forms.specs.declared.class.Class.{Class}
use Rattle.def_forms.specs.declared.class.Class.TheVariants as class
use Rattle.def_forms.specs.declared.flaw.Flaw.{Flaw}
use Rattle.def_forms.specs.declared.flaw.Flaw.TheVariants as flaw
use Rattle.def_forms.specs.declared.keyword.Keyword.TheVariants as keyword
use Rattle.def_forms.specs.Keywords.{is}
use Rattle.def_forms.specs.Numbers.{count_in, is_number, step_in}
use Rattle.def_forms.specs.Quoted.{bus_in, divider_in}
use Rattle.def_forms.specs.WordSets.{has}

-- one of the class, or what it is instead
abbrev pub fits_or : Bool → Judged Flaw → Judged Flaw
fits_or fits other = if fits then judged_as.Fits else other

-- one of the class, or this flaw
abbrev pub by_flaw : Flaw → Bool → Judged Flaw
by_flaw f fits = fits_or fits (judged_as.Bad f)

-- what the word is, unless something begins by it that isn't read here
abbrev pub unless : Bool → Judged Flaw → Judged Flaw
unless unsupported other = if unsupported then judged_as.Bad flaw.Unsupported else other

-- a `*` stands in the word
abbrev pub has_star : List ℕ → Bool
has_star word = list_any (λ b. b == 42) word

-- the first word of a connection
unfoldable pub is_joined : Bool → List ℕ → Bool
is_joined special word = is keyword.Pin word || special && is keyword.Star word || is_name word

-- what a word is to a class
unfoldable pub judged : Class → List ℕ → Judged Flaw
judged (class.Word k) word = fits_or (is k word) judged_as.Other
judged class.Name word = by_flaw flaw.BadName (is_name word)
judged class.ViaName word = by_flaw flaw.BadName (is_via_name word)
judged class.NetName word = unless (is keyword.MustJoin word) (by_flaw flaw.BadName (is_name word))
judged class.Member word = unless (has_star word) (by_flaw flaw.BadName (is_name word))
judged (class.Joined special) word = by_flaw flaw.BadName (is_joined special word)
judged class.Coordinate word = by_flaw flaw.BadNumber (is_some (number_of word))
judged (class.BlockedWord k) word = unless (is keyword.Polygon word) (fits_or (is k word) judged_as.Other)
judged class.BlockedCoordinate word = unless (is keyword.Polygon word) (by_flaw flaw.BadNumber (is_some (number_of word)))
judged class.Count word = by_flaw flaw.BadNumber (is_some (count_in word))
judged class.Step word = by_flaw flaw.BadNumber (is_some (step_in word))
judged class.PerMicron word = by_flaw flaw.BadNumber (is_some (per_micron_in word))
judged class.Number word = by_flaw flaw.BadNumber (is_number word)
judged class.Divider word = fits_or (is_some (divider_in word)) judged_as.Other
judged class.Bus word = fits_or (is_some (bus_in word)) judged_as.Other
judged (class.OneOf set) word = fits_or (has set word) judged_as.Other
judged class.Loose word = fits_or (not (is_semicolon word) && not (is keyword.Plus word)) judged_as.Other
judged class.Any word = fits_or (not (is_semicolon word)) judged_as.Other
judged class.Every word = judged_as.Fits
judged class.ThirdPoint word = unless (is keyword.Open word) judged_as.Other
judged class.Nothing word = judged_as.Other
