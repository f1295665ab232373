-- How far parts are passed over.
use Rattle.std.specs.Prelude.{◌&&◌, Bool, true, false, List, [], ◌∷◌, if◌then◌else◌}
use Rattle.std.specs.Str.{bytes_eq}
use Rattle.ld_forms.specs.declared.passing.Extent.{Extent}
use Rattle.ld_forms.specs.declared.passing.Extent.TheVariants as extent
use Rattle.ld_forms.specs.declared.passing.Passed.{Passed}
use Rattle.ld_forms.specs.declared.passing.Passed.TheVariants as passed
use Rattle.ld_forms.specs.declared.passing.Passing.{Passing}
use Rattle.ld_forms.specs.declared.passing.Passing.TheVariants as passing
use Rattle.ld_forms.specs.declared.passing.StatementsSpot.{StatementsSpot}
use Rattle.ld_forms.specs.declared.passing.StatementsSpot.TheVariants as spot
use Rattle.ld_forms.specs.declared.place.Judged.{Judged}
use Rattle.ld_forms.specs.declared.place.Judged.TheVariants as judged
use Rattle.ld_forms.specs.Places.{Word, is_semicolon}

module _ {C : Type 0} where
  -- behind the first word of a part
  abbrev pub passing_of : Extent C → Passing C
  passing_of extent.Statement = passing.Statement
  passing_of (extent.Word last) = passing.Word last
  passing_of (extent.Words end last) = passing.Words end last false
  passing_of (extent.Named end) = passing.Name end
  passing_of (extent.Statements more last) = passing.Statements more last spot.Second

  -- a part that a word ends, or that goes on
  abbrev pub ends_if : Bool → Passing C → Passed C
  ends_if true next = passed.Ends
  ends_if false next = passed.Goes next

module _ {K : Type 0} where
  -- the word is of the class
  abbrev pub fits : Judged K → Bool
  fits judged.Fits = true
  fits judged.Other = false
  fits (judged.Bad k) = false

-- the word is the first of these
abbrev pub is_name : List Word → Word → Bool
is_name [] word = false
is_name (name ∷ words) word = bytes_eq name word

module _ {C K : Type 0} (judge : C → Word → Judged K) where
  -- a word of a part of several statements
  unfoldable pub statements_step : C → C → StatementsSpot → Word → Passed C
  statements_step more last spot.Second word = ends_if (is_semicolon word) (passing.Statements more last spot.Third)
  statements_step more last spot.Third word =
      if fits (judge more word) then passed.Goes (passing.Statements more last spot.Later)
      else ends_if (is_semicolon word) passing.Statement
  statements_step more last spot.Later word =
      if is_semicolon word then passed.Goes (passing.Statements more last spot.First)
      else passed.Goes (passing.Statements more last spot.Later)
  statements_step more last spot.First word =
      if fits (judge more word) then passed.Goes (passing.Statements more last spot.Later)
      else if fits (judge last word) then passed.Goes passing.Statement
      else passed.Behind

  -- a word of a part, of which these words are kept
  unfoldable pub pass_step : Passing C → List Word → Word → Passed C
  pass_step passing.Statement kept word = ends_if (is_semicolon word) passing.Statement
  pass_step (passing.Word last) kept word = ends_if (fits (judge last word)) (passing.Word last)
  pass_step (passing.Words end last ended) kept word =
      ends_if (ended && fits (judge last word)) (passing.Words end last (fits (judge end word)))
  pass_step (passing.Name end) kept word = passed.Names (passing.Named end false)
  pass_step (passing.Named end ended) kept word =
      ends_if (ended && is_name kept word) (passing.Named end (fits (judge end word)))
  pass_step (passing.Statements more last spot) kept word = statements_step more last spot word
