-- What is left of a list that is walked.
use Rattle.std.specs.Prelude.{◌≡◌, Bool, List, ℕ}
use Rattle.link_list.specs.declared.link.Link.{Link}
use Rattle.link_list.specs.Standing.{AreLinked, number}
use Rattle.odb_base.specs.Ids.{IsDistinct, first}

-- the number is the first of what is left of a list, 0 for none
pub record IsRest (cell : ℕ → Bool) (link : ℕ → Link) (next : ℕ) : Type 0 where
  pub before : ℕ
  pub ids : List ℕ
  pub linked : AreLinked cell link before ids 0
  pub distinct : IsDistinct ids
  pub first_member : next ≡ number (first ids)
