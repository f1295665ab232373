-- What no setting of a link changes, an entry into a list and a leaving don't change.
use Rattle.std.proofs.Common.{◌≡◌, eqb, List, ℕ, refl, ◌∙◌, inl, inr}
use Rattle.std.proofs.lemmas.Bool.{cases_Bool}
use Rattle.link_list.specs.declared.link.Link.{Link}
use Rattle.odb_base.specs.Ids.{after}
use Rattle.link_list.specs.Ids.{before}
use Rattle.link_list.specs.Links.{linked_in, linked_out, with_after, with_before}
use Rattle.link_list.specs.Standing.{number}

module _ {Cells Shown : Type 0} (with_link : Cells → ℕ → Link → Cells) (link_of : Cells → ℕ → Link) (shown : Cells → Shown)
    (keeps : (cells : Cells) (id : ℕ) (link : Link) → shown (with_link cells id link) ≡ shown cells) where
  with_after_keeps : (id other : ℕ) (cells : Cells) → shown (with_after with_link link_of id other cells) ≡ shown cells
  with_after_keeps id other cells = elim (cases_Bool (eqb id 0)) [ inl e ↦ rw e refl | inr e ↦ rw e (keeps cells id _) ]

  with_before_keeps : (id other : ℕ) (cells : Cells) → shown (with_before with_link link_of id other cells) ≡ shown cells
  with_before_keeps id other cells = elim (cases_Bool (eqb id 0)) [ inl e ↦ rw e refl | inr e ↦ rw e (keeps cells id _) ]

  pub linked_in_keeps : (ids : List ℕ) (id : ℕ) (cells : Cells) → shown (linked_in with_link link_of ids id cells) ≡ shown cells
  linked_in_keeps ids id cells =
      with_before_keeps (number (after ids id)) id _ ∙ with_after_keeps (number (before ids id)) id _ ∙ keeps cells id _

  pub linked_out_keeps : (ids : List ℕ) (id : ℕ) (cells : Cells) → shown (linked_out with_link link_of ids id cells) ≡ shown cells
  linked_out_keeps ids id cells =
      with_before_keeps (number (after ids id)) (number (before ids id)) _ ∙ with_after_keeps (number (before ids id)) (number (after ids id)) cells
