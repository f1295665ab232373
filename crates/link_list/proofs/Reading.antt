-- How a list is read off the links, and how long it can be.
use Rattle.std.proofs.Common.{◌≡◌, ◌≢◌, ◌≤◌, Bool, true, false, List, [], ◌∷◌, ℕ, zero, suc, length, refl, sym, ap, ◌∙◌, arith}
use Rattle.std.proofs.lemmas.Bool.{false≢true}
use Rattle.link_list.specs.declared.link.Head.{Head}
use Rattle.link_list.specs.declared.link.Link.{Link}
use Rattle.odb_base.specs.Ids.{first}
use Rattle.link_list.specs.Standing.{AreLinked, Stands, members_from, number}
use Rattle.link_list.proofs.Linking.{member_is_cell}
use Rattle.odb_base.proofs.Distinct.{AreUpTo, length-distinct}

module _ (cell : ℕ → Bool) (link : ℕ → Link) (none : cell 0 ≡ false) where
  some_cell : (id : ℕ) → cell id ≡ true → id ≢ 0
  some_cell id is e = false≢true (sym none ∙ ap cell (sym e) ∙ is)

  -- the members from the first one on
  pub members-linked : (b : ℕ) (ids : List ℕ) (most : ℕ) → AreLinked cell link b ids 0 → length ids ≤ most → members_from link most (number (first ids)) ≡ ids
  members-linked b [] zero h few = refl
  members-linked b [] (suc most) h few = refl
  members-linked b (x ∷ xs) zero h few = absurd (omega (arith, few))
  members-linked b (zero ∷ xs) (suc most) h few = absurd (some_cell 0 h.0 refl)
  members-linked b (suc x ∷ xs) (suc most) h few =
      ap (λ l. suc x ∷ l) (ap (λ (l : Link). members_from link most l.after) h.1 ∙ members-linked (suc x) xs most h.2 (omega (arith, few)))

  -- the list that a head stands for is read off the links
  pub members-stands : (head : Head) (ids : List ℕ) (most : ℕ) → ((id : ℕ) → cell id ≡ true → id ≤ most) → Stands cell link head ids → members_from link most head.first ≡ ids
  members-stands head ids most few h =
      let up_to : AreUpTo most ids = λ id inside.
      let is = member_is_cell cell link 0 ids 0 id h.linked inside in
      let some = some_cell id is in
      (omega (arith, some), few id is)
      in
      ap (members_from link most) h.first_member ∙ members-linked 0 ids most h.linked (length-distinct most ids h.distinct up_to)
