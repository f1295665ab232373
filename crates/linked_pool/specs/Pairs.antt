-- The slots of two pools as the cells of one sort of linked lists: twice the id for those of the first pool, and one
-- more than twice the id for those of the second.
use Rattle.std.proofs.Common.{◌≡◌, ◌≢◌, ◌==◌, ◌%◌, ◌/◌, Bool, true, false, ℕ, refl, sym, ◌∙◌, inl, inr, arith}
use Rattle.std.proofs.lemmas.Bool.{cases_Bool, eqb-true, eqb-false}
use Rattle.std.specs.Prelude.{if◌then◌else◌}
use Rattle.link_list.specs.declared.link.Link.{Link}
use Rattle.linked_pool.specs.declared.pairs.PairedPools.{PairedPools}
use Rattle.linked_pool.specs.Linking as one

-- the number of a member is even: it is of the first kind
abbrev pub is_first : ℕ → Bool
is_first number = number % 2 == 0

-- two numbers of one kind have two ids
apart_halves : (number other : ℕ) → number % 2 ≡ other % 2 → other ≢ number → other / 2 ≢ number / 2
apart_halves number other same apart half =
    let equal : other ≡ number = omega (arith, same, half) in
    absurd (apart equal)

apart_first : (number other : ℕ) → is_first number ≡ true → is_first other ≡ true → other ≢ number → other / 2 ≢ number / 2
apart_first number other e f apart = apart_halves number other (eqb-true (number % 2) 0 e ∙ sym (eqb-true (other % 2) 0 f)) apart

apart_second : (number other : ℕ) → is_first number ≡ false → is_first other ≡ false → other ≢ number → other / 2 ≢ number / 2
apart_second number other e f apart =
    let some = eqb-false (number % 2) 0 e in
    let other_some = eqb-false (other % 2) 0 f in
    apart_halves number other (omega (arith, some, other_some)) apart

module _ {A B : Type 0} where
  -- the number has an object
  abbrev pub cell : PairedPools A B → ℕ → Bool
  cell pools number = if is_first number then one.cell pools.first (number / 2) else one.cell pools.second (number / 2)

  -- the link beside its object
  abbrev pub link_of : PairedPools A B → ℕ → Link
  link_of pools number = if is_first number then one.link_of pools.first (number / 2) else one.link_of pools.second (number / 2)

  -- the pools with another link beside the object of a number
  abbrev pub with_link : PairedPools A B → ℕ → Link → PairedPools A B
  with_link pools number link =
      if is_first number
      then record pools { first = one.with_link pools.first (number / 2) link }
      else record pools { second = one.with_link pools.second (number / 2) link }

  -- The laws of cells.

  -- 0 has no object
  pub cell-none : (pools : PairedPools A B) → cell pools 0 ≡ false
  cell-none pools = refl

  -- where a link is set, the same numbers have objects
  pub cell-with_link : (pools : PairedPools A B) (number other : ℕ) (link : Link) → cell pools number ≡ true → cell (with_link pools number link) other ≡ cell pools other
  cell-with_link pools number other link is = elim (cases_Bool (is_first number)) [
    | inl e ↦ elim (cases_Bool (is_first other)) [
      | inl f ↦ rw (e, f) (one.cell-with_link pools.first (number / 2) (other / 2) link (rw e at is))
      | inr f ↦ rw (e, f) refl
    ]
    | inr e ↦ elim (cases_Bool (is_first other)) [
      | inl f ↦ rw (e, f) refl
      | inr f ↦ rw (e, f) (one.cell-with_link pools.second (number / 2) (other / 2) link (rw e at is))
    ]
  ]

  -- the link that was set is there
  pub link_of-set : (pools : PairedPools A B) (number : ℕ) (link : Link) → cell pools number ≡ true → link_of (with_link pools number link) number ≡ link
  link_of-set pools number link is = elim (cases_Bool (is_first number)) [
    | inl e ↦ rw e (one.link_of-set pools.first (number / 2) link (rw e at is))
    | inr e ↦ rw e (one.link_of-set pools.second (number / 2) link (rw e at is))
  ]

  -- and no other link changes
  pub link_of-others : (pools : PairedPools A B) (number other : ℕ) (link : Link) → cell pools number ≡ true → other ≢ number → link_of (with_link pools number link) other ≡ link_of pools other
  link_of-others pools number other link is apart = elim (cases_Bool (is_first number)) [
    | inl e ↦ elim (cases_Bool (is_first other)) [
      | inl f ↦ rw (e, f) (one.link_of-others pools.first (number / 2) (other / 2) link (rw e at is) (apart_first number other e f apart))
      | inr f ↦ rw (e, f) refl
    ]
    | inr e ↦ elim (cases_Bool (is_first other)) [
      | inl f ↦ rw (e, f) refl
      | inr f ↦ rw (e, f) (one.link_of-others pools.second (number / 2) (other / 2) link (rw e at is) (apart_second number other e f apart))
    ]
  ]
