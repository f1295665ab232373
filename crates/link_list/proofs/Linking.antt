-- Runs of linked identifiers: what keeps one, what changes its ends, and how two make one.
use Rattle.std.proofs.Common.{◌≡◌, ◌≢◌, Bool, true, eqb, List, [], ◌∷◌, ◌++◌, ℕ, refl, sym, ap, ◌∙◌, inl, inr}
use Rattle.std.specs.Option.{unwrap_or}
use Rattle.std.proofs.lemmas.Bool.{cases_Bool, eqb-true, eq-eqb, false≢true}
use Rattle.link_list.specs.declared.link.Link.{Link}
use Rattle.odb_base.specs.Ids.{IsDistinct, first, holds}
use Rattle.link_list.specs.Standing.{AreLinked, last_or, number}
use Rattle.link_list.proofs.Members.{holds-last}
use Rattle.odb_base.proofs.Ids.{member_differs}

holds_first : (id : ℕ) (ids : List ℕ) → holds (id ∷ ids) id ≡ true
holds_first id ids = rw (eq-eqb id id refl) refl

holds_later : (x : ℕ) (ids : List ℕ) (id : ℕ) → holds ids id ≡ true → holds (x ∷ ids) id ≡ true
holds_later x ids id h = elim (cases_Bool (eqb x id)) [ inl e ↦ rw e refl | inr e ↦ rw e h ]

-- a link by its two numbers
abbrev link_between : ℕ → ℕ → Link
link_between b n = record { before = b; after = n }

-- what stands at the front of two parts, or after them
pub first-append : (xs ys : List ℕ) (n : ℕ) → unwrap_or (first (xs ++ ys)) n ≡ unwrap_or (first xs) (unwrap_or (first ys) n)
first-append [] ys n = refl
first-append (x ∷ xs) ys n = refl

module _ (cell : ℕ → Bool) (link : ℕ → Link) where
  -- a member names a cell
  pub member_is_cell : (b : ℕ) (ids : List ℕ) (n id : ℕ) → AreLinked cell link b ids n → holds ids id ≡ true → cell id ≡ true
  member_is_cell b [] n id h inside = absurd (false≢true inside)
  member_is_cell b (x ∷ xs) n id h inside = elim (cases_Bool (eqb x id)) [
    | inl e ↦ rw (eqb-true x id e) at h.0
    | inr e ↦ member_is_cell x xs n id h.2 (rw e at inside)
  ]

  -- two parts make one run
  pub linked_join : (b : ℕ) (xs ys : List ℕ) (n : ℕ) → AreLinked cell link b xs (unwrap_or (first ys) n) → AreLinked cell link (last_or b xs) ys n → AreLinked cell link b (xs ++ ys) n
  linked_join b [] ys n front back = back
  linked_join b (x ∷ xs) ys n front back = (front.0, front.1 ∙ ap (link_between b) (sym (first-append xs ys n)), linked_join x xs ys n front.2 back)

  -- the front part of a run
  pub linked_front : (b : ℕ) (xs ys : List ℕ) (n : ℕ) → AreLinked cell link b (xs ++ ys) n → AreLinked cell link b xs (unwrap_or (first ys) n)
  linked_front b [] ys n h = tt
  linked_front b (x ∷ xs) ys n h = (h.0, h.1 ∙ ap (link_between b) (first-append xs ys n), linked_front x xs ys n h.2)

  -- the back part of a run
  pub linked_back : (b : ℕ) (xs ys : List ℕ) (n : ℕ) → AreLinked cell link b (xs ++ ys) n → AreLinked cell link (last_or b xs) ys n
  linked_back b [] ys n h = h
  linked_back b (x ∷ xs) ys n h = linked_back x xs ys n h.2

module _ (cell cell' : ℕ → Bool) (link link' : ℕ → Link) where
  -- a run whose members are cells still, with the links that they had
  pub linked_stays : (b : ℕ) (ids : List ℕ) (n : ℕ) → AreLinked cell link b ids n → ((k : ℕ) → holds ids k ≡ true → (cell' k ≡ true) × (link' k ≡ link k)) → AreLinked cell' link' b ids n
  linked_stays b [] n h kept = tt
  linked_stays b (x ∷ xs) n h kept =
      let here = kept x (holds_first x xs) in
      (here.0, here.1 ∙ h.1, linked_stays x xs n h.2 (λ k inside. kept k (holds_later x xs k inside)))

module _ (cell cell' : ℕ → Bool) (link link' : ℕ → Link) (same : (k : ℕ) → cell' k ≡ cell k) where
  -- a run whose links are as they were
  pub linked_kept : (b : ℕ) (ids : List ℕ) (n : ℕ) → AreLinked cell link b ids n → ((k : ℕ) → holds ids k ≡ true → link' k ≡ link k) → AreLinked cell' link' b ids n
  linked_kept b ids n h others =
      linked_stays cell cell' link link' b ids n h (λ k inside. (same k ∙ member_is_cell cell link b ids n k h inside, others k inside))

  -- a run whose first member has another before it
  pub linked_first : (b b' : ℕ) (ids : List ℕ) (n : ℕ) → AreLinked cell link b ids n → IsDistinct ids → ((k : ℕ) → holds ids k ≡ true → k ≢ number (first ids) → link' k ≡ link k) → ((k : ℕ) → holds ids k ≡ true → k ≡ number (first ids) → link' k ≡ record { before = b'; after = (link k).after }) → AreLinked cell' link' b' ids n
  linked_first b b' [] n h distinct others set = tt
  linked_first b b' (x ∷ xs) n h distinct others set = (
    same x ∙ h.0,
    set x (holds_first x xs) refl ∙ ap (λ (l : Link). record { before = b'; after = l.after }) h.1,
    linked_kept x xs n h.2 (λ k inside. others k (holds_later x xs k inside) (member_differs xs k x inside distinct.0)),
  )

  -- a run whose last member has another after it
  pub linked_last : (b : ℕ) (ids : List ℕ) (n n' : ℕ) → AreLinked cell link b ids n → IsDistinct ids → ((k : ℕ) → holds ids k ≡ true → k ≢ last_or 0 ids → link' k ≡ link k) → ((k : ℕ) → holds ids k ≡ true → k ≡ last_or 0 ids → link' k ≡ record { before = (link k).before; after = n' }) → AreLinked cell' link' b ids n'
  linked_last b [] n n' h distinct others set = tt
  linked_last b (x ∷ []) n n' h distinct others set = (
    same x ∙ h.0,
    set x (holds_first x []) refl ∙ ap (λ (l : Link). record { before = l.before; after = n' }) h.1,
    tt,
  )
  linked_last b (x ∷ y ∷ ys) n n' h distinct others set = (
    same x ∙ h.0,
    others x (holds_first x (y ∷ ys)) (λ e. member_differs (y ∷ ys) (last_or y ys) x (holds-last y ys) distinct.0 (sym e)) ∙ h.1,
    linked_last x (y ∷ ys) n n' h.2 distinct.1 (λ k inside. others k (holds_later x (y ∷ ys) k inside)) (λ k inside. set k (holds_later x (y ∷ ys) k inside)),
  )
