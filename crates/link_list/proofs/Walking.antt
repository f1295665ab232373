-- A walk along a list to its last member.
use Rattle.std.proofs.Common.{◌≡◌, ◌≢◌, ◌<◌, true, false, cond, eqb, List, [], ◌∷◌, ◌++◌, ℕ, length, refl, sym, ap, ◌∙◌, inl, inr, arith}
use Rattle.std.proofs.lemmas.Bool.{cases_Bool, eq-eqb, false≢true, false_from_ne_true, or_left, or_parts}
use Rattle.odb_base.specs.Ids.{IsDistinct, first, holds}
use Rattle.link_list.specs.Standing.{last_or, number}
use Rattle.odb_base.proofs.Splits.{Split, parts_of}

-- the part of a list that begins with an identifier
abbrev pub from : ℕ → List ℕ → List ℕ
from id [] = []
from id (x ∷ xs) = cond (eqb x id) (x ∷ xs) (from id xs)

pub from-split : (front back : List ℕ) (id : ℕ) → holds front id ≡ false → from id (front ++ id ∷ back) ≡ id ∷ back
from-split [] back id h = rw (eq-eqb id id refl) refl
from-split (x ∷ xs) back id h =
    let parts = or_parts (eqb x id) (holds xs id) h in
    rw parts.0 (from-split xs back id parts.1)

pub from-outside : (ids : List ℕ) (id : ℕ) → holds ids id ≡ false → from id ids ≡ []
from-outside [] id h = refl
from-outside (x ∷ xs) id h =
    let parts = or_parts (eqb x id) (holds xs id) h in
    rw parts.0 (from-outside xs id parts.1)

-- a list begins with its first member
pub from-first : (ids : List ℕ) → holds ids 0 ≡ false → from (number (first ids)) ids ≡ ids
from-first [] h = refl
from-first (x ∷ xs) h = rw (eq-eqb x x refl) refl

-- a list cut behind a member is cut before what follows
append_one : (front back : List ℕ) (id : ℕ) → (front ++ id ∷ []) ++ back ≡ front ++ id ∷ back
append_one [] back id = refl
append_one (x ∷ xs) back id = ap (λ l. x ∷ l) (append_one xs back id)

-- what begins with the member after another is the rest behind that one
from_next-split : (front back : List ℕ) (id : ℕ) → IsDistinct ((front ++ id ∷ []) ++ back) → holds ((front ++ id ∷ []) ++ back) 0 ≡ false → from (number (first back)) ((front ++ id ∷ []) ++ back) ≡ back
from_next-split front [] id distinct zero = from-outside ((front ++ id ∷ []) ++ []) 0 zero
from_next-split front (y ∷ ys) id distinct zero =
    let parts = parts_of (front ++ id ∷ []) (y ∷ ys) distinct in
    from-split (front ++ id ∷ []) ys y (false_from_ne_true (holds (front ++ id ∷ []) y) (λ both. false≢true (sym (parts.apart y both) ∙ or_left (eqb y y) (holds ys y) (eq-eqb y y refl))))

-- where a walk has come to a member, and where it goes from there
pub record Step (id : ℕ) (ids : List ℕ) (next : ℕ) : Type 0 where
  pub rest : List ℕ
  pub here : from id ids ≡ id ∷ rest
  pub there : from next ids ≡ rest
  pub named : next ≡ number (first rest)

pub step_of : (id next : ℕ) (ids : List ℕ) (s : Split id ids) → IsDistinct ids → holds ids 0 ≡ false → next ≡ number (first s.back) → Step id ids next
step_of id next ids s distinct zero e = record {
  rest = s.back;
  here = ap (from id) s.is ∙ from-split s.front s.back id s.apart;
  there =
      let is : ids ≡ (s.front ++ id ∷ []) ++ s.back = s.is ∙ sym (append_one s.front s.back id) in
      rw (e, is) (from_next-split s.front s.back id (rw is at distinct) (rw is at zero));
  named = e;
}

-- the member that a walk has come to
pub walk_member : (id : ℕ) (ids : List ℕ) → id ≢ 0 → id ≡ number (first (from id ids)) → holds ids id ≡ true
walk_member id ids some e = elim (cases_Bool (holds ids id)) [
  | inl inside ↦ inside
  | inr outside ↦ absurd (some (e ∙ ap (λ l. number (first l)) (from-outside ids id outside)))
]

pub walk_first : (id : ℕ) (ids : List ℕ) (next : ℕ) → Step id ids next → next ≡ number (first (from next ids))
walk_first id ids next step = step.named ∙ ap (λ l. number (first l)) (sym step.there)

-- the last member is the last of what is left
pub walk_last : (id : ℕ) (ids : List ℕ) (next last : ℕ) → Step id ids next → last_or last (from id ids) ≡ last_or 0 ids → last_or id (from next ids) ≡ last_or 0 ids
walk_last id ids next last step h = ap (last_or id) step.there ∙ sym (ap (last_or last) step.here) ∙ h

pub walk_shorter : (id : ℕ) (ids : List ℕ) (next : ℕ) → Step id ids next → length (from next ids) < length (from id ids)
walk_shorter id ids next step = omega (arith, ap length step.there, ap length step.here)

pub walk_end : (id : ℕ) (ids : List ℕ) (last : ℕ) → holds ids 0 ≡ false → id ≡ 0 → last_or last (from id ids) ≡ last_or 0 ids → last ≡ last_or 0 ids
walk_end id ids last zero e h = sym (ap (last_or last) (ap (λ k. from k ids) e ∙ from-outside ids 0 zero)) ∙ h
