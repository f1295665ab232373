-- Lists of identifiers, cut at a member.
use Rattle.std.proofs.Common.{◌≡◌, ◌≢◌, true, false, eqb, List, [], ◌∷◌, ◌++◌, ℕ, Option, Some, None, IsTrue, refl, sym, ap, ◌∙◌, inl, inr, append-nil}
use Rattle.std.specs.Option.{IfSome}
use Rattle.std.proofs.lemmas.Bool.{cases_Bool, or_parts}
use Rattle.link_list.specs.Ids.{before, before_from}
use Rattle.odb_base.specs.Ids.{first, holds, placed, placed_before}
use Rattle.odb_base.proofs.Splits.{eqb-refl, placed_before-split, split_at}
use Rattle.link_list.specs.Standing.{last_or, left_of, number}

before_from-split : (last : Option ℕ) (front back : List ℕ) (id : ℕ) → holds front id ≡ false → number (before_from last (front ++ id ∷ back) id) ≡ last_or (number last) front
before_from-split last [] back id h = rw eqb-refl refl
before_from-split last (x ∷ xs) back id h =
    let parts = or_parts (eqb x id) (holds xs id) h in
    rw parts.0 (before_from-split (Some x) xs back id parts.1)

pub before-split : (front back : List ℕ) (id : ℕ) → holds front id ≡ false → number (before (front ++ id ∷ back) id) ≡ last_or 0 front
before-split front back id h = before_from-split None front back id h

-- the last member is a member
pub holds-last : (id : ℕ) (ids : List ℕ) → holds (id ∷ ids) (last_or id ids) ≡ true
holds-last id [] = rw eqb-refl refl
holds-last id (x ∷ xs) = elim (cases_Bool (eqb id (last_or x xs))) [
  | inl e ↦ rw e refl
  | inr e ↦ rw e (holds-last x xs)
]

-- the last number of a list, where it isn't 0, is a member
pub last_in : (ids : List ℕ) → last_or 0 ids ≢ 0 → holds ids (last_or 0 ids) ≡ true
last_in [] h = absurd (h refl)
last_in (x ∷ xs) h = holds-last x xs

-- the first number of a list, where it isn't 0, is a member
pub first_in : (ids : List ℕ) → number (first ids) ≢ 0 → holds ids (number (first ids)) ≡ true
first_in [] h = absurd (h refl)
first_in (x ∷ xs) h = rw eqb-refl refl

-- Where an identifier comes in a list: between two parts, whose ends have these numbers.
pub record Place (id before after : ℕ) (ids placed : List ℕ) : Type 0 where
  pub front : List ℕ
  pub back : List ℕ
  pub is : ids ≡ front ++ back
  pub becomes : placed ≡ front ++ id ∷ back
  pub left : before ≡ last_or 0 front
  pub right : after ≡ number (first back)

-- at the front
pub front_place : (id : ℕ) (ids : List ℕ) (head : ℕ) → head ≡ number (first ids) → Place id 0 head ids (id ∷ ids)
front_place id ids head e = record { front = []; back = ids; is = refl; becomes = refl; left = refl; right = e }

-- before a member, or last
pub place_of : (id : ℕ) (ids : List ℕ) (next : Option ℕ) → IfSome next (λ member. IsTrue (holds ids member)) → Place id (left_of ids next) (number next) ids (placed id next ids)
place_of id ids None h = record { front = ids; back = []; is = sym (append-nil ids); becomes = refl; left = refl; right = refl }
place_of id ids (Some next) h =
    let s = split_at next ids h in
    record {
      front = s.front;
      back = next ∷ s.back;
      is = s.is;
      becomes = ap (placed_before id next) s.is ∙ placed_before-split s.front s.back id next s.apart;
      left = ap (λ l. number (before l next)) s.is ∙ before-split s.front s.back next s.apart;
      right = refl;
    }
