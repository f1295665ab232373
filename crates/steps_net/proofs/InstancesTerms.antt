-- The terminals of an instance in their table: taken one after the other, taken back, and given.
use Rattle.std.proofs.Common.{◌≡◌, ◌≢◌, ◌+◌, ◌-◌, ◌<◌, ◌≤◌, ◌⊎◌, Bool, true, false, cond, List, [], ◌∷◌, ◌++◌, ℕ, zero, suc, Option, Some, None, IsTrue, is_some, count_by, drop, get_or, length, slice_get, leb, refl, sym, ap, subst, ◌∙◌, add-one, drop-cons, arith, inl, inr}
use Rattle.std.specs.Option.{option_map}
use Rattle.std.proofs.Math.Nat.{sub-zero, zero-sub}
use Rattle.std.proofs.lemmas.Bool.{cases_eq}
use Rattle.std.proofs.lemmas.Bool.Decides.{nat_tests}
use Rattle.std.proofs.lemmas.List.{length-set, length_push}
use Rattle.std.proofs.lemmas.List.Sums.{count_by-le-length, sum_by-set}
use Rattle.block_records.specs.declared.iterm.ITermRec.{ITermRec}
use Rattle.slot_pool.specs.Table.{CanUntake, IsGood, Table, given, is_live, next_id, record_at, taken, taken_by, untaken, with_slot}
use Rattle.slot_pool.proofs.Counts.{vacant_within}
use Rattle.slot_pool.proofs.Tables.{IsGood-taken, top_is}
use Rattle.block_store.specs.Block.{is_empty}
use Rattle.slot_pool.proofs.Mapped.{at_given, at_given_other, at_next, at_taken, at_taken_other}
use Rattle.block_store.proofs.TableLemmas.{back_given, back_taken, can_untake, good_given, good_taken, slots_given, slots_taken}
use Rattle.steps_net.specs.Back.{terms_untaken}
use Rattle.steps_net.specs.Can.{AreNext}
use Rattle.steps_net.specs.Do.{fresh_iterm, terms_given, terms_taken}
use Rattle.steps_net.specs.Terms.{AreGivable, AreUntakable}

-- The lists, place by place.

-- what stands behind a place begins with what stands there
pub drop_here : (ids : List ℕ) (place : ℕ) → place < length ids → drop place ids ≡ get_or ids place 0 ∷ drop (place + 1) ids
drop_here ids place within = drop-cons ids place 0 within ∙ ap (λ n. get_or ids place 0 ∷ drop n ids) (sym (add-one place))

-- what stands behind the place before
pub drop_before : (ids : List ℕ) (place : ℕ) → 0 < place → place ≤ length ids → drop (place - 1) ids ≡ get_or ids (place - 1) 0 ∷ drop place ids
drop_before ids place some within =
    let back : place - 1 + 1 ≡ place = omega arith in
    drop_here ids (place - 1) (omega arith) ∙ ap (λ n. get_or ids (place - 1) 0 ∷ drop n ids) back

-- a member of the list that is behind another one
behind : (id : ℕ) (ids : List ℕ) (part : ℕ) → id ≢ part → ((j : ℕ) → slice_get ids j ≢ Some part) → (j : ℕ) → slice_get (id ∷ ids) j ≢ Some part
behind id ids part other none zero at = other (cc)
behind id ids part other none (suc j) at = none j at

-- a member stands at some place of the list, or at none
pub somewhere_or_not : (ids : List ℕ) (part : ℕ) → ((j : ℕ) × (slice_get ids j ≡ Some part)) ⊎ ((j : ℕ) → slice_get ids j ≢ Some part)
somewhere_or_not [] part = inr (λ j at. cc)
somewhere_or_not (id ∷ ids) part = elim (cases_eq id part) [
  | inl same ↦ inl (0, ap Some same)
  | inr other ↦ elim (somewhere_or_not ids part) [
    | inl here ↦ inl (suc here.0, here.1)
    | inr none ↦ inr (behind id ids part other none)
  ]
]

-- a take adds a slot where no identifier is free
grew_count : (free : List ℕ) → cond (is_empty free) 1 0 ≡ 1 - length free
grew_count [] = refl
grew_count (id ∷ free) = omega arith

module _ {A : Type 0} where
  -- an identifier with a record isn't one without
  pub absent_differs : (t : Table A) (id other : ℕ) (x : A) → record_at t id ≡ Some x → record_at t other ≡ None → id ≢ other
  absent_differs t id other x found none same =
      let both : None ≡ Some x = sym none ∙ ap (record_at t) (sym same) ∙ found in
      cc

  free_taken_by : (x : A) (slots : List (Option A)) (free : List ℕ) → length (taken_by x slots free).free ≡ length free - 1
  free_taken_by x slots [] = refl
  free_taken_by x slots (top ∷ below) = omega arith

  -- a take uses a free identifier, where there is one
  pub free_taken : (x : A) (t : Table A) → length (taken x t).free ≡ length t.free - 1
  free_taken x t = free_taken_by x t.slots t.free

  next_taken_by : (x : A) (slots : List (Option A)) (free : List ℕ) (k : ℕ) → next_id (taken_by x slots free) k ≡ next_id (record { slots = slots; free = free }) (k + 1)
  next_taken_by x slots [] k = omega (arith, length_push slots (Some x))
  next_taken_by x slots (top ∷ below) k =
      let past : length (with_slot top (Some x) slots) + (k + 1 - length below) ≡ length slots + (k + 1 + 1 - length (top ∷ below)) = omega (arith, length-set slots (top - 1) (Some x)) in
      ap (get_or below k) past ∙ ap (λ n. get_or (top ∷ below) n (length slots + (k + 1 + 1 - length (top ∷ below)))) (sym (add-one k))

  -- what a table gives after a take, it would have given one take later
  pub next_taken : (x : A) (t : Table A) (k : ℕ) → next_id (taken x t) k ≡ next_id t (k + 1)
  next_taken x t k = next_taken_by x t.slots t.free k

  pub tail_next : (x : A) (t : Table A) (id : ℕ) (ids : List ℕ) → AreNext (id ∷ ids) t → AreNext ids (taken x t)
  tail_next x t id ids next k other at = next (suc k) other at ∙ ap (next_id t) (sym (add-one k)) ∙ sym (next_taken x t k)

  pub more_slots : (x : A) (t : Table A) → length (taken x t).slots ≡ length t.slots + (1 - length t.free)
  more_slots x t = slots_taken x t ∙ ap (λ n. length t.slots + n) (grew_count t.free)

  free_within_by : (x : A) (slots : List (Option A)) (free : List ℕ) → IsGood (record { slots = slots; free = free }) → length free + count_by is_some slots ≤ length slots
  free_within_by x slots [] good = omega (arith, count_by-le-length is_some slots)
  free_within_by x slots (top ∷ below) good =
      let vacant = vacant_within slots top (top_is slots top below good).0 in
      let more = sum_by-set (λ slot. cond (is_some slot) 1 0) slots (top - 1) (Some x) None (omega (arith, vacant.0, vacant.1)) in
      let empty : is_some (get_or slots (top - 1) None) ≡ false = ap is_some vacant.2 in
      let one : count_by is_some (with_slot top (Some x) slots) + 0 ≡ count_by is_some slots + 1 = rw empty at more in
      let rest = free_within_by x (with_slot top (Some x) slots) below (IsGood-taken x slots (top ∷ below) good) in
      omega (arith, one, rest, length-set slots (top - 1) (Some x))

  -- no more identifiers are free than there are slots
  pub free_within : (x : A) (t : Table A) → IsGood t → length t.free ≤ length t.slots
  free_within x t good = omega (arith, free_within_by x t.slots t.free good)

-- Terminals that are taken.

-- one more is taken
pub take_more : (inst : ℕ) (ids : List ℕ) (place : ℕ) (t : Table ITermRec) → place < length ids
    → terms_taken inst (place + 1) (drop (place + 1) ids) (taken (fresh_iterm inst place) t) ≡ terms_taken inst place (drop place ids) t
take_more inst ids place t within = sym (ap (λ l. terms_taken inst place l t) (drop_here ids place within))

pub good_terms : (inst k : ℕ) (ids : List ℕ) (t : Table ITermRec) → IsGood t → IsGood (terms_taken inst k ids t)
good_terms inst k [] t good = good
good_terms inst k (id ∷ ids) t good = good_terms inst (k + 1) ids (taken (fresh_iterm inst k) t) (good_taken (fresh_iterm inst k) t good)

-- how many slots the terminals add
pub slots_terms : (inst k : ℕ) (ids : List ℕ) (t : Table ITermRec) → length (terms_taken inst k ids t).slots ≡ length t.slots + (length ids - length t.free)
slots_terms inst k [] t = omega arith
slots_terms inst k (id ∷ ids) t =
    let x = fresh_iterm inst k in
    omega (arith, slots_terms inst (k + 1) ids (taken x t), more_slots x t, free_taken x t)

-- what was there stays
pub kept_terms : (inst k : ℕ) (ids : List ℕ) (t : Table ITermRec) (part : ℕ) (r : ITermRec) → IsGood t → record_at t part ≡ Some r → record_at (terms_taken inst k ids t) part ≡ Some r
kept_terms inst k [] t part r good found = found
kept_terms inst k (id ∷ ids) t part r good found =
    let x = fresh_iterm inst k in
    let other = absent_differs t part (next_id t 0) r found (at_next t good) in
    kept_terms inst (k + 1) ids (taken x t) part r (good_taken x t good) (at_taken_other x t part good other ∙ found)

-- a later place, counted from the place after
later : (inst k j : ℕ) → Some (fresh_iterm inst (k + 1 + j)) ≡ Some (fresh_iterm inst (k + suc j))
later inst k j = ap (λ n. Some (fresh_iterm inst n)) (omega arith)

-- the new terminals are there
pub new_terms : (inst k : ℕ) (ids : List ℕ) (t : Table ITermRec) (j part : ℕ) → IsGood t → AreNext ids t → slice_get ids j ≡ Some part → record_at (terms_taken inst k ids t) part ≡ Some (fresh_iterm inst (k + j))
new_terms inst k [] t j part good next at = cc
new_terms inst k (id ∷ ids) t zero part good next at =
    let x = fresh_iterm inst k in
    let here = ap (record_at (taken x t)) (next 0 part at) ∙ at_taken x t good in
    kept_terms inst (k + 1) ids (taken x t) part x (good_taken x t good) here ∙ ap (λ n. Some (fresh_iterm inst n)) (omega arith)
new_terms inst k (id ∷ ids) t (suc j) part good next at =
    let x = fresh_iterm inst k in
    new_terms inst (k + 1) ids (taken x t) j part (good_taken x t good) (tail_next x t id ids next) at ∙ later inst k j

-- what is there now was there, or is one of the new ones
pub found_terms : (inst k : ℕ) (ids : List ℕ) (t : Table ITermRec) (part : ℕ) (r : ITermRec) → IsGood t → AreNext ids t → record_at (terms_taken inst k ids t) part ≡ Some r
    → (record_at t part ≡ Some r) ⊎ ((j : ℕ) × (slice_get ids j ≡ Some part) × (Some r ≡ Some (fresh_iterm inst (k + j))))
found_terms inst k [] t part r good next found = inl found
found_terms inst k (id ∷ ids) t part r good next found =
    let x = fresh_iterm inst k in
    elim (found_terms inst (k + 1) ids (taken x t) part r (good_taken x t good) (tail_next x t id ids next) found) [
      | inl old ↦ elim (cases_eq part (next_id t 0)) [
        | inl same ↦ inr (0, ap Some (next 0 id refl ∙ sym same), sym old ∙ ap (record_at (taken x t)) same ∙ at_taken x t good ∙ ap (λ n. Some (fresh_iterm inst n)) (omega arith))
        | inr other ↦ inl (sym (at_taken_other x t part good other) ∙ old)
      ]
      | inr new ↦ inr (suc new.0, new.1, new.2 ∙ later inst k new.0)
    ]

-- New terminals taken back.

-- of so many that had free identifiers before this one, how many before the next one; and whether it added a slot
pub data IsTurn : ℕ → ℕ → Bool → Type 0 where
  Grew : IsTurn 0 0 true
  Reused : (n : ℕ) → IsTurn (suc n) n false

turn_by : (reused rest : ℕ) (grew : Bool) → (grew ≡ true → (reused ≡ 0) × (rest ≡ 0)) → (grew ≡ false → reused ≡ suc rest) → IsTurn reused rest grew
turn_by reused rest true last more = let h = last refl in rw (h.0, h.1) Grew
turn_by reused rest false last more = rw (more refl) (Reused rest)

-- at a place of the list
pub turn_at : (reused place : ℕ) → 0 < place → IsTurn (reused - (place - 1)) (reused - place) (leb reused (place - 1))
turn_at reused place some = turn_by _ _ _ (λ h. (grind (arith, nat_tests, h), grind (arith, nat_tests, h))) (λ h. grind (arith, nat_tests, h))

turn_of_free : (count reused : ℕ) (free : List ℕ) → reused ≡ suc count - (suc count - length free) → IsTurn reused (count - (count - (length free - 1))) (is_empty free)
turn_of_free count reused [] is = turn_by _ _ _ (λ h. (omega arith, omega arith)) (λ h. cc)
turn_of_free count reused (id ∷ free) is = turn_by _ _ _ (λ h. cc) (λ h. omega arith)

pub untaken_turn : (n m : ℕ) (grew : Bool) (id : ℕ) (ids : List ℕ) (t : Table ITermRec) → IsTurn n m grew → terms_untaken n (id ∷ ids) t ≡ untaken id grew (terms_untaken m ids t)
untaken_turn _ _ _ id ids t Grew = refl
untaken_turn _ _ _ id ids t (Reused n) = refl

untakable_turn : (n m : ℕ) (grew : Bool) (id : ℕ) (ids : List ℕ) (t : Table ITermRec) → IsTurn n m grew
    → CanUntake (terms_untaken m ids t) id grew → AreUntakable m ids t → AreUntakable n (id ∷ ids) t
untakable_turn _ _ _ id ids t Grew can rest = (can, rest)
untakable_turn _ _ _ id ids t (Reused n) can rest = (can, rest)

can_turn : (n m : ℕ) (grew : Bool) (id : ℕ) (ids : List ℕ) (t : Table ITermRec) → IsTurn n m grew → AreUntakable n (id ∷ ids) t → CanUntake (terms_untaken m ids t) id grew
can_turn _ _ _ id ids t Grew can = can.0
can_turn _ _ _ id ids t (Reused n) can = can.0

-- new terminals that are taken back leave the table as it was
pub back_terms : (inst k : ℕ) (ids : List ℕ) (t : Table ITermRec) (reused : ℕ) → IsGood t → AreNext ids t → reused ≡ length ids - (length ids - length t.free)
    → terms_untaken reused ids (terms_taken inst k ids t) ≡ t
back_terms inst k [] t reused good next is = refl
back_terms inst k (id ∷ ids) t reused good next is =
    let x = fresh_iterm inst k in
    let rest = length ids - (length ids - (length t.free - 1)) in
    let turn = turn_of_free (length ids) reused t.free (omega arith) in
    let many : rest ≡ length ids - (length ids - length (taken x t).free) = ap (λ n. length ids - (length ids - n)) (sym (free_taken x t)) in
    let back = back_terms inst (k + 1) ids (taken x t) rest (good_taken x t good) (tail_next x t id ids next) many in
    untaken_turn reused rest (is_empty t.free) id ids (terms_taken inst (k + 1) ids (taken x t)) turn
    ∙ ap (untaken id (is_empty t.free)) back
    ∙ ap (λ n. untaken n (is_empty t.free) (taken x t)) (next 0 id refl)
    ∙ back_taken x t good

-- new terminals can be taken back
pub untakable_terms : (inst k : ℕ) (ids : List ℕ) (t : Table ITermRec) (reused : ℕ) → IsGood t → AreNext ids t → reused ≡ length ids - (length ids - length t.free)
    → AreUntakable reused ids (terms_taken inst k ids t)
untakable_terms inst k [] t reused good next is = tt
untakable_terms inst k (id ∷ ids) t reused good next is =
    let x = fresh_iterm inst k in
    let rest = length ids - (length ids - (length t.free - 1)) in
    let turn = turn_of_free (length ids) reused t.free (omega arith) in
    let many : rest ≡ length ids - (length ids - length (taken x t).free) = ap (λ n. length ids - (length ids - n)) (sym (free_taken x t)) in
    let after = terms_taken inst (k + 1) ids (taken x t) in
    let back = back_terms inst (k + 1) ids (taken x t) rest (good_taken x t good) (tail_next x t id ids next) many in
    let here : CanUntake (taken x t) id (is_empty t.free) = rw (next 0 id refl) (can_untake x t good) in
    let can : CanUntake (terms_untaken rest ids after) id (is_empty t.free) = rw back here in
    untakable_turn reused rest (is_empty t.free) id ids after turn can (untakable_terms inst (k + 1) ids (taken x t) rest (good_taken x t good) (tail_next x t id ids next) many)

-- at a place of the list: what is asked of the terminal there, and what is left where it is taken back
pub untakable_from : (reused place : ℕ) (ids : List ℕ) (t : Table ITermRec) → place ≤ length ids → AreUntakable reused ids t → AreUntakable (reused - place) (drop place ids) t
untakable_from reused zero ids t within can = rw sub-zero can
untakable_from reused (suc place) [] t within can = tt
untakable_from zero (suc place) (id ∷ ids) t within can = rw zero-sub (rw zero-sub at (untakable_from 0 place ids t (omega arith) can.1))
untakable_from (suc reused) (suc place) (id ∷ ids) t within can =
    let same : reused - place ≡ suc reused - suc place = omega arith in
    subst (λ n. AreUntakable n (drop place ids) t) same (untakable_from reused place ids t (omega arith) can.1)

pub untakable_at : (reused place : ℕ) (ids : List ℕ) (t : Table ITermRec) → 0 < place → place ≤ length ids → AreUntakable reused ids t
    → CanUntake (terms_untaken (reused - place) (drop place ids) t) (get_or ids (place - 1) 0) (leb reused (place - 1))
untakable_at reused place ids t some within can =
    let from = untakable_from reused (place - 1) ids t (omega arith) can in
    let split = drop_before ids place some within in
    can_turn _ _ _ _ (drop place ids) t (turn_at reused place some) (rw split at from)

pub untaken_at : (reused place : ℕ) (ids : List ℕ) (t : Table ITermRec) → 0 < place → place ≤ length ids
    → terms_untaken (reused - (place - 1)) (drop (place - 1) ids) t ≡ untaken (get_or ids (place - 1) 0) (leb reused (place - 1)) (terms_untaken (reused - place) (drop place ids) t)
untaken_at reused place ids t some within =
    ap (λ l. terms_untaken (reused - (place - 1)) l t) (drop_before ids place some within)
    ∙ untaken_turn _ _ _ (get_or ids (place - 1) 0) (drop place ids) t (turn_at reused place some)

-- Terminals that are given.

pub slots_terms_given : (ids : List ℕ) (t : Table ITermRec) → length (terms_given ids t).slots ≡ length t.slots
slots_terms_given [] t = refl
slots_terms_given (id ∷ ids) t = slots_given id (terms_given ids t) ∙ slots_terms_given ids t

pub free_terms_given : (ids : List ℕ) (t : Table ITermRec) → (terms_given ids t).free ≡ ids ++ t.free
free_terms_given [] t = refl
free_terms_given (id ∷ ids) t = ap (λ l. id ∷ l) (free_terms_given ids t)

pub good_terms_given : (ids : List ℕ) (t : Table ITermRec) → IsGood t → AreGivable ids t → IsGood (terms_given ids t)
good_terms_given [] t good can = good
good_terms_given (id ∷ ids) t good can = good_given id (terms_given ids t) (good_terms_given ids t good can.1) can.0

-- what isn't given stays
pub kept_given : (ids : List ℕ) (t : Table ITermRec) (part : ℕ) → AreGivable ids t → ((j : ℕ) → slice_get ids j ≢ Some part) → record_at (terms_given ids t) part ≡ record_at t part
kept_given [] t part can none = refl
kept_given (id ∷ ids) t part can none =
    at_given_other id part (terms_given ids t) can.0 (λ same. none 0 (ap Some (sym same))) ∙ kept_given ids t part can.1 (λ j. none (suc j))

-- what is given goes
pub gone_given : (ids : List ℕ) (t : Table ITermRec) (j part : ℕ) → AreGivable ids t → slice_get ids j ≡ Some part → record_at (terms_given ids t) part ≡ None
gone_given [] t j part can at = cc
gone_given (id ∷ ids) t zero part can at =
    let same : id ≡ part = cc in
    ap (record_at (given id (terms_given ids t))) (sym same) ∙ at_given id (terms_given ids t) can.0
gone_given (id ∷ ids) t (suc j) part can at = elim (cases_eq part id) [
  | inl same ↦ ap (record_at (given id (terms_given ids t))) same ∙ at_given id (terms_given ids t) can.0
  | inr other ↦ at_given_other id part (terms_given ids t) can.0 other ∙ gone_given ids t j part can.1 at
]

-- at a place of the list
pub givable_from : (place : ℕ) (ids : List ℕ) (t : Table ITermRec) → AreGivable ids t → AreGivable (drop place ids) t
givable_from zero ids t can = can
givable_from (suc place) [] t can = tt
givable_from (suc place) (id ∷ ids) t can = givable_from place ids t can.1

pub givable_at : (place : ℕ) (ids : List ℕ) (t : Table ITermRec) → 0 < place → place ≤ length ids → AreGivable ids t → IsTrue (is_live (terms_given (drop place ids) t) (get_or ids (place - 1) 0))
givable_at place ids t some within can =
    let from = givable_from (place - 1) ids t can in
    (rw (drop_before ids place some within) at from).0

-- the instance that a terminal names, and its place there
abbrev pub named_place : Option ITermRec → Option (ℕ × ℕ)
named_place r = option_map (λ r. (r.inst, r.index)) r

abbrev pub place_is : ℕ → ℕ → Option (ℕ × ℕ)
place_is inst k = Some (inst, k)

-- the parts of a place, 0 where there is none
abbrev pub number_of : Option (ℕ × ℕ) → ℕ
number_of None = 0
number_of (Some place) = place.1

abbrev pub inst_of : Option (ℕ × ℕ) → ℕ
inst_of None = 0
inst_of (Some place) = place.0

live_named : (r : Option ITermRec) (inst k : ℕ) → named_place r ≡ place_is inst k → IsTrue (is_some r)
live_named None inst k named = cc
live_named (Some r) inst k named = refl

place_apart : (r : Option ITermRec) (inst k j : ℕ) → named_place r ≡ place_is inst (k + 0) → named_place r ≡ place_is inst (k + suc j) → ⊥
place_apart r inst k j one two =
    let same : k + 0 ≡ k + suc j = ap number_of (sym one ∙ two) in
    omega (arith, same)

-- the terminals of an instance, which name it and their places, from k on
abbrev pub AreTermsOf : ℕ → ℕ → List ℕ → Table ITermRec → Type 0
AreTermsOf inst k ids t = (j part : ℕ) → slice_get ids j ≡ Some part → named_place (record_at t part) ≡ place_is inst (k + j)

pub tail_named : (inst k id : ℕ) (ids : List ℕ) (t : Table ITermRec) → AreTermsOf inst k (id ∷ ids) t → AreTermsOf inst (k + 1) ids t
tail_named inst k id ids t named j part at = named (suc j) part at ∙ ap (place_is inst) (omega arith)

-- none of them stands twice in the list
pub head_apart : (inst k id : ℕ) (ids : List ℕ) (t : Table ITermRec) → AreTermsOf inst k (id ∷ ids) t → (j : ℕ) → slice_get ids j ≢ Some id
head_apart inst k id ids t named j at = place_apart (record_at t id) inst k j (named 0 id refl) (named (suc j) id at)

-- and they can be given
pub givable_terms : (inst k : ℕ) (ids : List ℕ) (t : Table ITermRec) → AreTermsOf inst k ids t → AreGivable ids t
givable_terms inst k [] t named = tt
givable_terms inst k (id ∷ ids) t named =
    let rest = givable_terms inst (k + 1) ids t (tail_named inst k id ids t named) in
    let kept = kept_given ids t id rest (head_apart inst k id ids t named) in
    (ap is_some kept ∙ live_named (record_at t id) inst (k + 0) (named 0 id refl), rest)

-- terminals that are joined to nothing
abbrev pub AreFresh : ℕ → ℕ → List ℕ → Table ITermRec → Type 0
AreFresh inst k ids t = (j part : ℕ) → slice_get ids j ≡ Some part → record_at t part ≡ Some (fresh_iterm inst (k + j))

pub tail_fresh : (inst k id : ℕ) (ids : List ℕ) (t : Table ITermRec) → AreFresh inst k (id ∷ ids) t → AreFresh inst (k + 1) ids t
tail_fresh inst k id ids t fresh j part at = fresh (suc j) part at ∙ sym (later inst k j)

pub named_fresh : (inst k : ℕ) (ids : List ℕ) (t : Table ITermRec) → AreFresh inst k ids t → AreTermsOf inst k ids t
named_fresh inst k ids t fresh j part at = ap named_place (fresh j part at)

-- terminals that were given and are taken again leave the table as it was
pub back_terms_given : (inst k : ℕ) (ids : List ℕ) (t : Table ITermRec) → AreFresh inst k ids t → terms_taken inst k ids (terms_given ids t) ≡ t
back_terms_given inst k [] t fresh = refl
back_terms_given inst k (id ∷ ids) t fresh =
    let x = fresh_iterm inst k in
    let named = named_fresh inst k (id ∷ ids) t fresh in
    let rest = givable_terms inst (k + 1) ids t (tail_named inst k id ids t named) in
    let found : record_at (terms_given ids t) id ≡ Some x = kept_given ids t id rest (head_apart inst k id ids t named) ∙ fresh 0 id refl ∙ ap (λ n. Some (fresh_iterm inst n)) (omega arith) in
    ap (terms_taken inst (k + 1) ids) (back_given x id (terms_given ids t) found) ∙ back_terms_given inst (k + 1) ids t (tail_fresh inst k id ids t fresh)
