-- Which records stand where after a move.
use Rattle.std.proofs.Common.{◌≡◌, ℕ, ◌+◌, ◌-◌, ◌≤◌, true, cond, eqb, List, [], ◌∷◌, ◌++◌, length, Option, Some, None, arith}
use Rattle.std.proofs.lemmas.Bool.Decides.{nat_tests}
use Rattle.std.proofs.lemmas.List.{length_push, get_or_push, get_or_append_left, get_or_past}
use Rattle.std.proofs.lemmas.Grind.{elements}
use Rattle.slot_pool.specs.Table.{Table, record_in, with_slot, is_live, IsGood, RecordsAfterTake, RecordsAfterGive, RecordsAfterReplace}
use Rattle.slot_pool.proofs.Counts.{vacant_within, live_within}
use Rattle.slot_pool.proofs.Tables.{top_is}

module _ {A : Type 0} where
  -- one slot has new content
  record_in-with_slot : (slots : List (Option A)) (content : Option A) (changed id : ℕ) → 1 ≤ changed → changed ≤ length slots → record_in (with_slot changed content slots) id ≡ cond (eqb id changed) content (record_in slots id)
  record_in-with_slot slots content changed id some within = grind (arith, nat_tests, elements)

  -- a slot is added
  record_in-push : (slots : List (Option A)) (content : Option A) (id : ℕ) → record_in (slots ++ content ∷ []) id ≡ cond (eqb id (length slots + 1)) content (record_in slots id)
  record_in-push slots content id =
      let long = length_push slots content in
      let at = get_or_push slots content None (id - 1) in
      let before = get_or_append_left slots (content ∷ []) None (id - 1) in
      let past = get_or_past (slots ++ content ∷ []) (id - 1) None in
      let none = get_or_past slots (id - 1) None in
      grind (arith, nat_tests, long, at, before, past, none)

  -- a take puts the record at the next id, and leaves the others
  record_at-taken_by : (x : A) (slots : List (Option A)) (free : List ℕ) → IsGood (record { slots = slots; free = free }) → RecordsAfterTake x (record { slots = slots; free = free })
  record_at-taken_by x slots [] good = λ id. record_in-push slots (Some x) id
  record_at-taken_by x slots (top ∷ below) good =
      let vacant = vacant_within slots top (top_is slots top below good).0 in
      λ id. record_in-with_slot slots (Some x) top id vacant.0 vacant.1

  pub records_after_take : (x : A) (t : Table A) → IsGood t → RecordsAfterTake x t
  records_after_take x t good = record_at-taken_by x t.slots t.free good

  -- a give takes the record of the id away, and leaves the others
  pub records_after_give : (id : ℕ) (t : Table A) → is_live t id ≡ true → RecordsAfterGive id t
  records_after_give id t live =
      let was = live_within t.slots id live in
      λ other. record_in-with_slot t.slots None id other was.0 was.1

  -- a replace changes the record of the id, and leaves the others
  pub records_after_replace : (id : ℕ) (x : A) (t : Table A) → is_live t id ≡ true → RecordsAfterReplace id x t
  records_after_replace id x t live =
      let was = live_within t.slots id live in
      λ other. record_in-with_slot t.slots (Some x) id other was.0 was.1
