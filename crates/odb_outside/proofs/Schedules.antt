-- How the number of failed calls goes on with one more call.
use Rattle.std.proofs.Common.{◌≡◌, ◌+◌, ◌-◌, ◌^◌, ◌≤◌, ◌<◌, ◌&&◌, Bool, true, false, cond, List, [], ◌∷◌, ℕ, suc, eqb, ltb, min, refl, sym, ◌∙◌, inl, inr, arith}
use Rattle.std.specs.List.{list_all}
use Rattle.std.proofs.lemmas.Bool.{cases_lt, false≢true}
use Rattle.std.proofs.lemmas.Bool.Decides.{nat_tests}
use Rattle.odb_outside.specs.Calls.{Schedule, fails_at, fails_next, failed_calls, fault_count, is_call_number, next_call, next_number}
use Rattle.odb_outside.specs.Outside.{Rose}

both : (a b : Bool) → (a && b) ≡ true → (a ≡ true) × (b ≡ true)
both true b h = (refl, h)
both false b h = cc

differs : (n m : ℕ) → ltb n m ≡ true → eqb n m ≡ false
differs n m h = grind (arith, nat_tests)

-- no call is told to fail at the number at which the count stops
none-at-end : (failing : List ℕ) → list_all is_call_number failing ≡ true → fails_at failing (2 ^ 64 - 1) ≡ false
none-at-end [] h = refl
none-at-end (n ∷ ns) h =
    let parts = both (ltb n (2 ^ 64 - 1)) (list_all is_call_number ns) h in
    rw (differs n (2 ^ 64 - 1) parts.0) (none-at-end ns parts.1)

-- how the number goes on, where the count has not stopped
failed-next : (failing : List ℕ) (made : ℕ) → made < 2 ^ 64 - 1 → failed_calls failing (min (made + 1) (2 ^ 64 - 1)) ≡ failed_calls failing made + cond (fails_at failing (min (made + 1) (2 ^ 64 - 1))) 1 0
unfolding failed_calls
failed-next failing made lt =
    let e : min (made + 1) (2 ^ 64 - 1) ≡ suc made = omega arith in
    rw e refl

-- one more call that fails is one more fault
pub one_more_fault : (calls : Schedule) → list_all is_call_number calls.failing ≡ true → fails_next calls ≡ true → Rose (fault_count calls) (fault_count (next_call calls))
one_more_fault calls h fails = elim (cases_lt calls.made (2 ^ 64 - 1)) [
  | inl lt ↦ let e = failed-next calls.failing calls.made lt in omega (arith, rw fails at e)
  | inr ge ↦
      let last : next_number calls ≡ 2 ^ 64 - 1 = omega arith in
      absurd (false≢true (sym (none-at-end calls.failing h) ∙ rw last at fails))
]

-- one more call takes no fault away
pub no_fewer_faults : (calls : Schedule) → calls.made < 2 ^ 64 → fault_count calls ≤ fault_count (next_call calls)
no_fewer_faults calls h = elim (cases_lt calls.made (2 ^ 64 - 1)) [
  | inl lt ↦ omega (arith, failed-next calls.failing calls.made lt)
  | inr ge ↦
      let same : next_number calls ≡ calls.made = omega arith in
      rw same (omega arith)
]
