-- The calls of memory objects, and which of them fail.
use Rattle.std.specs.Prelude.{◌+◌, ◌-◌, ◌^◌, ◌==◌, ◌≤◌, Bool, List, ℕ, zero, suc, if◌then◌else◌, min, nat_lt}
use Rattle.std.specs.List.{list_any}
use Rattle.std.proofs.Common.{arith}

-- the numbers of the calls that fail, and how many calls were made
pub record Schedule : Type 0 where
  pub failing : List ℕ
  pub made : ℕ

-- a number that a call can have and at which it may be told to fail
abbrev pub is_call_number : ℕ → Bool
is_call_number n = nat_lt n (2 ^ 64 - 1)

-- the call of this number fails
abbrev pub fails_at : List ℕ → ℕ → Bool
fails_at failing number = list_any (λ n. n == number) failing

-- the number of the next call; it stops at 2^64 - 1
abbrev pub next_number : Schedule → ℕ
next_number calls = min (calls.made + 1) (2 ^ 64 - 1)

-- the next call fails
abbrev pub fails_next : Schedule → Bool
fails_next calls = fails_at calls.failing (next_number calls)

-- one more call was made
abbrev pub next_call : Schedule → Schedule
next_call calls = record calls { made = next_number calls }

-- how many of the calls up to a number fail
unfoldable pub failed_calls : List ℕ → ℕ → ℕ
failed_calls failing zero = 0
failed_calls failing (suc n) = failed_calls failing n + (if fails_at failing (suc n) then 1 else 0)

-- how many calls have failed so far
abbrev pub fault_count : Schedule → ℕ
fault_count calls = min (failed_calls calls.failing calls.made) (2 ^ 64 - 1)

-- the number of faults stops at 2^64 - 1
pub faults_end : (calls : Schedule) → fault_count calls ≤ 2 ^ 64 - 1
faults_end calls = omega arith
