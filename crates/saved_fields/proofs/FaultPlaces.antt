-- A reading stays within the input, and so does the place of its fault.
use Rattle.std.proofs.Common.{◌≡◌, ◌≤◌, ℕ, zero, suc, List, ◌∷◌, length, ltb, Option, Some, None, Result, Ok, Err, arith, inl, inr}
use Rattle.std.proofs.lemmas.Bool.{cases_Bool, ltb-false}
use Rattle.std.proofs.lemmas.List.{length-drop}
use Rattle.odb_fields.specs.declared.get.Cut.{Cut}
use Rattle.odb_fields.specs.Reading.{Cursor, bytes_at, i32_at, u32_at, u8_at, unread, value_at, with_fault, ◌>>=◌}
use Rattle.saved_fields.specs.Fault as fault
use Rattle.saved_fields.specs.Fault.{Fault, fault_place}
use Rattle.saved_fields.specs.Reading.{Reading, given, judged, made, many_at, plain, with_first, ◌by◌, ◌then◌}

-- the input has this length, and its place is within it
abbrev pub IsIn : ℕ → Cursor → Type 0
IsIn n input = (length input.bytes ≡ n) × (input.place ≤ n)

-- the input is left within its length, or the fault's place is
abbrev EndsBy : {A E : Type 0} → (E → ℕ) → ℕ → Result (A × Cursor) E → Type 0
EndsBy place n (Ok p) = IsIn n p.1
EndsBy place n (Err f) = place f ≤ n

abbrev pub EndsIn : {A : Type 0} → ℕ → Result (A × Cursor) Fault → Type 0
EndsIn n read = EndsBy fault_place n read

abbrev pub CutIn : {A : Type 0} → ℕ → Result (A × Cursor) Cut → Type 0
CutIn n read = EndsBy (λ (cut : Cut). cut.at) n read

-- from within an input a reading ends within it
abbrev pub StaysIn : {A : Type 0} → Reading A → Type 0
StaysIn reads = (n : ℕ) (old : Cursor) → IsIn n old → EndsIn n (reads old)

-- ---- how readings are put together

bind_by : {A B E : Type 0} (place : E → ℕ) (n : ℕ) (read : Result (A × Cursor) E) (next : A × Cursor → Result (B × Cursor) E)
    → EndsBy place n read → ((p : A × Cursor) → IsIn n p.1 → EndsBy place n (next p)) → EndsBy place n (read >>= next)
bind_by place n (Ok p) next here goes = goes p here
bind_by place n (Err f) next here goes = here

pub bind_in : {A B : Type 0} (n : ℕ) (read : Result (A × Cursor) Fault) (next : A × Cursor → Result (B × Cursor) Fault)
    → EndsIn n read → ((p : A × Cursor) → IsIn n p.1 → EndsIn n (next p)) → EndsIn n (read >>= next)
bind_in n read next here goes = bind_by fault_place n read next here goes

given_in : {A : Type 0} (n at : ℕ) (o : Option A) (after : Cursor) → at ≤ n → IsIn n after → EndsIn n (given at o after)
given_in n at (Some x) after within is = is
given_in n at None after within is = within

pub judged_stays : {A B : Type 0} (meaning : A → Option B) (reads : Reading A) → StaysIn reads → StaysIn (judged meaning reads)
judged_stays meaning reads stays n old is =
    bind_in n (reads old) (λ p. given old.place (meaning p.0) p.1) (stays n old is) (λ p after. given_in n old.place (meaning p.0) p.1 is.1 after)

pub made_stays : {A B : Type 0} (value : A → B) (reads : Reading A) → StaysIn reads → StaysIn (made value reads)
made_stays value reads stays n old is = bind_in n (reads old) (λ p. Ok (value p.0, p.1)) (stays n old is) (λ p after. after)

pub then_stays : {A B : Type 0} (first : Reading A) (next : A → Reading B) → StaysIn first → ((x : A) → StaysIn (next x)) → StaysIn (first then next)
then_stays first next a b n old is =
    bind_in n (first old) (λ p. next p.0 p.1 >>= λ q. Ok ((p.0, q.0), q.1)) (a n old is)
    (λ p mid. bind_in n (next p.0 p.1) (λ q. Ok ((p.0, q.0), q.1)) (b p.0 n p.1 mid) (λ q after. after))

pub by_stays : {A B : Type 0} (first : Reading A) (next : A → Reading B) → StaysIn first → ((x : A) → StaysIn (next x)) → StaysIn (first by next)
by_stays first next a b n old is = bind_in n (first old) (λ p. next p.0 p.1) (a n old is) (λ p mid. b p.0 n p.1 mid)

pub many_stays : {A : Type 0} (each : Reading A) → StaysIn each → (count : ℕ) → StaysIn (many_at count each)
unfolding many_at
many_stays each stays zero n old is = is
many_stays each stays (suc count) n old is =
    bind_in n (each old) (λ p. with_first p.0 (many_at count each p.1)) (stays n old is)
    (λ p mid. bind_in n (many_at count each p.1) (λ q. Ok (p.0 ∷ q.0, q.1)) (many_stays each stays count n p.1 mid) (λ q after. after))

-- ---- plain fields

pub bytes_stay : (count n : ℕ) (old : Cursor) → IsIn n old → CutIn n (bytes_at count old)
bytes_stay count n old is = elim (cases_Bool (ltb (length (unread old)) count)) [
  | inl few ↦ rw few (omega (arith, is.0))
  | inr long ↦
      let left = length-drop old.place old.bytes in
      rw long (is.0, omega (arith, ltb-false (length (unread old)) count long, left, is.0, is.1))
]

value_stays : {A : Type 0} (count : ℕ) (meaning : List ℕ → A) (n : ℕ) (old : Cursor) → IsIn n old → CutIn n (value_at count meaning old)
value_stays count meaning n old is =
    bind_by (λ (cut : Cut). cut.at) n (bytes_at count old) (λ p. Ok (meaning p.0, p.1)) (bytes_stay count n old is) (λ p after. after)

told_in : {A : Type 0} (n : ℕ) (read : Result (A × Cursor) Cut) → CutIn n read → EndsIn n (with_fault (λ cut. fault.Cut cut.at) read)
told_in n (Ok p) is = is
told_in n (Err cut) is = is

pub plain_stays : {A : Type 0} (read : Cursor → Result (A × Cursor) Cut) → ((n : ℕ) (old : Cursor) → IsIn n old → CutIn n (read old)) → StaysIn (plain read)
plain_stays read stays n old is = told_in n (read old) (stays n old is)

pub u8_stays : StaysIn (plain u8_at)
unfolding u8_at
u8_stays = plain_stays u8_at (value_stays 1 _)

pub u32_stays : StaysIn (plain u32_at)
unfolding u32_at
u32_stays = plain_stays u32_at (value_stays 4 _)

pub i32_stays : StaysIn (plain i32_at)
unfolding i32_at
i32_stays = plain_stays i32_at (value_stays 4 _)
