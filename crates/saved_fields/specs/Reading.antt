-- Readings: what stands at a place, with the place behind it, or the first fault; and how readings are put together.
use Rattle.std.specs.Prelude.{◌≡◌, List, [], ◌∷◌, ℕ, zero, suc, Option, Some, None, Result, Ok, Err}
use Rattle.odb_fields.specs.declared.get.Cut.{Cut}
use Rattle.odb_fields.specs.Reading.{Cursor, ◌>>=◌, with_fault}
use Rattle.saved_fields.specs.declared.fault.ReadFault.{ReadFault}
use Rattle.saved_fields.specs.declared.fault.ReadFault.TheVariants as told
use Rattle.saved_fields.specs.Fault as fault
use Rattle.saved_fields.specs.Fault.{Fault}

-- what reading gives at a place of an input
abbrev pub Reading : Type 0 → Type 0
Reading A = Cursor → Result (A × Cursor) Fault

-- a field, of which only the end of the input can be at fault
abbrev pub plain : {A : Type 0} → (Cursor → Result (A × Cursor) Cut) → Reading A
plain read input = with_fault (λ cut. fault.Cut cut.at) (read input)

-- a value, where there is one, and else a fault at this place
abbrev pub given : {A : Type 0} → ℕ → Option A → Cursor → Result (A × Cursor) Fault
given at (Some x) after = Ok (x, after)
given at None after = Err (fault.BadField at)

-- what a field means; where it means nothing, the fault names the place at which it begins
abbrev pub judged : {A B : Type 0} → (A → Option B) → Reading A → Reading B
judged meaning read input = read input >>= λ p. given input.place (meaning p.0) p.1

-- what is made of a value
abbrev pub made : {A B : Type 0} → (A → B) → Reading A → Reading B
made value read input = read input >>= λ p. Ok (value p.0, p.1)

-- a reading that goes by what the one before it gave, and whose value stands for both
infixl 10 ◌by◌
abbrev pub ◌by◌ : {A B : Type 0} → Reading A → (A → Reading B) → Reading B
(first by next) input = first input >>= λ p. next p.0 p.1

-- a reading that goes by what the one before it gave, and the values of both
infixl 10 ◌then◌
abbrev pub ◌then◌ : {A B : Type 0} → Reading A → (A → Reading B) → Reading (A × B)
(first then next) input = first input >>= λ p. next p.0 p.1 >>= λ q. Ok ((p.0, q.0), q.1)

-- one reading and another, and the values of both
abbrev pub both : {A B : Type 0} → Reading A → Reading B → Reading (A × B)
both first second input = first input >>= λ p. second p.1 >>= λ q. Ok ((p.0, q.0), q.1)

-- an item before those that were read
abbrev pub with_first : {A : Type 0} → A → Result (List A × Cursor) Fault → Result (List A × Cursor) Fault
with_first x rest = rest >>= λ p. Ok (x ∷ p.0, p.1)

-- so many, one after another
unfoldable pub many_at : {A : Type 0} → ℕ → Reading A → Reading (List A)
many_at zero each input = Ok ([], input)
many_at (suc n) each input = each input >>= λ p. with_first p.0 (many_at n each p.1)

-- ---- what calls say

-- the call failed for this reason, which is that of reading, or want of memory
abbrev pub Fails : {A : Type 0} → ReadFault → Result A Fault → Type 0
Fails told.Memory read = Unit {0}
Fails told.NotSaved read = read ≡ Err fault.NotSaved
Fails (told.Version got) read = read ≡ Err (fault.Version got)
Fails (told.Cut at) read = read ≡ Err (fault.Cut at)
Fails (told.BadField at) read = read ≡ Err (fault.BadField at)
Fails (told.OverCap kind) read = read ≡ Err (fault.OverCap kind)
Fails (told.Trailing at) read = read ≡ Err (fault.Trailing at)

-- what a call answered, seen by a view, is what reading gives, and it left the input where reading ends
abbrev pub ReadsAs : {X A : Type 0} → (X → A) → Result X ReadFault → Result (A × Cursor) Fault → Cursor → Type 0
ReadsAs view (Ok x) read after = read ≡ Ok (view x, after)
ReadsAs view (Err f) read after = Fails f read

-- what a call answered is what reading gives, and it left the input where reading ends
abbrev pub Reads : {A : Type 0} → Result A ReadFault → Result (A × Cursor) Fault → Cursor → Type 0
Reads answer read after = ReadsAs (λ x. x) answer read after
