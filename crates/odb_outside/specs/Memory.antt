-- The objects over memory, and what each call does to them.
use Rattle.std.specs.Prelude.{◌≡◌, ◌++◌, List, ℕ, Result, Ok, Err, drop, length, min, take, true, false}
use Rattle.odb_outside.specs.declared.fault.Failed.{Failed}
use Rattle.odb_outside.specs.declared.fault.WriteFault.{WriteFault}
use Rattle.odb_outside.specs.declared.fault.WriteFault.TheVariants as fault
use Rattle.odb_outside.specs.Calls.{Schedule, fails_next, next_call}

-- a source: the bytes that are left, the most that one call moves, and its calls
pub record Given : Type 0 where
  pub left : List ℕ
  pub piece : ℕ
  pub calls : Schedule

-- a sink: the bytes that it holds, the most that one call moves, and its calls
pub record Taken : Type 0 where
  pub held : List ℕ
  pub piece : ℕ
  pub calls : Schedule

-- What a read does. It moves as many bytes as fit the room, the piece and what is left; where it fails, none.
abbrev pub Gives : Given → Given → List ℕ → List ℕ → Result ℕ Failed → Type 0
Gives old new room piece (Ok n) = (fails_next old.calls ≡ false) × (n ≡ min (min (length room) old.piece) (length old.left))
    × (piece ≡ take n old.left ++ drop n room) × (new ≡ record old { left = drop n old.left; calls = next_call old.calls })
Gives old new room piece (Err e) = (fails_next old.calls ≡ true) × (new ≡ record old { calls = next_call old.calls })

-- What a write does. It moves as many bytes as fit the piece; where it fails, none; and where memory is
-- wanted, the sink is as it was.
abbrev pub Takes : Taken → Taken → List ℕ → Result ℕ WriteFault → Type 0
Takes old new bytes (Ok n) = (fails_next old.calls ≡ false) × (n ≡ min (length bytes) old.piece)
    × (new ≡ record old { held = old.held ++ take n bytes; calls = next_call old.calls })
Takes old new bytes (Err fault.Failed) = (fails_next old.calls ≡ true) × (new ≡ record old { calls = next_call old.calls })
Takes old new bytes (Err fault.Memory) = (fails_next old.calls ≡ false) × (new ≡ old)
