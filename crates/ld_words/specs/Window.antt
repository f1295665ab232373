-- The bytes of a window within its buffer.
use Rattle.std.specs.Prelude.{◌≡◌, ◌≤◌, ℕ}
use Rattle.ld_words.specs.declared.window.TheConstants.{CAPACITY}

-- places within a buffer of the window's size
pub record IsWindow (start end size : ℕ) : Type 0 where
  pub ordered : start ≤ end
  pub within : end ≤ size
  pub size_is : size ≡ CAPACITY
