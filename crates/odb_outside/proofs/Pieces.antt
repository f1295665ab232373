-- What is left of some bytes, once the next n have been copied to the front of a piece.
use Rattle.std.proofs.Common.{◌≡◌, ◌+◌, ◌-◌, ◌≤◌, ◌<◌, List, [], ◌++◌, ℕ, length, take, drop, min, sym, ap, ◌∙◌, length-append, length-drop, length-take, arith}
use Rattle.std.proofs.Math.ListN.{drop_of_length-le}
use Rattle.std.proofs.Math.Seq.{drop-drop}
use Rattle.std.proofs.lemmas.List.{take-append-drop, take_at}

module _ (bytes room copied : List ℕ) (at n : ℕ) (fits : at + n ≤ length bytes) (is : copied ≡ take (at + n - at) (drop at bytes)) where
  copied-is : copied ≡ take n (drop at bytes)
  copied-is = let e : at + n - at ≡ n = omega arith in is ∙ ap (λ k. take k (drop at bytes)) e

  length-copied : length copied ≡ n
  length-copied = ap length copied-is ∙ omega (arith, length-take n (drop at bytes), length-drop at bytes)

  -- the piece has them in front, and the rest is left
  pub next_in_front : drop at bytes ≡ take n (copied ++ drop n room) ++ drop (at + n) bytes
  next_in_front =
      sym (ap (λ l. l ++ drop (at + n) bytes) (take_at copied (drop n room) n length-copied ∙ copied-is)
      ∙ ap (λ l. take n (drop at bytes) ++ l) (sym (drop-drop n at bytes))
      ∙ take-append-drop n (drop at bytes))

  -- where none were copied into room, none were left
  pub none_left : (piece : ℕ) → 0 < piece → n ≡ min (min (length room) piece) (length bytes - at) → 0 < length (copied ++ drop n room) → n ≡ 0 → drop at bytes ≡ []
  none_left piece some n-is has_room none =
      drop_of_length-le bytes (omega (arith, length-append copied (drop n room), length-drop n room, length-copied))
