-- Which kind a fault of room names.
use Rattle.std.proofs.Common.{◌≡◌, ◌<◌, ◌↔◌, cond, ℕ, Option, Some, Result, Ok, Err, sym, ap, ◌∙◌}
use Rattle.std.specs.Result.{IfErr}
use Rattle.std.proofs.lemmas.Bool.{lt-ltb}
use Rattle.odb_base.specs.declared.codes.kind.Kind.{Kind}
use Rattle.block_store.specs.declared.fault.RoomFault.{RoomFault}
use Rattle.block_store.specs.declared.fault.RoomFault.TheVariants as fault
use Rattle.block_store.specs.Block.{Block, left_in}
use Rattle.steps_net.specs.Room.{lacking}

module _ (k : Kind) (n cap : ℕ) (b : Block) (next : Option Kind) where
  -- the table of the kind allows too few
  is_lacking : left_in k cap b < n → lacking k n cap b next ≡ Some k
  is_lacking few = ap (λ (lacks : _). cond lacks (Some k) next) (lt-ltb (left_in k cap b) n few)

  told : (e : RoomFault) → (e ≡ fault.Full k → left_in k cap b < n) → ((j : Kind) → e ≡ fault.Full j → j ≡ k) → (j : Kind) → e ≡ fault.Full j → lacking k n cap b next ≡ Some j
  told e full which j is =
      let same = which j is in
      is_lacking (full (is ∙ ap fault.Full same)) ∙ ap Some (sym same)

  -- a fault of room names the kind that is lacking
  pub full_told : {T : Type 0} (r : Result T RoomFault) → ((r ≡ Err (fault.Full k)) ↔ (left_in k cap b < n)) → IfErr r (λ e. (j : Kind) → e ≡ fault.Full j → j ≡ k) → IfErr r (λ e. (j : Kind) → e ≡ fault.Full j → lacking k n cap b next ≡ Some j)
  full_told (Ok x) full which = tt
  full_told (Err e) full which = told e (λ is. full.0 (ap Err is)) which
