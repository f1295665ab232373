use Rattle.std.proofs.Common.{◌≡◌, ◌+◌, ◌-◌, ◌≤◌, ◌∙◌, ap, drop, length, min, take, arith}
use Rattle.odb_outside.proofs.Pieces.{next_in_front, none_left}
use Rattle.odb_outside.proofs.memory_source.MemorySourceSource.read.Goals as goal

pub returns-clause-bytes : goal.returns-clause-bytes
returns-clause-bytes c =
    let bytes = c.self.inside.bytes.items in
    let room = c.args.into.now in
    let at = c.self.inside.at in
    let n = c.min-n.result in
    let n-is : n ≡ min (min (length room) c.self.inside.piece) (length bytes - at) = omega (arith, c.min-n.ensures, c.min.ensures, c.len.ensures, c.self.inside.bytes.ok.0) in
    let fits : at + n ≤ length bytes = omega (arith, c.self.inside.bytes.ok.0) in
    let copied = c.copy_from_slice.ensures.after ∙ ap (λ l. take (at + n - at) (drop at l)) c.deref.ensures.value in
    rw (← c.self.view_is) (
      next_in_front bytes room _ at n fits copied,
      none_left bytes room _ at n fits copied c.self.inside.piece c.self.invariant.1 n-is,
    )
