use Rattle.std.proofs.Common.{◌≡◌, ◌+◌, ◌-◌, ◌≤◌, ◌∙◌, ap, drop, length, min, refl, sym, take, arith}
use Rattle.odb_outside.proofs.Pieces.{next_in_front, none_left}
use Rattle.odb_outside.specs.Placing.{bytes_at}
use Rattle.odb_outside.specs.Shelved.{Shelved}
use Rattle.odb_outside.proofs.memory_shelf.MemoryShelfShelf.read.Goals as goal

pub returns-clause-reads : goal.returns-clause-reads
returns-clause-reads c =
    let reading = ap (λ (s : Shelved). s.hand) c.self.view_is ∙ c.requires in
    let held = rw reading at c.self.invariant.1 in
    let bytes = bytes_at c.self.inside.at c.self.inside.files in
    let room = c.args.into.now in
    let taken = c.self.inside.taken in
    let n = c.min-n.result in
    let copied : c.copy_from_slice.new.self ≡ take (taken + n - taken) (drop taken bytes) = c.copy_from_slice.ensures.after ∙ ap (λ l. take (taken + n - taken) (drop taken l)) c.bytes-bytes.ensures in
    let n-is : n ≡ min (min (length room) c.self.inside.piece) (length bytes - taken) = omega (arith, c.min-n.ensures, c.min.ensures, ap length c.bytes-bytes.ensures) in
    let fits : taken + n ≤ length bytes = omega (arith, n-is, held.1) in
    rw (sym c.self.view_is, reading) record {
      left = drop (taken + n) bytes;
      next = (next_in_front bytes room _ taken n fits copied, none_left bytes room _ taken n fits copied c.self.inside.piece c.self.invariant.0 n-is);
      told = refl;
    }
