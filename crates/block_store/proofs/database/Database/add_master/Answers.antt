use Rattle.std.proofs.Common.{ap}
use Rattle.block_store.proofs.Databases.{sound_with_master}
use Rattle.block_store.proofs.database.Database.add_master.Goals as goal

pub invariant_of-self-2 : goal.invariant_of-self-2
invariant_of-self-2 c =
    let same = ap (λ d. d.library) c.self.view_is in
    let new = rw (← same) at c.requires.new in
    let room = rw (← same) at c.requires.room in
    let lawful = rw (← ap (λ d. d.tech) c.self.view_is) at c.requires.lawful in
    rw (c.in_ok-id.ensures.ok) (sound_with_master _ c.args.master c.self.invariant lawful new room)
