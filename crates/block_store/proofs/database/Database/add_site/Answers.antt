use Rattle.std.proofs.Common.{ap}
use Rattle.block_store.proofs.Databases.{sound_with_site}
use Rattle.block_store.proofs.database.Database.add_site.Goals as goal

pub invariant_of-self-2 : goal.invariant_of-self-2
invariant_of-self-2 c =
    let same = ap (λ d. d.tech) c.self.view_is in
    let new = rw (← same) at c.requires.new in
    let room = rw (← same) at c.requires.room in
    rw (c.in_ok-id.ensures.ok) (sound_with_site _ c.args.site c.self.invariant c.requires.lawful new room)
