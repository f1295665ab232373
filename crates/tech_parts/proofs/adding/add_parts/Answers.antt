use Rattle.std.proofs.Common.{sym, subst, ◌≤◌}
use Rattle.block_store.specs.Database.{Database, IsSoundDatabase}
use Rattle.tech_parts.proofs.Entered.{goes_back}
use Rattle.tech_parts.proofs.adding.add_parts.Goals as goal

pub restore-requires-clause-units : goal.restore-requires-clause-units
restore-requires-clause-units c = rw c.of-before.ensures.standing c.of-before.ensures.sound.tech.units

pub restore-requires-clause-sound : goal.restore-requires-clause-sound
restore-requires-clause-sound c =
    rw c.of-before.ensures.standing
    (subst IsSoundDatabase (sym (goes_back c.args.db.now c.enter_all.new.db c.enter_all.ensures.more)) c.of-before.ensures.sound)
