use Rattle.std.proofs.Common.{◌≡◌, None}
use Rattle.steps_net.specs.Room.{lacks}
use Rattle.block_steps.proofs.Soundness.{back_step, room_suffices, sound_step}
use Rattle.block_steps.proofs.doing.apply.Goals as goal

pub returns-clause-sound : goal.returns-clause-sound
returns-clause-sound g c =
    let s = c.args.step in
    let old = c.args.block.now in
    let room : lacks s old.cap old.block ≡ None = room_suffices s old c.requires.ready (rw c.tag.ensures at c.count_room.ensures.object) c.count_room.ensures.iterm in
    rw (c.do_one.ensures.cap, c.do_one.ensures.after) (sound_step _ _ _ _ s c.requires.sound c.requires.can room)

pub returns-clause-back : goal.returns-clause-back
returns-clause-back g c = rw (c.do_one.ensures.memo, c.do_one.ensures.after) (back_step _ _ _ _ c.args.step c.requires.sound c.requires.can)
