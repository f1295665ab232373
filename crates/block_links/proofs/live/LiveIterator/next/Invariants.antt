-- What is left is what was left when the loop began.
use Rattle.std.proofs.Common.{◌+◌, ◌-◌, ◌<◌, ◌^◌, ◌≡◌}
use Rattle.block_store.specs.Live.{live_from}
use Rattle.block_links.proofs.live.LiveIterator.next.Given as goal

abbrev pub invariant-loop-self : goal.invariant-loop-self
invariant-loop-self l =
    (live_from (l.self-inside.passed + 1) (l.self-inside.slots - l.self-inside.passed) l.self-inside.kind l.self-inside.block.now.block
    ≡ live_from (l.initial.self-inside.passed + 1) (l.initial.self-inside.slots - l.initial.self-inside.passed) l.initial.self-inside.kind l.initial.self-inside.block.now.block)
    × (l.self-inside.slots < 2 ^ 32)

abbrev pub decreases-loop-self : goal.decreases-loop-self
decreases-loop-self l = l.self-inside.slots - l.self-inside.passed
