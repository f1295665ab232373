-- Whether the tables allow the new objects of a step.
use Rattle.std.specs.Prelude.{◌≤◌, ◌+◌, ℕ, Option, None, Some, if◌then◌else◌, length, nat_lt}
use Rattle.odb_base.specs.declared.codes.kind.Kind.{Kind}
use Rattle.odb_base.specs.declared.codes.kind.Kind.TheVariants as kind
use Rattle.edit_words.specs.Tag.{new_at, tag_of}
use Rattle.edit_words.specs.declared.step.Step.{Step}
use Rattle.edit_words.specs.declared.step.Step.TheVariants as step
use Rattle.block_store.specs.Block.{Block, left_in}
use Rattle.block_store.specs.Store.{Store, room_of}
use Rattle.block_store.specs.Sound.{inst_terms, net_terms}

-- the kind, where its table allows fewer than so many new objects, and else what follows
abbrev pub lacking : Kind → ℕ → ℕ → Block → Option Kind → Option Kind
lacking k n cap b next = if nat_lt (left_in k cap b) n then Some k else next

-- the kind of a new object, where there is one and its table doesn't allow one more
abbrev pub lacking_new : Option (Kind × ℕ) → ℕ → Block → Option Kind
lacking_new None cap b = None
lacking_new (Some new) cap b = lacking new.0 1 cap b None

-- the first kind whose table doesn't allow the new objects of a step
abbrev pub lacks : Step → ℕ → Block → Option Kind
lacks (step.NewInst id name master terminals) cap b = lacking kind.Inst 1 cap b (lacking kind.ITerm (length terminals) cap b None)
lacks other cap b = lacking_new (new_at (tag_of other)) cap b

-- there is room in memory for a new object, where there is one
abbrev pub IsReadyForNew : Option (Kind × ℕ) → Store → Type 0
IsReadyForNew None s = Unit {0}
IsReadyForNew (Some new) s = 1 ≤ room_of new.0 s.room

-- there is room in memory for what the step puts into the block
abbrev pub IsReady : Step → Store → Type 0
IsReady (step.NewInst id name master terminals) s = (1 ≤ s.room.inst) × (length terminals ≤ s.room.iterm)
IsReady (step.Swap inst master) s = length (inst_terms s.block inst) + 1 ≤ s.room.list
IsReady (step.Join k id net) s = length (net_terms s.block net) + 1 ≤ s.room.list
IsReady other s = IsReadyForNew (new_at (tag_of other)) s
