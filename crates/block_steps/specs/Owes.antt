-- What the way back of a step asks of the block that the step led to. Contracts inside the crate cite it.
use Rattle.std.specs.Prelude.{◌≡◌, ◌≢◌, [], ℕ, Option, None, Some, IsTrue}
use Rattle.std.specs.Option.{IfSome}
use Rattle.slot_pool.specs.Table.{is_live}
use Rattle.odb_base.specs.Ids.{holds}
use Rattle.odb_base.specs.declared.codes.kind.Kind.{Kind}
use Rattle.block_records.specs.Record.{kind_of}
use Rattle.block_records.specs.declared.record.Record.{Record}
use Rattle.block_records.specs.declared.record.Record.TheVariants as rec
use Rattle.edit_words.specs.Tag.{new_at}
use Rattle.edit_words.specs.declared.memo.Memo.{Memo}
use Rattle.edit_words.specs.declared.memo.Memo.TheVariants as memo
use Rattle.edit_words.specs.declared.tag.Tag.{Tag}
use Rattle.edit_words.specs.declared.tag.Tag.TheVariants as tag
use Rattle.block_store.specs.Alone.{IsAlone, IsNew}
use Rattle.block_store.specs.Block.{Block, free_in, live_in}
use Rattle.block_store.specs.Fields.{HasPlace, HasUsage}
use Rattle.block_store.specs.Moves.{CanUntakeIn}
use Rattle.block_store.specs.Names.{HasNames, IsFreeBut}
use Rattle.block_store.specs.Sound.{net_terms}
use Rattle.steps_net.specs.Back.{grew_of, grown_of, master_moved, name_moved, next_moved, record_moved, terminals_moved}
use Rattle.steps_net.specs.Terms.{CanExchange, CanReturn, CanUnmake, IsJoinable, IsJoined}

-- an object that went can come back: its identifier is free, and its name
abbrev pub IsAskedBack : Option Record → Block → Type 0
IsAskedBack (Some (rec.Inst r)) c = CanReturn r c
IsAskedBack (Some r) c = (free_in (kind_of r) c ≢ []) × IsNew r c
IsAskedBack None c = ⊥

-- a new object can be taken back
pub record IsTakenBack (k : Kind) (id : ℕ) (m : Memo) (c : Block) : Type 0 where
  pub can : CanUntakeIn k id (grew_of m) c
  pub alone : IsAlone k id c

-- there is a new object, and it can be taken back
abbrev pub IsUnmade : Option (Kind × ℕ) → Memo → Block → Type 0
IsUnmade None m c = ⊥
IsUnmade (Some new) m c = IsTakenBack new.0 new.1 m c

-- an object can get the name that it had
pub record IsNamedBack (k : Kind) (id : ℕ) (m : Memo) (c : Block) : Type 0 where
  pub live : IsTrue (live_in k id c)
  pub kind : HasNames k
  pub memo : m ≡ memo.Name (name_moved m)
  pub free : IsFreeBut k id (name_moved m) c

-- an instance can get the master and the terminals that it had
pub record IsSwappedBack (inst : ℕ) (m : Memo) (c : Block) : Type 0 where
  pub memo : m ≡ memo.Swapped (master_moved m) (terminals_moved m)
  pub can : CanExchange inst (terminals_moved m) c

-- a terminal can be joined again, in its place
pub record IsRejoined (k : Kind) (id net : ℕ) (m : Memo) (c : Block) : Type 0 where
  pub can : IsJoinable k id net c
  pub next : IfSome (next_moved m) (λ other. IsTrue (holds (net_terms c net) other))

-- what the way back of a step, with its tag and what it moved out, asks of the block that the step led to
abbrev pub Owes : Tag → Memo → Block → Type 0
Owes (tag.NewInst id master) m c = CanUnmake id (grew_of m) (grown_of m) c
Owes (tag.Del k id) m c = IsAskedBack (record_moved m) c
Owes (tag.Rename k id) m c = IsNamedBack k id m c
Owes (tag.Swap inst) m c = IsSwappedBack inst m c
Owes (tag.Place k id) m c = IsTrue (live_in k id c) × HasPlace k
Owes (tag.SetUse k id) m c = IsTrue (live_in k id c) × HasUsage k
Owes (tag.SetDir bterm) m c = IsTrue (is_live c.bterm bterm)
Owes (tag.MakeSpecial net) m c = IsTrue (is_live c.net net)
Owes (tag.Join k id net) m c = IsJoined k id net c
Owes (tag.Part k id net) m c = IsRejoined k id net m c
Owes other m c = IsUnmade (new_at other) m c

-- the step moved no name, no record and no terminals out of the block
abbrev pub IsPlain : Tag → Type 0
IsPlain (tag.Del k id) = ⊥
IsPlain (tag.Rename k id) = ⊥
IsPlain (tag.Swap inst) = ⊥
IsPlain other = Unit {0}
