-- What has to hold of an instance and its terminals before they go, come back, or change.
use Rattle.std.specs.Prelude.{◌≡◌, ◌≢◌, ◌≤◌, ◌-◌, true, false, List, [], ◌∷◌, ℕ, zero, suc, Some, IsTrue, length, slice_get, Bool}
use Rattle.slot_pool.specs.Table.{CanUntake, IsGood, Table, is_live}
use Rattle.odb_base.specs.declared.codes.kind.Kind.TheVariants as kind
use Rattle.block_records.specs.declared.inst.InstRec.{InstRec}
use Rattle.block_records.specs.declared.iterm.ITermRec.{ITermRec}
use Rattle.library.specs.declared.master.Master.{Master}
use Rattle.odb_base.specs.Ids.{holds}
use Rattle.odb_base.specs.declared.codes.kind.Kind.{Kind}
use Rattle.block_store.specs.declared.list_of.ListOf.TheVariants as list
use Rattle.block_store.specs.Alone.{CanEnter, InNoTerms, IsAlone}
use Rattle.block_store.specs.Block.{Block, live_in}
use Rattle.block_store.specs.Fields.{HasNet}
use Rattle.block_store.specs.Lists.{HasList, iterm_number, term_number}
use Rattle.block_store.specs.Names.{IsFree}
use Rattle.block_store.specs.Sound.{inst_terms, net_terms}
use Rattle.steps_net.specs.Back.{terms_untaken}
use Rattle.steps_net.specs.Do.{reordered, terms_given}

-- each of the terminals is there when its turn comes to be given, the last first
abbrev pub AreGivable : List ℕ → Table ITermRec → Type 0
AreGivable [] t = Unit {0}
AreGivable (id ∷ ids) t = IsTrue (is_live (terms_given ids t) id) × AreGivable ids t

-- each of the new terminals can be taken back when its turn comes, the last first
abbrev pub AreUntakable : ℕ → List ℕ → Table ITermRec → Type 0
AreUntakable reused [] t = Unit {0}
AreUntakable zero (id ∷ ids) t = CanUntake (terms_untaken 0 ids t) id true × AreUntakable 0 ids t
AreUntakable (suc reused) (id ∷ ids) t = CanUntake (terms_untaken reused ids t) id false × AreUntakable reused ids t

-- no net has one of these terminals
abbrev pub AreInNoNet : List ℕ → Block → Type 0
AreInNoNet terminals b = (k id : ℕ) → slice_get terminals k ≡ Some id → InNoTerms (iterm_number id) b

-- an instance can go, with its terminals
pub record CanGo (id : ℕ) (b : Block) : Type 0 where
  pub live : IsTrue (is_live b.inst id)
  pub alone : IsAlone kind.Inst id b
  pub terms : AreGivable (inst_terms b id) b.iterm
  pub apart : AreInNoNet (inst_terms b id) b

-- a new instance can be taken back, with its terminals
pub record CanUnmake (id : ℕ) (grew : Bool) (grown : ℕ) (c : Block) : Type 0 where
  pub inst : CanUntake c.inst id grew
  pub alone : IsAlone kind.Inst id c
  pub terms : AreUntakable (length (inst_terms c id) - grown) (inst_terms c id) c.iterm
  pub apart : AreInNoNet (inst_terms c id) c

-- an instance that went can come back, with its terminals
pub record CanReturn (r : InstRec) (c : Block) : Type 0 where
  pub free : c.inst.free ≢ []
  pub name : IsFree kind.Inst r.name c
  pub good : IsGood c.iterm
  pub terms : length r.terminals ≤ length c.iterm.free

-- an instance that is there can have these terminals in this order: each of them is there, and there are no more
-- than the table has slots
pub record CanExchange (inst : ℕ) (terminals : List ℕ) (b : Block) : Type 0 where
  pub live : IsTrue (is_live b.inst inst)
  pub terms : (k id : ℕ) → slice_get terminals k ≡ Some id → IsTrue (is_live b.iterm id)
  pub few : length terminals ≤ length b.iterm.slots

-- an instance can get a new master in place of the old one
pub record CanSwapFor (inst : ℕ) (old new : Master) (b : Block) : Type 0 where
  pub exchange : CanExchange inst (reordered old new (inst_terms b inst)) b
  pub old_few : length old.terminals ≤ length b.iterm.slots
  pub new_few : length new.terminals ≤ length (inst_terms b inst)

-- a terminal is joined to the net and can be parted from it
pub record IsJoined (k : Kind) (id net : ℕ) (c : Block) : Type 0 where
  pub has : HasList (list.Terms (record { 0 = net })) c
  pub member : IsTrue (holds (net_terms c net) (term_number k id))
  pub live : IsTrue (live_in k id c)
  pub kind : HasNet k

-- a terminal is joined to nothing and can be joined to the net
pub record IsJoinable (k : Kind) (id net : ℕ) (c : Block) : Type 0 where
  pub enter : CanEnter (list.Terms (record { 0 = net })) (term_number k id) c
  pub live : IsTrue (live_in k id c)
  pub kind : HasNet k
