-- What a step moves out of a block, and the exact way back: from the step's tag, what it moved out, and the block
-- that it led to.
use Rattle.std.specs.Prelude.{◌≡◌, ◌≤◌, ◌+◌, ◌-◌, Bool, true, false, List, [], ◌∷◌, ℕ, zero, suc, Option, None, Some, length, unwrap_or}
use Rattle.std.specs.Option.{option_map_or}
use Rattle.slot_pool.specs.Table.{Table, record_at, untaken}
use Rattle.odb_base.specs.Ids.{after, placed, without}
use Rattle.odb_base.specs.declared.codes.direction.Direction.{Direction}
use Rattle.odb_base.specs.declared.codes.direction.Direction.TheVariants as direction
use Rattle.odb_base.specs.declared.codes.kind.Kind.{Kind}
use Rattle.odb_base.specs.declared.codes.kind.Kind.TheVariants as kind
use Rattle.odb_base.specs.declared.codes.usage.Usage.{Usage}
use Rattle.odb_base.specs.declared.codes.usage.Usage.TheVariants as usage
use Rattle.odb_base.specs.declared.geometry.Placement.{Placement}
use Rattle.block_records.specs.declared.iterm.ITermRec.{ITermRec}
use Rattle.block_records.specs.declared.record.Record.{Record}
use Rattle.block_records.specs.declared.record.Record.TheVariants as rec
use Rattle.library.specs.declared.master.Master.{Master}
use Rattle.edit_words.specs.Tag.{new_at, tag_of}
use Rattle.edit_words.specs.declared.memo.Memo.{Memo}
use Rattle.edit_words.specs.declared.memo.Memo.TheVariants as memo
use Rattle.edit_words.specs.declared.step.Step.{Step}
use Rattle.edit_words.specs.declared.step.Step.TheVariants as step
use Rattle.edit_words.specs.declared.tag.Tag.{Tag}
use Rattle.edit_words.specs.declared.tag.Tag.TheVariants as tag
use Rattle.tech.specs.Technology.{Technology}
use Rattle.block_store.specs.declared.list_of.ListOf.TheVariants as list
use Rattle.block_store.specs.Block.{Block, free_in, is_empty, record_of}
use Rattle.block_store.specs.Fields.{direction_in, place_in, usage_in}
use Rattle.block_store.specs.Lists.{on_list, term_number}
use Rattle.block_store.specs.Moves.{ungiven_in, untaken_in, with_direction, with_name, with_net, with_place, with_special, with_usage}
use Rattle.block_store.specs.Names.{name_in}
use Rattle.block_store.specs.Placements.{unplaced}
use Rattle.block_store.specs.Sound.{IsSound, inst_terms, net_terms}
use Rattle.block_store.specs.Store.{Store}
use Rattle.steps_net.specs.Can.{Can}
use Rattle.steps_net.specs.Do.{do_step, swapped, terms_taken}

-- the master that an instance has, 0 where there is no instance
abbrev pub master_of : Block → ℕ → ℕ
master_of b inst = option_map_or (λ e. e.fields.master) (record_at b.inst inst) 0

-- What is moved out where an object goes: its record, if it has one. No object that may go stands in a list.
abbrev pub removed : Option Record → Memo
removed None = memo.Nothing
removed (Some record_moved) = memo.Record record_moved None

-- what is moved out where a new object comes, if there is one: whether its slot was added to its table
abbrev pub grown_by : Option (Kind × ℕ) → Block → Memo
grown_by None b = memo.Nothing
grown_by (Some new) b = memo.Grown (is_empty (free_in new.0 b)) 0

-- what a step moves out of a block
abbrev pub memo_of : Step → Block → Memo
memo_of (step.NewInst id name master terminals) b = memo.Grown (is_empty b.inst.free) (length terminals - length b.iterm.free)
memo_of (step.Del k id) b = removed (record_of k id b)
memo_of (step.Rename k id name) b = memo.Name (unwrap_or (name_in k id b) [])
memo_of (step.Swap inst master) b = memo.Swapped (master_of b inst) (inst_terms b inst)
memo_of (step.Place k id place) b = memo.Place (unwrap_or (place_in k id b) unplaced)
memo_of (step.SetUse k id new) b = memo.Usage (unwrap_or (usage_in k id b) usage.None)
memo_of (step.SetDir bterm new) b = memo.Direction (unwrap_or (direction_in bterm b) direction.None)
memo_of (step.MakeSpecial net) b = memo.Nothing
memo_of (step.Join k id net) b = memo.Nothing
memo_of (step.Part k id net) b = memo.Next (after (net_terms b net) (term_number k id))
memo_of other b = grown_by (new_at (tag_of other)) b

-- The parts of a memo. A memo that has no such part gives a first value.

-- whether a slot was added to the table of the new object
abbrev pub grew_of : Memo → Bool
grew_of (memo.Grown object terminals) = object
grew_of other = false

-- how many slots were added to the table of instance terminals
abbrev pub grown_of : Memo → ℕ
grown_of (memo.Grown object terminals) = terminals
grown_of other = 0

-- the name that the object had
abbrev pub name_moved : Memo → List ℕ
name_moved (memo.Name name) = name
name_moved other = []

-- the master that the instance had
abbrev pub master_moved : Memo → ℕ
master_moved (memo.Swapped master terminals) = master
master_moved other = 0

-- the terminals of the instance, in the order of the master that it had
abbrev pub terminals_moved : Memo → List ℕ
terminals_moved (memo.Swapped master terminals) = terminals
terminals_moved other = []

-- the placement that the object had
abbrev pub place_moved : Memo → Placement
place_moved (memo.Place place) = place
place_moved other = unplaced

-- the use that the object had
abbrev pub usage_moved : Memo → Usage
usage_moved (memo.Usage usage) = usage
usage_moved other = usage.None

-- the direction that the block terminal had
abbrev pub direction_moved : Memo → Direction
direction_moved (memo.Direction direction) = direction
direction_moved other = direction.None

-- the member that stood behind the one that left its list, if there was one
abbrev pub next_moved : Memo → Option ℕ
next_moved (memo.Next next) = next
next_moved other = None

-- the record of the object that went, if one did
abbrev pub record_moved : Memo → Option Record
record_moved (memo.Record r next) = Some r
record_moved other = None

-- New terminals taken back, the last first. The first `reused` of them were free identifiers; each other one
-- added a slot.
abbrev pub terms_untaken : ℕ → List ℕ → Table ITermRec → Table ITermRec
terms_untaken reused [] t = t
terms_untaken zero (id ∷ ids) t = untaken id true (terms_untaken 0 ids t)
terms_untaken (suc reused) (id ∷ ids) t = untaken id false (terms_untaken reused ids t)

-- an object that went is back, and an instance with its terminals
abbrev pub undeleted : ℕ → Option Record → Block → Block
undeleted id None c = c
undeleted id (Some (rec.Inst r)) c = ungiven_in (rec.Inst r) (record c { iterm = terms_taken id 0 r.terminals c.iterm })
undeleted id (Some r) c = ungiven_in r c

-- a new instance taken back, with its terminals
abbrev pub unmade : ℕ → Bool → ℕ → Block → Block
unmade id grew grown c =
    untaken_in kind.Inst id grew (record c { iterm = terms_untaken (length (inst_terms c id) - grown) (inst_terms c id) c.iterm })

-- a new object taken back, where there is one
abbrev pub unmade_at : Option (Kind × ℕ) → Bool → Block → Block
unmade_at None grew c = c
unmade_at (Some new) grew c = untaken_in new.0 new.1 grew c

-- the block before the step
abbrev pub back : Tag → Memo → Block → Block
back (tag.NewInst id master) m c = unmade id (grew_of m) (grown_of m) c
back (tag.Del k id) m c = undeleted id (record_moved m) c
back (tag.Rename k id) m c = with_name k id (name_moved m) c
back (tag.Swap inst) m c = swapped inst (master_moved m) (terminals_moved m) c
back (tag.Place k id) m c = with_place k id (place_moved m) c
back (tag.SetUse k id) m c = with_usage k id (usage_moved m) c
back (tag.SetDir bterm) m c = with_direction bterm (direction_moved m) c
back (tag.MakeSpecial net) m c = with_special net false c
back (tag.Join k id net) m c = with_net k id 0 (on_list (without (term_number k id)) (list.Terms (record { 0 = net })) c)
back (tag.Part k id net) m c = with_net k id net (on_list (placed (term_number k id) (next_moved m)) (list.Terms (record { 0 = net })) c)
back other m c = unmade_at (new_at other) (grew_of m) c

-- the step led from the block d, which was sound, to the block c, and moved the memo out
pub record Came (tech : Technology) (library : List Master) (cap : ℕ) (d : Block) (s : Step) (m : Memo) (c : Block) : Type 0 where
  pub sound : IsSound tech library cap d
  pub can : Can tech library d s
  pub memo : m ≡ memo_of s d
  pub after : c ≡ do_step library s d

-- some step with this tag led to the block, and moved the memo out
pub record IsLedTo (tech : Technology) (library : List Master) (cap : ℕ) (t : Tag) (m : Memo) (c : Block) : Type 0 where
  pub before : Block
  pub step : Step
  pub tag : tag_of step ≡ t
  pub came : Came tech library cap before step m c

-- there is room in memory for what the way back puts into the block
abbrev pub IsReadyBack : Tag → Store → Type 0
IsReadyBack (tag.Part k id net) s = length (net_terms s.block net) + 1 ≤ s.room.list
IsReadyBack other s = Unit {0}
