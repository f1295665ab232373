-- What an elementary step makes of a block: the very moves of its tables, lists and fields.
use Rattle.std.specs.Prelude.{◌+◌, true, List, [], ◌∷◌, ℕ, Option, None, Some, map, slice_index_or, unwrap_or}
use Rattle.slot_pool.specs.Table.{Table, given, taken}
use Rattle.odb_base.specs.Ids.{without}
use Rattle.odb_base.specs.declared.codes.kind.Kind.{Kind}
use Rattle.odb_base.specs.declared.codes.kind.Kind.TheVariants as kind
use Rattle.block_records.specs.declared.inst.InstRec.{InstRec}
use Rattle.block_records.specs.declared.iterm.ITermRec.{ITermRec}
use Rattle.block_records.specs.declared.record.Record.TheVariants as rec
use Rattle.library.specs.Masters.{master_at}
use Rattle.library.specs.Terminals.{term_index}
use Rattle.library.specs.declared.master.Master.{Master}
use Rattle.edit_words.specs.Tag.{NewObject, new_object}
use Rattle.edit_words.specs.declared.step.Step.{Step}
use Rattle.edit_words.specs.declared.step.Step.TheVariants as step
use Rattle.block_store.specs.declared.list_of.ListOf.TheVariants as list
use Rattle.block_store.specs.Block.{Block}
use Rattle.block_store.specs.Lists.{on_list, term_number}
use Rattle.block_store.specs.Moves.{given_in, taken_in, with_direction, with_index, with_master, with_name, with_net, with_place, with_special, with_terminals, with_usage}
use Rattle.block_store.specs.Placements.{unplaced}
use Rattle.block_store.specs.Sound.{inst_terms}
use Rattle.steps_net.specs.Can.{inst_master}

-- a new instance is unplaced
abbrev pub fresh_inst : List ℕ → ℕ → List ℕ → InstRec
fresh_inst name master terminals = record { name = name; master = master; place = unplaced; group = 0; terminals = terminals; kept = [] }

-- a new terminal of an instance is joined to nothing
abbrev pub fresh_iterm : ℕ → ℕ → ITermRec
fresh_iterm inst index = record { inst = inst; index = index; net = 0 }

-- a terminal is taken for each identifier, with the places from `index` on
abbrev pub terms_taken : ℕ → ℕ → List ℕ → Table ITermRec → Table ITermRec
terms_taken inst index [] t = t
terms_taken inst index (id ∷ ids) t = terms_taken inst (index + 1) ids (taken (fresh_iterm inst index) t)

-- the terminals are given back from the last to the first
abbrev pub terms_given : List ℕ → Table ITermRec → Table ITermRec
terms_given [] t = t
terms_given (id ∷ ids) t = given id (terms_given ids t)

-- the terminals get the places from `index` on
abbrev pub terms_indexed : ℕ → List ℕ → Block → Block
terms_indexed index [] b = b
terms_indexed index (id ∷ ids) b = terms_indexed (index + 1) ids (with_index id index b)

-- an object goes, and an instance with its terminals
abbrev pub deleted : Kind → ℕ → Block → Block
deleted kind.Inst id b = record (given_in kind.Inst id b) { iterm = terms_given (inst_terms b id) b.iterm }
deleted other id b = given_in other id b

-- the terminals of an instance in the order of a new master, by their names
abbrev pub reordered : Master → Master → List ℕ → List ℕ
reordered old new terminals = map (λ term. slice_index_or terminals (unwrap_or (term_index old term.name) 0) 0) new.terminals

-- the terminals in the order of the new master, where both masters are there, and else as they were
abbrev pub reordered_by : Option Master → Option Master → List ℕ → List ℕ
reordered_by (Some old) (Some new) terminals = reordered old new terminals
reordered_by None new terminals = terminals
reordered_by (Some old) None terminals = terminals

-- an instance gets a master and its terminals stand in this order
abbrev pub swapped : ℕ → ℕ → List ℕ → Block → Block
swapped inst master terminals b = terms_indexed 0 terminals (with_terminals inst terminals (with_master inst master b))

-- the block with the new object, where there is one
abbrev pub made_in : Option NewObject → Block → Block
made_in None b = b
made_in (Some new) b = taken_in new.object b

-- the block after a step
abbrev pub do_step : List Master → Step → Block → Block
do_step library (step.NewInst id name master terminals) b =
    taken_in (rec.Inst (fresh_inst name master terminals)) (record b { iterm = terms_taken id 0 terminals b.iterm })
do_step library (step.Del k id) b = deleted k id b
do_step library (step.Rename k id name) b = with_name k id name b
do_step library (step.Swap inst master) b = swapped inst master (reordered_by (inst_master library b inst) (master_at library master) (inst_terms b inst)) b
do_step library (step.Place k id place) b = with_place k id place b
do_step library (step.SetUse k id usage) b = with_usage k id usage b
do_step library (step.SetDir bterm direction) b = with_direction bterm direction b
do_step library (step.MakeSpecial net) b = with_special net true b
do_step library (step.Join k id net) b = with_net k id net (on_list (λ terms. term_number k id ∷ terms) (list.Terms (record { 0 = net })) b)
do_step library (step.Part k id net) b = with_net k id 0 (on_list (without (term_number k id)) (list.Terms (record { 0 = net })) b)
do_step library other b = made_in (new_object other) b

-- the block after steps that are done in order
abbrev pub do_all : List Master → List Step → Block → Block
do_all library [] b = b
do_all library (s ∷ steps) b = do_all library steps (do_step library s b)
