-- The replies to queries of a database.
use Rattle.std.specs.Prelude.{◌==◌, ◌/◌, ◌%◌, List, [], ◌++◌, ℕ, Option, None, Some, Result, Ok, Err, if◌then◌else◌, codes, decimal, length, unwrap_or}
use Rattle.std.specs.List.{flat_map}
use Rattle.std.specs.Option.{option_and_then}
use Rattle.slot_pool.specs.Table.{record_at}
use Rattle.odb_base.specs.Kind.{kinds}
use Rattle.odb_base.specs.declared.codes.kind.Kind.{Kind}
use Rattle.odb_base.specs.declared.codes.kind.Kind.TheVariants as kind
use Rattle.library.specs.Masters.{master_at}
use Rattle.library.specs.Terminals.{term_name}
use Rattle.library.specs.declared.master.Master.{Master}
use Rattle.block_records.specs.declared.iterm.ITermRec.{ITermRec}
use Rattle.block_store.specs.Block.{Block, free_in, live_in, slots_in}
use Rattle.block_store.specs.Database.{Database}
use Rattle.block_store.specs.Live.{live_count_in, live_ids}
use Rattle.block_store.specs.Names.{find_in, name_in}
use Rattle.block_store.specs.Sound.{net_terms}
use Rattle.reports.specs.declared.query.Query.{Query}
use Rattle.reports.specs.declared.query.Query.TheVariants as query
use Rattle.reports.specs.declared.query.ReportFault.{ReportFault}
use Rattle.reports.specs.declared.query.ReportFault.TheVariants as fault
use Rattle.reports.specs.Texts.{line_end, spaced, value}

-- `ok ID`: the object of this name, 0 where there is none
unfoldable pub find_text : Kind → List ℕ → Block → List ℕ
find_text k name b = codes "ok" ++ value (unwrap_or (find_in k name b) 0) ++ line_end

-- the name of an object, `-` where its kind has no names
abbrev pub name_or_dash : Option (List ℕ) → List ℕ
name_or_dash None = codes "-"
name_or_dash (Some name) = name

-- `ID NAME`
unfoldable pub object_line : Kind → Block → ℕ → List ℕ
object_line k b id = decimal id ++ spaced (name_or_dash (name_in k id b)) ++ line_end

-- `ok N`, and a line for each object of the kind by identifier
unfoldable pub list_text : Kind → Block → List ℕ
list_text k b = codes "ok" ++ value (live_count_in k b) ++ line_end ++ flat_map (object_line k b) (live_ids k b)

-- `ok SLOTS LIVE`, and the free identifiers, top first
unfoldable pub free_text : Kind → Block → List ℕ
free_text k b = codes "ok" ++ value (slots_in k b) ++ value (live_count_in k b) ++ flat_map value (free_in k b) ++ line_end

-- `ok`, and how many objects there are of each kind
unfoldable pub counts_text : Block → List ℕ
counts_text b = codes "ok" ++ flat_map (λ k. value (live_count_in k b)) kinds ++ line_end

-- the name of a terminal of an instance, by the instance's master
abbrev pub iterm_name : List Master → Block → ITermRec → Option (List ℕ)
iterm_name library b r = option_and_then (λ e. option_and_then (λ m. term_name m r.index) (master_at library e.fields.master)) (record_at b.inst r.inst)

-- a name, or no bytes where there is none
abbrev pub or_empty : Option (List ℕ) → List ℕ
or_empty name = unwrap_or name []

-- the instance and the name of an instance terminal
abbrev pub iterm_words : List Master → Block → Option ITermRec → List ℕ
iterm_words library b None = []
iterm_words library b (Some r) = spaced (or_empty (name_in kind.Inst r.inst b)) ++ spaced (or_empty (iterm_name library b r))

-- `iterm ID INST TERM`
unfoldable pub iterm_line : List Master → Block → ℕ → List ℕ
iterm_line library b id = codes "iterm" ++ value id ++ iterm_words library b (record_at b.iterm id) ++ line_end

-- `bterm ID NAME`
unfoldable pub bterm_line : Block → ℕ → List ℕ
bterm_line b id = codes "bterm" ++ value id ++ spaced (or_empty (name_in kind.BTerm id b)) ++ line_end

-- the line of a number in the list of a net's terminals
abbrev pub term_line : List Master → Block → ℕ → List ℕ
term_line library b number = if number % 2 == 0 then iterm_line library b (number / 2) else bterm_line b (number / 2)

-- `ok N`, and a line for each terminal of the net in the order of its list
unfoldable pub terms_text : List Master → Block → ℕ → List ℕ
terms_text library b net = codes "ok" ++ value (length (net_terms b net)) ++ line_end ++ flat_map (term_line library b) (net_terms b net)

-- the text about an object, or that the object isn't there
abbrev pub of_live : Kind → ℕ → Block → List ℕ → Result (List ℕ) ReportFault
of_live k id b text = if live_in k id b then Ok text else Err (fault.NotLive k id)

-- the whole reply to a query, or the object that isn't there
abbrev pub report_of : Database → Query → Result (List ℕ) ReportFault
report_of d (query.Find k name) = Ok (find_text k name d.block)
report_of d (query.List k) = Ok (list_text k d.block)
report_of d (query.Free k) = Ok (free_text k d.block)
report_of d query.Counts = Ok (counts_text d.block)
report_of d (query.Terms net) = of_live kind.Net net d.block (terms_text d.library d.block net)
