-- The text of each reply: one line, ended by LF.
use Rattle.std.specs.Prelude.{List, [], ◌++◌, ℕ, None, Some, codes, length}
use Rattle.odb_base.specs.EcoState.{eco_state_word}
use Rattle.odb_base.specs.Kind.{kind_word}
use Rattle.odb_base.specs.declared.codes.kind.Kind.{Kind}
use Rattle.odb_base.specs.declared.eco_state.EcoState.{EcoState}
use Rattle.lef_build.specs.declared.fault.BuildFault.{BuildFault}
use Rattle.lef_build.specs.declared.fault.BuildFault.TheVariants as build
use Rattle.lef_files.specs.declared.outcome.LefFileFault.{LefFileFault}
use Rattle.lef_files.specs.declared.outcome.LefFileFault.TheVariants as lef
use Rattle.odb_save.specs.declared.load_fault.LoadFault.{LoadFault}
use Rattle.odb_save.specs.declared.load_fault.LoadFault.TheVariants as load
use Rattle.edit_words.specs.declared.refusal.Refusal.{Refusal}
use Rattle.edit_words.specs.declared.refusal.Refusal.TheVariants as refusal
use Rattle.reports.specs.Texts.{line_end, spaced, value}
use Rattle.reports.specs.declared.query.ReportFault.{ReportFault}
use Rattle.reports.specs.declared.query.ReportFault.TheVariants as report
use Rattle.script_words.specs.declared.fault.LineFault.{LineFault}
use Rattle.script_words.specs.declared.fault.LineFault.TheVariants as fault
use Rattle.tech_parts.specs.declared.adding.Added.{Added}
use Rattle.tech_parts.specs.declared.fault.PartFault.{PartFault}
use Rattle.tech_parts.specs.declared.fault.PartFault.TheVariants as part
use Rattle.odb_run.specs.declared.outcome.Outcome.{Outcome}
use Rattle.hex.specs.Hex.{encode_lower}

-- `ok`
unfoldable pub ok_text : List ℕ
ok_text = codes "ok" ++ line_end

-- `ok N`
unfoldable pub number_text : ℕ → List ℕ
number_text n = codes "ok" ++ value n ++ line_end

-- `ok ID A R D M`
unfoldable pub outcome_text : Outcome → List ℕ
outcome_text o = codes "ok" ++ value o.id ++ value o.accepted ++ value o.refused ++ value o.deep ++ value o.many ++ line_end

-- `ok BYTES HEX`
unfoldable pub saved_text : List ℕ → List ℕ
saved_text bytes = codes "ok" ++ value (length bytes) ++ codes " " ++ encode_lower bytes ++ line_end

-- the refusal of an object that isn't there
unfoldable pub not_live_text : Kind → ℕ → List ℕ
not_live_text k id = codes "refused 2 NotLive" ++ spaced (kind_word k) ++ value id ++ line_end

-- the refusal of an edit that its plan refuses; for want of memory there is no reply
unfoldable pub refusal_text : Refusal → List ℕ
refusal_text (refusal.NotLive k id) = not_live_text k id
refusal_text (refusal.BadValue place) = codes "refused 3 BadValue" ++ value place ++ line_end
refusal_text (refusal.BadName place) = codes "refused 4 BadName" ++ value place ++ line_end
refusal_text (refusal.Unknown place) = codes "refused 5 Unknown" ++ value place ++ line_end
refusal_text (refusal.NameTaken id) = codes "refused 6 NameTaken" ++ value id ++ line_end
refusal_text (refusal.Joined net) = codes "refused 7 Joined" ++ value net ++ line_end
refusal_text refusal.NotJoined = codes "refused 8 NotJoined" ++ line_end
refusal_text (refusal.TermsDiffer name) = codes "refused 9 TermsDiffer" ++ spaced name ++ line_end
refusal_text refusal.Special = codes "refused 13 Special" ++ line_end
refusal_text (refusal.TableFull k) = codes "refused 15 TableFull" ++ spaced (kind_word k) ++ line_end
refusal_text refusal.Memory = []

-- the refusal of a line that is no command; for want of memory there is no reply
unfoldable pub fault_text : LineFault → List ℕ
fault_text fault.UnknownCommand = codes "refused 21 UnknownCommand" ++ line_end
fault_text fault.BadWords = codes "refused 22 BadWords" ++ line_end
fault_text fault.Memory = []

-- the refusal of a line that is too long
unfoldable pub long_line_text : List ℕ
long_line_text = codes "refused 23 LongLine" ++ line_end

-- the refusal of a command that the ECO state doesn't allow
unfoldable pub wrong_state_text : EcoState → List ℕ
wrong_state_text state = codes "refused 24 WrongState" ++ spaced (eco_state_word state) ++ line_end

-- the refusal of parts that aren't entered; for want of memory there is no reply
unfoldable pub part_text : PartFault → List ℕ
part_text (part.UnitsChanged had got) = codes "refused 28 LefBuild UnitsChanged" ++ value had ++ value got ++ line_end
part_text (part.NameTaken place) = codes "refused 28 LefBuild NameTaken" ++ value place ++ line_end
part_text (part.BadPart place) = codes "refused 28 LefBuild BadPart" ++ value place ++ line_end
part_text (part.Full place) = codes "refused 28 LefBuild Full" ++ value place ++ line_end
part_text part.Memory = []

-- the word for what is wrong with a LEF text
abbrev pub lef_kind_word : LefFileFault → List ℕ
lef_kind_word lef.Unexpected = codes "Unexpected"
lef_kind_word lef.BadNumber = codes "BadNumber"
lef_kind_word lef.BadName = codes "BadName"
lef_kind_word lef.Cut = codes "Cut"
lef_kind_word lef.OpenQuote = codes "OpenQuote"
lef_kind_word lef.LongWord = codes "LongWord"
lef_kind_word lef.TooLong = codes "TooLong"

-- the refusal of a LEF text with which this is wrong on this line
unfoldable pub lef_text : ℕ → LefFileFault → List ℕ
lef_text line kind = codes "refused 27 LefText" ++ value line ++ spaced (lef_kind_word kind) ++ line_end

-- the refusal of a LEF text that has no parts; for want of memory there is no reply
unfoldable pub build_text : BuildFault → List ℕ
build_text build.NoUnits = codes "refused 28 LefBuild NoUnits" ++ line_end
build_text (build.UnitsChanged had got) = part_text (part.UnitsChanged had got)
build_text (build.UnknownLayer name) = codes "refused 28 LefBuild UnknownLayer" ++ spaced name ++ line_end
build_text (build.UnknownSite name) = codes "refused 28 LefBuild UnknownSite" ++ spaced name ++ line_end
build_text (build.BadValue name) = codes "refused 28 LefBuild BadValue" ++ spaced name ++ line_end
build_text build.Memory = []

-- `ok LAYERS VIAS SITES MASTERS PASSED`
unfoldable pub added_text : ℕ → Added → List ℕ
added_text passed a = codes "ok" ++ value a.layers ++ value a.vias ++ value a.sites ++ value a.masters ++ value passed ++ line_end

-- the refusal of a query of an object that isn't there; for want of memory there is no reply
unfoldable pub report_fault_text : ReportFault → List ℕ
report_fault_text (report.NotLive k id) = not_live_text k id
report_fault_text report.Memory = []

-- the refusal of a file that isn't there
unfoldable pub no_file_text : List ℕ
no_file_text = codes "refused 25 NoFile" ++ line_end

-- the refusal of bytes that spell no sound database; for want of memory there is no reply
unfoldable pub load_fault_text : LoadFault → List ℕ
load_fault_text load.NotSaved = codes "refused 34 SavedText NotSaved" ++ line_end
load_fault_text (load.Version got) = codes "refused 34 SavedText Version" ++ value got ++ line_end
load_fault_text (load.Cut place) = codes "refused 34 SavedText Cut" ++ value place ++ line_end
load_fault_text (load.BadField place) = codes "refused 34 SavedText BadField" ++ value place ++ line_end
load_fault_text (load.OverCap k) = codes "refused 34 SavedText OverCap" ++ spaced (kind_word k) ++ line_end
load_fault_text (load.Trailing place) = codes "refused 34 SavedText Trailing" ++ value place ++ line_end
load_fault_text (load.Unsound None id) = codes "refused 34 SavedText Unsound header" ++ value id ++ line_end
load_fault_text (load.Unsound (Some k) id) = codes "refused 34 SavedText Unsound" ++ spaced (kind_word k) ++ value id ++ line_end
load_fault_text load.Memory = []

-- the refusal of a file with more bytes than one that is read may have
unfoldable pub long_file_text : List ℕ
long_file_text = codes "refused 36 FileTooLong" ++ line_end
