-- What a report answers.
use Rattle.std.specs.Prelude.{◌≡◌, ◌++◌, List, ℕ, Result, Ok, Err, ⊤}
use Rattle.reports.specs.declared.query.ReportFault.{ReportFault}
use Rattle.reports.specs.declared.query.ReportFault.TheVariants as fault

-- The reply was appended; or nothing was, since an object isn't there, or since there is no memory.
abbrev pub Reports : Result (List ℕ) ReportFault → Result (Unit {0}) ReportFault → List ℕ → List ℕ → Type 0
Reports (Ok text) (Ok done) before after = after ≡ before ++ text
Reports (Err why) (Ok done) before after = ⊥
Reports report (Err fault.Memory) before after = after ≡ before
Reports report (Err (fault.NotLive k id)) before after = (report ≡ Err (fault.NotLive k id)) × (after ≡ before)

-- The same, where a part of the reply may be appended for want of memory.
abbrev pub Puts : Result (List ℕ) ReportFault → Result (Unit {0}) ReportFault → List ℕ → List ℕ → Type 0
Puts (Ok text) (Ok done) before after = after ≡ before ++ text
Puts (Err why) (Ok done) before after = ⊥
Puts report (Err fault.Memory) before after = ⊤
Puts report (Err (fault.NotLive k id)) before after = report ≡ Err (fault.NotLive k id)
