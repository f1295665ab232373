-- How a run goes through its script.
use Rattle.std.proofs.Common.{◌≡◌, ◌+◌, ◌<◌, ◌≤◌, ◌^◌, ◌++◌, ◌||◌, Bool, true, false, List, [], ◌∷◌, ℕ, Option, None, Some, Result, Ok, Err, IfErr, IfOk, IfSome, IsErrOf, length, take, refl, sym, ap, subst, ◌∙◌, arith, append_assoc, append-nil, length-append, length-take}
use Rattle.std.specs.Bool.{⊤}
use Rattle.odb_outside.specs.Files.{File}
use Rattle.odb_outside.specs.Reading.{Reads}
use Rattle.odb_outside.specs.Writing.{Grows}
use Rattle.odb_outside.specs.declared.fault.Failed.{Failed}
use Rattle.odb_run.proofs.Answering.{after-append, answers-append, refusal-append}
use Rattle.odb_run.proofs.LineLemmas.{lines-ended}
use Rattle.odb_run.proofs.Runs.{gone_none, gone_then, leads_grows, more_led, prefix_none}
use Rattle.odb_run.proofs.Stopping.{gone_stopped, stopped_here}
use Rattle.odb_run.specs.Answering.{Answered, AreAnswers, has_refusal, machine, machine_after, replies_of}
use Rattle.odb_run.specs.Headline.{IsReadToLimit, Ran, RanThrough, RanToFile, ReadsToldAs, RunsToldAs}
use Rattle.odb_run.specs.Lines.{lines_of}
use Rattle.odb_run.specs.Machine.{State}
use Rattle.odb_run.specs.Running.{BeginsAt, Finishes, Goes, IsBetween, IsFinished, IsStopped, IsTaken, IsWithin, Leads, Running, Stops, StopsLast, Takes, Within, ended, first_run, status_of}
use Rattle.odb_run.specs.Told.{IfTold}
use Rattle.odb_run.specs.declared.status.Status.TheVariants as status
use Rattle.odb_run.specs.declared.stop.Stop.{Stop}
use Rattle.odb_run.specs.declared.stop.Stop.TheVariants as stop

-- ---- the bytes of the script alone

pub takes_first : (script : Option (List ℕ)) → Takes script script 0
takes_first None = tt
takes_first (Some script) = record { taken = []; split = refl; counted = refl }

pub takes_next : (script left next : Option (List ℕ)) (count n : ℕ) (piece : List ℕ) → Takes script left count → Reads {E = Failed} left next (Ok n) piece → n ≤ length piece → Takes script next (count + n)
takes_next None left next count n piece takes reads le = tt
takes_next (Some script) None next count n piece takes reads le = absurd takes
takes_next (Some script) (Some left) None count n piece takes reads le = absurd reads
takes_next (Some script) (Some left) (Some rest) count n piece takes reads le = record {
  taken = takes.taken ++ take n piece;
  split = takes.split ∙ ap (λ (l : List ℕ). takes.taken ++ l) reads.0 ∙ sym (append_assoc takes.taken (take n piece) rest);
  counted = length-append takes.taken (take n piece) ∙ omega (arith, takes.counted, length-take n piece);
}

-- one byte of a piece that has some
first-byte : (piece : List ℕ) → 1 ≤ length piece → (byte : ℕ) × (take 1 piece ≡ byte ∷ [])
first-byte [] some = absurd (omega (arith, some))
first-byte (b ∷ piece) some = (b, refl)

-- a byte more than a script may have was read
over-limit : (script left rest piece : List ℕ) (count : ℕ) (t : IsTaken script left count) → count ≡ 2 ^ 30 → left ≡ take 1 piece ++ rest → 1 ≤ length piece → IsReadToLimit script t.taken (Some rest)
over-limit script left rest piece count t limit next some =
    let one = first-byte piece some in
    record {
      more = one.0;
      unread = rest;
      split = t.split ∙ ap (λ (l : List ℕ). t.taken ++ l) (next ∙ ap (λ (l : List ℕ). l ++ rest) one.1);
      limit = t.counted ∙ limit;
      told = refl;
    }

-- one byte more than a script may have
pub takes_much : (script left next : Option (List ℕ)) (count : ℕ) (piece : List ℕ) → Takes script left count → Reads {E = Failed} left next (Ok 1) piece → count ≡ 2 ^ 30 → 1 ≤ length piece → IfSome script (λ bytes. 2 ^ 30 < length bytes)
takes_much None left next count piece takes reads limit some = tt
takes_much (Some script) None next count piece takes reads limit some = absurd takes
takes_much (Some script) (Some left) None count piece takes reads limit some = absurd reads
takes_much (Some script) (Some left) (Some rest) count piece takes reads limit some =
    let over = over-limit script left rest piece count takes limit reads.0 some in
    omega (arith, over.limit, ap length over.split, length-append takes.taken (over.more ∷ over.unread))

-- reading failed
pub read_to_fault : (script left next : Option (List ℕ)) (count : ℕ) (e : Failed) (piece : List ℕ) → Takes script left count → Reads left next (Err e) piece → ReadsToldAs status.ScriptFault script next
read_to_fault None left next count e piece takes reads = tt
read_to_fault (Some script) None next count e piece takes reads = absurd takes
read_to_fault (Some script) (Some left) next count e piece takes reads = (takes.taken, record { unread = left; split = takes.split; told = reads })

-- the script is too long
pub read_to_limit : (script left next : Option (List ℕ)) (count : ℕ) (piece : List ℕ) → Takes script left count → Reads {E = Failed} left next (Ok 1) piece → count ≡ 2 ^ 30 → 1 ≤ length piece → ReadsToldAs status.ScriptTooLong script next
read_to_limit None left next count piece takes reads limit some = tt
read_to_limit (Some script) None next count piece takes reads limit some = absurd takes
read_to_limit (Some script) (Some left) None count piece takes reads limit some = absurd reads
read_to_limit (Some script) (Some left) (Some rest) count piece takes reads limit some = (takes.taken, over-limit script left rest piece count takes limit reads.0 some)

-- something else stopped the run
pub read_in_part : (script next : Option (List ℕ)) (count : ℕ) (reason : Stop) → Takes script next count → (reason ≡ stop.ScriptFault → ⊥) → (reason ≡ stop.ScriptTooLong → ⊥) → ReadsToldAs (status_of reason) script next
read_in_part None next count reason takes fine short = tt
read_in_part (Some script) None count reason takes fine short = absurd takes
read_in_part (Some script) (Some rest) count stop.ScriptFault takes fine short = absurd (fine refl)
read_in_part (Some script) (Some rest) count stop.OutFault takes fine short = (takes.taken, record { unread = rest; split = takes.split; told = refl })
read_in_part (Some script) (Some rest) count stop.FileFault takes fine short = (takes.taken, record { unread = rest; split = takes.split; told = refl })
read_in_part (Some script) (Some rest) count stop.ScriptTooLong takes fine short = absurd (short refl)
read_in_part (Some script) (Some rest) count stop.Memory takes fine short = (takes.taken, record { unread = rest; split = takes.split; told = refl })

-- nothing was read where there was room, so the script is at its end
at-end : (left : List ℕ) (next : Option (List ℕ)) (piece : List ℕ) → 0 < length piece → Reads {E = Failed} (Some left) next (Ok 0) piece → left ≡ []
at-end left None piece some reads = absurd reads
at-end left (Some rest) piece some reads = reads.1 some refl

-- the script was read to its end
read_to_end : (script left next : Option (List ℕ)) (count : ℕ) (piece : List ℕ) (any_refused : Bool) → Takes script left count → Reads {E = Failed} left next (Ok 0) piece → 0 < length piece → ReadsToldAs (ended (Ok any_refused)) script next
read_to_end None left next count piece any_refused takes reads some = tt
read_to_end (Some script) None next count piece any_refused takes reads some = absurd takes
read_to_end (Some script) (Some left) None count piece any_refused takes reads some = absurd reads
read_to_end (Some script) (Some left) (Some rest) count piece true takes reads some = ap Some (sym reads.0 ∙ at-end left (Some rest) piece some reads)
read_to_end (Some script) (Some left) (Some rest) count piece false takes reads some = ap Some (sym reads.0 ∙ at-end left (Some rest) piece some reads)

-- the same, of what the run answered
pub read_finished : (script left next : Option (List ℕ)) (count : ℕ) (piece : List ℕ) (result : Result Bool Stop) → Takes script left count → Reads {E = Failed} left next (Ok 0) piece → 0 < length piece → (IsErrOf result stop.ScriptFault → ⊥) → (IsErrOf result stop.ScriptTooLong → ⊥) → ReadsToldAs (ended result) script next
read_finished script left next count piece (Ok any_refused) takes reads some fine short = read_to_end script left next count piece any_refused takes reads some
read_finished script left next count piece (Err reason) takes reads some fine short =
    read_in_part script next (count + 0) reason (takes_next script left next count 0 piece takes reads (omega arith)) (λ e. fine (ap Err e)) (λ e. short (ap Err e))

-- ---- within a script

pub within_first : (s : State) (script held : Option (List ℕ)) (was : Option (List File)) → Within s script script held held was (first_run s) was 0
within_first s None held was = tt
within_first s (Some script) held None = tt
within_first s (Some script) held (Some was) = record {
  taken = [];
  split = refl;
  counted = refl;
  gone = gone_none held (first_run s) was [];
}

-- after a whole piece
pub within_next : (s : State) (script left next before now then : Option (List ℕ)) (was is after : Option (List File)) (run new : Running) (count n : ℕ) (piece : List ℕ) → Within s script left before now was run is count → Reads {E = Failed} left next (Ok n) piece → n ≤ length piece → Goes now then run is new after (take n piece) [] → Within s script next before then was new after (count + n)
within_next s None left next before now then was is after run new count n piece within reads le goes = tt
within_next s (Some script) None next before now then was is after run new count n piece within reads le goes = absurd within
within_next s (Some script) (Some left) None before now then was is after run new count n piece within reads le goes = absurd reads
within_next s (Some script) (Some left) (Some rest) before now then None is after run new count n piece within reads le goes = tt
within_next s (Some script) (Some left) (Some rest) before now then (Some was) None after run new count n piece within reads le goes = absurd within
within_next s (Some script) (Some left) (Some rest) before now then (Some was) (Some is) None run new count n piece within reads le goes = absurd goes
within_next s (Some script) (Some left) (Some rest) before now then (Some was) (Some is) (Some after) run new count n piece within reads le goes = record {
  taken = within.taken ++ take n piece;
  split = within.split ∙ ap (λ (l : List ℕ). within.taken ++ l) reads.0 ∙ sym (append_assoc within.taken (take n piece) rest);
  counted = length-append within.taken (take n piece) ∙ omega (arith, within.counted, length-take n piece);
  gone = gone_then before now then (first_run s) run new was is after within.taken (take n piece) [] within.gone goes;
}

-- ---- runs that stop at a line

-- a file failed at the first of the lines behind
to-file : (s : State) (script : List ℕ) (before now : Option (List ℕ)) (was : List File) (lines others : List (List ℕ)) (answers : List Answered) → lines_of script ≡ lines ++ others → BeginsAt stop.FileFault others → AreAnswers (machine s was) lines answers → Grows before now (replies_of answers) → RanToFile (machine s was) script before now
to-file s script before now was lines [] answers split begins answered replies = absurd begins
to-file s script before now was lines (line ∷ others) answers split begins answered replies = record {
  lines = lines;
  line = line;
  others = others;
  split = split;
  names = begins;
  answers = answers;
  answered = answered;
  replies = replies;
}

-- the run stopped so, where the script and the files are told
abbrev StoppedTold : Stop → State → Option (List ℕ) → Option (List ℕ) → Option (List ℕ) → Option (List File) → Type 0
StoppedTold reason s None before now was = ⊤
StoppedTold reason s (Some script) before now was = IfTold was (λ was. IsStopped reason before now (first_run s) was (lines_of script))

-- a run that stopped, and neither for reading its script nor for the script's length
runs-stopped : (s : State) (script rest before now : Option (List ℕ)) (was left : Option (List File)) (reason : Stop) → (reason ≡ stop.ScriptFault → ⊥) → (reason ≡ stop.ScriptTooLong → ⊥) → StoppedTold reason s script before now was → RunsToldAs s (status_of reason) script rest before now was left
runs-stopped s None rest before now was left reason fine short stopped = tt
runs-stopped s (Some script) rest before now None left reason fine short stopped = tt
runs-stopped s (Some script) rest before now (Some was) left stop.ScriptFault fine short stopped = absurd (fine refl)
runs-stopped s (Some script) rest before now (Some was) left stop.OutFault fine short stopped = record { lines = stopped.lines; others = stopped.others; split = stopped.split; answers = stopped.answers; answered = stopped.answered; replies = stopped.replies }
runs-stopped s (Some script) rest before now (Some was) left stop.FileFault fine short stopped = to-file s script before now was stopped.lines stopped.others stopped.answers stopped.split stopped.next stopped.answered stopped.replies
runs-stopped s (Some script) rest before now (Some was) left stop.ScriptTooLong fine short stopped = absurd (short refl)
runs-stopped s (Some script) rest before now (Some was) left stop.Memory fine short stopped = record { lines = stopped.lines; others = stopped.others; split = stopped.split; answers = stopped.answers; answered = stopped.answered; replies = stopped.replies }

-- lines were answered, and then the run stopped
stopped-within : (reason : Stop) (s : State) (script left : List ℕ) (before now then : Option (List ℕ)) (was is : List File) (run : Running) (count : ℕ) → IsWithin s script left before now was run is count → IsStopped reason now then run is (lines_of (run.line ++ left)) → IsStopped reason before then (first_run s) was (lines_of script)
stopped-within reason s script left before now then was is run count within stopped =
    subst (λ (all : List ℕ). IsStopped reason before then (first_run s) was (lines_of all)) (sym within.split)
    (gone_stopped reason before now then (first_run s) run was is within.taken [] left within.gone stopped)

-- a piece was read, and at one of its lines the run stopped
stopped-piece : (reason : Stop) (s : State) (script left next before now then : Option (List ℕ)) (was is : Option (List File)) (run : Running) (count n : ℕ) (piece : List ℕ) → Within s script left before now was run is count → Reads {E = Failed} left next (Ok n) piece → Stops reason now then run is (take n piece) → StoppedTold reason s script before then was
stopped-piece reason s None left next before now then was is run count n piece within reads stops = tt
stopped-piece reason s (Some script) None next before now then was is run count n piece within reads stops = absurd within
stopped-piece reason s (Some script) (Some left) None before now then was is run count n piece within reads stops = absurd reads
stopped-piece reason s (Some script) (Some left) (Some rest) before now then None is run count n piece within reads stops = tt
stopped-piece reason s (Some script) (Some left) (Some rest) before now then (Some was) None run count n piece within reads stops = absurd within
stopped-piece reason s (Some script) (Some left) (Some rest) before now then (Some was) (Some is) run count n piece within reads stops =
    stopped-within reason s script left before now then was is run count within (subst (λ (l : List ℕ). IsStopped reason now then run is (lines_of (run.line ++ l))) (sym reads.0) (stops rest))

-- at the end of its script, the run stopped at its last line
stopped-last : (reason : Stop) (s : State) (script left next before now then : Option (List ℕ)) (was is : Option (List File)) (run : Running) (count : ℕ) (piece : List ℕ) → Within s script left before now was run is count → Reads {E = Failed} left next (Ok 0) piece → 0 < length piece → StopsLast reason now then run is → StoppedTold reason s script before then was
stopped-last reason s None left next before now then was is run count piece within reads some stops = tt
stopped-last reason s (Some script) None next before now then was is run count piece within reads some stops = absurd within
stopped-last reason s (Some script) (Some left) next before now then None is run count piece within reads some stops = tt
stopped-last reason s (Some script) (Some left) next before now then (Some was) None run count piece within reads some stops = absurd within
stopped-last reason s (Some script) (Some left) next before now then (Some was) (Some is) run count piece within reads some stops =
    let none : left ≡ [] = at-end left next piece some reads in
    stopped-within reason s script left before now then was is run count within (subst (λ (l : List ℕ). IsStopped reason now then run is (lines_of l)) (sym (ap (λ (l : List ℕ). run.line ++ l) none ∙ append-nil run.line)) stops)

-- a piece was read, and the run stopped within it
pub runs_err : (s : State) (script left next before now then : Option (List ℕ)) (was is after : Option (List File)) (run : Running) (count n : ℕ) (piece : List ℕ) (result : Result Bool Stop) (reason : Stop) → result ≡ Err reason → (reason ≡ stop.ScriptFault → ⊥) → (reason ≡ stop.ScriptTooLong → ⊥) → Within s script left before now was run is count → Reads {E = Failed} left next (Ok n) piece → Stops reason now then run is (take n piece) → RunsToldAs s (ended result) script next before then was after
runs_err s script left next before now then was is after run count n piece result reason is_err fine short within reads stops =
    rw is_err (runs-stopped s script next before then was after reason fine short (stopped-piece reason s script left next before now then was is run count n piece within reads stops))

-- nothing was taken, and there was no memory
pub runs_without : (s : State) (script held : Option (List ℕ)) (was : Option (List File)) (result : Result Bool Stop) → result ≡ Err stop.Memory → RunsToldAs s (ended result) script script held held was was
runs_without s script held was result is_err = rw is_err (runs-stopped s script script held held was was stop.Memory (λ e. cc) (λ e. cc) (nothing script was)) where
  nothing : (script : Option (List ℕ)) (was : Option (List File)) → StoppedTold stop.Memory s script held held was
  nothing None was = tt
  nothing (Some script) None = tt
  nothing (Some script) (Some was) = stopped_here stop.Memory held held (first_run s) was (lines_of script) (prefix_none held []) tt

-- ---- runs that stop between two pieces

-- all of it was written
all-led : (a b : Option (List ℕ)) (x unwritten : List ℕ) → unwritten ≡ [] → Leads a b x unwritten → Grows a b x
all-led a b x unwritten none led = leads_grows a b b x [] (subst (λ (y : List ℕ). Leads a b x y) none led) (nothing b) where
  nothing : (b : Option (List ℕ)) → Grows b b []
  nothing None = tt
  nothing (Some held) = sym (append-nil held)

-- the lines that ended in what was taken were answered
ran-through : (s : State) (script left : List ℕ) (before now : Option (List ℕ)) (was is : List File) (run : Running) (count : ℕ) (w : IsWithin s script left before now was run is count) → IsBetween run → RanThrough (machine s was) w.taken before now (Some is)
ran-through s script left before now was is run count w between = record {
  answers = w.gone.answers;
  answered = subst (λ (lines : List (List ℕ)). AreAnswers (machine s was) lines w.gone.answers) (sym (lines-ended w.taken run.line w.gone.lines between.whole w.gone.script)) w.gone.answered;
  replies = all-led before now (replies_of w.gone.answers) run.unwritten between.written w.gone.replies;
  files = ap (λ m. Some m.files) w.gone.machine;
}

-- reading failed
pub runs_to_fault : (s : State) (script left next before now : Option (List ℕ)) (was is : Option (List File)) (run : Running) (count : ℕ) (e : Failed) (piece : List ℕ) (result : Result Bool Stop) → result ≡ Err stop.ScriptFault → Within s script left before now was run is count → IsBetween run → Reads left next (Err e) piece → RunsToldAs s (ended result) script next before now was is
runs_to_fault s script left next before now was is run count e piece result is_err within between reads = rw is_err (at_fault script left was is within reads) where
  at_fault : (script left : Option (List ℕ)) (was is : Option (List File)) → Within s script left before now was run is count → Reads left next (Err e) piece → RunsToldAs s status.ScriptFault script next before now was is
  at_fault None left was is within reads = tt
  at_fault (Some script) left None is within reads = tt
  at_fault (Some script) None (Some was) is within reads = absurd within
  at_fault (Some script) (Some left) (Some was) None within reads = absurd within
  at_fault (Some script) (Some left) (Some was) (Some is) within reads =
      (within.taken, record { unread = left; split = within.split; told = reads }, ran-through s script left before now was is run count within between)

-- the script is too long
pub runs_too_long : (s : State) (script left next before now : Option (List ℕ)) (was is : Option (List File)) (run : Running) (count : ℕ) (piece : List ℕ) → Within s script left before now was run is count → IsBetween run → Reads {E = Failed} left next (Ok 1) piece → count ≡ 2 ^ 30 → 1 ≤ length piece → RunsToldAs s status.ScriptTooLong script next before now was is
runs_too_long s None left next before now was is run count piece within between reads limit some = tt
runs_too_long s (Some script) left next before now None is run count piece within between reads limit some = tt
runs_too_long s (Some script) None next before now (Some was) is run count piece within between reads limit some = absurd within
runs_too_long s (Some script) (Some left) None before now (Some was) is run count piece within between reads limit some = absurd reads
runs_too_long s (Some script) (Some left) (Some rest) before now (Some was) None run count piece within between reads limit some = absurd within
runs_too_long s (Some script) (Some left) (Some rest) before now (Some was) (Some is) run count piece within between reads limit some =
    let taken : IsTaken script left count = record { taken = within.taken; split = within.split; counted = within.counted } in
    (within.taken, over-limit script left rest piece count taken limit reads.0 some, ran-through s script left before now was is run count within between)

-- ---- the end of a script

-- all lines were answered, and all replies written
ran-all : (s : State) (script left : List ℕ) (before now then : Option (List ℕ)) (was is after : List File) (run : Running) (count : ℕ) (any_refused : Bool) → left ≡ [] → count ≤ 2 ^ 30 → IsWithin s script left before now was run is count → IsFinished now then run is after any_refused → Ran (machine s was) script before then (Some after) any_refused
ran-all s script left before now then was is after run count any_refused none le within finished = record {
  answers = within.gone.answers ++ finished.answers;
  answered = subst (λ (lines : List (List ℕ)). AreAnswers (machine s was) lines (within.gone.answers ++ finished.answers)) (sym lines) (answers-append (machine s was) within.gone.lines (lines_of run.line) within.gone.answers finished.answers within.gone.answered (rw within.gone.machine at finished.answered));
  replies = leads_grows before now then _ _ (more_led before now [] run.unwritten within.gone.answers finished.answers within.gone.replies) finished.replies;
  files = ap Some (finished.files ∙ ap (λ m. (machine_after m finished.answers).files) within.gone.machine ∙ ap (λ m. m.files) (sym (after-append (machine s was) within.gone.answers finished.answers)));
  refusals = refusal-append within.gone.answers finished.answers ∙ ap (λ (r : Bool). r || has_refusal finished.answers) (sym within.gone.refused) ∙ sym finished.refused;
  short = omega (arith, le, within.counted, ap length within.split, length-append within.taken left, ap length none);
} where
  lines : lines_of script ≡ within.gone.lines ++ lines_of run.line
  lines = ap lines_of within.split ∙ within.gone.script left ∙ ap (λ (l : List ℕ). within.gone.lines ++ lines_of l) (ap (λ (l : List ℕ). run.line ++ l) none ∙ append-nil run.line)

ran-told : (s : State) (script left next before now then : Option (List ℕ)) (was is after : Option (List File)) (run : Running) (count : ℕ) (piece : List ℕ) (any_refused : Bool) → Within s script left before now was run is count → Reads {E = Failed} left next (Ok 0) piece → 0 < length piece → count ≤ 2 ^ 30 → Finishes now then run is after any_refused → RunsToldAs s (ended (Ok any_refused)) script next before then was after
ran-told s None left next before now then was is after run count piece any_refused within reads some le finished = tt
ran-told s (Some script) None next before now then was is after run count piece any_refused within reads some le finished = absurd within
ran-told s (Some script) (Some left) next before now then None is after run count piece any_refused within reads some le finished = tt
ran-told s (Some script) (Some left) next before now then (Some was) None after run count piece any_refused within reads some le finished = absurd within
ran-told s (Some script) (Some left) next before now then (Some was) (Some is) None run count piece any_refused within reads some le finished = absurd finished
ran-told s (Some script) (Some left) next before now then (Some was) (Some is) (Some after) run count piece false within reads some le finished =
    ran-all s script left before now then was is after run count false (at-end left next piece some reads) le within finished
ran-told s (Some script) (Some left) next before now then (Some was) (Some is) (Some after) run count piece true within reads some le finished =
    ran-all s script left before now then was is after run count true (at-end left next piece some reads) le within finished

-- the end of a script, with all its replies or some
pub runs_finished : (s : State) (script left next before now then : Option (List ℕ)) (was is after : Option (List File)) (run : Running) (count : ℕ) (piece : List ℕ) (result : Result Bool Stop) → Within s script left before now was run is count → Reads {E = Failed} left next (Ok 0) piece → 0 < length piece → count ≤ 2 ^ 30 → IfOk result (λ refused. Finishes now then run is after refused) → IfErr result (λ reason. StopsLast reason now then run is) → (IsErrOf result stop.ScriptFault → ⊥) → (IsErrOf result stop.ScriptTooLong → ⊥) → RunsToldAs s (ended result) script next before then was after
runs_finished s script left next before now then was is after run count piece (Ok any_refused) within reads some le ok err fine short =
    ran-told s script left next before now then was is after run count piece any_refused within reads some le ok
runs_finished s script left next before now then was is after run count piece (Err reason) within reads some le ok err fine short =
    runs-stopped s script next before then was after reason (λ e. fine (ap Err e)) (λ e. short (ap Err e)) (stopped-last reason s script left next before now then was is run count piece within reads some err)
