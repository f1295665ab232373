-- How a run stops before the end of its script.
use Rattle.std.proofs.Common.{◌≡◌, ◌++◌, false, List, [], ◌∷◌, ℕ, Option, None, Some, Result, Err, IfErr, refl, sym, ap, subst, ◌∙◌, append_assoc, append-nil}
use Rattle.odb_outside.specs.Files.{File}
use Rattle.odb_outside.specs.Writing.{GrowsByPrefix}
use Rattle.odb_outside.specs.declared.fault.WriteFault.{WriteFault}
use Rattle.odb_outside.specs.declared.fault.WriteFault.TheVariants as write
use Rattle.shelf_files.specs.declared.fault.FileFault.{FileFault}
use Rattle.shelf_files.specs.declared.fault.FileFault.TheVariants as file
use Rattle.odb_run.proofs.Answering.{answers-append}
use Rattle.odb_run.proofs.Runs.{ended_first, leads_grows, leads_prefix, more_led, prefix_none, told_first}
use Rattle.odb_run.specs.Lines.{has_line_end, lines_of}
use Rattle.odb_run.specs.Running.{BeginsAt, EndsLast, FailsAt, Gains, Goes, IsGone, IsLast, IsStopFor, IsStopped, Leads, Running, Stops, StopsLast, machine_of, stop_of}
use Rattle.odb_run.specs.Told.{IfTold, WhereTold}
use Rattle.odb_run.specs.declared.stop.Stop.{Stop}
use Rattle.odb_run.specs.declared.stop.Stop.TheVariants as stop

-- a fact of the error that a call answered
pub of_err : {T E : Type 0} (P : E → Type 0) (result : Result T E) (e : E) → result ≡ Err e → P e → IfErr result P
of_err P result e is p = rw is p

-- some of it was written, and then as much of the rest as the stop says
pub leads_gains : (reason : Stop) (a b c : Option (List ℕ)) (x y : List ℕ) → Leads a b x y → Gains reason b c y → Gains reason a c x
leads_gains stop.FileFault a b c x y led gained = leads_grows a b c x y led gained
leads_gains stop.ScriptFault a b c x y led gained = leads_prefix a b c x y led gained
leads_gains stop.OutFault a b c x y led gained = leads_prefix a b c x y led gained
leads_gains stop.ScriptTooLong a b c x y led gained = leads_prefix a b c x y led gained
leads_gains stop.Memory a b c x y led gained = leads_prefix a b c x y led gained

-- a fault in writing the replies leaves a prefix of them
pub gains_of : (fault : WriteFault) (a b : Option (List ℕ)) (x : List ℕ) → GrowsByPrefix a b x → Gains (stop_of fault) a b x
gains_of write.Failed a b x grown = grown
gains_of write.Memory a b x grown = grown

begins_of : (fault : WriteFault) (script : List (List ℕ)) → BeginsAt (stop_of fault) script
begins_of write.Failed script = tt
begins_of write.Memory script = tt

-- ---- where a run stops

-- no further line was answered
pub stopped_here : (reason : Stop) (a b : Option (List ℕ)) (run : Running) (was : List File) (script : List (List ℕ)) → Gains reason a b run.unwritten → BeginsAt reason script → IsStopped reason a b run was script
stopped_here reason a b run was script gained begins = record {
  lines = [];
  others = script;
  split = refl;
  next = begins;
  answers = [];
  answered = tt;
  replies = subst (λ (x : List ℕ). Gains reason a b x) (sym (append-nil run.unwritten)) gained;
}

-- lines were answered, and then the run stopped
pub gone_stopped : (reason : Stop) (a b c : Option (List ℕ)) (old mid : Running) (was is : List File) (taken left rest : List ℕ) → IsGone a b old was mid is taken left → IsStopped reason b c mid is (lines_of (mid.line ++ (left ++ rest))) → IsStopped reason a c old was (lines_of (old.line ++ (taken ++ rest)))
gone_stopped reason a b c old mid was is taken left rest gone stopped = record {
  lines = gone.lines ++ stopped.lines;
  others = stopped.others;
  split = gone.script rest ∙ ap (λ (all : List (List ℕ)). gone.lines ++ all) stopped.split ∙ sym (append_assoc gone.lines stopped.lines stopped.others);
  next = stopped.next;
  answers = gone.answers ++ stopped.answers;
  answered = answers-append (machine_of old was) gone.lines stopped.lines gone.answers stopped.answers gone.answered (rw gone.machine at stopped.answered);
  replies = leads_gains reason a b c _ _ (more_led a b old.unwritten mid.unwritten gone.answers stopped.answers gone.replies) stopped.replies;
}

-- all lines were answered, and then the run stopped
last_stopped : (reason : Stop) (a b : Option (List ℕ)) (old new : Running) (was is : List File) → IsLast old was new is → Gains reason a b new.unwritten → BeginsAt reason [] → IsStopped reason a b old was (lines_of old.line)
last_stopped reason a b old new was is last gained begins = record {
  lines = lines_of old.line;
  others = [];
  split = sym (append-nil (lines_of old.line));
  next = begins;
  answers = last.answers;
  answered = last.answered;
  replies = subst (λ (x : List ℕ). Gains reason a b x) last.unwritten gained;
}

-- ---- a line that has no answer

-- the next line names a file, where it was a file that stopped the run
begins_at : (reason : Stop) (line : List ℕ) (script others : List (List ℕ)) (before after : List ℕ) → script ≡ line ∷ others → FailsAt line before after → BeginsAt reason script
begins_at stop.FileFault line script others before after first failed = subst (λ (lines : List (List ℕ)). BeginsAt stop.FileFault lines) (sym first) failed.names
begins_at stop.ScriptFault line script others before after first failed = tt
begins_at stop.OutFault line script others before after first failed = tt
begins_at stop.ScriptTooLong line script others before after first failed = tt
begins_at stop.Memory line script others before after first failed = tt

-- at the first line of a script there was a fault
at_first : (fault : FileFault) (reason : Stop) (a b : Option (List ℕ)) (run : Running) (was : List File) (after line : List ℕ) (script others : List (List ℕ)) → (fault ≡ file.Failed → script ≡ line ∷ others) → (fault ≡ file.Failed → FailsAt line run.unwritten after) → IsStopFor fault reason a b after → IsStopped reason a b run was script
at_first file.Failed reason a b run was after line script others first fails stopped =
    let failed = fails refl in
    stopped_here reason a b run was script (subst (λ (x : List ℕ). Gains reason a b x) failed.replies stopped) (begins_at reason line script others run.unwritten after (first refl) failed)
at_first file.Memory reason a b run was after line script others first fails stopped =
    subst (λ (r : Stop). IsStopped r a b run was script) (sym stopped.0) (subst (λ (now : Option (List ℕ)). IsStopped stop.Memory a now run was script) (sym stopped.1) (stopped_here stop.Memory a a run was script (prefix_none a run.unwritten) tt))

-- ---- the same, where the files are told

if_told : (P : List File → Type 0) (was : Option (List File)) → ((files : List File) → P files) → IfTold was P
if_told P None f = tt
if_told P (Some was) f = f was

module _ {P : List File → List File → Type 0} {Q R : List File → Type 0} where
  told_if : (was is : Option (List File)) → ((a b : List File) → P a b → Q b → R a) → WhereTold was is P → IfTold is Q → IfTold was R
  told_if None is f p q = tt
  told_if (Some was) None f p q = absurd p
  told_if (Some was) (Some is) f p q = f was is p q

-- at the end of a line there was a fault
pub line_stops : (fault : FileFault) (reason : Stop) (a b : Option (List ℕ)) (run : Running) (was : Option (List File)) (after line : List ℕ) → has_line_end run.line ≡ false → has_line_end line ≡ false → (fault ≡ file.Failed → FailsAt (run.line ++ line) run.unwritten after) → IsStopFor fault reason a b after → Stops reason a b run was (line ++ 10 ∷ [])
line_stops fault reason a b run was after line whole_line whole fails stopped =
    if_told _ was (λ files rest. at_first fault reason a b run files after (run.line ++ line) _ (lines_of rest) (λ e. ended_first run.line line rest whole_line whole) fails stopped)

-- at the last line there was a fault
pub last_line_stops : (fault : FileFault) (reason : Stop) (a b : Option (List ℕ)) (run : Running) (was : Option (List File)) (after : List ℕ) → (fault ≡ file.Failed → FailsAt run.line run.unwritten after) → (fault ≡ file.Failed → lines_of run.line ≡ run.line ∷ []) → IsStopFor fault reason a b after → StopsLast reason a b run was
last_line_stops fault reason a b run was after fails last stopped =
    if_told _ was (λ files. at_first fault reason a b run files after run.line (lines_of run.line) [] last fails stopped)

-- the replies to all lines were written in part
pub end_stops : (fault : WriteFault) (a b : Option (List ℕ)) (old new : Running) (was is : Option (List File)) → EndsLast old was new is → GrowsByPrefix a b new.unwritten → StopsLast (stop_of fault) a b old was
end_stops fault a b old new was is ends grown =
    told_first was is (λ x y last. last_stopped (stop_of fault) a b old new x y last (gains_of fault a b new.unwritten grown) (begins_of fault [])) ends

module _ (a b : Option (List ℕ)) (old mid : Running) (was is : Option (List File)) (taken left : List ℕ) (goes : Goes a b old was mid is taken left) where
  -- the replies so far were written in part
  pub write_stops : (fault : WriteFault) (c : Option (List ℕ)) → GrowsByPrefix b c mid.unwritten → Stops (stop_of fault) a c old was taken
  write_stops fault c grown =
      told_first was is (λ x y gone rest. gone_stopped (stop_of fault) a b c old mid x y taken left rest gone (stopped_here (stop_of fault) b c mid y _ (gains_of fault b c mid.unwritten grown) (begins_of fault _))) goes

  -- there was no memory to go on
  pub memory_stops : Stops stop.Memory a b old was taken
  memory_stops =
      told_first was is (λ x y gone rest. gone_stopped stop.Memory a b b old mid x y taken left rest gone (stopped_here stop.Memory b b mid y _ (prefix_none b mid.unwritten) tt)) goes

  -- what follows stopped the run
  pub goes_stops : (reason : Stop) (c : Option (List ℕ)) (front behind : List ℕ) → left ≡ front ++ behind → Stops reason b c mid is front → Stops reason a c old was taken
  goes_stops reason c front behind parts stops =
      told_if was is (λ x y gone stopped rest. gone_stopped reason a b c old mid x y taken left rest gone
      (subst (λ (l : List ℕ). IsStopped reason b c mid y (lines_of (mid.line ++ l))) (sym (ap (λ (l : List ℕ). l ++ rest) parts ∙ append_assoc front behind rest)) (stopped (behind ++ rest)))) goes stops
