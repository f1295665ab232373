-- How the answers of a session, of a file that is written, and of one that is read, are those of the machine.
use Rattle.std.proofs.Common.{◌≡◌, ◌<◌, ◌≤◌, ◌++◌, ◌||◌, Bool, true, false, List, [], ◌∷◌, ℕ, Option, None, Some, Ok, Err, length, nat_lt, refl, sym, ap, subst, ◌∙◌}
use Rattle.std.proofs.lemmas.Bool.{le-ltb, lt-ltb}
use Rattle.std.proofs.lemmas.List.{append_assoc}
use Rattle.std.proofs.lemmas.Option.{none-some}
use Rattle.std.proofs.lemmas.List.Folds.{list_any-append}
use Rattle.odb_outside.specs.Files.{File, file_of}
use Rattle.odb_outside.specs.Shelves.{KeepsFiles, Told, files_told}
use Rattle.block_store.specs.Database.{Database}
use Rattle.lef_files.specs.Files as lef_file
use Rattle.lef_files.specs.declared.outcome.LefFileRead.{LefFileRead}
use Rattle.odb_save.specs.Loading.{Loads}
use Rattle.odb_save.specs.Save.{save_bytes}
use Rattle.odb_save.specs.declared.load_fault.LoadFault.{LoadFault}
use Rattle.odb_save.specs.declared.load_fault.LoadFault.TheVariants as load
use Rattle.shelf_files.specs.Whole.{IsFileRead, Reads, Writes}
use Rattle.shelf_files.specs.declared.reading.FileRead.{FileRead}
use Rattle.shelf_files.specs.declared.reading.FileRead.TheVariants as read
use Rattle.odb_run.specs.Answering.{Answered, AreAnswers, IsLoadFrom, IsLoadOf, IsLoadReply, IsLoadUnless, Machine, has_refusal, in_state, lef_answer, lef_file_answer, machine, machine_after, read_lef_answer, replies_of, save_to_answer}
use Rattle.odb_run.specs.Journal.{LeadsBack, eco_of}
use Rattle.odb_run.specs.Loaded.{GivesInSession, IsReadReply}
use Rattle.odb_run.specs.Machine.{Answer, Kept, State}
use Rattle.odb_run.specs.Noted.{Noted}
use Rattle.odb_run.specs.Replies.{load_fault_text, number_text}
use Rattle.odb_run.specs.Running.{Answers, Gives, GivesTold}
use Rattle.odb_run.specs.Sessions.{Puts}

not-long : (bytes : List ℕ) → length bytes ≤ 4294967295 → nat_lt 4294967295 (length bytes) ≡ false
not-long bytes short = le-ltb 4294967295 (length bytes) short

long : (bytes : List ℕ) → 4294967295 < length bytes → nat_lt 4294967295 (length bytes) ≡ true
long bytes much = lt-ltb 4294967295 (length bytes) much

module _ (s new : State) (before after : List ℕ) (any_refused : Bool) where
  -- an answer of the session is one of the machine that leaves the files
  pub session_gives : (a : Answer) → Answers a new before after any_refused → GivesInSession (λ m x. x ≡ in_state m a) s new before after any_refused
  session_gives a answers files = record {
    text = a.text;
    is = rw (answers.state, answers.refusal) refl;
    grows = answers.text;
  }

  -- and where the files are told, they stay
  pub session_told : (Is : Machine → Answered → Type 0) (was left : Option (List File)) → left ≡ was → GivesInSession Is s new before after any_refused → GivesTold Is s new was left before after any_refused
  session_told Is None left same gives = tt
  session_told Is (Some files) left same gives = rw same (gives files)

  -- a file that was written
  pub saved_gives : (was left : Option (List File)) (name bytes : List ℕ) → new ≡ s → bytes ≡ save_bytes s.database → Writes was name bytes left → after ≡ before ++ number_text (length bytes) → any_refused ≡ false → GivesTold (λ m a. a ≡ save_to_answer m name) s new was left before after any_refused
  saved_gives None left name bytes same saved writes grows accepted = tt
  saved_gives (Some was) None name bytes same saved writes grows accepted = absurd writes
  saved_gives (Some was) (Some left) name bytes same saved writes grows accepted = record {
    text = number_text (length bytes);
    is = rw (same, writes, accepted, saved) refl;
    grows = grows;
  }

  -- a file that was read, where its bytes, if there are any, are these
  read_gives : (files : List File) (found : Option (List ℕ)) (given : FileRead) → IsFileRead found given → Gives (IsReadReply given (machine s files)) new files before after any_refused → Gives (IsLoadFrom (machine s files) found) new files before after any_refused
  read_gives files None (read.Bytes bytes) reads gives = absurd reads
  read_gives files None read.NoFile reads gives = gives
  read_gives files None read.TooLong reads gives = absurd reads
  read_gives files (Some bytes) (read.Bytes given) reads gives =
      subst (λ (much : Bool). Gives (IsLoadUnless much (machine s files) bytes) new files before after any_refused) (sym (not-long bytes reads.1)) (subst (λ (b : List ℕ). Gives (IsLoadOf (machine s files) b) new files before after any_refused) reads.0 gives)
  read_gives files (Some bytes) read.NoFile reads gives = absurd reads
  read_gives files (Some bytes) read.TooLong reads gives =
      subst (λ (much : Bool). Gives (IsLoadUnless much (machine s files) bytes) new files before after any_refused) (sym (long bytes reads)) gives

  pub loaded_gives : (was left : Option Told) (name : List ℕ) (given : FileRead) → s.eco ≡ None → Reads was name given → KeepsFiles was left → GivesInSession (λ m a. IsReadReply given m a) s new before after any_refused → GivesTold (λ m a. IsLoadReply m name m.state.eco a) s new (files_told was) (files_told left) before after any_refused
  loaded_gives None left name given none reads keeps gives = tt
  loaded_gives (Some was) left name given none reads keeps gives =
      rw keeps (subst (λ (eco : Option Kept). Gives (IsLoadReply (machine s was.files) name eco) new was.files before after any_refused) (sym none) (read_gives was.files (file_of name was.files) given reads (gives was.files)))

  -- a LEF file that was read
  lef_gives : (files : List File) (found : Option (List ℕ)) (given : LefFileRead) → lef_file.IsFileRead found given → Gives (λ a. a ≡ lef_answer (machine s files) given) new files before after any_refused → Gives (λ a. a ≡ lef_file_answer (machine s files) found) new files before after any_refused
  lef_gives files None given reads gives = subst (λ (r : LefFileRead). Gives (λ a. a ≡ lef_answer (machine s files) r) new files before after any_refused) reads gives
  lef_gives files (Some bytes) given reads gives = subst (λ (r : LefFileRead). Gives (λ a. a ≡ lef_answer (machine s files) r) new files before after any_refused) reads gives

  pub lef_told : (was left : Option Told) (name : List ℕ) (given : LefFileRead) → s.eco ≡ None → lef_file.Reads was name given → KeepsFiles was left → GivesInSession (λ m a. a ≡ lef_answer m given) s new before after any_refused → GivesTold (λ m a. a ≡ read_lef_answer m name m.state.eco) s new (files_told was) (files_told left) before after any_refused
  lef_told None left name given none reads keeps gives = tt
  lef_told (Some was) left name given none reads keeps gives =
      rw keeps (subst (λ (eco : Option Kept). Gives (λ a. a ≡ read_lef_answer (machine s was.files) name eco) new was.files before after any_refused) (sym none) (lef_gives was.files (file_of name was.files) given reads (gives was.files)))

-- bytes that were loaded
pub bytes_loaded : (s new : State) (bytes before after : List ℕ) → Puts s bytes (Ok tt) new → after ≡ before ++ number_text (length bytes) → GivesInSession (λ m a. IsLoadOf m bytes a) s new before after false
bytes_loaded s new bytes before after puts grows files = record {
  text = number_text (length bytes);
  is = record {
    result = Ok new.database;
    loads = puts.0;
    is = ap (λ (state : State). record { machine = machine state files; text = number_text (length bytes); refused = false }) puts.1;
  };
  grows = grows;
}

refused-for : (s new : State) (bytes before after : List ℕ) (why : LoadFault) → Loads s.database.cap bytes (Err why) → new ≡ s → after ≡ before ++ load_fault_text why → GivesInSession (λ m a. IsLoadOf m bytes a) s new before after true
refused-for s new bytes before after why loads same grows files = record {
  text = load_fault_text why;
  is = record {
    result = Err why;
    loads = loads;
    is = ap (λ (state : State). record { machine = machine state files; text = load_fault_text why; refused = true }) same;
  };
  grows = grows;
}

-- bytes that were refused
pub bytes_refused : (s new : State) (bytes before after : List ℕ) (why : LoadFault) → Puts s bytes (Err why) new → (why ≡ load.Memory → ⊥) → after ≡ before ++ load_fault_text why → GivesInSession (λ m a. IsLoadOf m bytes a) s new before after true
bytes_refused s new bytes before after load.NotSaved puts some grows = refused-for s new bytes before after load.NotSaved puts.0 puts.1 grows
bytes_refused s new bytes before after (load.Version got) puts some grows = refused-for s new bytes before after (load.Version got) puts.0 puts.1 grows
bytes_refused s new bytes before after (load.Cut place) puts some grows = refused-for s new bytes before after (load.Cut place) puts.0 puts.1 grows
bytes_refused s new bytes before after (load.BadField place) puts some grows = refused-for s new bytes before after (load.BadField place) puts.0 puts.1 grows
bytes_refused s new bytes before after (load.OverCap k) puts some grows = refused-for s new bytes before after (load.OverCap k) puts.0 puts.1 grows
bytes_refused s new bytes before after (load.Trailing place) puts some grows = refused-for s new bytes before after (load.Trailing place) puts.0 puts.1 grows
bytes_refused s new bytes before after (load.Unsound k id) puts some grows = refused-for s new bytes before after (load.Unsound k id) puts.0 puts.1 grows
bytes_refused s new bytes before after load.Memory puts some grows = absurd (some refl)

-- without an ECO the journal leads back from any block
pub leads_without : (journal : Option Noted) (d other : Database) → eco_of d journal ≡ None → LeadsBack journal other
leads_without None d other none = tt
leads_without (Some journal) d other none = absurd (none-some _ (sym none))

pub eco_without : (journal : Option Noted) (d other : Database) → eco_of d journal ≡ None → eco_of other journal ≡ eco_of d journal
eco_without None d other none = refl
eco_without (Some journal) d other none = absurd (none-some _ (sym none))

-- ---- answers to many lines

pub answers-append : (m : Machine) (lines more : List (List ℕ)) (a b : List Answered) → AreAnswers m lines a → AreAnswers (machine_after m a) more b → AreAnswers m (lines ++ more) (a ++ b)
answers-append m [] more [] b first then = then
answers-append m [] more (x ∷ a) b first then = absurd first
answers-append m (line ∷ lines) more [] b first then = absurd first
answers-append m (line ∷ lines) more (x ∷ a) b first then = (first.0, answers-append x.machine lines more a b first.1 then)

pub after-append : (m : Machine) (a b : List Answered) → machine_after m (a ++ b) ≡ machine_after (machine_after m a) b
after-append m [] b = refl
after-append m (x ∷ a) b = after-append x.machine a b

pub replies-append : (a b : List Answered) → replies_of (a ++ b) ≡ replies_of a ++ replies_of b
replies-append [] b = refl
replies-append (x ∷ a) b = ap (λ (rest : List ℕ). x.text ++ rest) (replies-append a b) ∙ sym (append_assoc x.text (replies_of a) (replies_of b))

pub refusal-append : (a b : List Answered) → has_refusal (a ++ b) ≡ has_refusal a || has_refusal b
refusal-append a b = list_any-append (λ (x : Answered). x.refused) a b
