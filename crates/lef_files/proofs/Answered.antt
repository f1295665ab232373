-- From the answer for a text to what is read of its file.
use Rattle.std.proofs.Common.{◌≡◌, false, List, ℕ, Option, None, Some, Ok, Err, IfOk, OnOk, IsTrue, Result, refl, ap}
use Rattle.std.specs.Option.{option_map}
use Rattle.ld_words.specs.declared.word.WordFault.{WordFault}
use Rattle.ld_words.specs.declared.word.WordFault.TheVariants as word
use Rattle.ld_words.specs.Cause.{is_read_fault}
use Rattle.ld_words.specs.Reading.{words_of}
use Rattle.ld_reader.specs.declared.fault.TextFault.TheVariants as fault
use Rattle.ld_reader.specs.Answers.{IsAnswer, IsKept}
use Rattle.lef_reader.specs.Reading.{Answer, lef_of}
use Rattle.odb_outside.specs.Adapters.{is_reading}
use Rattle.odb_outside.specs.declared.shelf.Hand.{Hand}
use Rattle.odb_outside.specs.declared.shelf.Hand.TheVariants as hand
use Rattle.shelf_files.specs.declared.fault.FileFault.{FileFault}
use Rattle.shelf_files.specs.declared.fault.FileFault.TheVariants as failure
use Rattle.lef_files.specs.declared.outcome.LefFileRead.{LefFileRead}
use Rattle.lef_files.specs.Files.{IsTextRead}
use Rattle.lef_files.specs.Texts.{outcome_of, read_by}

-- what is read of a text is what its answer says
pub answered : (left : Option (List ℕ)) (answer : Answer) → IsAnswer (option_map lef_of (option_map words_of left)) answer → IfOk (outcome_of answer) (λ given. IsTextRead left given)
answered None (Ok tree) told = tt
answered None (Err (fault.At line k)) told = tt
answered None (Err (fault.Word (word.OpenQuote line))) told = tt
answered None (Err (fault.Word (word.LongWord line))) told = tt
answered None (Err (fault.Word (word.TooLong line))) told = tt
answered None (Err (fault.Word word.ReadFault)) told = tt
answered None (Err (fault.Word word.Memory)) told = tt
answered None (Err fault.Memory) told = tt
answered (Some bytes) (Ok tree) told = ap read_by told
answered (Some bytes) (Err (fault.At line k)) told = ap read_by told
answered (Some bytes) (Err (fault.Word (word.OpenQuote line))) told = ap read_by told
answered (Some bytes) (Err (fault.Word (word.LongWord line))) told = ap read_by told
answered (Some bytes) (Err (fault.Word (word.TooLong line))) told = ap read_by told
answered (Some bytes) (Err (fault.Word word.ReadFault)) told = tt
answered (Some bytes) (Err (fault.Word word.Memory)) told = tt
answered (Some bytes) (Err fault.Memory) told = tt

-- the source is ready after what isn't a fault of the call
pub ready_on : (P : Type 0) (stood kept : Option WordFault) (answer : Answer) → IsKept stood kept answer → (is_read_fault kept ≡ false → P) → OnOk (outcome_of answer) P
ready_on P stood kept (Ok tree) is ready = ready (ap is_read_fault is)
ready_on P stood kept (Err (fault.At line k)) is ready = ready (ap is_read_fault is.0)
ready_on P stood kept (Err (fault.Word (word.OpenQuote line))) is ready = ready (ap is_read_fault is)
ready_on P stood kept (Err (fault.Word (word.LongWord line))) is ready = ready (ap is_read_fault is)
ready_on P stood kept (Err (fault.Word (word.TooLong line))) is ready = ready (ap is_read_fault is)
ready_on P stood kept (Err (fault.Word word.ReadFault)) is ready = tt
ready_on P stood kept (Err (fault.Word word.Memory)) is ready = tt
ready_on P stood kept (Err fault.Memory) is ready = tt

-- only a failed read fails the call
pub failed_on : (answer : Answer) → outcome_of answer ≡ Err failure.Failed → answer ≡ Err (fault.Word word.ReadFault)
failed_on (Ok tree) h = cc
failed_on (Err (fault.At line k)) h = cc
failed_on (Err (fault.Word (word.OpenQuote line))) h = cc
failed_on (Err (fault.Word (word.LongWord line))) h = cc
failed_on (Err (fault.Word (word.TooLong line))) h = cc
failed_on (Err (fault.Word word.ReadFault)) h = refl
failed_on (Err (fault.Word word.Memory)) h = cc
failed_on (Err fault.Memory) h = cc

-- a file is in hand
pub reading : (h : Hand) → IsTrue (is_reading h) → h ≡ hand.Reading
reading hand.Reading is = refl
reading hand.Nothing is = cc
reading hand.Writing is = cc

-- the same where the call didn't fail
pub hand_on : (r : Result LefFileRead FileFault) (h : Hand) → OnOk r (IsTrue (is_reading h)) → OnOk r (h ≡ hand.Reading)
hand_on (Ok given) h is = reading h is
hand_on (Err e) h is = tt
