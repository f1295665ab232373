-- From the answer of the machine to that of a DEF text.
use Rattle.std.proofs.Common.{◌≡◌, ℕ, List, [], Option, Some, None, Result, Ok, Err, unwrap_or, inl, inr, refl, sym, ap, ◌∙◌}
use Rattle.std.specs.Option.{option_map}
use Rattle.ld_words.specs.declared.word.WordFault.{WordFault}
use Rattle.ld_words.specs.declared.word.WordFault.TheVariants as word
use Rattle.ld_words.specs.Reading.{Reading as WordsRead}
use Rattle.ld_reader.specs.declared.fault.TextFault.{TextFault}
use Rattle.ld_reader.specs.declared.fault.TextFault.TheVariants as fault
use Rattle.ld_reader.specs.declared.reader.Reader.{Reader}
use Rattle.ld_reader.specs.Answers.{IsAnswer, IsAtHand, IsBlamed, IsKept, IsLeft}
use Rattle.ld_reader.specs.Reading.{at, blamed_of, text_of}
use Rattle.ld_reader.proofs.Answered.{cut-only}
use Rattle.def_forms.specs.declared.class.Class.{Class}
use Rattle.def_forms.specs.declared.flaw.Flaw.{Flaw}
use Rattle.def_forms.specs.declared.flaw.Flaw.TheVariants as flaw
use Rattle.def_forms.specs.declared.form.Statement.{Statement}
use Rattle.def_reader.specs.declared.fault.DefKind.{DefKind}
use Rattle.def_reader.specs.declared.fault.DefRead.{DefRead}
use Rattle.def_reader.specs.declared.so_far.SoFar.{SoFar}
use Rattle.def_reader.specs.Answer.{IsRead, IsRun, def_of, kind_of, read_in}
use Rattle.def_reader.specs.Reading.{rules, start}

abbrev Given : Type 0
Given = Result (Reader SoFar Class Statement) (TextFault Flaw)

abbrev Answer : Type 0
Answer = Result DefRead (TextFault DefKind)

-- the word at fault is the one at hand, and where there is none the text ends too early
same-kind : (blamed : Option (List ℕ)) (lent : List ℕ) (f : Flaw) → IsAtHand (Some blamed) lent → (blamed ≡ None → f ≡ flaw.Cut) → kind_of f lent ≡ kind_of f (unwrap_or blamed [])
same-kind (Some w) lent f hand cut = ap (kind_of f) (sym hand)
same-kind None lent f hand cut = rw (cut refl) refl

on-word : (told : Option WordsRead) (lent : List ℕ) (f : WordFault) → IsAnswer (option_map (text_of rules start) told) (Err (fault.Word f)) → IsAnswer (option_map def_of told) (Err (fault.Word f))
on-word None lent (word.OpenQuote line) h = tt
on-word None lent (word.LongWord line) h = tt
on-word None lent (word.TooLong line) h = tt
on-word None lent word.ReadFault h = tt
on-word None lent word.Memory h = h
on-word (Some text) lent (word.OpenQuote line) h = ap (read_in (unwrap_or (blamed_of rules start text) [])) h
on-word (Some text) lent (word.LongWord line) h = ap (read_in (unwrap_or (blamed_of rules start text) [])) h
on-word (Some text) lent (word.TooLong line) h = ap (read_in (unwrap_or (blamed_of rules start text) [])) h
on-word (Some text) lent word.ReadFault h = tt
on-word (Some text) lent word.Memory h = h

on-due : (told : Option WordsRead) (lent : List ℕ) (given : Given) → IsAnswer (option_map (text_of rules start) told) given
    → IsBlamed (option_map (blamed_of rules start) told) lent given → IsAnswer (option_map def_of told) (read_in lent given)
on-due None lent (Ok r) h b = tt
on-due None lent (Err (fault.At line f)) h b = tt
on-due None lent (Err (fault.Word f)) h b = on-word None lent f h
on-due None lent (Err fault.Memory) h b = tt
on-due (Some text) lent (Ok r) h b = ap (read_in (unwrap_or (blamed_of rules start text) [])) h
on-due (Some text) lent (Err (fault.At line f)) h b =
    let word : List ℕ = unwrap_or (blamed_of rules start text) [] in
    let cut = λ (none : blamed_of rules start text ≡ None). cut-only rules (at start) text.words text.ending line f (sym h) none in
    let here : kind_of f lent ≡ kind_of f word = same-kind (blamed_of rules start text) lent f b cut in
    ap (λ (k : DefKind). Err (fault.At line k)) here ∙ ap (read_in word) h
on-due (Some text) lent (Err (fault.Word f)) h b = on-word (Some text) lent f h
on-due (Some text) lent (Err fault.Memory) h b = tt

pub answered : (told : Option WordsRead) (lent : List ℕ) (given : Given) (result : Answer) → IsAnswer (option_map (text_of rules start) told) given
    → IsBlamed (option_map (blamed_of rules start) told) lent given → IsRead given (read_in lent given) result → IsAnswer (option_map def_of told) result
answered told lent given result h b (inl e) = rw e (on-due told lent given h b)
answered told lent given result h b (inr e) = rw e.1 tt

kept-due : (stood kept : Option WordFault) (lent : List ℕ) (given : Given) → IsKept stood kept given → IsKept stood kept (read_in lent given)
kept-due stood kept lent (Ok r) h = h
kept-due stood kept lent (Err (fault.At line f)) h = h
kept-due stood kept lent (Err (fault.Word f)) h = h
kept-due stood kept lent (Err fault.Memory) h = h

-- where memory runs out behind the words
kept-out : (stood kept : Option WordFault) (lent : List ℕ) (given : Given) → IsKept stood kept given → IsRun given → IsKept {A = DefRead} {K = DefKind} stood kept (Err fault.Memory)
kept-out stood kept lent (Err (fault.At line f)) h runs = inl (h.0 ∙ sym h.1)
kept-out stood kept lent (Err fault.Memory) h runs = h
kept-out stood kept lent (Ok r) h runs = absurd runs
kept-out stood kept lent (Err (fault.Word f)) h runs = absurd runs

pub kept_so : (stood kept : Option WordFault) (lent : List ℕ) (given : Given) (result : Answer) → IsKept stood kept given → IsRead given (read_in lent given) result → IsKept stood kept result
kept_so stood kept lent given result h (inl e) = rw e (kept-due stood kept lent given h)
kept_so stood kept lent given result h (inr e) = rw e.1 (kept-out stood kept lent given h e.0)
