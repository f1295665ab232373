-- The machine answers a line, and so lines, in one way.
use Rattle.std.proofs.Common.{◌≡◌, Bool, true, false, List, [], ◌∷◌, ℕ, Option, None, Some, Ok, Err, length, nat_lt, refl, sym, ap, subst, ◌∙◌}
use Rattle.odb_outside.specs.Files.{file_of}
use Rattle.odb_save.proofs.Loads.{one_answer}
use Rattle.script_words.specs.Commands.{Request, request_of}
use Rattle.script_words.specs.declared.command_words.Command.{Command}
use Rattle.script_words.specs.declared.command_words.Command.TheVariants as command
use Rattle.odb_run.specs.Answering.{Answered, AreAnswers, IsAnswer, IsAnswerUnless, IsCommandAnswer, IsLoadFrom, IsLoadOf, IsLoadReply, IsLoadUnless, IsRequestAnswer, Machine, load_answer}
use Rattle.odb_run.specs.Laws.{IsDetermined}
use Rattle.odb_run.specs.Machine.{Kept}

same-load : (m : Machine) (bytes : List ℕ) (a b : Answered) → IsLoadOf m bytes a → IsLoadOf m bytes b → a ≡ b
same-load m bytes a b one other =
    one.is ∙ ap (load_answer m (length bytes)) (one_answer m.state.database.cap bytes one.result other.result one.loads other.loads) ∙ sym other.is

same-unless : (long : Bool) (m : Machine) (bytes : List ℕ) (a b : Answered) → IsLoadUnless long m bytes a → IsLoadUnless long m bytes b → a ≡ b
same-unless true m bytes a b one other = one ∙ sym other
same-unless false m bytes a b one other = same-load m bytes a b one other

same-from : (m : Machine) (found : Option (List ℕ)) (a b : Answered) → IsLoadFrom m found a → IsLoadFrom m found b → a ≡ b
same-from m None a b one other = one ∙ sym other
same-from m (Some bytes) a b one other = same-unless (nat_lt 4294967295 (length bytes)) m bytes a b one other

same-reply : (m : Machine) (file : List ℕ) (eco : Option Kept) (a b : Answered) → IsLoadReply m file eco a → IsLoadReply m file eco b → a ≡ b
same-reply m file None a b one other = same-from m (file_of file m.files) a b one other
same-reply m file (Some kept) a b one other = one ∙ sym other

same-command : (m : Machine) (c : Command) (a b : Answered) → IsCommandAnswer m c a → IsCommandAnswer m c b → a ≡ b
same-command m (command.Edit edit) a b one other = one ∙ sym other
same-command m (command.Units n) a b one other = one ∙ sym other
same-command m (command.Layer layer) a b one other = one ∙ sym other
same-command m (command.Site site) a b one other = one ∙ sym other
same-command m (command.Master master) a b one other = one ∙ sym other
same-command m (command.ReadLef file) a b one other = one ∙ sym other
same-command m (command.Find k name) a b one other = one ∙ sym other
same-command m (command.List k) a b one other = one ∙ sym other
same-command m (command.Free k) a b one other = one ∙ sym other
same-command m command.Counts a b one other = one ∙ sym other
same-command m (command.Terms net) a b one other = one ∙ sym other
same-command m (command.Save file) a b one other = one ∙ sym other
same-command m command.SaveShown a b one other = one ∙ sym other
same-command m (command.Load file) a b one other = same-reply m file m.state.eco a b one other
same-command m command.EcoBegin a b one other = one ∙ sym other
same-command m command.EcoUndo a b one other = one ∙ sym other

same-request : (m : Machine) (r : Request) (a b : Answered) → IsRequestAnswer m r a → IsRequestAnswer m r b → a ≡ b
same-request m (Ok None) a b one other = one ∙ sym other
same-request m (Ok (Some c)) a b one other = same-command m c a b one other
same-request m (Err why) a b one other = one ∙ sym other

same-line : (long : Bool) (m : Machine) (line : List ℕ) (a b : Answered) → IsAnswerUnless long m line a → IsAnswerUnless long m line b → a ≡ b
same-line true m line a b one other = one ∙ sym other
same-line false m line a b one other = same-request m (request_of line) a b one other

-- to a line there is one answer
pub one-reply : (m : Machine) (line : List ℕ) (a b : Answered) → IsAnswer m line a → IsAnswer m line b → a ≡ b
unfolding IsAnswer
one-reply m line a b one other = same-line (nat_lt 65535 (length line)) m line a b one other

-- and to lines there is one list of answers
pub determined : (m : Machine) (lines : List (List ℕ)) → IsDetermined m lines
determined m [] [] [] one other = refl
determined m [] [] (b ∷ bs) one other = absurd other
determined m [] (a ∷ others) bs one other = absurd one
determined m (line ∷ lines) [] bs one other = absurd one
determined m (line ∷ lines) (a ∷ others) [] one other = absurd other
determined m (line ∷ lines) (a ∷ others) (b ∷ bs) one other =
    let first = one-reply m line a b one.0 other.0 in
    ap (λ x. x ∷ others) first ∙ ap (λ rest. b ∷ rest) (determined b.machine lines others bs (subst (λ x. AreAnswers x.machine lines others) first one.1) other.1)
