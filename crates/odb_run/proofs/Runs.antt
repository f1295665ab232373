-- How a run goes on.
use Rattle.std.proofs.Common.{◌≡◌, ◌≢◌, ◌+◌, ◌-◌, ◌≤◌, ◌||◌, Bool, true, false, List, [], ◌∷◌, ◌++◌, ℕ, Option, None, Some, length, take, drop, length-drop, eqb, subst, refl, sym, ap, ◌∙◌, arith, append_assoc, append-nil, length-append}
use Rattle.std.proofs.Math.Bool.{or_assoc}
use Rattle.std.proofs.Math.Seq.{take-append-add, take-append_seam, take-length}
use Rattle.std.proofs.lemmas.List.Folds.{list_any-append}
use Rattle.std.proofs.lemmas.List.{take-append-drop, take-append-le}
use Rattle.odb_outside.specs.Files.{File}
use Rattle.odb_outside.specs.Writing.{Grows, GrowsByPrefix}
use Rattle.odb_run.proofs.Answering.{after-append, answers-append, refusal-append, replies-append}
use Rattle.odb_run.proofs.LineLemmas.{lines-first, lines-last}
use Rattle.odb_run.specs.Answering.{Answered, IsAnswer, has_refusal, machine_after, replies_of}
use Rattle.odb_run.specs.Lines.{has_line_end, lines_of}
use Rattle.odb_run.specs.Running.{GivesTold, Goes, IsFinished, IsGone, IsLast, IsReplied, Leads, Replied, Running, WritesOn, machine_of}
use Rattle.odb_run.specs.Told.{IfTold, WhereTold}

-- nothing was written
pub leads_none : (a : Option (List ℕ)) (x : List ℕ) → Leads a a x x
leads_none None x = tt
leads_none (Some before) x = record { longer = omega arith; same = refl }

-- first some of it was written and then more
pub leads_on : (a b c : Option (List ℕ)) (x y z : List ℕ) → Leads a b x y → Leads b c y z → Leads a c x z
leads_on None b c x y z first then = tt
leads_on (Some before) None c x y z first then = absurd first
leads_on (Some before) (Some mid) None x y z first then = absurd then
leads_on (Some before) (Some mid) (Some now) x y z first then = record { longer = omega (arith, first.longer, then.longer); same = then.same ∙ first.same }

-- the front of it was written
pub leads_written : (a b : Option (List ℕ)) (x y : List ℕ) → Grows a b x → Leads a b (x ++ y) y
leads_written None b x y grown = tt
leads_written (Some before) None x y grown = absurd grown
leads_written (Some before) (Some now) x y grown = record {
  longer = omega (arith, length-append before x, ap length grown);
  same = ap (λ l. l ++ y) grown ∙ append_assoc before x y;
}

-- some of it was written, and then all the rest
pub leads_grows : (a b c : Option (List ℕ)) (x y : List ℕ) → Leads a b x y → Grows b c y → Grows a c x
leads_grows None b c x y led grown = tt
leads_grows (Some before) None c x y led grown = absurd led
leads_grows (Some before) (Some mid) None x y led grown = absurd grown
leads_grows (Some before) (Some mid) (Some now) x y led grown = grown ∙ led.same

-- what goes on as before and x do, and is no shorter than before, is before and a prefix of x
prefix-is : (now tail before x : List ℕ) → now ++ tail ≡ before ++ x → length before ≤ length now → (n : ℕ) × (n ≤ length x) × (now ≡ before ++ take n x)
prefix-is now tail before x all longer =
    let lengths = ap length all in
    let n = length now - length before in
    let sum : length now ≡ length before + n = omega arith in (
      n,
      omega (arith, lengths, length-append now tail, length-append before x),
      sym (take-append_seam now tail) ∙ ap (take (length now)) all ∙ ap (λ k. take k (before ++ x)) sum ∙ take-append-add before x n,
    )

-- some of it was written, and then a prefix of the rest
pub leads_prefix : (a b c : Option (List ℕ)) (x y : List ℕ) → Leads a b x y → GrowsByPrefix b c y → GrowsByPrefix a c x
leads_prefix None b c x y led grown = tt
leads_prefix (Some before) None c x y led grown = absurd led
leads_prefix (Some before) (Some mid) None x y led grown = absurd grown.2
leads_prefix (Some before) (Some mid) (Some now) x y led grown =
    let n = grown.0 in
    let all = ap (λ l. l ++ drop n y) grown.2 ∙ append_assoc mid (take n y) (drop n y) ∙ ap (λ l. mid ++ l) (take-append-drop n y) ∙ led.same in
    prefix-is now (drop n y) before x all (omega (arith, led.longer, ap length grown.2, length-append mid (take n y)))

-- the front of it was written in part
pub prefix_of_front : (a b : Option (List ℕ)) (x y : List ℕ) → GrowsByPrefix a b x → GrowsByPrefix a b (x ++ y)
prefix_of_front None b x y grown = tt
prefix_of_front (Some before) None x y grown = absurd grown.2
prefix_of_front (Some before) (Some now) x y grown = (
  grown.0,
  omega (arith, grown.1, length-append x y),
  grown.2 ∙ ap (λ l. before ++ l) (sym (take-append-le grown.0 x y grown.1)),
)

-- nothing was written, which is a prefix
pub prefix_none : (a : Option (List ℕ)) (x : List ℕ) → GrowsByPrefix a a x
prefix_none None x = tt
prefix_none (Some before) x = (0, omega arith, sym (append-nil before))

-- more to come stands behind what is left
pub leads_more : (a b : Option (List ℕ)) (x y more : List ℕ) → Leads a b x y → Leads a b (x ++ more) (y ++ more)
leads_more None b x y more led = tt
leads_more (Some before) None x y more led = absurd led
leads_more (Some before) (Some now) x y more led = record {
  longer = led.longer;
  same = sym (append_assoc now y more) ∙ ap (λ (all : List ℕ). all ++ more) led.same ∙ append_assoc before x more;
}

-- what a slice from a place on passes to a callee
pub rest-is : (bytes : List ℕ) (place : ℕ) → take (length bytes - place) (drop place bytes) ≡ drop place bytes
rest-is bytes place = ap (λ n. take n (drop place bytes)) (sym (length-drop place bytes)) ∙ take-length (drop place bytes)

-- an unfinished line, the bytes that end it, and the rest
pub ended_first : (line bytes rest : List ℕ) → has_line_end line ≡ false → has_line_end bytes ≡ false → lines_of (line ++ ((bytes ++ 10 ∷ []) ++ rest)) ≡ (line ++ bytes) ∷ lines_of rest
ended_first line bytes rest whole_line whole =
    ap (λ (l : List ℕ). lines_of (line ++ l)) (append_assoc bytes (10 ∷ []) rest)
    ∙ ap lines_of (sym (append_assoc line bytes (10 ∷ rest)))
    ∙ lines-first (line ++ bytes) rest (list_any-append (λ (b : ℕ). eqb b 10) line bytes ∙ rw (whole_line, whole) refl)

or-false : (b : Bool) → (b || false) ≡ b
or-false true = refl
or-false false = refl

-- ---- files that are told

module _ {P Q : List File → List File → Type 0} where
  -- a fact that follows from another, where the files are told
  pub told_map : (was left : Option (List File)) → ((a b : List File) → P a b → Q a b) → WhereTold was left P → WhereTold was left Q
  told_map None left f p = tt
  told_map (Some was) None f p = absurd p
  told_map (Some was) (Some left) f p = f was left p

module _ {P : List File → List File → Type 0} {Q : List File → Type 0} where
  pub told_first : (was left : Option (List File)) → ((a b : List File) → P a b → Q a) → WhereTold was left P → IfTold was Q
  told_first None left f p = tt
  told_first (Some was) None f p = absurd p
  told_first (Some was) (Some left) f p = f was left p

module _ {P Q R : List File → List File → Type 0} where
  -- a fact that follows from two, one after the other
  pub told_then : (was mid left : Option (List File)) → ((a b c : List File) → P a b → Q b c → R a c) → WhereTold was mid P → WhereTold mid left Q → WhereTold was left R
  told_then None mid left f p q = tt
  told_then (Some was) None left f p q = absurd p
  told_then (Some was) (Some mid) None f p q = absurd q
  told_then (Some was) (Some mid) (Some left) f p q = f was mid left p q

-- a fact of files that stay
pub told_same : (P : List File → List File → Type 0) (was : Option (List File)) → ((a : List File) → P a a) → WhereTold was was P
told_same P None f = tt
told_same P (Some was) f = f was

-- ---- between two lines

-- a run that didn't go on
pub gone_none : (a : Option (List ℕ)) (run : Running) (files : List File) (bytes : List ℕ) → IsGone a a run files run files bytes bytes
gone_none a run files bytes = record {
  lines = [];
  script = λ rest. refl;
  answers = [];
  answered = tt;
  machine = refl;
  replies = subst (λ (x : List ℕ). Leads a a x run.unwritten) (sym (append-nil run.unwritten)) (leads_none a run.unwritten);
  refused = sym (or-false run.refused);
}

-- the replies to more lines come behind those so far
pub more_led : (a b : Option (List ℕ)) (before unwritten : List ℕ) (answers more : List Answered) → Leads a b (before ++ replies_of answers) unwritten → Leads a b (before ++ replies_of (answers ++ more)) (unwritten ++ replies_of more)
more_led a b before unwritten answers more led =
    subst (λ (x : List ℕ). Leads a b x (unwritten ++ replies_of more)) (append_assoc before (replies_of answers) (replies_of more) ∙ ap (λ (x : List ℕ). before ++ x) (sym (replies-append answers more)))
    (leads_more a b (before ++ replies_of answers) unwritten (replies_of more) led)

-- what stands behind may be left
gone_past : (a b : Option (List ℕ)) (old new : Running) (was is : List File) (front behind : List ℕ) → IsGone a b old was new is front [] → IsGone a b old was new is (front ++ behind) behind
gone_past a b old new was is front behind gone = record {
  lines = gone.lines;
  script = λ rest. ap (λ (all : List ℕ). lines_of (old.line ++ all)) (append_assoc front behind rest) ∙ gone.script (behind ++ rest);
  answers = gone.answers;
  answered = gone.answered;
  machine = gone.machine;
  replies = gone.replies;
  refused = gone.refused;
}

-- A run went on from one point to a second, and from there to a third. The lines that ended are those of both ways.
gone_on : (a b c : Option (List ℕ)) (old mid new : Running) (was is left : List File) (taken rest more behind all : List ℕ) (first : IsGone a b old was mid is taken rest) (then : IsGone b c mid is new left more behind)
    → ((after : List ℕ) → lines_of (old.line ++ (all ++ after)) ≡ first.lines ++ (then.lines ++ lines_of (new.line ++ (behind ++ after)))) → IsGone a c old was new left all behind
gone_on a b c old mid new was is left taken rest more behind all first then script = record {
  lines = first.lines ++ then.lines;
  script = λ after. script after ∙ sym (append_assoc first.lines then.lines (lines_of (new.line ++ (behind ++ after))));
  answers = first.answers ++ then.answers;
  answered = answers-append (machine_of old was) first.lines then.lines first.answers then.answers first.answered (rw first.machine at then.answered);
  machine = then.machine ∙ ap (λ m. machine_after m then.answers) first.machine ∙ sym (after-append (machine_of old was) first.answers then.answers);
  replies = leads_on a b c _ _ _ (more_led a b old.unwritten mid.unwritten first.answers then.answers first.replies) then.replies;
  refused = then.refused ∙ ap (λ (r : Bool). r || has_refusal then.answers) first.refused ∙ or_assoc old.refused (has_refusal first.answers) (has_refusal then.answers) ∙ ap (λ (r : Bool). old.refused || r) (sym (refusal-append first.answers then.answers));
}

-- a run went on twice
pub gone_then : (a b c : Option (List ℕ)) (old mid new : Running) (was is left : List File) (taken more rest : List ℕ) → IsGone a b old was mid is taken [] → IsGone b c mid is new left more rest → IsGone a c old was new left (taken ++ more) rest
gone_then a b c old mid new was is left taken more rest first then =
    gone_on a b c old mid new was is left taken [] more rest (taken ++ more) first then
    (λ after.
    ap (λ (all : List ℕ). lines_of (old.line ++ all)) (append_assoc taken more after)
    ∙ first.script (more ++ after)
    ∙ ap (λ (all : List (List ℕ)). first.lines ++ all) (then.script after))

-- a run went on over the front of what was left
pub gone_front : (a b c : Option (List ℕ)) (old mid new : Running) (was is left : List File) (taken front behind : List ℕ) → IsGone a b old was mid is taken (front ++ behind) → IsGone b c mid is new left front [] → IsGone a c old was new left taken behind
gone_front a b c old mid new was is left taken front behind first then =
    let went : IsGone b c mid is new left (front ++ behind) behind = gone_past b c mid new is left front behind then in
    gone_on a b c old mid new was is left taken (front ++ behind) (front ++ behind) behind taken first went
    (λ after. first.script after ∙ ap (λ (all : List (List ℕ)). first.lines ++ all) (went.script after))

-- a line was answered, and the replies so far were written or kept
pub gone_line : (a b : Option (List ℕ)) (old next new : Running) (was left : List File) (line : List ℕ) → has_line_end old.line ≡ false → has_line_end line ≡ false → IsReplied old was (old.line ++ line) next left → WritesOn a b next new → IsGone a b old was new left (line ++ 10 ∷ []) []
gone_line a b old next new was left line whole_line whole replied writes = record {
  lines = (old.line ++ line) ∷ [];
  script = λ rest. ended_first old.line line rest whole_line whole ∙ ap (λ (l : List ℕ). (old.line ++ line) ∷ lines_of (l ++ rest)) (sym empty);
  answers = replied.answer ∷ [];
  answered = (replied.answered, tt);
  machine = ap (λ (r : Running). machine_of r left) writes.others ∙ replied.machine;
  replies = subst (λ (x : List ℕ). Leads a b x new.unwritten) (replied.unwritten ∙ ap (λ (x : List ℕ). old.unwritten ++ x) (sym (append-nil replied.answer.text))) writes.replies;
  refused = ap (λ (r : Running). r.refused) writes.others ∙ replied.refused ∙ ap (λ (r : Bool). old.refused || r) (sym (or-false replied.answer.refused));
} where
  empty : new.line ≡ []
  empty = ap (λ (r : Running). r.line) writes.others ∙ replied.line

-- more was written or kept
pub gone_write : (a b c : Option (List ℕ)) (old mid new : Running) (was is : List File) (taken rest : List ℕ) → WritesOn b c mid new → IsGone a b old was mid is taken rest → IsGone a c old was new is taken rest
gone_write a b c old mid new was is taken rest writes gone = rw writes.others (record {
  lines = gone.lines;
  script = gone.script;
  answers = gone.answers;
  answered = gone.answered;
  machine = gone.machine;
  replies = leads_on a b c _ _ _ gone.replies writes.replies;
  refused = gone.refused;
})

-- the replies were written
pub on_written : (a b : Option (List ℕ)) (run new : Running) → Grows a b run.unwritten → new ≡ record run { unwritten = [] } → WritesOn a b run new
on_written a b run new grown cleared = record {
  replies = subst (λ (y : List ℕ). Leads a b run.unwritten y) (sym (ap (λ (r : Running). r.unwritten) cleared)) (subst (λ (x : List ℕ). Leads a b x []) (append-nil run.unwritten) (leads_written a b run.unwritten [] grown));
  others = cleared ∙ ap (λ (u : List ℕ). record run { unwritten = u }) (sym (ap (λ (r : Running). r.unwritten) cleared));
}

-- they were kept
pub on_kept : (a : Option (List ℕ)) (run : Running) → WritesOn a a run run
on_kept a run = record { replies = leads_none a run.unwritten; others = refl }

-- what is left is kept for the next piece
pub gone_keep : (a b : Option (List ℕ)) (old mid new : Running) (was is : List File) (taken left : List ℕ) → new ≡ record mid { line = mid.line ++ left } → IsGone a b old was mid is taken left → IsGone a b old was new is taken []
gone_keep a b old mid new was is taken left kept gone = rw kept (record {
  lines = gone.lines;
  script = λ rest. gone.script rest ∙ ap (λ (all : List ℕ). gone.lines ++ lines_of all) (sym (append_assoc mid.line left rest));
  answers = gone.answers;
  answered = gone.answered;
  machine = gone.machine;
  replies = gone.replies;
  refused = gone.refused;
})

-- ---- the end of a script

pub last_lines : (line : List ℕ) → line ≢ [] → has_line_end line ≡ false → lines_of line ≡ line ∷ []
last_lines [] some whole = absurd (some refl)
last_lines (b ∷ line) some whole = lines-last b line whole

-- a script without an unfinished line
pub last_none : (run : Running) (files : List File) → run.line ≡ [] → IsLast run files run files
last_none run files none = record {
  answers = [];
  answered = rw none tt;
  machine = refl;
  unwritten = sym (append-nil run.unwritten);
  refused = sym (or-false run.refused);
}

-- an unfinished line is the last
pub last_line : (run new : Running) (was left : List File) → run.line ≢ [] → has_line_end run.line ≡ false → IsReplied run was run.line new left → IsLast run was new left
last_line run new was left some whole replied = record {
  answers = replied.answer ∷ [];
  answered = rw (last_lines run.line some whole) (replied.answered, tt);
  machine = replied.machine;
  unwritten = replied.unwritten ∙ ap (λ (x : List ℕ). run.unwritten ++ x) (sym (append-nil replied.answer.text));
  refused = replied.refused ∙ ap (λ (r : Bool). run.refused || r) (sym (or-false replied.answer.refused));
}

-- after the last line, the replies were written
pub last_finished : (a b : Option (List ℕ)) (run new : Running) (was left : List File) (any_refused : Bool) → Grows a b new.unwritten → any_refused ≡ new.refused → IsLast run was new left → IsFinished a b run was left any_refused
last_finished a b run new was left any_refused grown is last = record {
  answers = last.answers;
  answered = last.answered;
  files = ap (λ m. m.files) last.machine;
  replies = subst (λ (x : List ℕ). Grows a b x) last.unwritten grown;
  refused = is ∙ last.refused;
}

-- ---- the same, where the files are told

pub goes_none : (a : Option (List ℕ)) (run : Running) (was : Option (List File)) (bytes : List ℕ) → Goes a a run was run was bytes bytes
goes_none a run None bytes = tt
goes_none a run (Some was) bytes = gone_none a run was bytes

module _ (a b : Option (List ℕ)) (old mid : Running) (was is : Option (List File)) (taken left : List ℕ) (goes : Goes a b old was mid is taken left) where
  pub goes_keep : (new : Running) → new ≡ record mid { line = mid.line ++ left } → Goes a b old was new is taken []
  goes_keep new kept = told_map was is (λ x y gone. gone_keep a b old mid new x y taken left kept gone) goes

  pub goes_write : (c : Option (List ℕ)) (new : Running) → WritesOn b c mid new → Goes a c old was new is taken left
  goes_write c new writes = told_map was is (λ x y gone. gone_write a b c old mid new x y taken left writes gone) goes

  pub goes_front : (c : Option (List ℕ)) (new : Running) (after : Option (List File)) (front behind : List ℕ) → left ≡ front ++ behind → Goes b c mid is new after front [] → Goes a c old was new after taken behind
  goes_front c new after front behind parts then =
      told_then was is after (λ x y z gone more. gone_front a b c old mid new x y z taken front behind (subst (λ (l : List ℕ). IsGone a b old x mid y taken l) parts gone) more) goes then

pub goes_line : (a b : Option (List ℕ)) (old next new : Running) (was left : Option (List File)) (line : List ℕ) → has_line_end old.line ≡ false → has_line_end line ≡ false → Replied old was (old.line ++ line) next left → WritesOn a b next new → Goes a b old was new left (line ++ 10 ∷ []) []
goes_line a b old next new was left line whole_line whole replied writes =
    told_map was left (λ x y done. gone_line a b old next new x y line whole_line whole done writes) replied

-- a line was answered
pub replied_gives : (old new : Running) (was left : Option (List File)) (done : List ℕ) (any_refused : Bool) → new.line ≡ [] → new.refused ≡ (old.refused || any_refused) → GivesTold (λ m a. IsAnswer m done a) old.state new.state was left old.unwritten new.unwritten any_refused → Replied old was done new left
replied_gives old new was left done any_refused empty refused gives = told_map was left (λ x y given. record {
  answer = record { machine = machine_of new y; text = given.text; refused = any_refused };
  answered = given.is;
  machine = refl;
  unwritten = given.grows;
  refused = refused;
  line = empty;
}) gives
