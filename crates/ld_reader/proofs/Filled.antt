-- Statements whose words fill their places, or a front of them, in any language.
use Rattle.std.proofs.Common.{◌≡◌, ℕ, zero, suc, Bool, true, false, List, [], ◌∷◌, ◌++◌, ◌||◌, Some, None, Result, Ok, Err, if◌then◌else◌, drop, is_some, map, not, refl, sym, ap, ◌∙◌, append_assoc, inl, inr}
use Rattle.std.proofs.lemmas.Bool.{cases_Bool, true≢false}
use Rattle.std.proofs.lemmas.List.{append-nil}
use Rattle.ld_words.specs.declared.word.Word.{Word as WordOn}
use Rattle.ld_words.specs.Reading.{Ending, Reading as WordsRead}
use Rattle.ld_forms.specs.declared.passing.Passing.TheVariants as passing
use Rattle.ld_forms.specs.declared.place.Fit.{Fit}
use Rattle.ld_forms.specs.declared.place.Fit.TheVariants as fit
use Rattle.ld_forms.specs.declared.place.Judged.{Judged}
use Rattle.ld_forms.specs.declared.place.Place.{Place}
use Rattle.ld_forms.specs.declared.place.Place.TheVariants as place
use Rattle.ld_forms.specs.Filling.{Any, End, Fills, Group, Key, Maybe, More, NoGroup, NoMaybe, NoMore, One, Stop, Through}
use Rattle.ld_forms.specs.Passing.{pass_step}
use Rattle.ld_forms.specs.Places.{Word, due, due_behind, fit_in, is_semicolon, left_out}
use Rattle.ld_reader.specs.declared.fault.TextFault.{TextFault}
use Rattle.ld_reader.specs.declared.language.Begun.TheVariants as begun
use Rattle.ld_reader.specs.declared.reader.Reader.{Reader}
use Rattle.ld_reader.specs.Due.{passing as passing_part}
use Rattle.ld_reader.specs.Laws.{BadIsFault, Begins, Behind, With, FaultIsOnItsLine, FilledIsSet, GoesThrough, Here, LinesSayNothing, StrayIsPassedOver, StrictStrayIsFault, There, WordsBehindAreLeft, first_fit, fit_of, run}
use Rattle.ld_reader.specs.Reading.{after, after_step, at, between, by_fit, by_places, in_form, in_passing, is_done, left_after, left_behind, moved, on_set, passed_on, read_from, reader, step_of, unless_done, whole, within}
use Rattle.ld_reader.specs.Rules.{Rules}
use Rattle.ld_reader.proofs.Answered.{done-read}

-- what is due behind so many places
behind-drop : {C K : Type 0} (judge : C → Word → Judged K) (n : ℕ) (places : List (Place C)) (word : Word) → due_behind judge n places word ≡ due judge (drop n places) word
behind-drop judge zero [] word = refl
behind-drop judge zero (p ∷ places) word = refl
behind-drop judge (suc n) [] word = refl
behind-drop judge (suc n) (p ∷ places) word = behind-drop judge n places word

module _ {T C S K : Type 0} (g : Rules T C S K) where
  -- on from what a word gave
  abbrev runs : Result (Reader T C S) K → List Word → Result (Reader T C S) K
  runs given words = after g given (λ next. run g next words)

  -- where no more word is due a reader stays
  stays : (r : Reader T C S) (words : List Word) → is_done g r ≡ true → run g r words ≡ Ok r
  unfolding run
  stays r [] over = refl
  stays r (w ∷ words) over = rw over refl

  on-set-moved : (set : Result T K) (w : Word) (words : List Word) → runs (on_set g set) (w ∷ words) ≡ runs (after g (on_set g set) (λ r. unless_done g r w)) words
  unfolding run step_of
  on-set-moved (Ok u) w words = elim (cases_Bool (g.is_done u)) [
    | inl over ↦ rw over (sym (stays (at u) words over))
    | inr live ↦ rw live refl
  ]
  on-set-moved (Err k) w words = refl

  module _ (t : T) (s : S) (live : g.is_done t ≡ false) where
    -- a word where these places are left
    step-moved : (kept : List Word) (places : List (Place C)) (w : Word) (words : List Word)
        → runs (moved g t kept s places) (w ∷ words) ≡ runs (by_places g t kept s (due g.judged places w) w) words
    unfolding run step_of in_form moved whole
    step-moved kept [] w words = on-set-moved (g.set t s kept) w words
    step-moved kept (p ∷ places) w words = rw live refl

    -- a word in its place
    on-place : (kept : List Word) (p : Place C) (places : List (Place C)) (w : Word) (words : List Word) (f : Fit K) → left_out g.judged p w ≡ None → fit_in g.judged p w ≡ f
        → runs (moved g t kept s (p ∷ places)) (w ∷ words) ≡ runs (by_fit g t kept s (p ∷ places) places f w) words
    on-place kept p places w words f here fits = step-moved kept (p ∷ places) w words ∙ (rw (here, fits) refl)

    -- a place that is left out
    off-place : (kept : List Word) (p : Place C) (places : List (Place C)) (n : ℕ) (w : Word) (words : List Word) → left_out g.judged p w ≡ Some n
        → runs (moved g t kept s (p ∷ places)) (w ∷ words) ≡ runs (moved g t kept s (drop n places)) (w ∷ words)
    off-place kept p places n w words out =
        step-moved kept (p ∷ places) w words
        ∙ (rw (out, behind-drop g.judged n places w) (sym (step-moved kept (drop n places) w words)))

    -- with one word more that is kept
    keeps : (kept : List Word) (w : Word) (ks : List Word) (places : List (Place C)) (rest : List Word)
        → runs (moved g t ((kept ++ w ∷ []) ++ ks) s places) rest ≡ runs (moved g t (kept ++ w ∷ ks) s places) rest
    keeps kept w ks places rest = ap (λ (k : List Word). runs (moved g t k s places) rest) (append_assoc kept (w ∷ []) ks)

    keeps-none : (kept : List Word) (places : List (Place C)) (rest : List Word) → runs (moved g t kept s places) rest ≡ runs (moved g t (kept ++ []) s places) rest
    keeps-none kept places rest = ap (λ (k : List Word). runs (moved g t k s places) rest) (sym (append-nil kept))

    -- words that fill a front of the places
    front-read : {places later : List (Place C)} {words ks rest : List Word} → Fills g.judged places words ks later rest
        → (kept : List Word) → runs (moved g t kept s places) words ≡ runs (moved g t (kept ++ ks) s later) rest
    unfolding left_out fit_in by_fit moved
    front-read {places = ps} {words = ws} Stop kept = keeps-none kept ps ws
    front-read (Key {c = c} {w = w} {ps = ps} {ws = ws} fits more) kept =
        on-place kept (place.Key c) ps w ws fit.Taken refl (rw fits refl) ∙ front-read more kept
    front-read {later = qs} {rest = rest} (One {c = c} {w = w} {ps = ps} {ws = ws} {ks = ks} fits more) kept =
        on-place kept (place.One c) ps w ws fit.Kept refl (rw fits refl) ∙ front-read more (kept ++ w ∷ []) ∙ keeps kept w ks qs rest
    front-read {later = qs} {rest = rest} (Maybe {c = c} {w = w} {ps = ps} {ws = ws} {ks = ks} fits more) kept =
        on-place kept (place.Maybe c) ps w ws fit.Kept (rw fits refl) (rw fits refl) ∙ front-read more (kept ++ w ∷ []) ∙ keeps kept w ks qs rest
    front-read (NoMaybe {c = c} {w = w} {ps = ps} {ws = ws} goes more) kept =
        off-place kept (place.Maybe c) ps 0 w ws (rw goes refl) ∙ front-read more kept
    front-read {later = qs} {rest = rest} (Group {c = c} {n = n} {w = w} {ps = ps} {ws = ws} {ks = ks} fits more) kept =
        on-place kept (place.Group c n) ps w ws fit.Kept (rw fits refl) (rw fits refl) ∙ front-read more (kept ++ w ∷ []) ∙ keeps kept w ks qs rest
    front-read (NoGroup {c = c} {n = n} {w = w} {ps = ps} {ws = ws} goes more) kept =
        off-place kept (place.Group c n) ps n w ws (rw goes refl) ∙ front-read more kept
    front-read {later = qs} {rest = rest} (More {c = c} {w = w} {ps = ps} {ws = ws} {ks = ks} fits more) kept =
        on-place kept (place.More c) ps w ws fit.KeptHere (rw fits refl) (rw fits refl) ∙ front-read more (kept ++ w ∷ []) ∙ keeps kept w ks qs rest
    front-read (NoMore {c = c} {w = w} {ps = ps} {ws = ws} goes more) kept =
        off-place kept (place.More c) ps 0 w ws (rw goes refl) ∙ front-read more kept
    front-read (Any {w = w} {ps = ps} {ws = ws} other more) kept =
        on-place kept place.Through ps w ws fit.Here refl (rw other refl) ∙ front-read more kept
    front-read (Through {w = w} {ps = ps} {ws = ws} last) kept =
        on-place kept place.Through ps w ws fit.Ends refl (rw last refl) ∙ keeps-none kept [] ws
    front-read (End {w = w} {ps = ps} {ws = ws} last) kept =
        on-place kept place.End ps w ws fit.Ends refl (rw last refl) ∙ keeps-none kept [] ws

    -- a first word that takes one of these places
    within-places : (ds : List (Place C)) (w : Word) → is_some (first_fit g.judged ds w) ≡ true → within g t [] s ds w ≡ by_places g t [] s ds w
    within-places [] w takes = absurd (true≢false (sym takes))
    within-places (p ∷ later) w takes = refl

    -- a statement that begins
    begin-read : {words filling : List Word} → Begins g t s words filling → run g (at t) words ≡ runs (moved g t [] s (g.places s)) filling
    unfolding run step_of between
    begin-read (Behind begins) = rw (live, begins) refl
    begin-read (With {first = first} {words = words} begins takes) =
        rw (live, begins) (ap (λ (r : Result (Reader T C S) K). runs r words) (within-places (due g.judged (g.places s) first) first takes)
        ∙ sym (step-moved [] (g.places s) first words))

    -- a word in the place that it is to take
    by-first : (kept : List Word) (ds : List (Place C)) (w : Word) (f : Fit K) → first_fit g.judged ds w ≡ Some f → by_places g t kept s ds w ≡ by_fit g t kept s ds (drop 1 ds) f w
    by-first kept [] w f is = cc
    by-first kept (p ∷ later) w f is = let same : fit_in g.judged p w ≡ f = cc in rw same refl

    word-read : (kept : List Word) (places : List (Place C)) (w : Word) (words : List Word) (f : Fit K) → fit_of g.judged places w ≡ Some f
        → runs (moved g t kept s places) (w ∷ words) ≡ runs (by_fit g t kept s (due g.judged places w) (drop 1 (due g.judged places w)) f w) words
    word-read kept places w words f is =
        step-moved kept places w words ∙ ap (λ (r : Result (Reader T C S) K). runs r words) (by-first kept (due g.judged places w) w f is)

  -- words that go through a `;` where a part is passed over
  passing-read : (t : T) → g.is_done t ≡ false → {words rest : List Word} → GoesThrough words rest
      → run g (reader t [] (passing_part passing.Statement)) words ≡ run g (at t) rest
  unfolding run step_of in_passing pass_step
  passing-read t live (Here last) = rw (live, last) refl
  passing-read t live (There other more) = rw (live, other) (passing-read t live more)

  through-read : (t : T) → g.is_done t ≡ false → (w : Word) (more rest : List Word) → GoesThrough (w ∷ more) rest → run g (passed_on t w) more ≡ run g (at t) rest
  through-read t live w more rest (Here last) = rw last refl
  through-read t live w more rest (There other through) = rw other (passing-read t live through)

  pub filled : FilledIsSet g
  unfolding moved whole
  filled t u s words filling kept rest live begins fills sets =
      begin-read t s live begins ∙ front-read t s live fills [] ∙ (rw sets refl)

  pub stray : StrayIsPassedOver g
  unfolding by_fit
  stray t s words filling kept places w more rest live counted loose begins fills strays through =
      begin-read t s live begins ∙ front-read t s live fills [] ∙ word-read t s live kept places w more fit.Misfit strays
      ∙ (rw loose (through-read (g.counted t) counted w more rest through))

  -- a fault, or a `;` that is none
  bad-word : (strict semicolon : Bool) (k : K) (over : Result (Reader T C S) K) → (strict || not semicolon) ≡ true
      → (if strict then Err k else if semicolon then over else Err k) ≡ Err k
  bad-word true semicolon k over is = refl
  bad-word false true k over is = cc
  bad-word false false k over is = refl

  pub bad_fault : BadIsFault g
  unfolding by_fit
  bad_fault t s words filling kept places w more k live faulty begins fills is =
      begin-read t s live begins ∙ front-read t s live fills [] ∙ word-read t s live kept places w more (fit.Bad k) is
      ∙ ap (λ (r : Result (Reader T C S) K). runs r more) (bad-word (g.is_strict t) (is_semicolon w) k (Ok (passed_on (g.counted t) w)) faulty)

  pub strict_stray : StrictStrayIsFault g
  unfolding by_fit
  strict_stray t s words filling kept places w more live strict begins fills strays =
      begin-read t s live begins ∙ front-read t s live fills [] ∙ word-read t s live kept places w more fit.Misfit strays ∙ (rw strict refl)

  -- on with a word that its place takes
  step-on : (line : ℕ) (step : Result (Reader T C S) K) (next : Reader T C S) (words : List Word) (read : Reader T C S → Result (Reader T C S) (TextFault K)) (answer : Result (Reader T C S) (TextFault K))
      → ((r : Reader T C S) → run g r words ≡ Ok next → read r ≡ answer) → runs step words ≡ Ok next → after_step g line step read ≡ answer
  step-on line (Ok r) next words read answer on h = on r h
  step-on line (Err k) next words read answer on h = cc

  pub lines-nothing : LinesSayNothing g
  unfolding run read_from
  lines-nothing r next [] more ending h = let same : r ≡ next = cc in ap (λ q. read_from g q more ending) same
  lines-nothing r next (w ∷ words) more ending h = elim (cases_Bool (is_done g r)) [
    | inl over ↦
        let same : r ≡ next = cc (rw over at h) in
        rw over (sym (ap (λ q. read_from g q more ending) (sym same) ∙ done-read g r more ending over) ∙ refl)
    | inr live ↦
        rw live (step-on w.line (step_of g r w.bytes) next (map (λ v. v.bytes) words) (λ q. read_from g q (words ++ more) ending) (read_from g next more ending)
        (λ q. lines-nothing q next words more ending) (rw live at h))
  ]

  pub fault-line : FaultIsOnItsLine g
  unfolding read_from
  fault-line r next words word more ending k due led stops = lines-nothing r next words (word ∷ more) ending led ∙ (rw (due, stops) refl)

  -- on with a word that its place takes, and to what is left then
  left-on : (behind : List WordOn) (ending : Ending) (step : Result (Reader T C S) K) (next : Reader T C S) (words : List Word) (left : Reader T C S → WordsRead) (rest : WordsRead)
      → ((r : Reader T C S) → run g r words ≡ Ok next → left r ≡ rest) → runs step words ≡ Ok next → left_after g behind ending step left ≡ rest
  left-on behind ending (Ok r) next words left rest on h = on r h
  left-on behind ending (Err k) next words left rest on h = cc

  pub words-left : WordsBehindAreLeft g
  unfolding run left_behind
  words-left r next [] more ending due h = let same : r ≡ next = cc in ap (λ q. left_behind g q more ending) same
  words-left r next (w ∷ words) more ending due h = elim (cases_Bool (is_done g r)) [
    | inl over ↦ let same : r ≡ next = cc (rw over at h) in absurd (true≢false (sym over ∙ ap (is_done g) same ∙ due))
    | inr live ↦
        rw live (left-on (words ++ more) ending (step_of g r w.bytes) next (map (λ v. v.bytes) words) (λ q. left_behind g q (words ++ more) ending) (left_behind g next more ending)
        (λ q. words-left q next words more ending due) (rw live at h))
  ]
