-- What is read where a source tells its bytes, as the bytes at hand become more.
use Rattle.std.proofs.Common.{◌≡◌, ℕ, Bool, true, false, cond, List, [], ◌++◌, Option, Some, None, refl, sym, ap, ◌∙◌}
use Rattle.std.proofs.lemmas.List.{append-nil, append_cancel_left}
use Rattle.std.specs.Option.{option_map}
use Rattle.ld_words.specs.declared.word.WordFault.{WordFault}
use Rattle.ld_words.specs.declared.word.WordFault.TheVariants as fault
use Rattle.ld_words.specs.Reading.{Reading, faulty}
use Rattle.ld_words.specs.Told.{SameIfTold, ShowsFault, ahead}

-- told before a step and after it
pub same_on : {A : Type 0} (a b c : Option A) → SameIfTold a b → SameIfTold b c → SameIfTold a c
same_on None b c h k = tt
same_on (Some a) None c h k = absurd h
same_on (Some a) (Some b) None h k = absurd k
same_on (Some a) (Some b) (Some c) h k = k ∙ h

-- nothing was read
pub same_self : {A : Type 0} (a : Option A) → SameIfTold a a
same_self None = tt
same_self (Some a) = refl

-- one reading of what is left, by two names
pub same_map : (f g : List ℕ → Reading) (o : Option (List ℕ)) → ((l : List ℕ) → f l ≡ g l) → option_map f o ≡ option_map g o
same_map f g None all = refl
same_map f g (Some l) all = ap Some (all l)

-- a reading goes on behind more bytes at hand
pub read_on : (f g : List ℕ → Reading) (hand more : List ℕ) (old new : Option (List ℕ)) → SameIfTold (ahead hand old) (ahead more new)
    → ((l : List ℕ) → g l ≡ f (more ++ l)) → SameIfTold (option_map (λ l. f (hand ++ l)) old) (option_map g new)
read_on f g hand more None new h all = tt
read_on f g hand more (Some a) None h all = absurd h
read_on f g hand more (Some a) (Some b) h all = all b ∙ ap f h

-- a reading that the bytes at hand decide
pub read_all : (f : List ℕ → Reading) (r : Reading) (hand more : List ℕ) (old new : Option (List ℕ)) → SameIfTold (ahead hand old) (ahead more new)
    → ((l : List ℕ) → r ≡ f (more ++ l)) → SameIfTold (option_map (λ l. f (hand ++ l)) old) (Some r)
read_all f r hand more None new h all = tt
read_all f r hand more (Some a) None h all = absurd h
read_all f r hand more (Some a) (Some b) h all = all b ∙ ap f h

-- a reading of the last bytes
pub read_last : (f : List ℕ → Reading) (r : Reading) (hand last : List ℕ) (old : Option (List ℕ)) → SameIfTold (ahead hand old) (Some last)
    → r ≡ f last → SameIfTold (option_map (λ l. f (hand ++ l)) old) (Some r)
read_last f r hand last None h e = tt
read_last f r hand last (Some a) h e = e ∙ ap f h

-- the bytes at hand are the last ones, and none is left
pub read_to_end : (f g : List ℕ → Reading) (hand : List ℕ) (old new : Option (List ℕ)) → SameIfTold (ahead hand old) (Some hand) → SameIfTold old new
    → g [] ≡ f hand → SameIfTold (option_map (λ l. f (hand ++ l)) old) (option_map g new)
read_to_end f g hand None new h same e = tt
read_to_end f g hand (Some a) None h same e = absurd same
read_to_end f g hand (Some a) (Some b) h same e =
    let none : [] ≡ a = append_cancel_left hand [] a (append-nil hand ∙ h) in
    ap g (same ∙ sym none) ∙ e ∙ ap f h

-- one reading by two names
pub same_by : {A : Type 0} (a b : Option A) → b ≡ a → SameIfTold a b
same_by a b e = rw e (same_self a)

-- a fault of the rest is a fault of the whole
pub shows_on : (a b : Option Reading) (f : WordFault) → SameIfTold a b → ShowsFault b f → ShowsFault a f
shows_on a b (fault.OpenQuote line) h k = same_on a b _ h k
shows_on a b (fault.LongWord line) h k = same_on a b _ h k
shows_on a b (fault.TooLong line) h k = same_on a b _ h k
shows_on a b fault.ReadFault h k = tt
shows_on a b fault.Memory h k = tt

-- a reading that is known whatever is left
pub known_by : (f : List ℕ → Reading) (r : Reading) (o : Option (List ℕ)) → ((l : List ℕ) → r ≡ f l) → SameIfTold (option_map f o) (Some r)
known_by f r None all = tt
known_by f r (Some l) all = all l

-- one of two faults
pub shows_either : (a : Option Reading) (b : Bool) (line line' : ℕ) → SameIfTold a (Some (faulty (cond b (fault.LongWord line) (fault.TooLong line'))))
    → ShowsFault a (cond b (fault.LongWord line) (fault.TooLong line'))
shows_either a true line line' h = h
shows_either a false line line' h = h
