-- Questions that are asked one after another: the refusal of the first that fails comes no later than any other's.
use Rattle.std.proofs.Common.{◌≡◌, ◌≤◌, ◌⊎◌, ◌&&◌, ◌||◌, Bool, true, false, List, [], ◌∷◌, ℕ, Result, Ok, Err, refl, sym, ap, subst, ◌∙◌, inl, inr, arith}
use Rattle.std.specs.Prelude.{◌==◌, nat_le, nat_lt}
use Rattle.std.proofs.lemmas.Bool.{and_parts, eqb-true, false≢true, leb-true, ltb-true, or_cases}
use Rattle.edit_words.specs.declared.refusal.Refusal.{Refusal}
use Rattle.edits.specs.Refusals.{ComesNoLater, refusal_number}
use Rattle.edits.proofs.Questions.{err_ok, same_ok}

-- a question: the number and the place of its refusal, and whether it goes on
pub record Question : Type 0 where
  pub number : ℕ
  pub place : ℕ
  pub holds : Bool

-- one of the questions has this number and this place, and fails
abbrev pub Fails : ℕ → ℕ → List Question → Type 0
Fails n p [] = ⊥
Fails n p (q ∷ qs) = ((q.number ≡ n) × (q.place ≡ p) × (q.holds ≡ false)) ⊎ Fails n p qs

abbrev pub comes_no_later : ℕ → ℕ → ℕ → ℕ → Bool
comes_no_later number at other place = nat_lt number other || (number == other && nat_le at place)

-- the questions come no earlier than this one
abbrev pub all_behind : Question → List Question → Bool
all_behind q [] = true
all_behind q (x ∷ xs) = comes_no_later q.number q.place x.number x.place && all_behind q xs

-- each question comes no earlier than those in front of it
abbrev pub in_order : List Question → Bool
in_order [] = true
in_order (q ∷ qs) = all_behind q qs && in_order qs

no_later : (number at other place : ℕ) → comes_no_later number at other place ≡ true → ComesNoLater number at other place
no_later number at other place h = elim (or_cases (nat_lt number other) (number == other && nat_le at place) h) [
  | inl e ↦ inl (ltb-true number other e)
  | inr e ↦
      let parts = and_parts (number == other) (nat_le at place) e in
      inr (eqb-true number other parts.0, leb-true at place parts.1)
]

behind : (q : Question) (qs : List Question) (n p : ℕ) → all_behind q qs ≡ true → Fails n p qs → ComesNoLater q.number q.place n p
behind q [] n p h fails = absurd fails
behind q (x ∷ xs) n p h (inl here) =
    let first = no_later q.number q.place x.number x.place (and_parts (comes_no_later q.number q.place x.number x.place) (all_behind q xs) h).0 in
    subst (λ m. ComesNoLater q.number q.place m p) here.0 (subst (λ at. ComesNoLater q.number q.place x.number at) here.1 first)
behind q (x ∷ xs) n p h (inr there) = behind q xs n p (and_parts (comes_no_later q.number q.place x.number x.place) (all_behind q xs) h).1 there

same_err : {B : Type 0} (one other : Refusal) → ◌≡◌ {A = Result B Refusal} (Err one) (Err other) → one ≡ other
same_err one other h = cc

module _ (A : Refusal → ℕ → Type 0) where
  -- a refusal that comes no later than those of the questions that fail
  pub record Leads (qs : List Question) (why : Refusal) : Type 0 where
    pub at : ℕ
    pub applies : A why at
    pub least : (n p : ℕ) → Fails n p qs → ComesNoLater (refusal_number why) at n p

module _ {B : Type 0} (A : Refusal → ℕ → Type 0) where
  -- the answer is the refusal of the question, which applies
  pub record IsRefused (q : Question) (r : Result B Refusal) : Type 0 where
    pub why : Refusal
    pub is : r ≡ Err why
    pub applies : A why q.place
    pub number : refusal_number why ≡ q.number

module _ {B : Type 0} (A : Refusal → ℕ → Type 0) (Is : B → Type 0) where
  -- the answer is that of the questions, one after another: the refusal of the first that fails, else a value that is so
  pub Answers : List Question → Result B Refusal → Type 0
  Answers [] r = (y : B) × (r ≡ Ok y) × Is y
  Answers (q ∷ qs) r = ((q.holds ≡ true) × Answers qs r) ⊎ IsRefused A q r

  pub goes_on : (q : Question) (qs : List Question) (r : Result B Refusal) → q.holds ≡ true → Answers qs r → Answers (q ∷ qs) r
  unfolding Answers
  goes_on q qs r holds rest = inl (holds, rest)

  pub refuses : (q : Question) (qs : List Question) (r : Result B Refusal) → IsRefused A q r → Answers (q ∷ qs) r
  unfolding Answers
  refuses q qs r refused = inr refused

  pub ends : (y : B) → Is y → Answers [] (Ok y)
  unfolding Answers
  ends y is = (y, refl, is)

  pub refusal_leads : (qs : List Question) (r : Result B Refusal) (why : Refusal) → Answers qs r → in_order qs ≡ true → r ≡ Err why → Leads A qs why
  unfolding Answers
  refusal_leads [] r why answers order h = absurd (err_ok why answers.0 (sym h ∙ answers.1))
  refusal_leads (q ∷ qs) r why (inl on) order h =
      let first = refusal_leads qs r why on.1 (and_parts (all_behind q qs) (in_order qs) order).1 h in
      record {
        at = first.at;
        applies = first.applies;
        least = λ n p fails. elim fails [
          | inl here ↦ absurd (false≢true (sym here.2 ∙ on.0))
          | inr there ↦ first.least n p there
        ];
      }
  refusal_leads (q ∷ qs) r why (inr refused) order h =
      let same : refused.why ≡ why = same_err refused.why why (sym refused.is ∙ h) in
      let number : q.number ≡ refusal_number why = sym refused.number ∙ ap refusal_number same in
      record {
        at = q.place;
        applies = subst (λ w. A w q.place) same refused.applies;
        least = λ n p fails. elim fails [
          | inl here ↦ inr (sym number ∙ here.0, subst (λ at. q.place ≤ at) here.1 (omega arith))
          | inr there ↦ subst (λ m. ComesNoLater m q.place n p) number (behind q qs n p (and_parts (all_behind q qs) (in_order qs) order).0 there)
        ];
      }

  pub none_fails : (qs : List Question) (r : Result B Refusal) (y : B) → Answers qs r → r ≡ Ok y → (n p : ℕ) → ¬ (Fails n p qs)
  unfolding Answers
  none_fails [] r y answers h n p fails = fails
  none_fails (q ∷ qs) r y (inl on) h n p (inl here) = false≢true (sym here.2 ∙ on.0)
  none_fails (q ∷ qs) r y (inl on) h n p (inr there) = none_fails qs r y on.1 h n p there
  none_fails (q ∷ qs) r y (inr refused) h n p fails = err_ok refused.why y (sym refused.is ∙ h)

  -- a value that is answered is so
  pub answer_is : (qs : List Question) (r : Result B Refusal) (y : B) → Answers qs r → r ≡ Ok y → Is y
  unfolding Answers
  answer_is [] r y answers h = subst Is (same_ok answers.0 y (sym answers.1 ∙ h)) answers.2
  answer_is (q ∷ qs) r y (inl on) h = answer_is qs r y on.1 h
  answer_is (q ∷ qs) r y (inr refused) h = absurd (err_ok refused.why y (sym refused.is ∙ h))
