use Rattle.std.proofs.Common.{◌≡◌, ℕ, Option, None, Some, IfNone, IfSome, subst, sym, ◌∙◌, arith}
use Rattle.std.proofs.lemmas.Bool.{false≢true}
use Rattle.block_tables.proofs.check.fault_in.Goals as goal

-- what is said of an answer that is known
of_none : (r : Option ℕ) (P : Type 0) → r ≡ None → IfNone r P → P
of_none r P is h = subst (λ o. IfNone o P) is h

of_some : (r : Option ℕ) (P : ℕ → Type 0) (id : ℕ) → r ≡ Some id → IfSome r P → P id
of_some r P id is h = subst (λ o. IfSome o P) is h

pub returns-then-branch-clause-none : goal.returns-then-branch-clause-none
returns-then-branch-clause-none c = λ none cap few. record {
  table = (c.in_ok-is_sound_table.ensures cap few).0 c.if-branch.true;
  records = of_none c.first_unsound.result _ none c.first_unsound.ensures.none;
}

pub returns-then-branch-clause-first : goal.returns-then-branch-clause-first
returns-then-branch-clause-first c = λ id is cap few.
    let some = of_some c.first_unsound.result _ id is c.first_unsound.ensures.some in
    record {
      table = λ zero sound. absurd (omega (arith, zero, some));
      sound_table = λ one. (c.in_ok-is_sound_table.ensures cap few).0 c.if-branch.true;
      this = λ one. of_some c.first_unsound.result _ id is c.first_unsound.ensures.this;
      before = of_some c.first_unsound.result _ id is c.first_unsound.ensures.before;
    }

pub returns-else-branch-clause-first : goal.returns-else-branch-clause-first
returns-else-branch-clause-first c = λ id is cap few.
    let zero : 0 ≡ id = cc in
    record {
      table = λ none sound. false≢true (sym c.if-branch.false ∙ (c.in_ok-is_sound_table.ensures cap few).1 sound);
      sound_table = λ some. absurd (omega (arith, zero, some));
      this = λ some sound. absurd (omega (arith, zero, some));
      before = λ lesser below. absurd (omega (arith, zero, below));
    }
