-- What holds of a block where a question of a plan let it go on.
use Rattle.std.proofs.Common.{◌≡◌, ◌≤◌, Bool, true, false, List, ℕ, Option, None, Some, Result, Ok, Err, eqb, is_some, not, cond, refl, ap, arith}
use Rattle.std.specs.Option.{option_map, unwrap_or}
use Rattle.std.proofs.lemmas.Bool.{eqb-false, eqb-true, false≢true, not-true}
use Rattle.odb_base.specs.declared.codes.kind.Kind.{Kind}
use Rattle.odb_base.specs.declared.name.NameFault.{NameFault}
use Rattle.edit_words.specs.declared.refusal.Refusal.{Refusal}
use Rattle.edit_words.specs.declared.refusal.Refusal.TheVariants as refusal
use Rattle.edits.specs.Checks.{holds_or, no_fault, nobody, nothing_lacks, some_or}
use Rattle.edits.specs.Plan.{joined, same_terms, unjoined}

pub same_ok : {A : Type 0} (x y : A) → ◌≡◌ {A = Result A Refusal} (Ok x) (Ok y) → x ≡ y
same_ok x y h = cc

pub err_ok : {A : Type 0} (why : Refusal) (y : A) → ◌≡◌ {A = Result A Refusal} (Err why) (Ok y) → ⊥
err_ok why y h = cc

pub held : (b : Bool) (why : Refusal) (u : Unit {0}) → holds_or b why ≡ Ok u → b ≡ true
held true why u h = refl
held false why u h = absurd (err_ok why u h)

pub there : {A : Type 0} (o : Option A) (why : Refusal) (x : A) → some_or o why ≡ Ok x → o ≡ Some x
there None why x h = absurd (err_ok why x h)
there (Some y) why x h = ap Some (same_ok y x h)

pub faultless : (fault : Option NameFault) (place : ℕ) (u : Unit {0}) → no_fault fault place ≡ Ok u → fault ≡ None
faultless None place u h = refl
faultless (Some fault) place u h = absurd (err_ok (refusal.BadName place) u h)

pub unfound : (holder : Option ℕ) (u : Unit {0}) → nobody holder ≡ Ok u → holder ≡ None
unfound None u h = refl
unfound (Some holder) u h = absurd (err_ok (refusal.NameTaken holder) u h)

pub enough : (k : Option Kind) (u : Unit {0}) → nothing_lacks k ≡ Ok u → k ≡ None
enough None u h = refl
enough (Some k) u h = absurd (err_ok (refusal.TableFull k) u h)

pub alike : (name : Option (List ℕ)) (u : Unit {0}) → same_terms name ≡ Ok u → name ≡ None
alike None u h = refl
alike (Some name) u h = absurd (err_ok (refusal.TermsDiffer name) u h)

-- a test gave its first answer
pub tested : {A : Type 0} (b : Bool) (x y : A) (why : Refusal) → cond b (Ok x) (Err why) ≡ Ok y → (b ≡ true) × (x ≡ y)
tested true x y why h = (refl, same_ok x y h)
tested false x y why h = absurd (err_ok why y h)

module _ {A : Type 0} (net_of : A → ℕ) where
  -- a terminal that is there is joined to nothing
  pub parted_net : (o : Option A) (u : Unit {0}) → is_some o ≡ true → unjoined (option_map net_of o) ≡ Ok u → option_map net_of o ≡ Some 0
  parted_net None u some h = absurd (false≢true some)
  parted_net (Some x) u some h = ap Some (eqb-true (net_of x) 0 (held (eqb (net_of x) 0) (refusal.Joined (net_of x)) u h))

joined_at : (b : Bool) (net n : ℕ) → eqb net 0 ≡ b → cond b (Err refusal.NotJoined) (Ok net) ≡ Ok n → (net ≡ n) × (1 ≤ n)
joined_at true net n e h = absurd (err_ok refusal.NotJoined n h)
joined_at false net n e h =
    let same = same_ok net n h in
    let some = eqb-false net 0 e in
    (same, omega (arith, some, same))

-- a terminal is joined to a net
pub joined_net : (o : Option ℕ) (net : ℕ) → joined o ≡ Ok net → (o ≡ Some net) × (1 ≤ net)
joined_net None net h = absurd (err_ok refusal.NotJoined net h)
joined_net (Some other) net h =
    let found = joined_at (eqb other 0) other net refl h in
    (ap Some found.0, found.1)

-- a net that is there is plain
pub plain_net : {A : Type 0} (special_of : A → Bool) (o : Option A) → is_some o ≡ true → not (unwrap_or (option_map special_of o) false) ≡ true → option_map special_of o ≡ Some false
plain_net special_of None some h = absurd (false≢true some)
plain_net special_of (Some x) some h = ap Some (not-true (special_of x) h)
