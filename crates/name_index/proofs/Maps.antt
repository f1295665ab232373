-- Maps from names, at a name and at others.
use Rattle.std.proofs.Common.{◌≡◌, ◌≢◌, ◌+◌, ◌-◌, ◌≤◌, true, false, cond, eqb, List, [], ◌∷◌, ℕ, zero, suc, Option, Some, None, length, refl, sym, ap, ◌∙◌, inl, inr, ◌⊎◌, arith}
use Rattle.std.specs.FinMap.{get, insert, remove, len, get-insert, get-remove, len-insert, len-remove, same_map, empty_of_len, get-empty, slice_cmp-IsAntisymmetric, nat_cmp-IsAntisymmetric}
use Rattle.std.specs.Cmp.{tied_itself}
use Rattle.std.specs.Cmp.Lexicographic.{slice_cmp}
use Rattle.std.specs.Option.{is_some, unwrap_or}
use Rattle.std.specs.Ordering.{eq_by_cmp, is_eq, nat_cmp}
use Rattle.std.specs.declared.cmp.Ordering.{Ordering}
use Rattle.std.specs.declared.cmp.Ordering.TheVariants.{Less, Equal, Greater}
use Rattle.std.proofs.lemmas.Bool.{cases_Bool, eq-eqb, false≢true, or_left, or_right}
use Rattle.std.proofs.lemmas.Cmp.{nat_list_cmp_total}
use Rattle.odb_base.specs.Ids.{IsDistinct, holds}
use Rattle.name_index.specs.Names.{Names}

abbrev order : List ℕ → List ℕ → Ordering
order = slice_cmp nat_cmp

equal_of : (o : Ordering) → is_eq o ≡ true → o ≡ Equal
equal_of Less e = absurd (false≢true e)
equal_of Equal e = refl
equal_of Greater e = absurd (false≢true e)

-- names that tie are one name
tied_same : (a b : List ℕ) → eq_by_cmp order a b ≡ true → a ≡ b
tied_same a b e = slice_cmp-IsAntisymmetric nat_cmp-IsAntisymmetric a b (equal_of (order a b) e)

ties_itself : (a : List ℕ) → eq_by_cmp order a a ≡ true
ties_itself a = ap is_eq (tied_itself nat_list_cmp_total a)

-- names are one or two
pub cases_name : (a b : List ℕ) → (a ≡ b) ⊎ (a ≢ b)
cases_name a b = elim (cases_Bool (eq_by_cmp order a b)) [
  | inl e ↦ inl (tied_same a b e)
  | inr e ↦ inr (λ same. false≢true (sym e ∙ ap (eq_by_cmp order a) (sym same) ∙ ties_itself a))
]

apart : (a b : List ℕ) → a ≢ b → eq_by_cmp order a b ≡ false
apart a b ne = elim (cases_Bool (eq_by_cmp order a b)) [ inl e ↦ absurd (ne (tied_same a b e)) | inr e ↦ e ]

-- what a map has under a name that was put in, and under others
pub get-insert_same : (m : Names) (k : List ℕ) (v : ℕ) → get (insert m k v) k ≡ Some v
get-insert_same m k v = get-insert nat_list_cmp_total m k v k ∙ ap (λ b. cond b (Some v) (get m k)) (ties_itself k)

pub get-insert_other : (m : Names) (k : List ℕ) (v : ℕ) (q : List ℕ) → q ≢ k → get (insert m k v) q ≡ get m q
get-insert_other m k v q ne = get-insert nat_list_cmp_total m k v q ∙ ap (λ b. cond b (Some v) (get m q)) (apart q k ne)

-- what it has under a name that was taken out, and under others
pub get-remove_same : (m : Names) (k : List ℕ) → get (remove m k) k ≡ None
get-remove_same m k = get-remove nat_list_cmp_total m k k ∙ ap (λ b. cond b None (get m k)) (ties_itself k)

pub get-remove_other : (m : Names) (k q : List ℕ) → q ≢ k → get (remove m k) q ≡ get m q
get-remove_other m k q ne = get-remove nat_list_cmp_total m k q ∙ ap (λ b. cond b None (get m q)) (apart q k ne)

pub same_Some : (x y : ℕ) → Some x ≡ Some y → x ≡ y
same_Some x y e = ap (λ o. unwrap_or o x) e

pub not_None : (o : Option ℕ) (x : ℕ) → o ≡ None → o ≡ Some x → ⊥
not_None o x none some = false≢true (sym (ap is_some none) ∙ ap is_some some)

-- how many names it has then
pub len-insert_new : (m : Names) (k : List ℕ) (v : ℕ) → get m k ≡ None → len (insert m k v) ≡ len m + 1
len-insert_new m k v none = len-insert nat_list_cmp_total m k v ∙ ap (λ o. cond (is_some o) (len m) (len m + 1)) none

pub some_len : (m : Names) (k : List ℕ) (v : ℕ) → get m k ≡ Some v → 1 ≤ len m
some_len m k v some = by_len (len m) refl
  where
    by_len : (n : ℕ) → len m ≡ n → 1 ≤ n
    by_len zero e = absurd (not_None (get m k) v (ap (λ n. get n k) (empty_of_len m e) ∙ get-empty order k) some)
    by_len (suc n) e = omega arith

pub len-remove_some : (m : Names) (k : List ℕ) (v : ℕ) → get m k ≡ Some v → len (remove m k) + 1 ≡ len m
len-remove_some m k v some =
    let h = some_len m k v some in
    let e = len-remove nat_list_cmp_total m k ∙ ap (λ o. cond (is_some o) (len m - 1) (len m)) some in
    omega (arith, h, e)

-- two maps with the same under each name are one
pub same_names : (m n : Names) → ((q : List ℕ) → get m q ≡ get n q) → m ≡ n
same_names m n h = same_map nat_list_cmp_total (slice_cmp-IsAntisymmetric nat_cmp-IsAntisymmetric) m n h

-- identifiers that a map has under their own names are no more than it has names
pub length-named : (name : ℕ → List ℕ) (ids : List ℕ) (m : Names) → IsDistinct ids → ((id : ℕ) → holds ids id ≡ true → get m (name id) ≡ Some id) → length ids ≤ len m
length-named name [] m distinct each = omega arith
length-named name (x ∷ xs) m distinct each =
    let here = each x (or_left (eqb x x) (holds xs x) (eq-eqb x x refl)) in
    let rest = λ (id : ℕ) (inside : holds xs id ≡ true).
    let there = each id (or_right (eqb x id) (holds xs id) inside) in
    get-remove_other m (name x) (name id) (λ e. differs id inside (same_Some id x (sym there ∙ ap (get m) e ∙ here))) ∙ there
    in
    let shorter = length-named name xs (remove m (name x)) distinct.1 rest in
    omega (arith, shorter, len-remove_some m (name x) x here)
  where
    differs : (id : ℕ) → holds xs id ≡ true → id ≡ x → ⊥
    differs id inside e = false≢true (sym distinct.0 ∙ ap (holds xs) (sym e) ∙ inside)
