-- One number more in a list, and one holder more of a name, counted up to two.
use Rattle.std.proofs.Common.{◌≡◌, ◌≢◌, ◌+◌, ◌<◌, ◌==◌, Bool, cond, eqb, List, ℕ, sym, subst, length, get_or, take, count_by, min, if◌then◌else◌, refl, ap, ◌∙◌, inl, inr, arith}
use Rattle.std.specs.HashMap.{HashMap, UpdatesBy, get_by}
use Rattle.std.specs.Option.{unwrap_or}
use Rattle.std.specs.Prelude.{Some}
use Rattle.std.specs.Str.{bytes_eq}
use Rattle.std.specs.Borrow.{Bor}
use Rattle.std.proofs.lemmas.Bool.{cases_Bool, eqb-false, eqb-true}
use Rattle.std.proofs.lemmas.List.{get_or_default}
use Rattle.std.proofs.lemmas.List.Sums.{count_by_more_no, count_by_more_yes}
use Rattle.std.proofs.lemmas.Map.Text.{hash_map_updates_str}
use Rattle.std.proofs.lemmas.Slice.Eq.{bytes_eq-Decides}
use Rattle.block_tables.specs.Counting.{holders_in, often}

-- up to two of a count that grew by one
pub two_more : (n : ℕ) → min 2 (n + 1) ≡ min 2 (min 2 n + 1)
two_more n = omega arith

-- the things of a list that pass a test, with one more of them
pub counted_more : {A : Type 0} (passes : A → Bool) (xs : List A) (i : ℕ) (x : A) → i < length xs → x ≡ get_or xs i x → min 2 (count_by passes (take (i + 1) xs)) ≡ (if passes x then min 2 (min 2 (count_by passes (take i xs)) + 1) else min 2 (count_by passes (take i xs)))
counted_more passes xs i x within is = elim (cases_Bool (passes x)) [
  | inl e ↦ rw (e, count_by_more_yes passes xs i x within (ap passes (sym is) ∙ e)) (two_more (count_by passes (take i xs)))
  | inr e ↦ rw (e, count_by_more_no passes xs i x within (ap passes (sym is) ∙ e)) refl
]

-- the numbers with one more of them
pub often_more : (numbers : List ℕ) (i number : ℕ) → i < length numbers → often number (take (i + 1) numbers) ≡ (if get_or numbers i 0 == number then min 2 (often number (take i numbers) + 1) else often number (take i numbers))
often_more numbers i number within = counted_more (λ other. other == number) numbers i (get_or numbers i 0) within (get_or_default numbers i 0 (get_or numbers i 0) within)

-- counts of the numbers that pass a test, with one more number
pub listed_more : (mine : ℕ → Bool) (numbers : List ℕ) (i : ℕ) (old counts counts' : List ℕ) → i < length numbers → ((other : ℕ) → other ≢ get_or numbers i 0 → get_or counts' other 0 ≡ get_or counts other 0) → (get_or numbers i 0 < length counts → get_or counts' (get_or numbers i 0) 0 ≡ (if mine (get_or numbers i 0) then min 2 (get_or counts (get_or numbers i 0) 0 + 1) else get_or counts (get_or numbers i 0) 0)) → ((n : ℕ) → n < length counts → get_or counts n 0 ≡ (if mine n then often n (take i numbers) else get_or old n 0)) → (n : ℕ) → n < length counts → get_or counts' n 0 ≡ (if mine n then often n (take (i + 1) numbers) else get_or old n 0)
listed_more mine numbers i old counts counts' some others this known n within =
    let more = often_more numbers i n some in
    elim (cases_Bool (eqb (get_or numbers i 0) n)) [
      | inl e ↦
          let P : ℕ → Type 0 = λ y. y < length counts → get_or counts' y 0 ≡ (if mine y then min 2 (get_or counts y 0 + 1) else get_or counts y 0) in
          let here = subst P (eqb-true (get_or numbers i 0) n e) this within in
          elim (cases_Bool (mine n)) [
            | inl m ↦ rw m ((rw m at here) ∙ ap (λ k. min 2 (k + 1)) (rw m at (known n within)) ∙ sym (rw e at more))
            | inr m ↦ rw m ((rw m at here) ∙ (rw m at (known n within)))
          ]
      | inr e ↦
          let same : often n (take (i + 1) numbers) ≡ often n (take i numbers) = rw e at more in
          rw same (others n (λ s. eqb-false (get_or numbers i 0) n e (sym s)) ∙ known n within)
    ]

module _ {S : Type 0} where
  -- a name is entered with its new count
  pub entered : (counts counts' : HashMap (Bor (List ℕ)) ℕ S) (name : List ℕ) (n : ℕ) → UpdatesBy (λ x y. bytes_eq x.now y.now) (λ k. bytes_eq name k.now) counts counts' (Some n) → n ≡ min 2 (holders_in counts name + 1) → (other : List ℕ) → holders_in counts' other ≡ (if bytes_eq name other then min 2 (holders_in counts other + 1) else holders_in counts other)
  entered counts counts' name n updates is other =
      let found : holders_in counts' other ≡ unwrap_or (cond (bytes_eq name other) (Some n) (get_by (λ k. bytes_eq other k.now) counts)) 0 = ap (λ o. unwrap_or o 0) (hash_map_updates_str name counts counts' (Some n) updates other) in
      elim (cases_Bool (bytes_eq name other)) [
        | inl e ↦
            let same : name ≡ other = (bytes_eq-Decides name other).0 e in
            rw e (rw e at found ∙ is ∙ ap (λ bytes. min 2 (holders_in counts bytes + 1)) same)
        | inr e ↦ rw e (rw e at found)
      ]
