-- Lists of identifiers, cut at a member.
use Rattle.std.proofs.Common.{◌≡◌, true, false, eqb, List, [], ◌∷◌, ◌++◌, ℕ, refl, sym, ap, ◌∙◌, inl, inr, append-nil}
use Rattle.std.proofs.lemmas.Bool.{cases_Bool, eqb-true, eq-eqb, false≢true, false_from_ne_true, or_left, or_parts, or_right}
use Rattle.odb_base.specs.Ids.{AreApart, IsDistinct, after, first, holds, placed, placed_before, without}
use Rattle.odb_base.proofs.Ids.{holds-append}

-- an identifier is another, or the test says that it isn't
pub eqb-refl : (id : ℕ) → eqb id id ≡ true
eqb-refl id = eq-eqb id id refl

-- a list cut at the first place of an identifier
pub record Split (id : ℕ) (ids : List ℕ) : Type 0 where
  pub front : List ℕ
  pub back : List ℕ
  pub is : ids ≡ front ++ id ∷ back
  pub apart : holds front id ≡ false

pub split_at : (id : ℕ) (ids : List ℕ) → holds ids id ≡ true → Split id ids
split_at id [] h = absurd (false≢true h)
split_at id (x ∷ xs) h = elim (cases_Bool (eqb x id)) [
  | inl e ↦ record { front = []; back = xs; is = ap (λ y. y ∷ xs) (eqb-true x id e); apart = refl }
  | inr e ↦
      let rest = split_at id xs (rw e at h) in
      record { front = x ∷ rest.front; back = rest.back; is = ap (λ l. x ∷ l) rest.is; apart = rw e rest.apart }
]

pub after-split : (front back : List ℕ) (id : ℕ) → holds front id ≡ false → after (front ++ id ∷ back) id ≡ first back
after-split [] back id h = rw eqb-refl refl
after-split (x ∷ xs) back id h =
    let parts = or_parts (eqb x id) (holds xs id) h in
    rw parts.0 (after-split xs back id parts.1)

pub without-split : (front back : List ℕ) (id : ℕ) → holds front id ≡ false → without id (front ++ id ∷ back) ≡ front ++ back
without-split [] back id h = rw eqb-refl refl
without-split (x ∷ xs) back id h =
    let parts = or_parts (eqb x id) (holds xs id) h in
    rw parts.0 (ap (λ l. x ∷ l) (without-split xs back id parts.1))

pub placed_before-split : (front back : List ℕ) (id next : ℕ) → holds front next ≡ false → placed_before id next (front ++ next ∷ back) ≡ front ++ id ∷ next ∷ back
placed_before-split [] back id next h = rw eqb-refl refl
placed_before-split (x ∷ xs) back id next h =
    let parts = or_parts (eqb x next) (holds xs next) h in
    rw parts.0 (ap (λ l. x ∷ l) (placed_before-split xs back id next parts.1))

-- the parts of a list without repeats have none and are apart
pub record Parts (front back : List ℕ) : Type 0 where
  pub front_distinct : IsDistinct front
  pub back_distinct : IsDistinct back
  pub apart : AreApart front back

apart-cons : (x : ℕ) (xs ys : List ℕ) → holds ys x ≡ false → AreApart xs ys → AreApart (x ∷ xs) ys
apart-cons x xs ys outside h id inside = elim (cases_Bool (eqb x id)) [
  | inl e ↦ rw (eqb-true x id e) at outside
  | inr e ↦ h id (rw e at inside)
]

pub parts_of : (front back : List ℕ) → IsDistinct (front ++ back) → Parts front back
parts_of [] back h = record { front_distinct = tt; back_distinct = h; apart = λ id inside. absurd (false≢true inside) }
parts_of (x ∷ xs) back h =
    let rest = parts_of xs back h.1 in
    let outside = or_parts (holds xs x) (holds back x) (sym (holds-append xs back x) ∙ h.0) in
    record {
      front_distinct = (outside.0, rest.front_distinct);
      back_distinct = rest.back_distinct;
      apart = apart-cons x xs back outside.1 rest.apart;
    }

pub distinct_of : (front back : List ℕ) → Parts front back → IsDistinct (front ++ back)
distinct_of [] back h = h.back_distinct
distinct_of (x ∷ xs) back h = (
  holds-append xs back x ∙ rw (h.front_distinct.0) (h.apart x (rw eqb-refl refl)),
  distinct_of xs back (record {
    front_distinct = h.front_distinct.1;
    back_distinct = h.back_distinct;
    apart = λ id inside. h.apart id (elim (cases_Bool (eqb x id)) [ inl e ↦ rw e refl | inr e ↦ rw e inside ]);
  }),
)

-- an identifier from outside put between two parts
pub distinct_in : (front back : List ℕ) (id : ℕ) → IsDistinct (front ++ back) → holds (front ++ back) id ≡ false → IsDistinct (front ++ id ∷ back)
distinct_in front back id h outside =
    let parts = parts_of front back h in
    let out = or_parts (holds front id) (holds back id) (sym (holds-append front back id) ∙ outside) in
    distinct_of front (id ∷ back) (record {
      front_distinct = parts.front_distinct;
      back_distinct = (out.1, parts.back_distinct);
      apart = λ k inside. elim (cases_Bool (eqb id k)) [
        | inl e ↦ absurd (false≢true (sym out.0 ∙ rw (← eqb-true id k e) at inside))
        | inr e ↦ rw e (parts.apart k inside)
      ];
    })

-- two parts without what stands between them
pub distinct_out : (front back : List ℕ) (id : ℕ) → IsDistinct (front ++ id ∷ back) → IsDistinct (front ++ back)
distinct_out front back id h =
    let parts = parts_of front (id ∷ back) h in
    distinct_of front back (record {
      front_distinct = parts.front_distinct;
      back_distinct = parts.back_distinct.1;
      apart = λ k inside. (or_parts (eqb id k) (holds back k) (parts.apart k inside)).1;
    })

-- a member back in its place between two parts
back_between : (front back : List ℕ) (id : ℕ) → Parts front (id ∷ back) → placed id (first back) (front ++ back) ≡ front ++ id ∷ back
back_between front [] id parts = ap (λ l. l ++ id ∷ []) (append-nil front)
back_between front (y ∷ ys) id parts =
    placed_before-split front ys id y (false_from_ne_true (holds front y) (λ both. false≢true (sym (parts.apart y both) ∙ or_right (eqb id y) (holds (y ∷ ys) y) (or_left (eqb y y) (holds ys y) (eq-eqb y y refl)))))

pub back_in_place : (ids : List ℕ) (id : ℕ) → IsDistinct ids → holds ids id ≡ true → placed id (after ids id) (without id ids) ≡ ids
back_in_place ids id distinct inside =
    let s = split_at id ids inside in
    let parts = parts_of s.front (id ∷ s.back) (rw s.is at distinct) in
    ap (λ l. placed id (after l id) (without id l)) s.is
    ∙ ap (λ o. placed id o (without id (s.front ++ id ∷ s.back))) (after-split s.front s.back id s.apart)
    ∙ ap (placed id (first s.back)) (without-split s.front s.back id s.apart)
    ∙ back_between s.front s.back id parts
    ∙ sym s.is
