-- Parts that were entered: what stands after them, and the way back.
use Rattle.std.proofs.Common.{◌≡◌, ◌+◌, ◌-◌, ◌≤◌, ◌<◌, ◌++◌, ◌∷◌, [], List, ℕ, Option, Some, None, Result, Ok, Err, length, take, refl, sym, ap, ◌∙◌, append_assoc, append-nil, length-append, subst, inl, inr, arith}
use Rattle.std.proofs.lemmas.List.{length_push}
use Rattle.edit_words.specs.declared.part.TechPart.{TechPart}
use Rattle.edit_words.specs.declared.part.TechPart.TheVariants as part
use Rattle.block_store.specs.Database.{Database}
use Rattle.tech_parts.specs.Adding.{IsFault, IsFaultAt, cause_of, fault_at, goes_on, last_id, last_id_in, with_part, with_parts}
use Rattle.tech_parts.specs.declared.fault.PartCause.{PartCause}
use Rattle.tech_parts.specs.declared.fault.PartFault.{PartFault}
use Rattle.tech_parts.specs.Standing.{HasAtLeast, HasMoreParts, IsLonger, back_to, standing_of}

module _ {A : Type 0} where
  same : (xs : List A) → IsLonger xs xs
  same xs = record { more = []; is = sym (append-nil xs) }

  pushed : (xs : List A) (x : A) → IsLonger xs (xs ++ x ∷ [])
  pushed xs x = record { more = x ∷ []; is = refl }

  longer_still : (xs ys zs : List A) → IsLonger xs ys → IsLonger ys zs → IsLonger xs zs
  longer_still xs ys zs a b = record { more = a.more ++ b.more; is = b.is ∙ ap (λ l. l ++ b.more) a.is ∙ append_assoc xs a.more b.more }

  long : (xs ys : List A) → IsLonger xs ys → length xs ≤ length ys
  long xs ys a = let size = ap length a.is in omega (arith, size, length-append xs a.more)

  first_of : (xs ys : List A) → take (length xs) (xs ++ ys) ≡ xs
  first_of [] ys = refl
  first_of (x ∷ xs) ys = ap (λ l. x ∷ l) (first_of xs ys)

  cut_back : (xs ys : List A) → IsLonger xs ys → take (length xs) ys ≡ xs
  cut_back xs ys a = ap (take (length xs)) a.is ∙ first_of xs a.more

pub nothing_more : (d : Database) → HasMoreParts d d
nothing_more d = record { layers = same d.tech.layers; vias = same d.tech.vias; sites = same d.tech.sites; masters = same d.library; block = refl; cap = refl }

pub one_more : (d : Database) (p : TechPart) → HasMoreParts d (with_part p d)
one_more d (part.Units n) = record { layers = same d.tech.layers; vias = same d.tech.vias; sites = same d.tech.sites; masters = same d.library; block = refl; cap = refl }
one_more d (part.Layer l) = record { layers = pushed d.tech.layers l; vias = same d.tech.vias; sites = same d.tech.sites; masters = same d.library; block = refl; cap = refl }
one_more d (part.Via v) = record { layers = same d.tech.layers; vias = pushed d.tech.vias v; sites = same d.tech.sites; masters = same d.library; block = refl; cap = refl }
one_more d (part.Site s) = record { layers = same d.tech.layers; vias = same d.tech.vias; sites = pushed d.tech.sites s; masters = same d.library; block = refl; cap = refl }
one_more d (part.Master m) = record { layers = same d.tech.layers; vias = same d.tech.vias; sites = same d.tech.sites; masters = pushed d.library m; block = refl; cap = refl }

pub more_still : (a b c : Database) → HasMoreParts a b → HasMoreParts b c → HasMoreParts a c
more_still a b c x y = record {
  layers = longer_still a.tech.layers b.tech.layers c.tech.layers x.layers y.layers;
  vias = longer_still a.tech.vias b.tech.vias c.tech.vias x.vias y.vias;
  sites = longer_still a.tech.sites b.tech.sites c.tech.sites x.sites y.sites;
  masters = longer_still a.library b.library c.library x.masters y.masters;
  block = y.block ∙ x.block;
  cap = y.cap ∙ x.cap;
}

pub stands_still : (old new : Database) → HasMoreParts old new → HasAtLeast (standing_of old) new
stands_still old new more = record {
  layers = long old.tech.layers new.tech.layers more.layers;
  vias = long old.tech.vias new.tech.vias more.vias;
  sites = long old.tech.sites new.tech.sites more.sites;
  masters = long old.library new.library more.masters;
}

-- ---- one after the other

append_by : (before : ℕ) (x : TechPart) (xs ys : List TechPart) (d e : Database) (cause : Option PartCause)
    → (with_parts (before + 1) xs (with_part x d) ≡ Ok e → with_parts (before + 1) (xs ++ ys) (with_part x d) ≡ with_parts (before + 1 + length xs) ys e)
    → goes_on (before + 1) cause (with_parts (before + 1) xs (with_part x d)) ≡ Ok e
    → goes_on (before + 1) cause (with_parts (before + 1) (xs ++ ys) (with_part x d)) ≡ with_parts (before + length (x ∷ xs)) ys e
append_by before x xs ys d e None rest h =
    let count : before + 1 + length xs ≡ before + length (x ∷ xs) = omega arith in
    rest h ∙ ap (λ (n : ℕ). with_parts n ys e) count
append_by before x xs ys d e (Some why) rest h = absurd cc

-- parts that are entered leave the others to be entered behind them
pub parts-append : (before : ℕ) (xs ys : List TechPart) (d e : Database) → with_parts before xs d ≡ Ok e → with_parts before (xs ++ ys) d ≡ with_parts (before + length xs) ys e
parts-append before [] ys d e h =
    let same : d ≡ e = cc in
    let none : before ≡ before + 0 = omega arith in
    ap (with_parts before ys) same ∙ ap (λ (n : ℕ). with_parts n ys e) none
parts-append before (x ∷ xs) ys d e h = append_by before x xs ys d e (cause_of d x) (parts-append (before + 1) xs ys (with_part x d) e) h

last-pushed : (xs : List TechPart) (p : TechPart) (d : Database) → last_id_in (xs ++ p ∷ []) d ≡ last_id d p
last-pushed [] p d = refl
last-pushed (x ∷ []) p d = refl
last-pushed (x ∷ y ∷ xs) p d = last-pushed (y ∷ xs) p d

-- these parts were entered, and so many they are; what is left is still to be entered
pub record IsUnderWay (parts left : List TechPart) (at last : ℕ) (old new : Database) : Type 0 where
  pub done : List TechPart
  pub split : parts ≡ done ++ left
  pub count : at ≡ length done
  pub state : with_parts 0 done old ≡ Ok new
  pub last_is : last ≡ last_id_in done new
  pub more : HasMoreParts old new

pub none_done : (parts : List TechPart) (d : Database) → IsUnderWay parts parts 0 0 d d
none_done parts d = record { done = []; split = refl; count = refl; state = refl; last_is = refl; more = nothing_more d }

-- one more part is entered
pub one_done : (parts left : List TechPart) (p : TechPart) (at last id : ℕ) (old mid new : Database)
    → IsUnderWay parts (p ∷ left) at last old mid → cause_of mid p ≡ None → new ≡ with_part p mid → id ≡ last_id new p → IsUnderWay parts left (at + 1) id old new
one_done parts left p at last id old mid new way may is id_is =
    let entered : with_parts (0 + length way.done) (p ∷ []) mid ≡ Ok new = rw may (ap (λ (d : Database). Ok d) (sym is)) in
    let longer = length_push way.done p in
    record {
      done = way.done ++ p ∷ [];
      split = way.split ∙ sym (append_assoc way.done (p ∷ []) left);
      count = omega (arith, way.count, longer);
      state = parts-append 0 way.done (p ∷ []) old mid way.state ∙ entered;
      last_is = id_is ∙ sym (last-pushed way.done p new);
      more = more_still old mid new way.more (subst (λ (d : Database). HasMoreParts mid d) (sym is) (one_more mid p));
    }

-- where all are entered
pub all_done : (parts : List TechPart) (at last : ℕ) (old new : Database) → IsUnderWay parts [] at last old new → (with_parts 0 parts old ≡ Ok new) × (last ≡ last_id_in parts new)
all_done parts at last old new way =
    let whole : parts ≡ way.done = way.split ∙ append-nil way.done in
    (ap (λ (l : List TechPart). with_parts 0 l old) whole ∙ way.state, way.last_is ∙ ap (λ (l : List TechPart). last_id_in l new) (sym whole))

refused_by : (at : ℕ) (cause : Option PartCause) (rest : Result Database PartFault) (why : PartFault) → IsFaultAt at cause why → IsFault (goes_on at cause rest) why
refused_by at cause rest why (inl none) = inl none
refused_by at None rest why (inr is) = absurd cc
refused_by at (Some c) rest why (inr is) = inr (let same : fault_at at c ≡ why = cc in ap (λ (f : PartFault). Err f) same)

-- where one isn't
pub one_refused : (parts left : List TechPart) (p : TechPart) (at last : ℕ) (old mid : Database) (why : PartFault)
    → IsUnderWay parts (p ∷ left) at last old mid → IsFaultAt (at + 1) (cause_of mid p) why → IsFault (with_parts 0 parts old) why
one_refused parts left p at last old mid why way fault =
    let all = ap (λ (l : List TechPart). with_parts 0 l old) way.split ∙ parts-append 0 way.done (p ∷ left) old mid way.state in
    let place : at + 1 ≡ 0 + length way.done + 1 = omega (arith, way.count) in
    let here : IsFault (with_parts (0 + length way.done) (p ∷ left) mid) why = refused_by _ (cause_of mid p) _ why (subst (λ (n : ℕ). IsFaultAt n (cause_of mid p) why) place fault) in
    subst (λ (r : Result Database PartFault). IsFault r why) (sym all) here

-- ---- and back

-- what was entered since goes, and what stood then is left
pub goes_back : (old new : Database) → HasMoreParts old new → back_to (standing_of old) new ≡ old
goes_back old new more =
    let layers = cut_back old.tech.layers new.tech.layers more.layers in
    let vias = cut_back old.tech.vias new.tech.vias more.vias in
    let sites = cut_back old.tech.sites new.tech.sites more.sites in
    let masters = cut_back old.library new.library more.masters in
    λ i. record {
      tech = record { units = old.tech.units; layers = layers i; vias = vias i; sites = sites i };
      library = masters i;
      block = more.block i;
      cap = more.cap i;
    }
