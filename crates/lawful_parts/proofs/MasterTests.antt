-- The test of a master is true exactly where it is lawful.
use Rattle.std.proofs.Common.{◌≡◌, ◌&&◌, ◌↔◌, ◌^◌, Bool, true, false, List, [], ◌∷◌, ℕ, zero, suc, Some, length, not, slice_get, nat_le, nat_lt, refl, sym, ap, ◌∙◌, arith}
use Rattle.std.specs.Prelude.{IsTrue}
use Rattle.std.specs.List.{list_all, list_any}
use Rattle.std.specs.Str.{bytes_eq}
use Rattle.std.proofs.lemmas.Bool.{and_parts, false_from_ne_true, false≢true}
use Rattle.std.proofs.lemmas.Slice.Eq.{bytes_eq-Decides}
use Rattle.odb_base.specs.Geometry.{is_coordinate}
use Rattle.named_list.specs.Naming.{AreNamesDistinct}
use Rattle.tech.specs.Technology.{Technology}
use Rattle.library.specs.declared.master.Master.{Master}
use Rattle.library.specs.declared.mterm.MTerm.{MTerm}
use Rattle.lawful_parts.specs.Lawful.{IsMTerm, IsMaster}
use Rattle.lawful_parts.specs.Tests.{are_distinct, are_shapes, has_lawful_rest, has_lawful_sizes, has_lawful_terminals, has_lawful_texts, is_master, is_mterm, is_name}
use Rattle.lawful_parts.proofs.ShapeTests.{shapes_are_tested}
use Rattle.odb_base.proofs.Coordinates.{coordinate_test}
use Rattle.lawful_parts.proofs.TestLemmas.{all_test, both, le_test, lt_test, name_test, none_passes, not_true, some_passes}

abbrev AreDistinct : List MTerm → Type 0
AreDistinct ts = AreNamesDistinct (λ (t : MTerm). t.name) ts

-- a later terminal has another name than the first
apart : (t : MTerm) (ts : List MTerm) (j : ℕ) (b : MTerm) → not (list_any (λ other. bytes_eq t.name other.name) ts) ≡ true → slice_get ts j ≡ Some b → t.name ≡ b.name → ⊥
apart t ts j b none at same =
    false≢true (sym (not_true _ none) ∙ some_passes (λ other. bytes_eq t.name other.name) ts j b at ((bytes_eq-Decides t.name b.name).1 same))

tested_distinct : (ts : List MTerm) → are_distinct ts ≡ true → AreDistinct ts
tested_distinct [] h zero j a b ati atj same = cc
tested_distinct [] h (suc i) j a b ati atj same = cc
tested_distinct (t ∷ ts) h zero zero a b ati atj same = refl
tested_distinct (t ∷ ts) h zero (suc j) a b ati atj same =
    let parts = and_parts (not (list_any (λ other. bytes_eq t.name other.name) ts)) (are_distinct ts) h in
    let first : t ≡ a = cc in
    absurd (apart t ts j b parts.0 atj (ap (λ (m : MTerm). m.name) first ∙ same))
tested_distinct (t ∷ ts) h (suc i) zero a b ati atj same =
    let parts = and_parts (not (list_any (λ other. bytes_eq t.name other.name) ts)) (are_distinct ts) h in
    let first : t ≡ b = cc in
    absurd (apart t ts i a parts.0 ati (ap (λ (m : MTerm). m.name) first ∙ sym same))
tested_distinct (t ∷ ts) h (suc i) (suc j) a b ati atj same =
    let parts = and_parts (not (list_any (λ other. bytes_eq t.name other.name) ts)) (are_distinct ts) h in
    ap suc (tested_distinct ts parts.1 i j a b ati atj same)

distinct_passes : (ts : List MTerm) → AreDistinct ts → are_distinct ts ≡ true
distinct_passes [] h = refl
distinct_passes (t ∷ ts) h =
    let alone : list_any (λ other. bytes_eq t.name other.name) ts ≡ false = none_passes (λ other. bytes_eq t.name other.name) ts (λ i x at.
    false_from_ne_true _ (λ same.
    let one : zero ≡ suc i = h zero (suc i) t x refl at ((bytes_eq-Decides t.name x.name).0 same) in
    absurd (omega (arith, one)))) in
    let rest = distinct_passes ts (λ i j a b at_i at_j same. let next : suc i ≡ suc j = h (suc i) (suc j) a b at_i at_j same in omega (arith, next)) in
    rw (alone, rest) refl

distinct_test : (ts : List MTerm) → IsTrue (are_distinct ts) ↔ AreDistinct ts
distinct_test ts = (tested_distinct ts, distinct_passes ts)

mterm_test : (t : Technology) (m : MTerm) → IsTrue (is_mterm t m) ↔ IsMTerm t m
mterm_test t m =
    let all = both (is_name m.name) (are_shapes t m.shapes) (name_test m.name) (shapes_are_tested t m.shapes) in
    (λ h. let p = all.0 h in record { name = p.0; shapes = p.1 }, λ is. all.1 (is.name, is.shapes))

pub master_is_tested : (t : Technology) (m : Master) → IsTrue (is_master t m) ↔ IsMaster t m
unfolding is_master
master_is_tested t m =
    let class = both (is_name m.name) (nat_lt (length m.class) (2 ^ 32)) (name_test m.name) (lt_test (length m.class) (2 ^ 32)) in
    let texts = both _ (nat_lt (length m.foreign) (2 ^ 32)) class (lt_test (length m.foreign) (2 ^ 32)) in
    let origin = both (is_coordinate m.origin_x) (is_coordinate m.origin_y) (coordinate_test m.origin_x) (coordinate_test m.origin_y) in
    let width = both _ (is_coordinate m.width) origin (coordinate_test m.width) in
    let sizes = both _ (is_coordinate m.height) width (coordinate_test m.height) in
    let each = both (nat_le (length m.terminals) 65535) (list_all (is_mterm t) m.terminals) (le_test (length m.terminals) 65535) (all_test (is_mterm t) (mterm_test t) m.terminals) in
    let terminals = both _ (are_distinct m.terminals) each (distinct_test m.terminals) in
    let site = both (nat_lt m.symmetry 8) (nat_le m.site (length t.sites)) (lt_test m.symmetry 8) (le_test m.site (length t.sites)) in
    let rest = both _ (are_shapes t m.obstructions) site (shapes_are_tested t m.obstructions) in
    let all = both _ (has_lawful_rest t m) (both _ (has_lawful_terminals t m) (both (has_lawful_texts m) (has_lawful_sizes m) texts sizes) terminals) rest in (
      λ h. let p = all.0 h in let texts = p.0.0.0 in let sizes = p.0.0.1 in let terminals = p.0.1 in record {
        name = texts.0.0;
        class_short = texts.0.1;
        foreign_short = texts.1;
        origin_x = sizes.0.0.0;
        origin_y = sizes.0.0.1;
        width = sizes.0.1;
        height = sizes.1;
        symmetry = p.1.0.0;
        site = p.1.0.1;
        few = terminals.0.0;
        terminals = terminals.0.1;
        distinct = terminals.1;
        obstructions = p.1.1;
      },
      λ is. all.1 (((((is.name, is.class_short), is.foreign_short), (((is.origin_x, is.origin_y), is.width), is.height)), ((is.few, is.terminals), is.distinct)), ((is.symmetry, is.site), is.obstructions)),
    )
