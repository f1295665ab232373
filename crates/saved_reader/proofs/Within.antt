-- What is read is within its limits: the tables have no more slots than the cap allows, and the units of the technology
-- are few.
use Rattle.std.proofs.Common.{◌≡◌, ◌≤◌, eqb, leb, ltb, true, ℕ, List, length, Result, Ok, Err, refl, ap, subst, arith, inl, inr}
use Rattle.std.specs.Prelude.{IfOk}
use Rattle.std.proofs.lemmas.Bool.{and_parts, cases_Bool, eqb-true, leb-true, ltb-false}
use Rattle.odb_base.specs.declared.codes.kind.Kind.{Kind}
use Rattle.odb_base.specs.declared.codes.kind.Kind.TheVariants as kind
use Rattle.odb_fields.specs.Reading.{Cursor, u32_at, ◌>>=◌}
use Rattle.odb_fields.proofs.Inputs.{bind_ok, ok_is}
use Rattle.block_records.specs.declared.header.Header.{Header}
use Rattle.block_store.specs.Block.{slots_in}
use Rattle.slot_pool.specs.Table.{Table}
use Rattle.saved_fields.specs.declared.fault.ReadFault.{ReadFault}
use Rattle.saved_reader.specs.declared.saved.Saved.{Saved}
use Rattle.saved_fields.specs.Fields.{id_at, is_between, number_at, such}
use Rattle.block_store.specs.View.{is_built}
use Rattle.saved_reader.specs.Grouping.{group_format, prop_format, region_format}
use Rattle.saved_reader.specs.Header.{header_format}
use Rattle.saved_reader.specs.Library.{library_format}
use Rattle.saved_reader.specs.Technology.{layer_format, site_format, tech_format, technology_of, via_format}
use Rattle.saved_reader.specs.Objects.{bterm_format, inst_format, iterm_format, net_format}
use Rattle.saved_fields.specs.Parts.{free_count_at, list_at, may_have, option_at, slot_count_at, table_at, table_of, within_cap}
use Rattle.saved_reader.specs.Physical.{blockage_format, pin_format, row_format, track_format, wire_format}
use Rattle.saved_fields.specs.Reading.{Reading, both, given, made, many_at, plain, ◌by◌}
use Rattle.saved_reader.specs.Saved.{Answers, Built, Others, block_format, block_of, built_format, mark_at, others_format, saved_at, saved_in, saved_of, version_at, whole}
use Rattle.saved_fields.proofs.Codec.{given_ok}
use Rattle.saved_fields.proofs.Counted.{many_count}
use Rattle.saved_fields.proofs.Single.{such_is, such_passes}

-- ---- the parts of what was read

made_ok : {A B : Type 0} (value : A → B) (reads : Reading A) (old new : Cursor) (y : B) → made value reads old ≡ Ok (y, new) → (x : A) × (reads old ≡ Ok (x, new)) × (value x ≡ y)
made_ok {A} {B} value reads old new y e =
    let u = bind_ok (reads old) (λ p. Ok (value p.0, p.1)) (y, new) e in
    let P : B × Cursor → Type 0 = λ t. (x : A) × (reads old ≡ Ok (x, t.1)) × (value x ≡ t.0) in
    let part : P (value u.0.0, u.0.1) = (u.0.0, u.1, refl) in
    subst P (ok_is (value u.0.0, u.0.1) (y, new) u.2) part

and_ok : {A B : Type 0} (first : Reading A) (second : Reading B) (old new : Cursor) (p : A × B) → both first second old ≡ Ok (p, new)
    → (mid : Cursor) × (first old ≡ Ok (p.0, mid)) × (second mid ≡ Ok (p.1, new))
and_ok {A} {B} first second old new p e =
    let u = bind_ok (first old) (λ u. second u.1 >>= λ q. Ok ((u.0, q.0), q.1)) (p, new) e in
    let v = bind_ok (second u.0.1) (λ q. Ok ((u.0.0, q.0), q.1)) (p, new) u.2 in
    let P : (A × B) × Cursor → Type 0 = λ t. (mid : Cursor) × (first old ≡ Ok (t.0.0, mid)) × (second mid ≡ Ok (t.0.1, t.1)) in
    let parts : P ((u.0.0, v.0.0), v.0.1) = (u.0.1, u.1, v.1) in
    subst P (ok_is ((u.0.0, v.0.0), v.0.1) (p, new) v.2) parts

-- each value that is read is so
record Gives {A : Type 0} (Is : A → Type 0) (reads : Reading A) : Type 0 where
  told : (old new : Cursor) (x : A) → reads old ≡ Ok (x, new) → Is x

any : {A : Type 0} (reads : Reading A) → Gives (λ x. Unit {0}) reads
any reads = record { told = λ old new x e. tt }

both_give : {A B : Type 0} {Is : A → Type 0} {Has : B → Type 0} {first : Reading A} {second : Reading B} → Gives Is first → Gives Has second → Gives (λ p. Is p.0 × Has p.1) (both first second)
both_give {first = first} {second = second} one other = record {
  told = λ old new p e.
      let parts = and_ok first second old new p e in
      (one.told old parts.0 p.0 parts.1, other.told parts.0 new p.1 parts.2);
}

made_gives : {A B : Type 0} {Is : A → Type 0} {reads : Reading A} (Has : B → Type 0) (value : A → B) → Gives Is reads → ((x : A) → Is x → Has (value x)) → Gives Has (made value reads)
made_gives {reads = reads} Has value gives so = record {
  told = λ old new y e.
      let m = made_ok value reads old new y e in
      subst Has m.2 (so m.0 (gives.told old new m.0 m.1));
}

-- ---- tables

-- a table of few slots
abbrev Few : {A : Type 0} → ℕ → Table A → Type 0
Few cap t = length t.slots ≤ cap

within_is : (k : Kind) (cap : ℕ) (p q : ℕ × Cursor) → within_cap k cap p ≡ Ok q → q.0 ≤ cap
within_is k cap p q e = elim (cases_Bool (ltb cap p.0)) [
  | inl over ↦ absurd (let h = rw over at e in cc)
  | inr fits ↦
      let same : p ≡ q = (let h = rw fits at e in ok_is p q h) in
      let n : p.0 ≡ q.0 = ap (λ (r : ℕ × Cursor). r.0) same in
      omega (arith, ltb-false cap p.0 fits, n)
]

count_within : (k : Kind) (cap : ℕ) (old new : Cursor) (n : ℕ) → slot_count_at (is_built k) k cap old ≡ Ok (n, new) → n ≤ cap
unfolding slot_count_at
count_within k cap old new n e =
    let u = bind_ok (plain u32_at old >>= within_cap k cap) (λ p. given old.place (such (may_have (is_built k)) p.0) p.1) (n, new) e in
    let g = given_ok old.place (such (may_have (is_built k)) u.0.0) u.0.1 new n u.2 in
    let v = bind_ok (plain u32_at old) (within_cap k cap) u.0 u.1 in
    let few = within_is k cap v.0 u.0 v.2 in
    omega (arith, few, such_is (may_have (is_built k)) u.0.0 n g.0)

table_within : {A : Type 0} (k : Kind) (cap : ℕ) (each : Reading A) → Gives (λ t. Few cap t) (table_at (is_built k) k cap each)
unfolding table_at
table_within {A} k cap each = record {
  told = λ old new t e.
      let m = made_ok table_of (both (slot_count_at (is_built k) k cap by λ count. many_at count (option_at each)) (free_count_at (is_built k) by λ count. many_at count id_at)) old new t e in
      let a = and_ok (slot_count_at (is_built k) k cap by λ count. many_at count (option_at each)) (free_count_at (is_built k) by λ count. many_at count id_at) old new m.0 m.1 in
      let u = bind_ok (slot_count_at (is_built k) k cap old) (λ p. many_at p.0 (option_at each) p.1) (m.0.0, a.0) a.1 in
      let few = count_within k cap old u.0.1 u.0.0 u.1 in
      let many = many_count (option_at each) u.0.0 u.0.1 a.0 m.0.0 u.2 in
      let slots : length m.0.0 ≡ length t.slots = ap (λ (s : Table A). length s.slots) m.2 in
      omega (arith, few, many, slots);
}

abbrev FewEach : ℕ → (Header × Built) × Others → Type 0
FewEach cap t =
    (Unit {0} × (((Few cap t.0.1.0.0.0 × Few cap t.0.1.0.0.1) × Few cap t.0.1.0.1) × Few cap t.0.1.1))
    × (((((((Few cap t.1.0.0.0.0.0.0.0 × Few cap t.1.0.0.0.0.0.0.1) × Few cap t.1.0.0.0.0.0.1) × Few cap t.1.0.0.0.0.1) × Few cap t.1.0.0.0.1) × Few cap t.1.0.0.1) × Few cap t.1.0.1) × Few cap t.1.1)

few_in : (cap : ℕ) (k : Kind) (t : (Header × Built) × Others) → FewEach cap t → slots_in k (block_of t) ≤ cap
few_in cap kind.Inst t few = few.0.1.0.0.0
few_in cap kind.ITerm t few = few.0.1.0.0.1
few_in cap kind.Net t few = few.0.1.0.1
few_in cap kind.BTerm t few = few.0.1.1
few_in cap kind.Pin t few = few.1.0.0.0.0.0.0.0
few_in cap kind.Row t few = few.1.0.0.0.0.0.0.1
few_in cap kind.Track t few = few.1.0.0.0.0.0.1
few_in cap kind.Wire t few = few.1.0.0.0.0.1
few_in cap kind.Blockage t few = few.1.0.0.0.1
few_in cap kind.Region t few = few.1.0.0.1
few_in cap kind.Group t few = few.1.0.1
few_in cap kind.Prop t few = few.1.1

block_within : (cap : ℕ) → Gives (λ b. (k : Kind) → slots_in k b ≤ cap) (block_format cap).at
unfolding block_format built_format others_format
block_within cap =
    made_gives (λ b. (k : Kind) → slots_in k b ≤ cap) block_of
    (both_give
    (both_give (any header_format.at) (both_give (both_give (both_give (table_within kind.Inst cap inst_format.at) (table_within kind.ITerm cap iterm_format.at)) (table_within kind.Net cap net_format.at)) (table_within kind.BTerm cap bterm_format.at)))
    (both_give (both_give (both_give (both_give (both_give (both_give (both_give (table_within kind.Pin cap pin_format.at) (table_within kind.Row cap row_format.at)) (table_within kind.Track cap track_format.at)) (table_within kind.Wire cap wire_format.at))
    (table_within kind.Blockage cap blockage_format.at)) (table_within kind.Region cap region_format.at)) (table_within kind.Group cap group_format.at)) (table_within kind.Prop cap prop_format.at)))
    (λ t few k. few_in cap k t few)

-- ---- the units

number_within : (least most : ℕ) → Gives (λ n. n ≤ most) (number_at least most)
unfolding number_at
number_within least most = record {
  told = λ old new n e.
      let passes : is_between least most n ≡ true = such_passes (is_between least most) (plain u32_at) old new n e in
      leb-true n most (and_parts (leb least n) (leb n most) passes).1;
}

units_within : Gives (λ t. t.units ≤ 100000) tech_format.at
unfolding tech_format
units_within =
    made_gives (λ t. t.units ≤ 100000) technology_of
    (both_give (both_give (both_give (number_within 0 100000) (any (list_at 1000000 layer_format.at))) (any (list_at 1000000 via_format.at))) (any (list_at 1000000 site_format.at)))
    (λ t few. few.0.0.0)

-- ---- all of it

pub whole_ok : (count : ℕ) (p : Saved × Cursor) (s : Saved) → whole count p ≡ Ok s → (p.0 ≡ s) × (p.1.place ≡ count)
whole_ok count p s e = elim (cases_Bool (eqb p.1.place count)) [
  | inl t ↦ ((let h = rw t at e in ok_is p.0 s h), eqb-true p.1.place count t)
  | inr f ↦ absurd (let h = rw f at e in cc)
]

abbrev IsWithin : ℕ → Saved → Type 0
IsWithin cap s = (s.tech.units ≤ 100000) × ((k : Kind) → slots_in k s.tables ≤ cap)

saved_within : (cap : ℕ) (bytes : List ℕ) (s : Saved) → saved_in cap bytes ≡ Ok s → IsWithin cap s
unfolding saved_in saved_at
saved_within cap bytes s e =
    let start : Cursor = record { bytes = bytes; place = 0 } in
    let u = bind_ok (saved_at cap start) (whole (length bytes)) s e in
    let all = made_gives (IsWithin cap) saved_of (both_give (both_give (both_give (any (both mark_at version_at)) units_within) (any library_format.at)) (block_within cap)) (λ t is. (is.0.0.1, is.1)) in
    subst (IsWithin cap) (whole_ok (length bytes) u.0 s u.2).0 (all.told start u.0.1 u.0.0 u.1)

pub answer_units : (cap : ℕ) (bytes : List ℕ) (answer : Result Saved ReadFault) → Answers answer (saved_in cap bytes) → IfOk answer (λ s. s.tech.units ≤ 100000)
answer_units cap bytes (Ok s) e = (saved_within cap bytes s e).0
answer_units cap bytes (Err f) e = tt

pub answer_within : (cap : ℕ) (bytes : List ℕ) (answer : Result Saved ReadFault) → Answers answer (saved_in cap bytes) → IfOk answer (λ s. (k : Kind) → slots_in k s.tables ≤ cap)
answer_within cap bytes (Ok s) e = (saved_within cap bytes s e).1
answer_within cap bytes (Err f) e = tt
