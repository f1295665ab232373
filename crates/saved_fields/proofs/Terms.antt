-- The terminals of nets are read back, and have no second spelling.
use Rattle.std.proofs.Common.{◌≡◌, ◌<◌, ◌≤◌, ◌^◌, ◌+◌, ◌*◌, ◌/◌, ◌%◌, true, false, cond, eqb, ltb, ℕ, ◌++◌, refl, ap, ◌∙◌, arith, inl, inr}
use Rattle.std.proofs.lemmas.Bool.{cases_Bool, eq-eqb, eqb-false, eqb-true, lt-ltb}
use Rattle.odb_base.specs.Kind.{kind_code, kinds}
use Rattle.odb_base.specs.declared.codes.kind.Kind.{Kind}
use Rattle.odb_base.specs.declared.codes.kind.Kind.TheVariants as kind
use Rattle.odb_fields.specs.Fields.{u8_bytes, u32_bytes}
use Rattle.saved_fields.specs.Bytes.{term_bytes, term_kind}
use Rattle.saved_fields.specs.Parts.{fitting, term_at, term_number}
use Rattle.saved_fields.specs.Lawful.{IsId, IsTerm}
use Rattle.saved_fields.proofs.Codec.{IsCodec, and_codec, made_codec, same_codec}
use Rattle.saved_fields.proofs.Single.{IsSet, coded_codec, id_codec}

-- the kind of the terminal under a number
abbrev kind_at : ℕ → Kind
kind_at n = cond (eqb (n % 2) 0) kind.ITerm kind.BTerm

fitting_is : (n : ℕ) → n < 2 ^ 32 → fitting n ≡ n
fitting_is n lt = let t : ltb n 4294967296 ≡ true = lt-ltb n 4294967296 (omega (arith, lt)) in rw t refl

term_again : (n : ℕ) → IsTerm n → term_number (kind_at n, n / 2) ≡ n
term_again n fits = elim (cases_Bool (eqb (n % 2) 0)) [
  | inl even ↦
      let zero_is = eqb-true (n % 2) 0 even in
      let whole : 2 * (n / 2) ≡ n = omega (arith, zero_is) in
      rw even (ap fitting whole ∙ fitting_is n fits.1)
  | inr odd ↦
      let apart = eqb-false (n % 2) 0 odd in
      let one_is : n % 2 ≡ 1 = omega (arith, apart) in
      let whole : 2 * (n / 2) + 1 ≡ n = omega (arith, one_is) in
      rw odd (ap fitting whole ∙ fitting_is n fits.1)
]

-- a number that fits and isn't 0 is itself
fitted : (n : ℕ) → 1 ≤ fitting n → fitting n ≡ n
fitted n some = elim (cases_Bool (ltb n 4294967296)) [
  | inl t ↦ rw t refl
  | inr f ↦ absurd (let h = rw f at some in omega (arith, h))
]

abbrev term_parts : ℕ → Kind × ℕ
term_parts n = (kind_at n, n / 2)

even_parts : (id : ℕ) → term_parts (2 * id) ≡ (kind.ITerm, id)
even_parts id =
    let even : eqb ((2 * id) % 2) 0 ≡ true = eq-eqb ((2 * id) % 2) 0 (omega arith) in
    let half : (2 * id) / 2 ≡ id = omega arith in
    rw (even, half) refl

odd_parts : (id : ℕ) → term_parts (2 * id + 1) ≡ (kind.BTerm, id)
odd_parts id =
    let odd : eqb ((2 * id + 1) % 2) 0 ≡ false = (let e : (2 * id + 1) % 2 ≡ 1 = omega arith in rw e refl) in
    let half : (2 * id + 1) / 2 ≡ id = omega arith in
    rw (odd, half) refl

none_named : {A : Type 0} → 1 ≤ 0 → A
none_named h = absurd (omega arith)

term_apart_by : (k : Kind) (id : ℕ) → IsTerm (term_number (k, id)) → term_parts (term_number (k, id)) ≡ (k, id)
term_apart_by kind.ITerm id fits = ap term_parts (fitted (2 * id) fits.0) ∙ even_parts id
term_apart_by kind.BTerm id fits = ap term_parts (fitted (2 * id + 1) fits.0) ∙ odd_parts id
term_apart_by k id fits = none_named fits.0

term_apart : (t : Kind × ℕ) → IsTerm (term_number t) → term_parts (term_number t) ≡ t
term_apart t fits = term_apart_by t.0 t.1 fits

kinds_set : IsSet kind_code kinds
kinds_set = record {
  again = elim [ kind.Inst ↦ refl | kind.ITerm ↦ refl | kind.Net ↦ refl | kind.BTerm ↦ refl | kind.Pin ↦ refl | kind.Row ↦ refl | kind.Track ↦ refl | kind.Wire ↦ refl | kind.Blockage ↦ refl | kind.Region ↦ refl | kind.Group ↦ refl | kind.Prop ↦ refl ];
  small = elim [ kind.Inst ↦ omega arith | kind.ITerm ↦ omega arith | kind.Net ↦ omega arith | kind.BTerm ↦ omega arith | kind.Pin ↦ omega arith | kind.Row ↦ omega arith | kind.Track ↦ omega arith | kind.Wire ↦ omega arith | kind.Blockage ↦ omega arith | kind.Region ↦ omega arith | kind.Group ↦ omega arith | kind.Prop ↦ omega arith ];
}

term_kind_is : (n : ℕ) → kind_code (kind_at n) ≡ term_kind n
term_kind_is n = elim (cases_Bool (eqb (n % 2) 0)) [ inl e ↦ rw e refl | inr e ↦ rw e refl ]

pub term_codec : IsCodec term_at term_bytes IsTerm
unfolding term_at term_bytes
term_codec =
    same_codec term_at (λ n. u8_bytes (kind_code (kind_at n)) ++ u32_bytes (n / 2)) (λ n. u8_bytes (term_kind n) ++ u32_bytes (n / 2)) IsTerm
    (λ n fits. ap (λ (k : ℕ). u8_bytes k ++ u32_bytes (n / 2)) (term_kind_is n))
    (made_codec term_number term_parts _ _ (λ (t : Kind × ℕ). Unit {0} × IsId t.1) IsTerm term_again term_apart (λ n fits. (tt, omega (arith, fits.1)))
    (and_codec _ _ _ _ _ _ (coded_codec kind_code kinds kinds_set) id_codec))
