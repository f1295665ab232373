-- The kinds in the order of their codes.
use Rattle.std.proofs.Common.{◌≡◌, ◌+◌, ◌<◌, ◌≤◌, zero, suc, List, ℕ, get_or, length, refl, ap, ◌∙◌, arith}
use Rattle.odb_base.proofs.KindCodes.{codes_within}
use Rattle.odb_base.specs.Kind.{kind_code, kinds}
use Rattle.odb_base.specs.declared.codes.kind.Kind.{Kind}
use Rattle.odb_base.specs.declared.codes.kind.Kind.TheVariants as kind

-- the kind at a place has the code after it
code_at : (i : ℕ) → i < 12 → kind_code (get_or kinds i kind.Inst) ≡ i + 1
code_at zero within = refl
code_at (suc zero) within = refl
code_at (suc (suc zero)) within = refl
code_at (suc (suc (suc zero))) within = refl
code_at (suc (suc (suc (suc zero)))) within = refl
code_at (suc (suc (suc (suc (suc zero))))) within = refl
code_at (suc (suc (suc (suc (suc (suc zero)))))) within = refl
code_at (suc (suc (suc (suc (suc (suc (suc zero))))))) within = refl
code_at (suc (suc (suc (suc (suc (suc (suc (suc zero)))))))) within = refl
code_at (suc (suc (suc (suc (suc (suc (suc (suc (suc zero))))))))) within = refl
code_at (suc (suc (suc (suc (suc (suc (suc (suc (suc (suc zero)))))))))) within = refl
code_at (suc (suc (suc (suc (suc (suc (suc (suc (suc (suc (suc zero))))))))))) within = refl
code_at (suc (suc (suc (suc (suc (suc (suc (suc (suc (suc (suc (suc i)))))))))))) within = absurd (omega arith)

pub code_of_item : (items : List Kind) (i : ℕ) → items ≡ kinds → i < length items → kind_code (get_or items i kind.Inst) ≡ i + 1
code_of_item items i is within =
    let long : length items ≡ 12 = ap length is in
    ap (λ xs. kind_code (get_or xs i kind.Inst)) is ∙ code_at i (omega (arith, long, within))

-- behind the last kind all codes are passed
pub all_passed : (items : List Kind) (i : ℕ) → items ≡ kinds → length items ≤ i → (k : Kind) → kind_code k ≤ i
all_passed items i is past k =
    let long : length items ≡ 12 = ap length is in
    omega (arith, long, past, codes_within k)
