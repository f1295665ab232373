-- Kinds and their codes: each code has one kind.
use Rattle.std.proofs.Common.{◌≡◌, ◌-◌, ◌≤◌, ℕ, get_or, refl, sym, ap, ◌∙◌, lit≤}
use Rattle.odb_base.specs.Kind.{kind_code, kinds}
use Rattle.odb_base.specs.declared.codes.kind.Kind.{Kind}
use Rattle.odb_base.specs.declared.codes.kind.Kind.TheVariants as kind

-- a kind stands at its code's place
place_of : (k : Kind) → get_or kinds (kind_code k - 1) kind.Inst ≡ k
place_of kind.Inst = refl
place_of k = refl

pub codes_within : (k : Kind) → kind_code k ≤ 12
codes_within kind.Inst = lit≤ tt
codes_within k = lit≤ tt

-- no two kinds have one code
pub same_kind : (j k : Kind) → kind_code j ≡ kind_code k → j ≡ k
same_kind j k same = sym (place_of j) ∙ ap (λ n. get_or kinds (n - 1) kind.Inst) same ∙ place_of k
