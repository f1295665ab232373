-- A line of a text, a kind and an identifier, put together from its pieces.
use Rattle.std.proofs.Common.{◌≡◌, List, ◌++◌, ℕ, ◌∙◌, sym, ap}
use Rattle.std.proofs.lemmas.List.{append_assoc}
use Rattle.odb_base.specs.Kind.{kind_word}
use Rattle.odb_base.specs.declared.codes.kind.Kind.{Kind}
use Rattle.reports.specs.Texts.{line_end, spaced, value}

pub named : (out text : List ℕ) (k : Kind) (id : ℕ) → out ++ (text ++ spaced (kind_word k)) ++ value id ++ line_end ≡ out ++ (text ++ spaced (kind_word k) ++ value id ++ line_end)
named out text k id =
    append_assoc (out ++ (text ++ spaced (kind_word k))) (value id) line_end
    ∙ append_assoc out (text ++ spaced (kind_word k)) (value id ++ line_end)
    ∙ ap (λ (all : List ℕ). out ++ all) (sym (append_assoc (text ++ spaced (kind_word k)) (value id) line_end))
