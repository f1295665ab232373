-- What no setting of a chain changes, no call of the index changes.
use Rattle.std.proofs.Common.{◌≡◌, List, [], ◌∷◌, ℕ, refl, ap, ◌∙◌}
use Rattle.name_index.specs.Rechained.{Rechained, with_chains}

with_chains_keeps : {Cells Shown : Type 0} (with_chain : Cells → ℕ → ℕ → Cells) (shown : Cells → Shown) → ((cells : Cells) (id next : ℕ) → shown (with_chain cells id next) ≡ shown cells) → (sets : List (ℕ × ℕ)) (cells : Cells) → shown (with_chains with_chain sets cells) ≡ shown cells
with_chains_keeps with_chain shown keeps [] cells = refl
with_chains_keeps with_chain shown keeps (set ∷ sets) cells =
    with_chains_keeps with_chain shown keeps sets (with_chain cells set.0 set.1) ∙ keeps cells set.0 set.1

pub rechained_keeps : {Cells Shown : Type 0} (with_chain : Cells → ℕ → ℕ → Cells) (shown : Cells → Shown) → ((cells : Cells) (id next : ℕ) → shown (with_chain cells id next) ≡ shown cells) → (Of : ℕ → Type 0) (old new : Cells) → Rechained with_chain Of old new → shown new ≡ shown old
rechained_keeps with_chain shown keeps Of old new h = ap shown h.is ∙ with_chains_keeps with_chain shown keeps h.sets old
