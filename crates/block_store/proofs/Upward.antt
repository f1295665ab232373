-- The identifiers of a kind upward, from behind some slots on.
use Rattle.std.proofs.Common.{◌≡◌, ◌+◌, ◌-◌, ◌<◌, ◌∷◌, true, false, cond, ℕ, suc, ap, ◌∙◌, arith}
use Rattle.odb_base.specs.declared.codes.kind.Kind.{Kind}
use Rattle.block_store.specs.Block.{Block, live_in}
use Rattle.block_store.specs.Live.{live_from}

module _ (k : Kind) (b : Block) (passed slots : ℕ) where
  one_more : passed < slots → live_from (passed + 1) (slots - passed) k b ≡ cond (live_in k (passed + 1) b) ((passed + 1) ∷ live_from (passed + 1 + 1) (slots - (passed + 1)) k b) (live_from (passed + 1 + 1) (slots - (passed + 1)) k b)
  one_more within =
      let count : slots - passed ≡ suc (slots - (passed + 1)) = omega arith in
      ap (λ n. live_from (passed + 1) n k b) count

  -- the next slot has an object
  pub this_live : passed < slots → live_in k (passed + 1) b ≡ true → live_from (passed + 1) (slots - passed) k b ≡ (passed + 1) ∷ live_from (passed + 1 + 1) (slots - (passed + 1)) k b
  this_live within here =
      one_more within ∙ ap (λ t. cond t ((passed + 1) ∷ live_from (passed + 1 + 1) (slots - (passed + 1)) k b) (live_from (passed + 1 + 1) (slots - (passed + 1)) k b)) here

  -- the next slot is empty
  pub next_live : passed < slots → live_in k (passed + 1) b ≡ false → live_from (passed + 1) (slots - passed) k b ≡ live_from (passed + 1 + 1) (slots - (passed + 1)) k b
  next_live within empty =
      one_more within ∙ ap (λ t. cond t ((passed + 1) ∷ live_from (passed + 1 + 1) (slots - (passed + 1)) k b) (live_from (passed + 1 + 1) (slots - (passed + 1)) k b)) empty
