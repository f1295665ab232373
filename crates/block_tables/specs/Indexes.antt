-- What is counted over the tables before their records are judged. No public clause cites this module.
use Rattle.std.specs.Prelude.{◌≡◌, List, ℕ, Option, count_by, if◌then◌else◌, min, nat_le, slice_index}
use Rattle.std.specs.Borrow.{Bor}
use Rattle.std.specs.HashMap.{HashMap}
use Rattle.std.specs.Str.{bytes_eq}
use Rattle.block_store.specs.Block.{Block}
use Rattle.named_pool.specs.Names.{is_named}
use Rattle.block_store.specs.Sound.{net_terms}
use Rattle.block_tables.specs.Counting.{holders_in, often}
use Rattle.block_tables.specs.RuleNets.{term_net}

module _ {A S : Type 0} where
  -- the counts are those of the things of each name in a list
  abbrev pub CountsNames : (A → List ℕ) → List A → HashMap (Bor (List ℕ)) ℕ S → Type 0
  CountsNames name_of things counts = (name : List ℕ) → holders_in counts name ≡ min 2 (count_by (λ thing. bytes_eq (name_of thing) name) things)

  -- the counts are those of the objects of each name
  abbrev pub CountsHolders : (A → List ℕ) → List (Option A) → HashMap (Bor (List ℕ)) ℕ S → Type 0
  CountsHolders name_of slots counts = (name : List ℕ) → holders_in counts name ≡ min 2 (count_by (is_named name_of name) slots)

-- how often the terminal of a number stands in the list of the net that it names, if that is among the first nets
abbrev pub standing_up_to : Block → ℕ → ℕ → ℕ
standing_up_to b last number = if nat_le (term_net b number) last then often number (net_terms b (term_net b number)) else 0

-- the counts are of how often each terminal stands in the list of the net that it names
abbrev pub CountsStanding : Block → List ℕ → Type 0
CountsStanding b counts = (number : ℕ) → slice_index counts number ≡ often number (net_terms b (term_net b number))
