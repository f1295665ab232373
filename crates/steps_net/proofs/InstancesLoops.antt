-- The loops that take, give and take back the terminals of an instance: what each keeps, from one terminal to the
-- next.
use Rattle.std.proofs.Common.{◌≡◌, ◌+◌, ◌-◌, ◌<◌, ◌≤◌, Bool, List, ℕ, IsTrue, drop, get_or, length, leb, sym, ap, ◌∙◌, arith}
use Rattle.std.proofs.lemmas.Option.{slice_get-get_or}
use Rattle.odb_base.specs.declared.codes.kind.Kind.TheVariants as kind
use Rattle.block_records.specs.declared.iterm.ITermRec.{ITermRec}
use Rattle.block_records.specs.declared.record.Record.TheVariants as rec
use Rattle.slot_pool.specs.Table.{CanUntake, Table, is_live, taken}
use Rattle.block_store.specs.Alone.{IsAlone}
use Rattle.edit_words.specs.declared.memo.Memo.TheVariants as memo
use Rattle.block_store.specs.Block.{Block, is_empty}
use Rattle.block_store.specs.Moves.{taken_in, untaken_in}
use Rattle.block_store.specs.Store.{ChangesRoom, Rooms, Store, with_room}
use Rattle.steps_net.specs.Back.{terms_untaken}
use Rattle.steps_net.specs.Do.{fresh_iterm, terms_given, terms_taken}
use Rattle.steps_net.specs.Terms.{AreGivable, AreInNoNet, AreUntakable}
use Rattle.steps_net.proofs.InstancesTerms.{free_taken, slots_terms, take_more, untakable_at, untaken_at, givable_at}

-- the block with another table of instance terminals
abbrev pub with_iterm : Table ITermRec → Block → Block
with_iterm t b = record b { iterm = t }

next_table : (first now next : Block) (t : Table ITermRec) → now ≡ with_iterm now.iterm first → next ≡ with_iterm t now → next ≡ with_iterm next.iterm first
next_table first now next t same is =
    is ∙ ap (with_iterm t) same ∙ ap (λ u. with_iterm u first) (sym (ap (λ b. b.iterm) is))

next_room : (first now next : Rooms) → ChangesRoom kind.ITerm first now → ChangesRoom kind.ITerm now next → ChangesRoom kind.ITerm first next
next_room first now next before after = after ∙ ap (with_room kind.ITerm next.iterm) before

-- terminals are taken from the first on
pub record IsTaking (inst : ℕ) (terms : List ℕ) (place : ℕ) (first now : Store) : Type 0 where
  pub same : now.block ≡ with_iterm now.block.iterm first.block
  pub rest : terms_taken inst place (drop place terms) now.block.iterm ≡ terms_taken inst 0 terms first.block.iterm
  pub capped : now.cap ≡ first.cap

pub next_taking : (inst : ℕ) (terms : List ℕ) (place : ℕ) (first now next : Store) → place < length terms → IsTaking inst terms place first now
    → next.block ≡ taken_in (rec.ITerm (fresh_iterm inst place)) now.block → next.cap ≡ now.cap → IsTaking inst terms (place + 1) first next
next_taking inst terms place first now next within was is cap = record {
  same = next_table first.block now.block next.block (taken (fresh_iterm inst place) now.block.iterm) was.same is;
  rest = ap (terms_taken inst (place + 1) (drop (place + 1) terms)) (ap (λ b. b.iterm) is) ∙ take_more inst terms place now.block.iterm within ∙ was.rest;
  capped = cap ∙ was.capped;
}

-- and there is room for the others
pub record HasRoom (terms : List ℕ) (place : ℕ) (first now : Rooms) : Type 0 where
  pub enough : length terms ≤ place + now.iterm
  pub others : ChangesRoom kind.ITerm first now

pub next_has_room : (terms : List ℕ) (place : ℕ) (first now next : Rooms) → HasRoom terms place first now → now.iterm ≤ next.iterm + 1 → ChangesRoom kind.ITerm now next → HasRoom terms (place + 1) first next
next_has_room terms place first now next was one others = record {
  enough = omega (arith, was.enough, one);
  others = next_room first now next was.others others;
}

-- the slots that they add; the instances stay
pub slots_grown : (inst : ℕ) (terms : List ℕ) (first now : Block) → now ≡ with_iterm (terms_taken inst 0 terms first.iterm) first → length now.iterm.slots ≡ length first.iterm.slots + (length terms - length first.iterm.free)
slots_grown inst terms first now is = ap (λ b. length b.iterm.slots) is ∙ slots_terms inst 0 terms first.iterm

pub free_insts : (t : Table ITermRec) (first now : Block) → now ≡ with_iterm t first → is_empty now.inst.free ≡ is_empty first.inst.free
free_insts t first now is = ap (λ b. is_empty b.inst.free) is

pub memo_grown : (grew grew' : Bool) (grown grown' : ℕ) → grew ≡ grew' → grown ≡ grown' → memo.Grown grew grown ≡ memo.Grown grew' grown'
memo_grown grew grew' grown grown' same_grew same_grown = ap (λ b. memo.Grown b grown) same_grew ∙ ap (memo.Grown grew') same_grown

-- or identifiers are free for them
pub next_free : (terms : List ℕ) (place : ℕ) (x : ITermRec) (now next : Block) → length terms ≤ place + length now.iterm.free → next ≡ with_iterm (taken x now.iterm) now → length terms ≤ place + 1 + length next.iterm.free
next_free terms place x now next enough is =
    let fewer : length next.iterm.free ≡ length now.iterm.free - 1 = ap (λ b. length b.iterm.free) is ∙ free_taken x now.iterm in
    omega (arith, enough, fewer)

-- Terminals go from the last on.

-- the terminal at a place stands in no list
pub alone_at : (terms : List ℕ) (place : ℕ) (t : Table ITermRec) (first now : Block) → 0 < place → place ≤ length terms → now ≡ with_iterm t first → AreInNoNet terms first → IsAlone kind.ITerm (get_or terms (place - 1) 0) now
alone_at terms place t first now some within is apart =
    let here = apart (place - 1) (get_or terms (place - 1) 0) (slice_get-get_or terms (place - 1) 0 (omega arith)) in
    rw is (record { apart = here; bare = tt })

pub live_at : (terms : List ℕ) (place : ℕ) (first now : Block) → 0 < place → place ≤ length terms → now ≡ with_iterm (terms_given (drop place terms) first.iterm) first → AreGivable terms first.iterm → IsTrue (is_live now.iterm (get_or terms (place - 1) 0))
live_at terms place first now some within is can = rw is (givable_at place terms first.iterm some within can)

-- new terminals are taken back
pub record IsUntaking (reused : ℕ) (terms : List ℕ) (place : ℕ) (first now : Store) : Type 0 where
  pub done : now.block ≡ with_iterm (terms_untaken (reused - place) (drop place terms) first.block.iterm) first.block
  pub capped : now.cap ≡ first.cap

pub can_untake_at : (reused : ℕ) (terms : List ℕ) (place : ℕ) (first now : Block) → 0 < place → place ≤ length terms → now ≡ with_iterm (terms_untaken (reused - place) (drop place terms) first.iterm) first → AreUntakable reused terms first.iterm → CanUntake now.iterm (get_or terms (place - 1) 0) (leb reused (place - 1))
can_untake_at reused terms place first now some within is can = rw is (untakable_at reused place terms first.iterm some within can)

pub next_untaking : (reused : ℕ) (terms : List ℕ) (place : ℕ) (first now next : Store) → 0 < place → place ≤ length terms → IsUntaking reused terms place first now
    → next.block ≡ untaken_in kind.ITerm (get_or terms (place - 1) 0) (leb reused (place - 1)) now.block → next.cap ≡ now.cap → IsUntaking reused terms (place - 1) first next
next_untaking reused terms place first now next some within was is cap = record {
  done = is ∙ ap (untaken_in kind.ITerm (get_or terms (place - 1) 0) (leb reused (place - 1))) was.done
      ∙ ap (λ t. with_iterm t first.block) (sym (untaken_at reused place terms first.block.iterm some within));
  capped = cap ∙ was.capped;
}
