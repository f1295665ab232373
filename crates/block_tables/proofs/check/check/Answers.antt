use Rattle.std.proofs.Common.{◌≤◌, ℕ, OnOk}
use Rattle.std.specs.Prelude.{Err, Ok, Result}
use Rattle.odb_base.specs.declared.codes.kind.Kind.{Kind}
use Rattle.block_store.specs.Block.{slots_in}
use Rattle.block_tables.specs.Rules.{AreSoundParts, IsSoundKind}
use Rattle.block_tables.proofs.check.check.Goals as goal

on_ok : {A E : Type 0} (r : Result A E) (P Q : Type 0) → (P → Q) → OnOk r P → OnOk r Q
on_ok (Ok x) P Q f h = f h
on_ok (Err e) P Q f h = h

pub returns-in_ok-new-clause-ok : goal.returns-in_ok-new-clause-ok
returns-in_ok-new-clause-ok c =
    let P : Type 0 = (cap : ℕ) → ((k : Kind) → slots_in k c.args.tables.now ≤ cap) → (k : Kind) → IsSoundKind c.args.tech.now c.args.library.now cap c.args.tables.now k in
    let Q : Type 0 = (cap : ℕ) → ((k : Kind) → slots_in k c.args.tables.now ≤ cap) → AreSoundParts c.args.tech.now c.args.library.now cap c.args.tables.now in
    let sound = rw (c.in_ok-new.ensures.tables, c.in_ok-new.ensures.tech, c.in_ok-new.ensures.library) at c.check_kinds.ensures.ok in
    on_ok c.check_kinds.result P Q (λ kinds cap few. record { header = c.in_ok-is_sound_header.ensures.0 c.if-branch.true; kinds = kinds cap few }) sound
