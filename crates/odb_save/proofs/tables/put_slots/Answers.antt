use Rattle.std.proofs.Common.{◌≡◌, ◌<◌, ap, ◌∙◌, arith}
use Rattle.block_store.specs.Block.{slots_in}
use Rattle.odb_save.specs.Kinds.{slots_behind}
use Rattle.saved_reader.proofs.Appending.{all_appended, one_appended}
use Rattle.odb_save.proofs.Written.{written_in}
use Rattle.odb_save.proofs.tables.put_slots.Goals as goal

pub loop-place-preserved : goal.loop-place-preserved
loop-place-preserved c =
    let count = c.slots-place-end.ensures.count ∙ ap (λ d. slots_in c.args.kind d.block) c.db.view_is in
    let within : c.loop-place.place < slots_in c.args.kind c.args.db.now.block = omega (arith, count, c.loop-place-test.true) in
    record {
      bytes = one_appended _ _ _ _ _ _ c.in_ok-put_slot.ensures.ok ((written_in c.args.kind c.args.db.now.block).step c.loop-place.place within) c.loop-place.invariant.bytes;
      vector = c.in_ok-put_slot.ensures.vector ∙ c.loop-place.invariant.vector;
    }

pub returns-clause-ok : goal.returns-clause-ok
returns-clause-ok c =
    let count = c.slots-place-end.ensures.count ∙ ap (λ d. slots_in c.args.kind d.block) c.db.view_is in
    let all : c.loop-place.place ≡ slots_in c.args.kind c.args.db.now.block = omega (arith, count) in
    all_appended _ _ _ (ap (λ n. slots_behind n c.args.kind c.args.db.now.block) all ∙ (written_in c.args.kind c.args.db.now.block).done) c.loop-place.invariant.bytes
