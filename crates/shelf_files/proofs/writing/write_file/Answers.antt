use Rattle.std.proofs.Common.{Result, Ok, Err, OnErr, arith, length-drop}
use Rattle.std.proofs.lemmas.List.{take_rest}
use Rattle.shelf_files.proofs.FileSteps.{not_made, way_failed, way_first, way_on, way_over, way_unclosed}
use Rattle.shelf_files.proofs.writing.write_file.Goals as goal

-- a fact holds after a fault where it holds anyway
on_err : {T E P : Type 0} (result : Result T E) → P → OnErr result P
on_err (Ok x) p = tt
on_err (Err e) p = p

pub returns-in_err-create-clause-part : goal.returns-in_err-create-clause-part
returns-in_err-create-clause-part g c =
    let shelf = g.F.Shelf in
    on_err c.from_residual.result (not_made (shelf.told c.args.shelf.now) (shelf.told c.create.new.self) c.args.name.now c.args.bytes.now c.in_err-create.field-0.0 c.in_err-create.ensures.creates)

pub bytes-init : goal.bytes-init
bytes-init g c =
    let shelf = g.F.Shelf in
    record {
      within = omega arith;
      hand = c.in_ok-create.ensures.hand;
      later = c.in_ok-create.ensures.cause.later;
      way = way_first (shelf.told c.args.shelf.now) (shelf.told c.create.new.self) c.args.name.now c.args.bytes.now c.in_ok-create.ensures.creates;
    }

pub returns-in_err-done-clause-part : goal.returns-in_err-done-clause-part
returns-in_err-done-clause-part g c =
    let shelf = g.F.Shelf in
    let writes = rw (take_rest c.args.bytes.now c.bytes.done) at c.in_err-done.ensures.writes in
    on_err c.from_residual-in_err-done.result (way_failed (shelf.told c.args.shelf.now) (shelf.told c.bytes.shelf) (shelf.told c.write.new.self) c.args.name.now c.args.bytes.now c.bytes.done c.in_err-done.field-0.0 c.bytes.invariant.within c.bytes.invariant.way writes)

pub bytes-preserved : goal.bytes-preserved
bytes-preserved g c =
    let shelf = g.F.Shelf in
    let writes = rw (take_rest c.args.bytes.now c.bytes.done) at c.in_ok-done.ensures.writes in
    let bound = rw (take_rest c.args.bytes.now c.bytes.done) at c.in_ok-done.ensures.bound in
    record {
      within = omega (arith, bound, length-drop c.bytes.done c.args.bytes.now, c.bytes.invariant.within);
      hand = c.in_ok-done.ensures.hand;
      later = omega (arith, c.bytes.invariant.later, c.in_ok-done.ensures.cause.later);
      way = way_on (shelf.told c.args.shelf.now) (shelf.told c.bytes.shelf) (shelf.told c.write.new.self) c.args.name.now c.args.bytes.now c.bytes.done c.in_ok-done.field-0 c.bytes.invariant.way writes;
    }

pub returns-in_err-close-clause-part : goal.returns-in_err-close-clause-part
returns-in_err-close-clause-part g c =
    let shelf = g.F.Shelf in
    on_err c.from_residual-in_err-close.result (way_unclosed (shelf.told c.args.shelf.now) (shelf.told c.bytes.shelf) (shelf.told c.close.new.self) c.args.name.now c.args.bytes.now c.bytes.done c.bytes.invariant.within c.bytes.invariant.way c.in_err-close.ensures.files)

pub returns-clause-written : goal.returns-clause-written
returns-clause-written g c =
    let shelf = g.F.Shelf in
    way_over (shelf.told c.args.shelf.now) (shelf.told c.bytes.shelf) (shelf.told c.close.new.self) c.args.name.now c.args.bytes.now c.bytes.done (omega (arith, c.bytes-test.false)) c.bytes.invariant.within c.bytes.invariant.way c.in_ok-close.ensures.files
