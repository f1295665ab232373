use Rattle.std.proofs.Common.{◌≡◌, ◌<◌, ◌≤◌, ◌+◌, ◌∙◌, Err, ap, refl, length, length-take, arith}
use Rattle.std.proofs.lemmas.Result.{err_from_is_err_and}
use Rattle.odb_outside.specs.Shelves.{files_told}
use Rattle.odb_run.proofs.Scripts.{read_finished, read_in_part, read_to_fault, read_to_limit, runs_err, runs_finished, runs_to_fault, runs_too_long, takes_first, takes_much, takes_next, within_first, within_next}
use Rattle.odb_run.proofs.top.take_pieces.Goals as goal

pub pieces-init : goal.pieces-init
pieces-init g c =
    let left = g.S.Source.left c.args.script.now in
    record {
      script_ready = c.requires.script_ready;
      out_ready = c.requires.out_ready;
      hand = c.requires.hand;
      script_later = omega arith;
      out_later = omega arith;
      file_later = omega arith;
      limit = omega arith;
      takes = takes_first left;
      between = rw c.requires.first record { written = refl; whole = refl };
      within = rw c.requires.first (within_first c.args.run.now.state left (g.K.Sink.held c.args.out.now) (files_told (g.F.Shelf.told c.args.shelf.now)));
    }

-- ---- a read that failed

pub returns-in_err-n-clause-runs : goal.returns-in_err-n-clause-runs
returns-in_err-n-clause-runs g c =
    let p = err_from_is_err_and c.from_residual.result c.from_residual.ensures.1 in
    runs_to_fault c.args.run.now.state _ _ _ _ _ _ _ c.pieces.run c.pieces.taken c.in_err-n.field-0.0 c.read.new.into c.from_residual.result (p.1 ∙ ap Err p.2) c.pieces.invariant.within c.pieces.invariant.between c.in_err-n.ensures.bytes

pub returns-in_err-n-clause-script_read : goal.returns-in_err-n-clause-script_read
returns-in_err-n-clause-script_read g c =
    let p = err_from_is_err_and c.from_residual.result c.from_residual.ensures.1 in
    rw (p.1 ∙ ap Err p.2) (read_to_fault _ _ _ c.pieces.taken c.in_err-n.field-0.0 c.read.new.into c.pieces.invariant.takes c.in_err-n.ensures.bytes)

pub returns-in_err-n-clause-out_cause : goal.returns-in_err-n-clause-out_cause
returns-in_err-n-clause-out_cause g c =
    let p = err_from_is_err_and c.from_residual.result c.from_residual.ensures.1 in
    record { later = c.pieces.invariant.out_later; failed = λ e. absurd (cc (p.1, p.2, e)) }

pub returns-in_err-n-clause-file_cause : goal.returns-in_err-n-clause-file_cause
returns-in_err-n-clause-file_cause g c =
    let p = err_from_is_err_and c.from_residual.result c.from_residual.ensures.1 in
    record { later = c.pieces.invariant.file_later; failed = λ e. absurd (cc (p.1, p.2, e)) }

pub returns-in_err-n-clause-too_long : goal.returns-in_err-n-clause-too_long
returns-in_err-n-clause-too_long g c e =
    let p = err_from_is_err_and c.from_residual.result c.from_residual.ensures.1 in
    absurd (cc (p.1, p.2, e))

-- ---- the end of the script

pub returns-then-n-eq0-clause-runs : goal.returns-then-n-eq0-clause-runs
returns-then-n-eq0-clause-runs g c =
    let some : 0 < length c.read.new.into = omega (arith, c.read.auto.into, c.room_for.ensures.some, length-take c.room_for.result c.pieces.buffer) in
    let reads = rw c.if-n-eq0.true at c.in_ok-n.ensures.bytes in
    let causes = c.finish.ensures.causes in
    runs_finished c.args.run.now.state _ _ _ _ _ _ _ _ _ c.pieces.run c.pieces.taken c.read.new.into c.finish.result c.pieces.invariant.within reads some c.pieces.invariant.limit c.finish.ensures.ok c.finish.ensures.err causes.no_script_fault causes.not_too_long

pub returns-then-n-eq0-clause-script_read : goal.returns-then-n-eq0-clause-script_read
returns-then-n-eq0-clause-script_read g c =
    let some : 0 < length c.read.new.into = omega (arith, c.read.auto.into, c.room_for.ensures.some, length-take c.room_for.result c.pieces.buffer) in
    let reads = rw c.if-n-eq0.true at c.in_ok-n.ensures.bytes in
    let causes = c.finish.ensures.causes in
    read_finished _ _ _ c.pieces.taken c.read.new.into c.finish.result c.pieces.invariant.takes reads some causes.no_script_fault causes.not_too_long

pub returns-then-n-eq0-clause-out_cause : goal.returns-then-n-eq0-clause-out_cause
returns-then-n-eq0-clause-out_cause g c =
    let causes = c.finish.ensures.causes in
    record { later = omega (arith, c.pieces.invariant.out_later, causes.out_later); failed = λ e. let r = causes.out_failed e in omega (arith, c.pieces.invariant.out_later, r) }

pub returns-then-n-eq0-clause-file_cause : goal.returns-then-n-eq0-clause-file_cause
returns-then-n-eq0-clause-file_cause g c =
    let causes = c.finish.ensures.causes in
    record { later = omega (arith, c.pieces.invariant.file_later, causes.file_later); failed = λ e. let r = causes.file_failed e in omega (arith, c.pieces.invariant.file_later, r) }

pub returns-then-n-eq0-clause-too_long : goal.returns-then-n-eq0-clause-too_long
returns-then-n-eq0-clause-too_long g c e = absurd (c.finish.ensures.causes.not_too_long e)

-- ---- one byte more than a script may have

pub returns-then-taken-eq-SCRIPT_LIMIT-clause-runs : goal.returns-then-taken-eq-SCRIPT_LIMIT-clause-runs
returns-then-taken-eq-SCRIPT_LIMIT-clause-runs g c =
    let some : 1 ≤ length c.read.new.into = omega (arith, c.read.auto.into, c.room_for.ensures.some, length-take c.room_for.result c.pieces.buffer) in
    let one : c.in_ok-n.n ≡ 1 = omega (arith, c.in_ok-n.ensures.bound, c.read.auto.into, c.room_for.ensures.one, length-take c.room_for.result c.pieces.buffer) in
    let reads = rw one at c.in_ok-n.ensures.bytes in
    runs_too_long c.args.run.now.state _ _ _ _ _ _ _ c.pieces.run c.pieces.taken c.read.new.into c.pieces.invariant.within c.pieces.invariant.between reads c.if-taken-eq-SCRIPT_LIMIT.true some

pub returns-then-taken-eq-SCRIPT_LIMIT-clause-script_read : goal.returns-then-taken-eq-SCRIPT_LIMIT-clause-script_read
returns-then-taken-eq-SCRIPT_LIMIT-clause-script_read g c =
    let some : 1 ≤ length c.read.new.into = omega (arith, c.read.auto.into, c.room_for.ensures.some, length-take c.room_for.result c.pieces.buffer) in
    let one : c.in_ok-n.n ≡ 1 = omega (arith, c.in_ok-n.ensures.bound, c.read.auto.into, c.room_for.ensures.one, length-take c.room_for.result c.pieces.buffer) in
    let reads = rw one at c.in_ok-n.ensures.bytes in
    read_to_limit _ _ _ c.pieces.taken c.read.new.into c.pieces.invariant.takes reads c.if-taken-eq-SCRIPT_LIMIT.true some

pub returns-then-taken-eq-SCRIPT_LIMIT-clause-script_cause : goal.returns-then-taken-eq-SCRIPT_LIMIT-clause-script_cause
returns-then-taken-eq-SCRIPT_LIMIT-clause-script_cause g c =
    record { later = omega (arith, c.pieces.invariant.script_later, c.in_ok-n.ensures.cause.later); failed = λ e. absurd (cc e) }

pub returns-then-taken-eq-SCRIPT_LIMIT-clause-out_cause : goal.returns-then-taken-eq-SCRIPT_LIMIT-clause-out_cause
returns-then-taken-eq-SCRIPT_LIMIT-clause-out_cause g c =
    record { later = c.pieces.invariant.out_later; failed = λ e. absurd (cc e) }

pub returns-then-taken-eq-SCRIPT_LIMIT-clause-file_cause : goal.returns-then-taken-eq-SCRIPT_LIMIT-clause-file_cause
returns-then-taken-eq-SCRIPT_LIMIT-clause-file_cause g c =
    record { later = c.pieces.invariant.file_later; failed = λ e. absurd (cc e) }

pub returns-then-taken-eq-SCRIPT_LIMIT-clause-too_long : goal.returns-then-taken-eq-SCRIPT_LIMIT-clause-too_long
returns-then-taken-eq-SCRIPT_LIMIT-clause-too_long g c e =
    let some : 1 ≤ length c.read.new.into = omega (arith, c.read.auto.into, c.room_for.ensures.some, length-take c.room_for.result c.pieces.buffer) in
    let one : c.in_ok-n.n ≡ 1 = omega (arith, c.in_ok-n.ensures.bound, c.read.auto.into, c.room_for.ensures.one, length-take c.room_for.result c.pieces.buffer) in
    let reads = rw one at c.in_ok-n.ensures.bytes in
    takes_much (g.S.Source.left c.args.script.now) (g.S.Source.left c.pieces.script) (g.S.Source.left c.read.new.self) c.pieces.taken c.read.new.into c.pieces.invariant.takes reads c.if-taken-eq-SCRIPT_LIMIT.true some

-- ---- a piece

pub pieces-preserved : goal.pieces-preserved
pieces-preserved g c =
    let source = g.S.Source in
    let room = length-take c.room_for.result c.pieces.buffer in
    let limit : c.in_ok-n.n ≤ c.room_for.result = omega (arith, c.in_ok-n.ensures.bound, c.read.auto.into, room) in
    record {
      script_ready = c.in_ok-n.ensures.ready;
      out_ready = c.in_ok-take_piece.ensures.ready;
      hand = c.in_ok-take_piece.ensures.hand;
      script_later = omega (arith, c.pieces.invariant.script_later, c.in_ok-n.ensures.cause.later);
      out_later = omega (arith, c.pieces.invariant.out_later, c.in_ok-take_piece.ensures.causes.out_later);
      file_later = omega (arith, c.pieces.invariant.file_later, c.in_ok-take_piece.ensures.causes.file_later);
      limit = omega (arith, c.room_for.ensures.limit);
      takes = takes_next (source.left c.args.script.now) (source.left c.pieces.script) (source.left c.read.new.self) c.pieces.taken c.in_ok-n.n c.read.new.into c.pieces.invariant.takes c.in_ok-n.ensures.bytes c.in_ok-n.ensures.bound;
      between = c.in_ok-take_piece.ensures.between;
      within = within_next c.args.run.now.state _ _ _ _ _ _ _ _ _ c.pieces.run c.take_piece.new.self c.pieces.taken c.in_ok-n.n c.read.new.into c.pieces.invariant.within c.in_ok-n.ensures.bytes c.in_ok-n.ensures.bound c.in_ok-take_piece.ensures.ok;
    }

pub returns-in_err-take_piece-clause-runs : goal.returns-in_err-take_piece-clause-runs
returns-in_err-take_piece-clause-runs g c =
    let p = err_from_is_err_and c.from_residual-in_err-take_piece.result c.from_residual-in_err-take_piece.ensures.1 in
    let causes = c.in_err-take_piece.ensures.causes in
    runs_err c.args.run.now.state _ _ _ _ _ _ _ _ _ c.pieces.run c.pieces.taken c.in_ok-n.n c.read.new.into c.from_residual-in_err-take_piece.result c.in_err-take_piece.field-0.0 (p.1 ∙ ap Err p.2)
    (λ e. causes.no_script_fault (ap Err e)) (λ e. causes.not_too_long (ap Err e)) c.pieces.invariant.within c.in_ok-n.ensures.bytes c.in_err-take_piece.ensures.err

pub returns-in_err-take_piece-clause-script_read : goal.returns-in_err-take_piece-clause-script_read
returns-in_err-take_piece-clause-script_read g c =
    let source = g.S.Source in
    let p = err_from_is_err_and c.from_residual-in_err-take_piece.result c.from_residual-in_err-take_piece.ensures.1 in
    let causes = c.in_err-take_piece.ensures.causes in
    let takes = takes_next (source.left c.args.script.now) (source.left c.pieces.script) (source.left c.read.new.self) c.pieces.taken c.in_ok-n.n c.read.new.into c.pieces.invariant.takes c.in_ok-n.ensures.bytes c.in_ok-n.ensures.bound in
    rw (p.1 ∙ ap Err p.2)
    (read_in_part (source.left c.args.script.now) (source.left c.read.new.self) (c.pieces.taken + c.in_ok-n.n) c.in_err-take_piece.field-0.0 takes (λ e. causes.no_script_fault (ap Err e)) (λ e. causes.not_too_long (ap Err e)))
