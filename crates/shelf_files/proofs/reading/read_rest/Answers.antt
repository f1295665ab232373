use Rattle.std.proofs.Common.{◌<◌, ◌+◌, ◌∙◌, refl, sym, ap, subst, arith, length, take, length-append}
use Rattle.std.proofs.lemmas.List.{length-take-le}
use Rattle.std.proofs.lemmas.Result.{err_from_is_err_and}
use Rattle.shelf_files.proofs.FileSteps.{IsTaken, taken_all, taken_first, taken_much, taken_on}
use Rattle.shelf_files.proofs.reading.read_rest.Goals as goal

pub pieces-init : goal.pieces-init
pieces-init g c =
    let none = c.new-bytes.ensures.items in
    let told = g.F.Shelf.told c.args.shelf.now in
    record {
      within = omega (arith, ap length none);
      hand = c.requires.hand;
      later = omega arith;
      files = refl;
      taken = subst (λ bytes. IsTaken told bytes told) (sym none) (taken_first told);
    }

pub returns-then-n-eq0-clause-rest : goal.returns-then-n-eq0-clause-rest
returns-then-n-eq0-clause-rest g c =
    let shelf = g.F.Shelf in
    let reads = rw c.if-n-eq0.true at c.in_ok-n.ensures.reads in
    let some : 0 < length c.read.new.into = omega (arith, c.requires.room, c.read.auto.into, c.pieces.auto.room) in
    taken_all (shelf.told c.args.shelf.now) (shelf.told c.pieces.shelf) (shelf.told c.read.new.self) c.pieces.bytes c.read.new.into c.pieces.invariant.taken reads some c.pieces.invariant.within

pub returns-then-n-eq0-clause-cause : goal.returns-then-n-eq0-clause-cause
returns-then-n-eq0-clause-cause g c = record { later = omega (arith, c.pieces.invariant.later, c.in_ok-n.ensures.cause.later); failed = λ e. absurd (cc e) }

pub returns-then-n-len-clause-rest : goal.returns-then-n-len-clause-rest
returns-then-n-len-clause-rest g c =
    let shelf = g.F.Shelf in
    let much : 4294967295 < length c.pieces.bytes.items + c.in_ok-n.n = omega (arith, c.if-n-len.true, c.len.ensures, c.pieces.bytes.ok.0, c.pieces.invariant.within) in
    taken_much (shelf.told c.args.shelf.now) (shelf.told c.pieces.shelf) (shelf.told c.read.new.self) c.pieces.bytes.items c.read.new.into c.in_ok-n.n c.pieces.invariant.taken c.in_ok-n.ensures.reads c.in_ok-n.ensures.bound much

pub returns-then-n-len-clause-cause : goal.returns-then-n-len-clause-cause
returns-then-n-len-clause-cause g c = record { later = omega (arith, c.pieces.invariant.later, c.in_ok-n.ensures.cause.later); failed = λ e. absurd (cc e) }

pub pieces-preserved : goal.pieces-preserved
pieces-preserved g c =
    let shelf = g.F.Shelf in
    let more = c.in_ok-extend_from_slice.ensures.items in
    record {
      within = omega (arith, ap length more, length-append c.pieces.bytes.items (take c.in_ok-n.n c.read.new.into), length-take-le c.in_ok-n.n c.read.new.into c.in_ok-n.ensures.bound, c.if-n-len.false, c.len.ensures, c.pieces.bytes.ok.0);
      hand = c.in_ok-n.ensures.hand;
      later = omega (arith, c.pieces.invariant.later, c.in_ok-n.ensures.cause.later);
      files = c.in_ok-n.ensures.files ∙ c.pieces.invariant.files;
      taken = subst (λ bytes. IsTaken (shelf.told c.args.shelf.now) bytes (shelf.told c.read.new.self)) (sym more) (taken_on (shelf.told c.args.shelf.now) (shelf.told c.pieces.shelf) (shelf.told c.read.new.self) c.pieces.bytes.items c.read.new.into c.in_ok-n.n c.pieces.invariant.taken c.in_ok-n.ensures.reads);
    }

pub returns-in_err-extend_from_slice-clause-cause : goal.returns-in_err-extend_from_slice-clause-cause
returns-in_err-extend_from_slice-clause-cause g c =
    let p = err_from_is_err_and c.from_residual-in_err-extend_from_slice.result c.from_residual-in_err-extend_from_slice.ensures.1 in
    record { later = omega (arith, c.pieces.invariant.later, c.in_ok-n.ensures.cause.later); failed = λ e. absurd (cc (p.1, p.2, e)) }
