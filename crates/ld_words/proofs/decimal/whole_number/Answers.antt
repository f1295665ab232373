use Rattle.std.proofs.Common.{◌^◌, arith, length}
use Rattle.ld_words.proofs.Decimals.{back_room, below_room, front_room, wide_room}
use Rattle.ld_words.proofs.decimal.whole_number.Goals as goal

pub with_digits-requires : goal.with_digits-requires
with_digits-requires c = front_room (length c.args.front.now) (length c.args.back.now) (omega (arith, c.in_ok-digits.ensures))

pub with_digits-requires-2 : goal.with_digits-requires-2
with_digits-requires-2 c =
    wide_room _ (back_room c.in_ok-with_digits.field-0 (length c.args.front.now) (length c.args.back.now) (omega (arith, c.in_ok-digits.ensures)) c.in_ok-with_digits.ensures.bound)

pub returns-clause-bound : goal.returns-clause-bound
returns-clause-bound c =
    let room = back_room c.in_ok-with_digits.field-0 (length c.args.front.now) (length c.args.back.now) (omega (arith, c.in_ok-digits.ensures)) c.in_ok-with_digits.ensures.bound in
    below_room c.with_digits-2.result _ (10 ^ 30) c.with_digits-2.ensures.bound room
