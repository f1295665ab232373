use Rattle.std.proofs.Common.{◌^◌, arith, sym, refl, ◌∙◌, get_or, length}
use Rattle.std.proofs.lemmas.List.{take_rest}
use Rattle.odb_base.proofs.Decimals.{digit_value, room_on, room_one}
use Rattle.ld_words.proofs.Decimals.{short_bound}
use Rattle.ld_words.proofs.Scans.{one_place, scan_digit}
use Rattle.ld_words.proofs.short_decimal.ShortDecimal.scan.Goals as goal

pub bytes-init : goal.bytes-init
bytes-init c = record { reading = refl; room = short_bound (length c.args.text.now) c.requires; places = omega (arith, c.requires) }

pub overflow_mul-number : goal.overflow_mul-number
overflow_mul-number c = omega (arith, room_one c.bytes.number c.bytes.rest.now (10 ^ 13) c.in-len1-up.len_at_least c.bytes.invariant.room)

pub overflow_add-number : goal.overflow_add-number
overflow_add-number c =
    omega (arith, room_one c.bytes.number c.bytes.rest.now (10 ^ 13) c.in-len1-up.len_at_least c.bytes.invariant.room, digit_value (get_or c.bytes.rest.now 0 0) (sym c.if-is_digit.ensures))

pub bytes-preserved-then-is_digit : goal.bytes-preserved-then-is_digit
bytes-preserved-then-is_digit c =
    let rest = c.bytes.rest.now in
    let some = c.in-len1-up.len_at_least in
    let digit = sym c.if-is_digit.ensures in
    record {
      reading = rw (take_rest rest 1) (scan_digit c.bytes.point c.bytes.number c.bytes.places c.one_if-places.result rest some digit c.one_if-places.ensures.value ∙ c.bytes.invariant.reading);
      room = rw (take_rest rest 1) (room_on c.bytes.number rest _ some digit c.bytes.invariant.room);
      places = rw (take_rest rest 1) (one_place c.bytes.point c.bytes.places c.one_if-places.result rest some c.one_if-places.ensures.bound c.bytes.invariant.places);
    }
