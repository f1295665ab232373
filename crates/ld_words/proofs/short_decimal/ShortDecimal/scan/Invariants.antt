-- The bytes that are left go on what was read so far.
use Rattle.std.proofs.Common.{◌≡◌, ◌+◌, ◌*◌, ◌^◌, ◌≤◌, length}
use Rattle.ld_words.specs.Scan.{scan}
use Rattle.ld_words.proofs.short_decimal.ShortDecimal.scan.Given as goal

abbrev pub invariant-bytes : goal.invariant-bytes
invariant-bytes l = record {
  reading : scan l.point l.number l.places l.rest ≡ scan l.initial.point l.initial.number l.initial.places l.initial.rest;
  room : (l.number + 1) * 10 ^ length l.rest ≤ 10 ^ 13;
  places : l.places + length l.rest ≤ 13;
}

abbrev pub decreases-bytes : goal.decreases-bytes
decreases-bytes l = length l.rest
