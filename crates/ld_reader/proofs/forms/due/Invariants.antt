-- The places that are left are those of which one is due.
use Rattle.std.proofs.Common.{◌≡◌, length}
use Rattle.ld_forms.specs.Places.{due}
use Rattle.ld_reader.proofs.forms.due.Given as goal

abbrev pub invariant-places : goal.invariant-places
invariant-places g l = due g.L.Language.rules.judged l.rest l.word ≡ due g.L.Language.rules.judged l.initial.rest l.word

abbrev pub decreases-places : goal.decreases-places
decreases-places g l = length l.rest
