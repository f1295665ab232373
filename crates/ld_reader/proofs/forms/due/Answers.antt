use Rattle.std.proofs.Common.{sym, ◌∙◌}
use Rattle.std.proofs.lemmas.List.{take_rest}
use Rattle.ld_reader.proofs.Places.{out-due}
use Rattle.ld_reader.proofs.forms.due.Goals as goal

pub places-preserved : goal.places-preserved
places-preserved g c =
    rw (c.behind-rest.ensures, take_rest c.places.rest.now 1)
    (sym (out-due g.L.Language.rules.judged c.places.rest.now c.place-item.result c.in-Some.count c.args.word.now c.in-len1-up.len_at_least c.place-item.is (sym c.in-Some.ensures)) ∙ c.places.invariant)
