use Rattle.std.proofs.Common.{◌≡◌, drop}
use Rattle.lef_forms.specs.Forms.{form_in}
use Rattle.lef_forms.proofs.form.form_among.Given as goal

abbrev pub invariant-loop-first : goal.invariant-loop-first
invariant-loop-first l = form_in (drop l.first-index l.rows) l.word ≡ form_in l.rows l.word
