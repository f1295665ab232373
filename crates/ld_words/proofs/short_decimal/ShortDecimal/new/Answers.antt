use Rattle.std.proofs.Common.{sym, ◌∙◌}
use Rattle.ld_words.proofs.Scans.{lacking, short_found, some_digit}
use Rattle.ld_words.proofs.short_decimal.ShortDecimal.new.Goals as goal

pub returns-then-lacks_digits-clause-value : goal.returns-then-lacks_digits-clause-value
returns-then-lacks_digits-clause-value c = lacking c.args.text.now (sym c.lacks_digits.ensures ∙ c.if-lacks_digits.true)

pub returns-clause-value : goal.returns-clause-value
returns-clause-value c = c.scan.ensures.value ∙ short_found c.args.text.now (some_digit c.args.text.now (sym c.lacks_digits.ensures ∙ c.if-lacks_digits.false)) c.requires
