-- Words that are numbers.
use Rattle.std.specs.Prelude.{Bool, List, ℕ}
use Rattle.ld_words.specs.Decimal.{is_decimal, unsigned}

-- a decimal with or without a sign
unfoldable pub is_number : List ℕ → Bool
is_number word = is_decimal (unsigned word)
