-- What every value of an expression keeps. Assumes nothing.
use Rattle.std.specs.Prelude.{Bool, ◌&&◌, List, length, nat_le}
use Rattle.std.specs.List.{list_all}
use Rattle.expression.specs.Writing.{in_range, most_words}
use Rattle.expression.specs.inner.Parsing.{whole}
use Rattle.expression.specs.declared.token.Token.{Token}

-- The words are one whole expression, so there is at least one.
abbrev pub formed : List Token → Bool
formed words = nat_le (length words) most_words && whole 1 words && list_all in_range words
