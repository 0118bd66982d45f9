-- How a formula is written: its words in prefix order, with single spaces between them. Assumes nothing.
use Rattle.std.specs.Prelude.{◌≡◌, ℕ, ◌≤◌, Bool, true, List, [], ◌∷◌, ◌++◌, map, length, codes, decimal, nat_lt}
use Rattle.std.specs.List.{list_all}
use Rattle.text.specs.Words.{joined}
use Rattle.text.specs.Numbers.{number_limit}
use Rattle.expression.specs.Formulas.{Formula, term, not, and, or, implies}
use Rattle.expression.specs.declared.token.Token.{Token}
use Rattle.expression.specs.declared.token.Token.TheVariants.{And, Or, Implies, Not, Term}

-- The words of a formula: each operator stands before its operands.
abbrev pub written : Formula → List Token
written (term i) = Term i ∷ []
written (not f) = Not ∷ written f
written (and f g) = And ∷ (written f ++ written g)
written (or f g) = Or ∷ (written f ++ written g)
written (implies f g) = Implies ∷ (written f ++ written g)

-- The bytes of a word; a term is written as its number.
abbrev pub spelled : Token → List ℕ
spelled And = codes "and"
spelled Or = codes "or"
spelled Implies = codes "implies"
spelled Not = codes "not"
spelled (Term i) = decimal i

-- The bytes of a formula.
abbrev pub writing : Formula → List ℕ
writing f = joined (map spelled (written f))

-- A term's number is below the limit of numbers.
abbrev pub in_range : Token → Bool
in_range And = true
in_range Or = true
in_range Implies = true
in_range Not = true
in_range (Term i) = nat_lt i number_limit

abbrev pub most_words : ℕ
most_words = 15

-- The formulas that are read: at most 15 words, with numbers below the limit.
abbrev pub Fits : Formula → Type 0
Fits f = (length (written f) ≤ most_words) × (list_all in_range (written f) ≡ true)
