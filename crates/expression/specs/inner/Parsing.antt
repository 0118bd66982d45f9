-- What words in prefix order say, read from the last word to the first. Assumes nothing.
use Rattle.std.specs.Prelude.{ℕ, zero, suc, ◌+◌, Bool, false, List, [], ◌∷◌, ◌==◌}
use Rattle.expression.specs.Formulas.{Formula, term, not, and, or, implies}
use Rattle.expression.specs.declared.token.Token.{Token}
use Rattle.expression.specs.declared.token.Token.TheVariants.{And, Or, Implies, Not, Term}

-- The first of the formulas that are read, and those behind it. One that is missing is term 0.
abbrev pub first : List Formula → Formula
first [] = term 0
first (f ∷ more) = f

abbrev pub others : List Formula → List Formula
others [] = []
others (f ∷ more) = more

-- A word before the formulas that follow it.
abbrev pub before : Token → List Formula → List Formula
before And fs = and (first fs) (first (others fs)) ∷ others (others fs)
before Or fs = or (first fs) (first (others fs)) ∷ others (others fs)
before Implies fs = implies (first fs) (first (others fs)) ∷ others (others fs)
before Not fs = not (first fs) ∷ others fs
before (Term i) fs = term i ∷ fs

-- The formulas that the words say, one after another.
abbrev pub parsed : List Token → List Formula
parsed [] = []
parsed (t ∷ more) = before t (parsed more)

-- How many operands a word wants.
abbrev pub operands : Token → ℕ
operands And = 2
operands Or = 2
operands Implies = 2
operands Not = 1
operands (Term i) = 0

-- The words are exactly n whole expressions, one after another.
abbrev pub whole : ℕ → List Token → Bool
whole n [] = n == 0
whole zero (t ∷ more) = false
whole (suc n) (t ∷ more) = whole (operands t + n) more
