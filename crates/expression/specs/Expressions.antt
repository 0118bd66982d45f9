-- The formula of an expression, and which texts are read and refused. Assumes nothing.
use Rattle.std.specs.Prelude.{◌≡◌, ℕ, true, false, List}
use Rattle.text.specs.Lines.{unended, Ends}
use Rattle.text.specs.Clean.{clean}
use Rattle.expression.specs.Formulas.{Formula}
use Rattle.expression.specs.Writing.{writing, Fits}
use Rattle.expression.specs.inner.Parsing.{first, parsed}
use Rattle.expression.specs.declared.expression.Expression.{Expression}
use Rattle.expression.specs.declared.fault.Fault.{Fault}
use Rattle.expression.specs.declared.fault.Fault.TheVariants.{Bytes, Form}

-- What the words of the expression say. They are the words of this formula and of no other.
abbrev pub formula : Expression → Formula
formula e = first (parsed e.words)

-- The text is read as the expression: it is the writing of its formula, or that and a line feed.
abbrev pub Accepted : Expression → List ℕ → Type 0
Accepted e text = (clean (unended text) ≡ true) × Ends (writing (formula e)) text

-- The text is refused with the fault: its line is not clean, or it is and no formula that fits is written so.
abbrev pub Refused : Fault → List ℕ → Type 0
Refused Bytes text = clean (unended text) ≡ false
Refused Form text = (clean (unended text) ≡ true) × ((f : Formula) → Fits f → Ends (writing f) text → ⊥)
