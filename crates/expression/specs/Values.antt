-- The value of a formula at a set of marks. Assumes nothing.
use Rattle.std.proofs.Math.Bool as bool
use Rattle.std.specs.Prelude.{ℕ, Bool, ◌&&◌, ◌||◌}
use Rattle.watch.specs.Marks.{has}
use Rattle.expression.specs.Formulas.{Formula, term, not, and, or, implies}

-- The value where exactly the marks of the set are shown: term i holds where mark i is not.
abbrev pub eval : Formula → ℕ → Bool
eval (term i) set = bool.not (has i set)
eval (not f) set = bool.not (eval f set)
eval (and f g) set = eval f set && eval g set
eval (or f g) set = eval f set || eval g set
eval (implies f g) set = bool.not (eval f set) || eval g set
