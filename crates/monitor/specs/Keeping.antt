-- When a run keeps the terms, and what the closed steps have already settled. Assumes nothing.
use Rattle.std.specs.Prelude.{ℕ, List}
use Rattle.watch.specs.Runs.{Run, Over, Continues, Holds}
use Rattle.watch.specs.Watchers.{Watching}
use Rattle.expression.specs.Formulas.{Formula, TrueOf}

-- The expression is true of the terms that hold on the run.
abbrev pub Keeps : Watching → Formula → Run → Type 0
Keeps w f r = TrueOf (Holds w r) f

abbrev pub Breaks : Watching → Formula → Run → Type 0
Breaks w f r = Keeps w f r → ⊥

-- No endless continuation of the closed steps keeps the terms.
abbrev pub NoneKeeps : Watching → Formula → List ℕ → Type 0
NoneKeeps w f closed = (r : Run) → Over w.events r → Continues closed r → Keeps w f r → ⊥

-- No endless continuation of the closed steps breaks the terms.
abbrev pub NoneBreaks : Watching → Formula → List ℕ → Type 0
NoneBreaks w f closed = (r : Run) → Over w.events r → Continues closed r → Breaks w f r → ⊥
