-- What the terms of a sheet mean, in OSL alone, and what its watcher has to do with it. Assumes nothing.
use Rattle.std.specs.Prelude.{ℕ, zero, suc, List, [], ◌∷◌, length}
use Rattle.watch.specs.Classical.{Exists}
use Rattle.watch.specs.Exactly.{Exactly}
use Rattle.watch.specs.Marks.{Has}
use Rattle.watch.specs.Runs.{Run, Over, passed}
use Rattle.watch.specs.Runs as watch
use Rattle.osl.specs.declared.event.Event.{Event}
use Rattle.osl.specs.declared.row.Row.{Row}
use Rattle.osl.specs.Osl.{Holds}
use Rattle.osl.specs.Sets.{Apart, SameEntry}
use Rattle.osl.specs.Terms.{row_formula}
use Rattle.osl.specs.Traces.{happening, trace, class_of}
use Rattle.expression.specs.Formulas.{Formula, TrueOf}
use Rattle.monitor.specs.Keeping.{Keeps}
use Rattle.sheet.specs.Joints.{watched}

-- Something of row number i, counted from 1. A number that no row has asks nothing.
abbrev pub at_row : List Row → ℕ → (Row → Type 0) → Type 0
at_row [] i P = Unit {0}
at_row (r ∷ rs) zero P = Unit {0}
at_row (r ∷ rs) (suc zero) P = P r
at_row (r ∷ rs) (suc (suc i)) P = at_row rs (suc i) P

-- OSL's formula of row i is true of the run's trace at step 0.
abbrev pub RowTrue : List Event → List Row → Run → ℕ → Type 0
RowTrue events rows run i = at_row rows i (λ row. Holds (class_of events) (trace events run) 0 (row_formula row))

-- The expression is true of the rows' formulas: the run keeps the terms.
abbrev pub TermsTrue : List Event → List Row → Formula → Run → Type 0
TermsTrue events rows keep run = TrueOf (RowTrue events rows run) keep

-- Mark i never appears on the run exactly when row i's formula is true, and it appears at some step exactly when that is false.
pub record RowTold (events : List Event) (rows : List Row) (run : Run) (i : ℕ) : Type 0 where
  pub never : Exactly (watch.Holds (watched events rows) run i) (RowTrue events rows run i)
  pub appears :
      Exactly (Exists (λ k. Has i ((watched events rows).shown (passed (watched events rows) run k)))) (RowTrue events rows run i → ⊥)

-- On every run over the declared events: the marks tell which rows are true, and the watcher's terms are kept exactly when the
-- expression is true of the rows' formulas. What is counted in a step are members of a set.
pub record Means (events : List Event) (rows : List Row) (keep : Formula) : Type 0 where
  pub rows_told : (run : Run) → Over (length events) run → (i : ℕ) → RowTold events rows run i
  pub kept : (run : Run) → Over (length events) run → Exactly (Keeps (watched events rows) keep run) (TermsTrue events rows keep run)
  pub sets : (letter : ℕ) → Apart SameEntry (happening events letter)
