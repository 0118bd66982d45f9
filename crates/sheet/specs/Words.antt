-- The word over a sheet, in OSL alone: no watcher stands in these statements. Assumes nothing.
use Rattle.std.specs.Prelude.{◌≡◌, ℕ, List, length}
use Rattle.watch.specs.Exactly.{Exactly}
use Rattle.watch.specs.Runs.{Run, Over, Continues}
use Rattle.osl.specs.declared.event.Event.{Event}
use Rattle.osl.specs.declared.row.Row.{Row}
use Rattle.expression.specs.Formulas.{Formula}
use Rattle.monitor.specs.declared.word.Word.{Word}
use Rattle.monitor.specs.declared.word.Word.TheVariants.{Satisfied, Violated}
use Rattle.sheet.specs.Meaning.{TermsTrue}

-- No endless trace that begins with the closed steps makes the expression true of the rows' formulas.
abbrev pub NoneKeepsRows : List Event → List Row → Formula → List ℕ → Type 0
NoneKeepsRows events rows keep closed =
    (run : Run) → Over (length events) run → Continues closed run → TermsTrue events rows keep run → ⊥

-- None makes it false.
abbrev pub NoneBreaksRows : List Event → List Row → Formula → List ℕ → Type 0
NoneBreaksRows events rows keep closed =
    (run : Run) → Over (length events) run → Continues closed run → (TermsTrue events rows keep run → ⊥) → ⊥

-- Violated exactly when none keeps the terms, satisfied exactly when none breaks them, and so open otherwise.
pub record RightWordOfRows (events : List Event) (rows : List Row) (keep : Formula) (closed : List ℕ) (word : Word) : Type 0 where
  pub violated : Exactly (word ≡ Violated) (NoneKeepsRows events rows keep closed)
  pub satisfied : Exactly (word ≡ Satisfied) (NoneBreaksRows events rows keep closed)
