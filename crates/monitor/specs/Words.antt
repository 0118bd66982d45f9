-- The word after some closed steps, and how it is written. Assumes nothing.
use Rattle.std.specs.Prelude.{◌≡◌, ℕ, List, codes}
use Rattle.watch.specs.Exactly.{Exactly}
use Rattle.watch.specs.Watchers.{Watching}
use Rattle.expression.specs.Formulas.{Formula}
use Rattle.monitor.specs.Keeping.{NoneKeeps, NoneBreaks}
use Rattle.monitor.specs.declared.word.Word.{Word}
use Rattle.monitor.specs.declared.word.Word.TheVariants.{Open, Satisfied, Violated}

-- Violated exactly when no endless continuation keeps the terms, satisfied exactly when none breaks them, and so open
-- otherwise.
pub record RightWord (w : Watching) (f : Formula) (closed : List ℕ) (word : Word) : Type 0 where
  pub violated : Exactly (word ≡ Violated) (NoneKeeps w f closed)
  pub satisfied : Exactly (word ≡ Satisfied) (NoneBreaks w f closed)

abbrev pub word_text : Word → List ℕ
word_text Open = codes "open"
word_text Satisfied = codes "satisfied"
word_text Violated = codes "violated"
