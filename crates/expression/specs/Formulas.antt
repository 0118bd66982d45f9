-- Formulas over numbered terms, and when they are true. Assumes nothing.
use Rattle.std.specs.Prelude.{ℕ}
use Rattle.watch.specs.Classical.{Either}

pub data Formula : Type 0 where
  term : ℕ → Formula
  not : Formula → Formula
  and : Formula → Formula → Formula
  or : Formula → Formula → Formula
  implies : Formula → Formula → Formula

-- The truth of a formula, where `holds i` says that term i holds.
abbrev pub TrueOf : (ℕ → Type 0) → Formula → Type 0
TrueOf holds (term i) = holds i
TrueOf holds (not f) = TrueOf holds f → ⊥
TrueOf holds (and f g) = TrueOf holds f × TrueOf holds g
TrueOf holds (or f g) = Either (TrueOf holds f) (TrueOf holds g)
TrueOf holds (implies f g) = TrueOf holds f → TrueOf holds g
