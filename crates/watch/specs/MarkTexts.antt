-- A set of marks as text. Assumes nothing.
use Rattle.std.specs.Prelude.{ℕ, zero, suc, cond, List, [], ◌∷◌, ◌++◌, codes, decimal}
use Rattle.watch.specs.Marks.{has}
use Rattle.watch.specs.Watchers.{most_marks}

-- A text, and a space behind it unless it is empty.
abbrev pub apart : List ℕ → List ℕ
apart [] = []
apart (b ∷ text) = (b ∷ text) ++ codes " "

-- The numbers of the set's marks up to n, in rising order, with a space between two.
abbrev pub marks_upto : ℕ → ℕ → List ℕ
marks_upto zero set = []
marks_upto (suc n) set = cond (has (suc n) set) (apart (marks_upto n set) ++ decimal (suc n)) (marks_upto n set)

abbrev pub or_none : List ℕ → List ℕ
or_none [] = codes "none"
or_none (b ∷ text) = b ∷ text

abbrev pub marks_text : ℕ → List ℕ
marks_text set = or_none (marks_upto most_marks set)
