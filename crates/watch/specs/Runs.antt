-- Endless runs, and what a watcher shows on one. Assumes nothing.
use Rattle.std.specs.Prelude.{◌≡◌, ℕ, zero, suc, ◌+◌, ◌<◌, List, length, slice_index}
use Rattle.watch.specs.Letters.{letter_count}
use Rattle.watch.specs.Marks.{Has}
use Rattle.watch.specs.Watchers.{Watching}

-- A run gives each step, from 0 on and without end, its letter.
abbrev pub Run : Type 0
Run = ℕ → ℕ

-- Every step has a letter over g events; any letter may follow any other.
abbrev pub Over : ℕ → Run → Type 0
Over g r = (k : ℕ) → r k < letter_count g

-- The run begins with the closed steps.
abbrev pub Continues : List ℕ → Run → Type 0
Continues closed r = (k : ℕ) → k < length closed → r k ≡ slice_index closed k

-- The run without its first n steps.
abbrev pub later : ℕ → Run → Run
later n r k = r (n + k)

-- The state after k steps of the run, from the state s.
abbrev pub passed_from : Watching → ℕ → Run → ℕ → ℕ
passed_from w s r zero = s
passed_from w s r (suc k) = w.next (passed_from w s r k) (r k)

-- The state after k steps of the run.
abbrev pub passed : Watching → Run → ℕ → ℕ
passed w r k = passed_from w w.start r k

-- Term i holds on the run: no state passed, the start included, shows the mark i.
abbrev pub Holds : Watching → Run → ℕ → Type 0
Holds w r i = (k : ℕ) → Has i (w.shown (passed w r k)) → ⊥
