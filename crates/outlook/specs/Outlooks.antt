-- What can still come of a run: where its marks come to rest, and the tables that foretell it. Assumes nothing.
use Rattle.std.specs.Prelude.{◌≡◌, ℕ, ◌<◌, ◌≤◌, Bool, true, false, List, slice_index_or}
use Rattle.watch.specs.Watchers.{Watching}
use Rattle.watch.specs.Runs.{Run, Over, passed_from}

-- A table by a list: beyond the list it says no.
abbrev pub at : List Bool → ℕ → Bool
at table n = slice_index_or table n false

-- From some step on, every state that the run passes from the state s shows exactly the set of marks.
abbrev pub Rests : Watching → ℕ → Run → ℕ → Type 0
Rests w s r set = (k : ℕ) × ((j : ℕ) → k ≤ j → w.shown (passed_from w s r j) ≡ set)

-- The table says yes at exactly the states from which some endless run comes to rest at a set of marks
-- to which `good` gives the value v, and nowhere beyond the states.
pub record Foresees (w : Watching) (good : List Bool) (v : Bool) (table : ℕ → Bool) : Type 0 where
  pub some : (s : ℕ) → s < w.states → table s ≡ true → (r : Run) × Over w.events r × (set : ℕ) × Rests w s r set × (at good set ≡ v)
  pub all : (s : ℕ) → s < w.states → (r : Run) → Over w.events r → (set : ℕ) → Rests w s r set → at good set ≡ v → table s ≡ true
  pub beyond : (s : ℕ) → w.states ≤ s → table s ≡ false
