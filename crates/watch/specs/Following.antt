-- What is known of a watcher that was followed along some letters. Assumes nothing.
use Rattle.std.specs.Prelude.{◌≡◌, ℕ, suc, ◌<◌, ◌≤◌, min, List, length, drop, Some, None, Ok, Err, Option, Result, slice_index, slice_index_or}
use Rattle.watch.specs.Letters.{letter_count}
use Rattle.watch.specs.Exactly.{Exactly}
use Rattle.watch.specs.Marks.{Has}
use Rattle.watch.specs.Runs.{Run, Continues, passed}
use Rattle.watch.specs.Watchers.{Watching}
use Rattle.watch.specs.declared.marks.MarkSet.{MarkSet}
use Rattle.watch.specs.declared.following.Passed.{Passed}

-- The letters before a place are below the count.
abbrev pub Within : ℕ → List ℕ → ℕ → Type 0
Within count letters n = (k : ℕ) → k < n → slice_index letters k < count

-- The first letter that is not below the count is at the place, or there is none.
abbrev pub Stray : ℕ → List ℕ → Option ℕ → Type 0
Stray count letters None = Within count letters (length letters)
Stray count letters (Some place) =
    (place < length letters) × (count ≤ slice_index letters place) × Within count letters place

-- Mark i appears on the run within the first n steps: some state passed, the start included, shows it.
abbrev pub AppearsBy : Watching → Run → ℕ → ℕ → Type 0
AppearsBy w r n i = (k : ℕ) × (k ≤ n) × Has i (w.shown (passed w r k))

-- Where the watcher stands after k steps of the run.
abbrev pub stand : Watching → Run → ℕ → Passed
stand w r k = record { state = passed w r k; shown = record { bits = w.shown (passed w r k) } }

-- What was written is where the watcher stands after each step of every run that begins with the letters;
-- what is behind stays; and the marks that were answered are those of the last state passed, and exactly those that
-- appeared on the way.
pub record Followed (w : Watching) (letters : List ℕ) (before after : List Passed) (appeared : MarkSet) : Type 0 where
  pub stands : (r : Run) → Continues letters r → (d : Passed) (k : ℕ) → k < min (length letters) (length before) → slice_index_or after k d ≡ stand w r (suc k)
  pub rest : drop (min (length letters) (length before)) after ≡ drop (min (length letters) (length before)) before
  pub last : (r : Run) → Continues letters r → appeared.bits ≡ w.shown (passed w r (min (length letters) (length before)))
  pub marks : (r : Run) → Continues letters r → (i : ℕ) → Exactly (Has i appeared.bits) (AppearsBy w r (min (length letters) (length before)) i)

-- The answer to following the letters: the first letter beyond the alphabet is refused and nothing is written;
-- where there is none, the watcher was followed.
abbrev pub Follows : Watching → List ℕ → List Passed → List Passed → Result MarkSet ℕ → Type 0
Follows w letters before after (Ok appeared) =
    Stray (letter_count w.events) letters None × Followed w letters before after appeared
Follows w letters before after (Err place) =
    Stray (letter_count w.events) letters (Some place) × (after ≡ before)
