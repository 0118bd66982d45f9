-- The pair: two watchers that start and step together. Assumes nothing.
use Rattle.std.specs.Prelude.{◌≡◌, ℕ, ◌+◌, ◌-◌, ◌*◌, ◌/◌, ◌%◌, ◌^◌, ◌<◌, ◌≤◌, Bool, true, false, cond, ◌&&◌, Some, None, Option, ◌==◌, nat_le, nat_lt}
use Rattle.watch.specs.Exactly.{Exactly}
use Rattle.watch.specs.Letters.{letter_count}
use Rattle.watch.specs.Runs.{Run, Over, Holds}
use Rattle.watch.specs.Sizes.{sizes_of}
use Rattle.watch.specs.Watchers.{Watching, most_states, most_marks}
use Rattle.piles.specs.declared.halves.Halves.{Halves}
use Rattle.piles.specs.Stubs.{stub}

-- The events are the same, and the numbers of states and of marks are within their limits.
abbrev pub fits_pair : Watching → Watching → Bool
fits_pair v w =
    (v.events == w.events) && nat_le (v.marks + w.marks) most_marks && nat_le (v.states * w.states) most_states

-- State s of a pair stands for two states: s = first × N2 + second. The marks are the first's, then the second's.
abbrev pub paired : Watching → Watching → Watching
paired v w = record {
  states = v.states * w.states;
  events = v.events;
  marks = v.marks + w.marks;
  start = v.start * w.states + w.start;
  next = λ s a. cond (nat_lt s (v.states * w.states) && nat_lt a (letter_count v.events))
      (v.next (s / w.states) a * w.states + w.next (s % w.states) a)
      (v.start * w.states + w.start);
  shown = λ s. cond (nat_lt s (v.states * w.states))
      (v.shown (s / w.states) + w.shown (s % w.states) * 2 ^ v.marks) 0;
}

abbrev pub pair : Watching → Watching → Watching
pair v w = cond (fits_pair v w) (paired v w) (stub v)

-- The sizes of the two are at hand where the limits are kept, and nothing where they are not.
abbrev pub Sides : Watching → Watching → Option Halves → Type 0
Sides v w None = fits_pair v w ≡ false
Sides v w (Some halves) = (fits_pair v w ≡ true) × (halves.first ≡ sizes_of v) × (halves.second ≡ sizes_of w)

-- A term of a pair holds on a run exactly when the first's term of that number holds on the same run or, above the
-- first's marks, the second's term of that number less the first's marks. Over a stub every term holds on every run.
pub record Joined (v w : Watching) : Type 0 where
  pub first_holds : fits_pair v w ≡ true → (r : Run) → Over v.events r → (i : ℕ) → i ≤ v.marks → Exactly (Holds (pair v w) r i) (Holds v r i)
  pub second_holds : fits_pair v w ≡ true → (r : Run) → Over v.events r → (i : ℕ) → v.marks < i → Exactly (Holds (pair v w) r i) (Holds w r (i - v.marks))
  pub stub_holds : fits_pair v w ≡ false → (r : Run) (i : ℕ) → Holds (pair v w) r i
