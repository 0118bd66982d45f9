-- The delay: it lets the first n steps pass unseen. Assumes nothing.
use Rattle.std.specs.Prelude.{◌≡◌, ℕ, ◌+◌, Bool, true, false, cond, ◌&&◌, Some, None, Option, nat_le, nat_lt}
use Rattle.watch.specs.Exactly.{Exactly}
use Rattle.watch.specs.Letters.{letter_count}
use Rattle.watch.specs.Runs.{Run, Over, Holds, later}
use Rattle.watch.specs.Sizes.{sizes_of}
use Rattle.watch.specs.Watchers.{Watching, most_states}
use Rattle.watch.specs.declared.watcher.Sizes.{Sizes}
use Rattle.piles.specs.Stubs.{stub}

abbrev pub most_steps : ℕ
most_steps = 1000

-- The number of steps and of states are within their limits.
abbrev pub fits_delay : Watching → ℕ → Bool
fits_delay w n = nat_le 1 n && nat_le n most_steps && nat_le (w.states + n) most_states

-- A state of the watcher below keeps its number; state N + j stands for j unseen steps, and shows no marks.
abbrev pub delayed : Watching → ℕ → Watching
delayed w n = record {
  states = w.states + n;
  events = w.events;
  marks = w.marks;
  start = w.states;
  next = λ s a. cond (nat_lt a (letter_count w.events))
      (cond (nat_lt s w.states) (w.next s a)
      (cond (nat_lt (s + 1) (w.states + n)) (s + 1) (cond (nat_lt s (w.states + n)) w.start w.states)))
      w.states;
  shown = λ s. cond (nat_lt s w.states) (w.shown s) 0;
}

abbrev pub delay : Watching → ℕ → Watching
delay w n = cond (fits_delay w n) (delayed w n) (stub w)

-- The sizes below are at hand where the limits are kept, and nothing where they are not.
abbrev pub Under : Watching → ℕ → Option Sizes → Type 0
Under w n None = fits_delay w n ≡ false
Under w n (Some sizes) = (fits_delay w n ≡ true) × (sizes ≡ sizes_of w)

-- A term holds on a run over a delay exactly when it holds below on the run without its first n steps.
-- Over a stub every term holds on every run.
pub record Unseen (w : Watching) (n : ℕ) : Type 0 where
  pub later_holds : fits_delay w n ≡ true → (r : Run) → Over w.events r → (i : ℕ) → Exactly (Holds (delay w n) r i) (Holds w (later n r) i)
  pub stub_holds : fits_delay w n ≡ false → (r : Run) (i : ℕ) → Holds (delay w n) r i
