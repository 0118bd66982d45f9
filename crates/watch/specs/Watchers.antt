-- A watcher by its numbers, and the laws that every watcher keeps. Assumes nothing.
use Rattle.std.specs.Prelude.{◌≡◌, ℕ, ◌^◌, ◌<◌, ◌≤◌}
use Rattle.watch.specs.Letters.{letter_count, most_events}
use Rattle.watch.specs.Marks.{Has}

pub record Watching : Type 0 where
  pub states : ℕ
  pub events : ℕ
  pub marks : ℕ
  pub start : ℕ
  -- the state after a state and a letter
  pub next : ℕ → ℕ → ℕ
  -- the set of marks that a state shows
  pub shown : ℕ → ℕ

abbrev pub most_states : ℕ
most_states = 16384

abbrev pub most_marks : ℕ
most_marks = 8

pub record Lawful (w : Watching) : Type 0 where
  pub some_state : 1 ≤ w.states
  pub few_states : w.states ≤ most_states
  pub some_event : 1 ≤ w.events
  pub few_events : w.events ≤ most_events
  pub some_mark : 1 ≤ w.marks
  pub few_marks : w.marks ≤ most_marks
  pub start_within : w.start < w.states
  pub next_within : (s a : ℕ) → w.next s a < w.states
  pub next_beyond_states : (s a : ℕ) → w.states ≤ s → w.next s a ≡ w.start
  pub next_beyond_letters : (s a : ℕ) → letter_count w.events ≤ a → w.next s a ≡ w.start
  pub shown_within : (s : ℕ) → w.shown s < 2 ^ w.marks
  pub shown_beyond : (s : ℕ) → w.states ≤ s → w.shown s ≡ 0
  pub marks_stay : (s a i : ℕ) → s < w.states → a < letter_count w.events → Has i (w.shown s) → Has i (w.shown (w.next s a))
