-- Letters: how many digits an event can have in a step, and how many letters that makes. Assumes nothing.
use Rattle.std.specs.Prelude.{ℕ, ◌^◌}

-- An event is absent (0), starting (1) or ongoing (2).
abbrev pub digits : ℕ
digits = 3

-- A step has at most so many events.
abbrev pub most_events : ℕ
most_events = 5

-- The letter of a step is the sum of digit × digits ^ e over its events e, so g events have this many letters.
abbrev pub letter_count : ℕ → ℕ
letter_count g = digits ^ g
