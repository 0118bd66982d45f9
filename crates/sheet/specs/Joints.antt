-- The rows of a sheet as one watcher. A state has a digit for each row, the row's state: the first row's is the remainder by its number
-- of states, and the quotient is a state of the other rows. Assumes nothing.
use Rattle.std.specs.Prelude.{ℕ, zero, suc, ◌+◌, ◌*◌, ◌/◌, ◌%◌, cond, ◌&&◌, List, [], ◌∷◌, length, ◌==◌, nat_lt}
use Rattle.watch.specs.Letters.{letter_count}
use Rattle.watch.specs.Watchers.{Watching, most_marks}
use Rattle.osl.specs.declared.event.Event.{Event}
use Rattle.osl.specs.declared.row.Row.{Row}
use Rattle.osl.specs.declared.matched.Matched.{Matched}
use Rattle.osl.specs.Resolving.{no_events, matched_by}
use Rattle.watch.specs.Steps.{digits_of}
use Rattle.rows.specs.Stepping.{moved, broken, states}
use Rattle.limits.specs.Questions.{product}

-- Each row takes its own step.
abbrev pub joint : List Row → List Matched → List ℕ → ℕ → ℕ
joint [] ms ds s = 0
joint (r ∷ rs) [] ds s = 0
joint (r ∷ rs) (m ∷ ms) ds s = joint rs ms ds (s / states r) * states r + moved r m ds (s % states r)

-- The set of marks that a state shows: the first row's is the lowest bit.
abbrev pub marks_at : List Row → ℕ → ℕ
marks_at [] s = 0
marks_at (r ∷ rs) s = marks_at rs (s / states r) * 2 + cond (s % states r == broken r) 1 0

abbrev pub nothing : Matched
nothing = record { first = no_events; second = no_events }

-- What n rows speak of; where there is no row, nothing.
abbrev pub matched_all : List Event → ℕ → List Row → List Matched
matched_all events zero rows = []
matched_all events (suc n) [] = nothing ∷ matched_all events n []
matched_all events (suc n) (r ∷ rs) = matched_by events r ∷ matched_all events n rs

-- The watcher of some rows over some declared events, with a mark for each row.
abbrev pub watched : List Event → List Row → Watching
watched events rows =
    record {
      states = product rows;
      events = length events;
      marks = length rows;
      start = 0;
      next =
          λ s a.
          cond (nat_lt s (product rows) && nat_lt a (letter_count (length events)))
          (joint rows (matched_all events most_marks rows) (digits_of a) s) 0;
      shown = λ s. cond (nat_lt s (product rows)) (marks_at rows s) 0;
    }
