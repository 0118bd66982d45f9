-- What the events and rows of a sheet keep together: the limits of a watcher. Assumes nothing.
use Rattle.std.specs.Prelude.{◌≤◌, List, length}
use Rattle.watch.specs.Letters.{most_events}
use Rattle.watch.specs.Watchers.{most_marks, most_states}
use Rattle.osl.specs.declared.event.Event.{Event}
use Rattle.osl.specs.declared.row.Row.{Row}
use Rattle.limits.specs.Questions.{product}

pub record Bounds (events : List Event) (rows : List Row) : Type 0 where
  pub some_events : 1 ≤ length events
  pub few_events : length events ≤ most_events
  pub some_rows : 1 ≤ length rows
  pub few_rows : length rows ≤ most_marks
  pub few_states : product rows ≤ most_states
