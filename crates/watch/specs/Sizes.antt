-- The sizes of a watcher as the code has them. Assumes nothing.
use Rattle.watch.specs.Letters.{letter_count}
use Rattle.watch.specs.Watchers.{Watching}
use Rattle.watch.specs.declared.watcher.Sizes.{Sizes}

abbrev pub sizes_of : Watching → Sizes
sizes_of w = record { states = w.states; events = w.events; letters = letter_count w.events; marks = w.marks }
