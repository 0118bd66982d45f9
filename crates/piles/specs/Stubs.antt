-- What a pile is that was built despite a no. Assumes nothing.
use Rattle.watch.specs.Watchers.{Watching}

abbrev pub stub : Watching → Watching
stub w = record {
  states = 1;
  events = w.events;
  marks = 1;
  start = 0;
  next = λ s a. 0;
  shown = λ s. 0;
}
