-- The stub is a watcher on which every term holds. Assumes nothing.
use Rattle.std.specs.Prelude.{ℕ, refl}
use Rattle.std.proofs.Common.{arith}
use Rattle.watch.specs.Runs.{Run, Holds}
use Rattle.watch.specs.Watchers.{Watching, Lawful}
use Rattle.watch.proofs.Bits.{no_mark}
use Rattle.piles.specs.Stubs.{stub}

pub stub_lawful : (w : Watching) → Lawful w → Lawful (stub w)
stub_lawful w law = record {
  some_state = omega arith;
  few_states = omega arith;
  some_event = law.some_event;
  few_events = law.few_events;
  some_mark = omega arith;
  few_marks = omega arith;
  start_within = omega arith;
  next_within = λ s a. omega arith;
  next_beyond_states = λ s a h. refl;
  next_beyond_letters = λ s a h. refl;
  shown_within = λ s. omega arith;
  shown_beyond = λ s h. refl;
  marks_stay = λ s a i hs ha has. has;
}

pub stub_quiet : (w : Watching) (r : Run) (i : ℕ) → Holds (stub w) r i
stub_quiet w r i k has = no_mark i has
