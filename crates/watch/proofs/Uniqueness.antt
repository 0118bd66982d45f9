-- That a watcher keeps the laws is a fact with one proof at most, so a type can carry it. Assumes nothing.
use mathlib.Core.HLevel.{⊥_prop}
use Rattle.std.proofs.Common.{ℕ, zero, suc}
use native.Mathlib.Bridge.{le_prop}
use native.Mathlib.Nat.{ℕ_set}
use Rattle.watch.specs.Marks.{Has}
use Rattle.watch.specs.Watchers.{Watching, Lawful}

has_unique : (i set : ℕ) → IsProp (Has i set)
has_unique zero set = ⊥_prop
has_unique (suc j) set = ℕ_set _ _

pub lawful_unique : (w : Watching) → IsProp (Lawful w)
lawful_unique w x y =
    λ j. record {
      some_state = le_prop x.some_state y.some_state j;
      few_states = le_prop x.few_states y.few_states j;
      some_event = le_prop x.some_event y.some_event j;
      few_events = le_prop x.few_events y.few_events j;
      some_mark = le_prop x.some_mark y.some_mark j;
      few_marks = le_prop x.few_marks y.few_marks j;
      start_within = le_prop x.start_within y.start_within j;
      next_within = λ s a. le_prop (x.next_within s a) (y.next_within s a) j;
      next_beyond_states = λ s a h. ℕ_set _ _ (x.next_beyond_states s a h) (y.next_beyond_states s a h) j;
      next_beyond_letters = λ s a h. ℕ_set _ _ (x.next_beyond_letters s a h) (y.next_beyond_letters s a h) j;
      shown_within = λ s. le_prop (x.shown_within s) (y.shown_within s) j;
      shown_beyond = λ s h. ℕ_set _ _ (x.shown_beyond s h) (y.shown_beyond s h) j;
      marks_stay = λ s a i hs ha h. has_unique i _ (x.marks_stay s a i hs ha h) (y.marks_stay s a i hs ha h) j;
    }
