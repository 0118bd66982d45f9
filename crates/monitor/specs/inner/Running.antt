-- How the running record stands for the plain monitor. Assumes nothing.
use Rattle.std.specs.Prelude.{◌≡◌, ℕ, ◌<◌, ◌≤◌, Bool, cond, not, List, [], ◌∷◌, length, ◌==◌, slice_index}
use Rattle.watch.specs.Letters.{digits, letter_count, most_events}
use Rattle.watch.specs.Steps.{spelt, step_digits}
use Rattle.watch.specs.Watchers.{Watching}
use Rattle.monitor.specs.Plain.{Plain, NoteOf, noted, letter}
use Rattle.monitor.specs.declared.word.Word.{Word}
use Rattle.monitor.specs.declared.word.Word.TheVariants.{Open, Satisfied, Violated}
use Rattle.monitor.specs.declared.running.Running.{Running}

-- The state after some letters.
abbrev pub reached : Watching → ℕ → List ℕ → ℕ
reached w s [] = s
reached w s (a ∷ more) = reached w (w.next s a) more

-- Every element is a letter over g events.
abbrev pub Spelled : ℕ → List ℕ → Type 0
Spelled g [] = Unit {0}
Spelled g (a ∷ more) = (a < letter_count g) × Spelled g more

-- The digits stand for the notes of a step with g events: digit e is the kind of the note for event e, 0 where there is none.
pub record Notes (g : ℕ) (notes : List NoteOf) (ds : List ℕ) : Type 0 where
  pub five : length ds ≡ most_events
  pub sum : letter notes ≡ spelt ds
  pub marks : (e : ℕ) → e < most_events → noted notes e ≡ not (slice_index ds e == 0)
  pub small : (e : ℕ) → slice_index ds e < digits
  pub absent : (e : ℕ) → g ≤ e → slice_index ds e ≡ 0

-- The record stands for the plain monitor: its state is that after the closed steps, and its step has the notes.
pub record Follows (w : Watching) (plain : Plain) (p : Running) : Type 0 where
  pub here : p.state ≡ reached w w.start plain.closed
  pub spelled : Spelled w.events plain.closed
  pub count : p.closed ≡ length plain.closed
  pub notes : Notes w.events plain.notes (step_digits p.step)

-- The word at a state, by what can still come of it.
abbrev pub word_of : Bool → Bool → Word
word_of keepable breakable = cond keepable (cond breakable Open Satisfied) Violated
