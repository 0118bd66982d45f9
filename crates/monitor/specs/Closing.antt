-- A step that is closed with what its events do in it: the calls for that, and what they come to. Assumes nothing.
use Rattle.std.specs.Prelude.{◌≡◌, ℕ, zero, ◌+◌, ◌≤◌, cond, List, [], ◌∷◌, ◌++◌, is_ok, Ok, Result, None, Some, Option, slice_index_or}
use Rattle.watch.specs.Kinds.{kind_number}
use Rattle.watch.specs.Steps.{spelt, step_digits}
use Rattle.watch.specs.Watchers.{Watching}
use Rattle.watch.specs.declared.kind.Kind.{Kind}
use Rattle.watch.specs.declared.step.Step.{Step}
use Rattle.expression.specs.Formulas.{Formula}
use Rattle.monitor.specs.Plain.{Plain, NoteOf, note_answer, close_answer, after}
use Rattle.monitor.specs.inner.Standing.{Represents}
use Rattle.monitor.specs.declared.calls.Call.{Call}
use Rattle.monitor.specs.declared.calls.Call.TheVariants.{Note, Close, Ask}
use Rattle.monitor.specs.declared.monitor.Monitor.{Monitor}
use Rattle.monitor.specs.declared.refusal.Refusal.{Refusal}

-- The note of an event; an absent one has none.
abbrev pub note_of : ℕ → Option Kind → List Call
note_of e None = []
note_of e (Some kind) = Note e (kind_number kind) ∷ []

-- The notes of the events from number e on.
abbrev pub notes_from : ℕ → List (Option Kind) → List Call
notes_from e [] = []
notes_from e (kind ∷ kinds) = note_of e kind ++ notes_from (e + 1) kinds

-- A note for each event that is not absent, and the closing.
abbrev pub closing : Step → List Call
closing step = notes_from zero step.kinds ++ Close ∷ []

-- Whether a call is taken.
abbrev pub taken : ℕ → Plain → Call → Result (Unit {0}) Refusal
taken g p (Note e k) = note_answer g p e k
taken g p Close = close_answer p
taken g p Ask = Ok tt

-- What calls come to that are made up to the first that is refused: the refusal, if there is one, and the plain monitor after them.
abbrev pub outcome : ℕ → Plain → List Call → Result (Unit {0}) Refusal
outcome g p [] = Ok tt
outcome g p (call ∷ more) = cond (is_ok (taken g p call)) (outcome g (after g p call) more) (taken g p call)

abbrev pub left : ℕ → Plain → List Call → Plain
left g p [] = p
left g p (call ∷ more) = cond (is_ok (taken g p call)) (left g (after g p call) more) p

-- The calls were made up to the first that is refused, with the answer r, and left the monitor as n.
abbrev pub Makes : {W : Type 0} → Watching → Formula → Monitor W → List Call → Result (Unit {0}) Refusal → Monitor W → Type 0
Makes w f m calls r n =
    (plain : Plain) → Represents w f m plain → (r ≡ outcome w.events plain calls) × Represents w f n (left w.events plain calls)

-- The notes of the events from number e on, as the plain monitor keeps them.
abbrev pub kept_note : ℕ → Option Kind → List NoteOf
kept_note e None = []
kept_note e (Some kind) = record { event = e; kind = kind_number kind } ∷ []

abbrev pub kept_notes : ℕ → List (Option Kind) → List NoteOf
kept_notes e [] = []
kept_notes e (kind ∷ kinds) = kept_note e kind ++ kept_notes (e + 1) kinds

-- In the step no event does anything but the first g.
abbrev pub Within : ℕ → Step → Type 0
Within g step = (e : ℕ) → g ≤ e → slice_index_or step.kinds e None ≡ None

-- The plain monitor with these closed steps after a step was closed with its letter. Where the closing is refused, the notes stay.
abbrev pub after_step : List ℕ → Step → Plain
after_step closed step =
    cond (is_ok (close_answer (record { closed = closed; notes = [] }))) (record { closed = closed ++ spelt (step_digits step) ∷ []; notes = [] })
    (record { closed = closed; notes = kept_notes zero step.kinds })

-- A monitor without notes was answered as a closing, and closed a step with the letter of this step.
abbrev pub ClosesWith : {W : Type 0} → Watching → Formula → Monitor W → Step → Result (Unit {0}) Refusal → Monitor W → Type 0
ClosesWith w f m step r n =
    (closed : List ℕ) → Within w.events step → Represents w f m (record { closed = closed; notes = [] })
    → (r ≡ close_answer (record { closed = closed; notes = [] })) × Represents w f n (after_step closed step)
