-- The theorem: on every run a row is never broken exactly when its formula holds of the run's trace at step 0. Assumes nothing.
use Rattle.std.specs.Prelude.{◌≡◌, ℕ, ◌<◌, ◌≤◌, List, length, vec_items}
use Rattle.std.specs.List.{AllByRecursion}
use Rattle.text.specs.Names.{name_bytes}
use Rattle.watch.specs.Classical.{Exists}
use Rattle.watch.specs.Exactly.{Exactly}
use Rattle.watch.specs.Letters.{most_events}
use Rattle.watch.specs.Runs.{Run}
use Rattle.osl.specs.declared.event.Event.{Event}
use Rattle.osl.specs.declared.row.Row.{Row}
use Rattle.osl.specs.declared.row.Row.TheVariants.{Until, Always, After, Within, During, Most, MostUntil, Answer, Names, Values}
use Rattle.osl.specs.Osl.{Word, Holds, ◌∈◌}
use Rattle.osl.specs.Terms.{pairs, as_class, row_formula}
use Rattle.osl.specs.Traces.{trace, class_of}
use Rattle.osl.specs.Resolving.{matched_by}
use Rattle.rows.specs.Moves.{path, Never}
use Rattle.watch.specs.Steps.{digits_of}
use Rattle.rows.specs.Stepping.{moved, broken}

-- What the declared events have to meet: there are few enough, and those of one name have one class.
pub record Declared (events : List Event) : Type 0 where
  pub few : length events ≤ most_events
  pub classed : AllByRecursion (λ e. class_of events (name_bytes e.name) ≡ as_class e.class) events

-- What a row has to meet: a deadline has at least one step, and the parameter whose values are permitted is not fixed already.
abbrev pub Lawful : Row → Type 0
Lawful (Until a b) = Unit {0}
Lawful (Always a) = Unit {0}
Lawful (After n a) = Unit {0}
Lawful (Within n a) = 0 < n
Lawful (During n a) = Unit {0}
Lawful (Most l c) = Unit {0}
Lawful (MostUntil l c b) = Unit {0}
Lawful (Answer n a b) = 0 < n
Lawful (Names p) = Unit {0}
Lawful (Values p) = (w : Word) → (name_bytes p.param, w) ∈ pairs (vec_items p.having) → ⊥

-- A state tells that something is false: it is never reached exactly when that holds, and it is reached at some step exactly when that
-- is false.
pub record Tells (move : ℕ → ℕ → ℕ) (state : ℕ) (holds : Type 0) : Type 0 where
  pub never : Exactly (Never move state) holds
  pub appears : Exactly (Exists (λ k. path move k ≡ state)) (holds → ⊥)

abbrev pub RowMeansItsFormula : List Event → Row → Type 0
RowMeansItsFormula events row =
    (run : Run) →
    Tells (λ k s. moved row (matched_by events row) (digits_of (run k)) s) (broken row)
    (Holds (class_of events) (trace events run) 0 (row_formula row))
