-- A step of a trace is a set of indexed events: its list repeats none, if the declared events differ. And the test by which the
-- members of a step are counted decides whether an indexed event satisfies an event expression. Assumes nothing.
use Rattle.std.specs.Prelude.{◌≡◌, ℕ, List, [], ◌∷◌, map, Decides}
use Rattle.osl.specs.declared.event.Event as declared
use Rattle.osl.specs.Osl.{Event, IndEvent, Formula, Satisfies, satisfies?, ◌refines◌, ◌∈◌}
use Rattle.osl.specs.Terms.{as_event}
use Rattle.osl.specs.Traces.{happening}

-- one event: the same name, and the same parameters in any order
abbrev pub SameEvent : Event → Event → Type 0
SameEvent e f = (e refines f) × (f refines e)

abbrev pub SameEntry : IndEvent → IndEvent → Type 0
SameEntry x y = SameEvent x.event y.event × (x.index ≡ y.index)

-- no two places of a list are related
abbrev pub Apart : {A : Type 0} → (A → A → Type 0) → List A → Type 0
Apart R [] = Unit {0}
Apart {A} R (x ∷ xs) = ((y : A) → y ∈ xs → R x y → ⊥) × Apart R xs

abbrev pub StepsAreSets : Type 0
StepsAreSets =
    (events : List declared.Event) → Apart SameEvent (map as_event events) → (letter : ℕ) → Apart SameEntry (happening events letter)

abbrev pub CountsAreSizes : Type 0
CountsAreSizes = (ie : IndEvent) (φ : Formula) → Decides (satisfies? ie φ) (Satisfies ie φ)
