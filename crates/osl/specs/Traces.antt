-- A run of letters over declared events as a trace of OSL. Assumes nothing.
use Rattle.std.specs.Prelude.{ℕ, suc, cond, List, [], ◌∷◌, ◌++◌, map, ◌==◌}
use Rattle.std.specs.Str.{bytes_eq}
use Rattle.text.specs.Names.{name_bytes}
use Rattle.watch.specs.Runs.{Run}
use Rattle.watch.specs.Steps.{digit}
use Rattle.osl.specs.declared.event.Event as declared
use Rattle.osl.specs.Osl as osl
use Rattle.osl.specs.Osl.{Word, Class, Event, start, ongoing, IndEvent, Trace}
use Rattle.osl.specs.Terms.{as_class, as_event}

-- An event with digit 1 is starting, with digit 2 ongoing, and else absent.
abbrev pub entries : Event → ℕ → List IndEvent
entries e d =
    cond (d == 1) (record { event = e; index = start } ∷ [])
    (cond (d == 2) (record { event = e; index = ongoing } ∷ []) [])

-- what the events, the first of which has number i, do in a step with this letter
abbrev pub entries_from : ℕ → List Event → ℕ → List IndEvent
entries_from i [] letter = []
entries_from i (e ∷ es) letter = entries e (digit letter i) ++ entries_from (suc i) es letter

abbrev pub happening : List declared.Event → ℕ → List IndEvent
happening events letter = entries_from 0 (map as_event events) letter

abbrev pub trace : List declared.Event → Run → Trace
trace events run n = happening events (run n)

-- The class of a name is that of the first declared event of this name; a name that is not declared is other.
abbrev pub class_of : List declared.Event → Word → Class
class_of [] w = osl.other
class_of (e ∷ es) w = cond (bytes_eq w (name_bytes e.name)) (as_class e.class) (class_of es w)
