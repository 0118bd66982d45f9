-- The automaton of a row, over the sets of events that the row speaks of and the digits of a step. Assumes nothing.
use Rattle.std.specs.Prelude.{ℕ, ◌+◌, Bool, true, false, cond, not, ◌&&◌, ◌||◌, List, [], ◌∷◌, ◌==◌, nat_lt}
use Rattle.osl.specs.declared.row.Test.{Test}
use Rattle.osl.specs.declared.row.Test.TheVariants.{True, False, First, Any, NoFirst, NoAny}
use Rattle.osl.specs.declared.row.Count.{Count}
use Rattle.osl.specs.declared.row.Count.TheVariants.{First as First', Any as Any'}
use Rattle.osl.specs.declared.row.Row.{Row}
use Rattle.osl.specs.declared.row.Row.TheVariants.{Until, Always, After, Within, During, Most, MostUntil, Answer, Names, Values}
use Rattle.osl.specs.declared.choosing.EventSet.{EventSet}
use Rattle.osl.specs.declared.matched.Matched.{Matched}
use Rattle.rows.specs.declared.counting.Doing.{Doing}
use Rattle.rows.specs.declared.counting.Doing.TheVariants.{Starting, StartingOrOngoing}
use Rattle.rows.specs.Moves.{until_move, after_move, within_move, during_move, most_move, answer_move}

-- an event with this digit does what is meant
abbrev pub means : Doing → ℕ → Bool
means Starting d = d == 1
means StartingOrOngoing d = d == 1 || d == 2

-- how many events of a set do what is meant
abbrev pub tally : Doing → List Bool → List ℕ → ℕ
tally w [] ds = 0
tally w (f ∷ fs) [] = 0
tally w (f ∷ fs) (d ∷ ds) = cond (f && means w d) 1 0 + tally w fs ds

-- some event of the set does what is meant
abbrev pub occurs : Doing → EventSet → List ℕ → Bool
occurs w set digits = nat_lt 0 (tally w set.flags digits)

abbrev pub absent : EventSet → List ℕ → Bool
absent set digits = not (occurs StartingOrOngoing set digits)

abbrev pub truth : Test → EventSet → List ℕ → Bool
truth True set digits = true
truth False set digits = false
truth (First p) set digits = occurs Starting set digits
truth (Any p) set digits = occurs StartingOrOngoing set digits
truth (NoFirst p) set digits = not (occurs Starting set digits)
truth (NoAny p) set digits = not (occurs StartingOrOngoing set digits)

abbrev pub number : Count → EventSet → List ℕ → ℕ
number (First' p) set digits = tally Starting set.flags digits
number (Any' p) set digits = tally StartingOrOngoing set.flags digits

abbrev pub moved : Row → Matched → List ℕ → ℕ → ℕ
moved (Until a b) m ds s = until_move (truth a m.first ds) (truth b m.second ds) s
moved (Always a) m ds s = until_move (truth a m.first ds) false s
moved (After n a) m ds s = after_move n (truth a m.first ds) s
moved (Within n a) m ds s = within_move n (truth a m.first ds) s
moved (During n a) m ds s = during_move n (truth a m.first ds) s
moved (Most l c) m ds s = most_move l (number c m.first ds) false s
moved (MostUntil l c b) m ds s = most_move l (number c m.first ds) (truth b m.second ds) s
moved (Answer n a b) m ds s = answer_move n (truth a m.first ds) (truth b m.second ds) s
moved (Names p) m ds s = until_move (absent m.first ds) false s
moved (Values p) m ds s = until_move (absent m.first ds) false s

-- the broken state, which is the last: the only one that shows the row's mark
abbrev pub broken : Row → ℕ
broken (Until a b) = 2
broken (Always a) = 2
broken (After n a) = n + 2
broken (Within n a) = n + 1
broken (During n a) = n + 1
broken (Most l c) = l + 2
broken (MostUntil l c b) = l + 2
broken (Answer n a b) = n
broken (Names p) = 2
broken (Values p) = 2

abbrev pub states : Row → ℕ
states row = broken row + 1
