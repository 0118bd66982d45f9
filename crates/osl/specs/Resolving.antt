-- The sets of declared events that a row's tests, counts and permits speak of. Assumes nothing.
use Rattle.std.specs.Prelude.{Bool, false, List, [], Some, None, Option}
use Rattle.std.specs.Option.{option_map_or}
use Rattle.watch.specs.Letters.{most_events}
use Rattle.osl.specs.declared.event.Event.{Event}
use Rattle.osl.specs.declared.event.Pattern.{Pattern}
use Rattle.osl.specs.declared.row.Test.{Test}
use Rattle.osl.specs.declared.row.Test.TheVariants.{True, False, First, Any, NoFirst, NoAny}
use Rattle.osl.specs.declared.row.Count.{Count}
use Rattle.osl.specs.declared.row.Count.TheVariants.{First as First', Any as Any'}
use Rattle.osl.specs.declared.row.Row.{Row}
use Rattle.osl.specs.declared.row.Row.TheVariants.{Until, Always, After, Within, During, Most, MostUntil, Answer, Names, Values}
use Rattle.osl.specs.declared.choosing.EventSet.{EventSet}
use Rattle.osl.specs.declared.matched.Matched.{Matched}
use Rattle.osl.specs.Matching.{chosen, matches, names_forbid, values_forbid}

abbrev pub set_of : (Event → Bool) → List Event → EventSet
set_of p events = record { flags = chosen p most_events events }

abbrev pub no_events : EventSet
no_events = set_of (λ _. false) []

-- the pattern that a test or a count speaks of
abbrev pub test_pattern : Test → Option Pattern
test_pattern True = None
test_pattern False = None
test_pattern (First p) = Some p
test_pattern (Any p) = Some p
test_pattern (NoFirst p) = Some p
test_pattern (NoAny p) = Some p

abbrev pub count_pattern : Count → Pattern
count_pattern (First' p) = p
count_pattern (Any' p) = p

abbrev pub pattern_set : List Event → Pattern → EventSet
pattern_set events p = set_of (matches p) events

abbrev pub test_set : List Event → Test → EventSet
test_set events t = option_map_or (pattern_set events) (test_pattern t) no_events

abbrev pub count_set : List Event → Count → EventSet
count_set events c = pattern_set events (count_pattern c)

abbrev pub matched_by : List Event → Row → Matched
matched_by events (Until a b) = record { first = test_set events a; second = test_set events b }
matched_by events (Always a) = record { first = test_set events a; second = no_events }
matched_by events (After n a) = record { first = test_set events a; second = no_events }
matched_by events (Within n a) = record { first = test_set events a; second = no_events }
matched_by events (During n a) = record { first = test_set events a; second = no_events }
matched_by events (Most l c) = record { first = count_set events c; second = no_events }
matched_by events (MostUntil l c b) = record { first = count_set events c; second = test_set events b }
matched_by events (Answer n a b) = record { first = test_set events a; second = test_set events b }
matched_by events (Names p) = record { first = set_of (names_forbid p) events; second = no_events }
matched_by events (Values p) = record { first = set_of (values_forbid p) events; second = no_events }
