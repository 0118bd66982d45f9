-- What a row names has to be declared. Assumes nothing.
use Rattle.std.specs.Prelude.{Bool, true, ◌&&◌, List, vec_items}
use Rattle.std.specs.List.{list_all, list_any}
use Rattle.std.specs.Option.{option_map_or}
use Rattle.std.specs.Str.{bytes_eq}
use Rattle.text.specs.Names.{name_bytes}
use Rattle.osl.specs.declared.event.Event.{Event}
use Rattle.osl.specs.declared.event.Pattern.{Pattern}
use Rattle.osl.specs.declared.row.Test.{Test}
use Rattle.osl.specs.declared.row.Count.{Count}
use Rattle.osl.specs.declared.row.PermittedNames.{PermittedNames}
use Rattle.osl.specs.declared.row.PermittedValues.{PermittedValues}
use Rattle.osl.specs.declared.row.Row.{Row}
use Rattle.osl.specs.declared.row.Row.TheVariants.{Until, Always, After, Within, During, Most, MostUntil, Answer, Names, Values}
use Rattle.osl.specs.Osl.{Word}
use Rattle.osl.specs.Terms.{as_pair}
use Rattle.osl.specs.Matching.{carries}
use Rattle.osl.specs.Resolving.{test_pattern, count_pattern}

-- an event of this name
abbrev pub is_called : Word → Event → Bool
is_called w e = bytes_eq w (name_bytes e.name)

-- An event of this name is declared.
abbrev pub named : List Event → Word → Bool
named events w = list_any (is_called w) events

-- An event of this name carries the parameter with the value.
abbrev pub carried : List Event → Word → Word × Word → Bool
carried events w pv = list_any (λ e. is_called w e && carries e pv) events

-- An event of any name does.
abbrev pub carried_anywhere : List Event → Word × Word → Bool
carried_anywhere events pv = list_any (λ e. carries e pv) events

-- The name of a pattern is declared, and each of its parameters is carried, with its value, by an event of that name.
abbrev pub pattern_declared : List Event → Pattern → Bool
pattern_declared events p =
    named events (name_bytes p.name) && list_all (λ q. carried events (name_bytes p.name) (as_pair q)) (vec_items p.params)

abbrev pub test_declared : List Event → Test → Bool
test_declared events t = option_map_or (pattern_declared events) (test_pattern t) true

abbrev pub count_declared : List Event → Count → Bool
count_declared events c = pattern_declared events (count_pattern c)

-- The permitted names are declared, and each parameter is carried by some event.
abbrev pub names_declared : List Event → PermittedNames → Bool
names_declared events p =
    list_all (λ n. named events (name_bytes n)) (vec_items p.names) && list_all (λ q. carried_anywhere events (as_pair q)) (vec_items p.having)

-- The event is declared, and events of its name carry each permitted value of the parameter, and each of the other parameters.
abbrev pub values_declared : List Event → PermittedValues → Bool
values_declared events p =
    named events (name_bytes p.event) &&
    list_all (λ v. carried events (name_bytes p.event) (name_bytes p.param, name_bytes v)) (vec_items p.values) &&
    list_all (λ q. carried events (name_bytes p.event) (as_pair q)) (vec_items p.having)

abbrev pub row_declared : List Event → Row → Bool
row_declared events (Until a b) = test_declared events a && test_declared events b
row_declared events (Always a) = test_declared events a
row_declared events (After n a) = test_declared events a
row_declared events (Within n a) = test_declared events a
row_declared events (During n a) = test_declared events a
row_declared events (Most l c) = count_declared events c
row_declared events (MostUntil l c b) = count_declared events c && test_declared events b
row_declared events (Answer n a b) = test_declared events a && test_declared events b
row_declared events (Names p) = names_declared events p
row_declared events (Values p) = values_declared events p
