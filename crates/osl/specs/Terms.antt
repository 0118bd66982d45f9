-- What a row says, as a formula of OSL. Assumes nothing.
use Rattle.std.specs.Prelude.{List, map, vec_items}
use Rattle.text.specs.Names.{name_bytes}
use Rattle.text.specs.declared.name.Name.{Name}
use Rattle.osl.specs.declared.event.Param.{Param}
use Rattle.osl.specs.declared.event.Pair.{Pair}
use Rattle.osl.specs.declared.event.Class.{Class}
use Rattle.osl.specs.declared.event.Class.TheVariants.{Use, Other}
use Rattle.osl.specs.declared.event.Event.{Event}
use Rattle.osl.specs.declared.event.Pattern.{Pattern}
use Rattle.osl.specs.declared.row.Test.{Test}
use Rattle.osl.specs.declared.row.Test.TheVariants.{True, False, First, Any, NoFirst, NoAny}
use Rattle.osl.specs.declared.row.Count.{Count}
use Rattle.osl.specs.declared.row.Count.TheVariants.{First as First', Any as Any'}
use Rattle.osl.specs.declared.row.Row.{Row}
use Rattle.osl.specs.declared.row.Row.TheVariants.{Until, Always, After, Within, During, Most, MostUntil, Answer, Names, Values}
use Rattle.osl.specs.Osl as osl
use Rattle.osl.specs.Osl.{Word, Params, Formula}

abbrev pub words : List Name → List Word
words ns = map name_bytes ns

abbrev pub as_pair : Param → Word × Word
as_pair p = (name_bytes p.name, name_bytes p.value)

abbrev pub pair_words : Pair → Word × Word
pair_words p = (name_bytes p.name.now, name_bytes p.value.now)

abbrev pub pairs : List Param → Params
pairs ps = map as_pair ps

abbrev pub as_class : Class → osl.Class
as_class Use = osl.usage
as_class Other = osl.other

-- a declared event, and the event that a pattern stands for
abbrev pub as_event : Event → osl.Event
as_event e = record { name = name_bytes e.name; params = pairs (vec_items e.params) }

abbrev pub as_pattern : Pattern → osl.Event
as_pattern p = record { name = name_bytes p.name; params = pairs (vec_items p.params) }

abbrev pub as_test : Test → Formula
as_test True = osl.True
as_test False = osl.False
as_test (First p) = osl.First (as_pattern p)
as_test (Any p) = osl.Any (as_pattern p)
as_test (NoFirst p) = osl.Not (osl.First (as_pattern p))
as_test (NoAny p) = osl.Not (osl.Any (as_pattern p))

abbrev pub as_count : Count → Formula
as_count (First' p) = osl.First (as_pattern p)
as_count (Any' p) = osl.Any (as_pattern p)

-- A row's formula.
abbrev pub row_formula : Row → Formula
row_formula (Until a b) = osl.Until (as_test a) (as_test b)
row_formula (Always a) = osl.Always (as_test a)
row_formula (After n a) = osl.After n (as_test a)
row_formula (Within n a) = osl.Within n (as_test a)
row_formula (During n a) = osl.During n (as_test a)
row_formula (Most l c) = osl.RepMax l (as_count c)
row_formula (MostUntil l c b) = osl.RepUntil l (as_count c) (as_test b)
row_formula (Answer n a b) = osl.Always (osl.Implies (as_test a) (osl.Within n (as_test b)))
row_formula (Names p) = osl.PermitOnlyEvName (words (vec_items p.names)) (pairs (vec_items p.having))
row_formula (Values p) =
    osl.PermitOnlyParam (words (vec_items p.values)) (name_bytes p.param) (name_bytes p.event) (pairs (vec_items p.having))
