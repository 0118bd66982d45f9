-- A sheet by its parts. Assumes nothing.
use Rattle.std.specs.Prelude.{List, vec_items}
use Rattle.osl.specs.declared.event.Event.{Event}
use Rattle.osl.specs.declared.row.Row.{Row}
use Rattle.expression.specs.Expressions.{formula}
use Rattle.expression.specs.Formulas.{Formula}
use Rattle.sheet.specs.declared.sheet.Sheet.{Sheet}

abbrev pub events_of : Sheet → List Event
events_of s = vec_items s.events

abbrev pub rows_of : Sheet → List Row
rows_of s = vec_items s.rows

abbrev pub keep_of : Sheet → Formula
keep_of s = formula s.keep
