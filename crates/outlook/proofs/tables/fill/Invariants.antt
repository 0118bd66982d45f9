use Rattle.outlook.specs.inner.Tables.{Filled}
use Rattle.outlook.proofs.tables.fill.Given as goal

abbrev pub invariant-loop-stop : goal.invariant-loop-stop
invariant-loop-stop l = Filled l.group l.stop-index l.initial.table l.table
