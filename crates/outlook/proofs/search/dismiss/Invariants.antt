use Rattle.outlook.specs.inner.Changes.{Dismissed}
use Rattle.outlook.proofs.search.dismiss.Given as goal

abbrev pub invariant-loop-stop : goal.invariant-loop-stop
invariant-loop-stop l = Dismissed l.group l.stop-index l.initial.seats l.seats
