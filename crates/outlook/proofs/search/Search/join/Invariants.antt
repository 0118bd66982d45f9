use Rattle.std.proofs.Common.{length}
use Rattle.outlook.specs.inner.Changes.{Joined}
use Rattle.outlook.proofs.search.Search.join.Given as goal

abbrev pub invariant-loop-place : goal.invariant-loop-place
invariant-loop-place l = Joined l.initial.self l.place l.self

abbrev pub decreases-loop-place : goal.decreases-loop-place
decreases-loop-place l = length l.self.bounds.items
