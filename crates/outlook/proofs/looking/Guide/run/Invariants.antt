use Rattle.outlook.specs.inner.Showing.{Ran, todo}
use Rattle.outlook.proofs.looking.Guide.run.Given as goal

abbrev pub invariant-loop-search : goal.invariant-loop-search
invariant-loop-search g l = Ran (g.W.Watcher.watching l.self.watcher.now) l.self.good.now l.initial.search l.search

abbrev pub decreases-loop-search : goal.decreases-loop-search
decreases-loop-search g l = todo (g.W.Watcher.watching l.self.watcher.now) l.search
