use Rattle.std.proofs.Common.{◌≡◌, ◌≢◌, ℕ, ◌<◌, None}
use Rattle.outlook.specs.inner.Changes.{standing}
use Rattle.outlook.specs.inner.Showing.{Goes}
use Rattle.outlook.specs.declared.search.Standing.TheVariants.{New}
use Rattle.outlook.proofs.looking.outlook.Given as goal

abbrev pub invariant-loop-number : goal.invariant-loop-number
invariant-loop-number g l =
    Goes (g.W.Watcher.watching l.watcher) l.good l.search × (l.search.here ≡ None) × ((s : ℕ) → s < l.number → standing l.search s ≢ New)
