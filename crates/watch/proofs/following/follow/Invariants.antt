use Rattle.watch.proofs.Walking.{Walking}
use Rattle.watch.proofs.following.follow.Given as goal

abbrev pub invariant-loop-place : goal.invariant-loop-place
invariant-loop-place g l =
    Walking (g.W.Watcher.watching l.watcher) l.letters l.initial.stands l.stands l.place l.state
