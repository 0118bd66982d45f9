use Rattle.expression.specs.Expressions.{formula}
use Rattle.monitor.specs.Closing.{closing}
use Rattle.monitor.proofs.Making.{Upto, left_from}
use Rattle.monitor.proofs.monitor.Monitor.close_with.Given as goal

-- the notes of the events that are left, and the closing, are still to be made
abbrev pub invariant-loop-event : goal.invariant-loop-event
invariant-loop-event g l =
    let m = l.fn.self in
    Upto (g.W.Watcher.watching m.watcher) (formula m.expression) m l.self (closing l.fn.step) (left_from l.fn.step.kinds l.event)
