use Rattle.std.proofs.Common.{◌≡◌, ◌+◌, ◌≤◌, drop}
use Rattle.watch.specs.Steps.{step_digits}
use Rattle.rows.specs.Stepping.{tally}
use Rattle.rows.proofs.counting.count.Given as goal

-- the total and what is left to count are the whole count
abbrev pub invariant-loop-event : goal.invariant-loop-event
invariant-loop-event l =
    (l.total + tally l.doing (drop l.event l.set.flags) (drop l.event (step_digits l.step)) ≡
    tally l.doing l.set.flags (step_digits l.step)) ×
    (l.total ≤ l.event)
