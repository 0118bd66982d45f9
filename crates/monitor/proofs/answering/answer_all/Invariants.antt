use Rattle.std.proofs.Common.{◌≡◌, take, drop}
use Rattle.expression.specs.Expressions.{formula}
use Rattle.monitor.proofs.Agreeing.{Answered}
use Rattle.monitor.proofs.answering.answer_all.Given as goal

abbrev pub invariant-loop-place : goal.invariant-loop-place
invariant-loop-place g l =
    let m = l.initial.monitor in
    Answered (g.W.Watcher.watching m.watcher) (formula m.expression) m l.monitor (take l.place l.calls) (take l.place l.answers)
    × (drop l.place l.answers ≡ drop l.place l.initial.answers)
