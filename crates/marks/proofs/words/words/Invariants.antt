use Rattle.std.proofs.Common.{None, string_bytes}
use Rattle.watch.specs.Following.{Stray}
use Rattle.watch.specs.Letters.{letter_count}
use Rattle.expression.specs.Expressions.{formula}
use Rattle.marks.proofs.Telling.{Walks}
use Rattle.marks.proofs.words.words.Given as goal

abbrev pub invariant-loop-step : goal.invariant-loop-step
invariant-loop-step g l =
    let m = l.initial.monitor in
    let w = g.W.Watcher.watching m.watcher in
    Stray (letter_count w.events) l.letters None
    → Walks w (formula m.expression) l.letters m l.step l.monitor (string_bytes l.text) l.before
