use Rattle.std.proofs.Common.{rules, ◌≡◌, ℕ, ◌+◌, List, [], ◌∷◌, length, get_or, None, Err, Option, Result, sym, subst, arith}
use Rattle.watch.specs.declared.kind.Kind.{Kind}
use Rattle.expression.specs.Expressions.{formula}
use Rattle.monitor.specs.Closing.{Makes, closing, note_of}
use Rattle.monitor.specs.declared.calls.Call.TheVariants.{Close}
use Rattle.monitor.specs.declared.refusal.Refusal.{Refusal}
use Rattle.monitor.proofs.Making.{Upto, left_from, left_next, left_last, upto_more, upto_refused, upto_end, one_closing, made_at}
use Rattle.monitor.proofs.Shutting.{closes_with}
use Rattle.monitor.proofs.monitor.Monitor.close_with.Goals as goal

pub loop-event-preserved : goal.loop-event-preserved
loop-event-preserved g c =
    let m = c.args.self.now in
    let kinds : List (Option Kind) = c.args.step.kinds in
    let i : ℕ = c.loop-event.event in
    let watch = g.W.Watcher.watching in
    let five : length kinds ≡ 5 = search rules in
    let next = subst (Upto (watch m.watcher) (formula m.expression) m c.loop-event.self (closing c.args.step)) (left_next kinds i (omega (arith, five, c.loop-event-test.true))) c.loop-event.invariant in
    upto_more watch m c.loop-event.self c.note_kind.new.self (closing c.args.step) (note_of i (get_or kinds i None)) (left_from kinds (i + 1)) next c.note_kind.ensures.same
    (made_at _ _ _ _ _ _ i _ c.in_ok-note_kind.ensures.makes (omega arith))

pub returns-in_err-note_kind-clause-makes : goal.returns-in_err-note_kind-clause-makes
returns-in_err-note_kind-clause-makes g c =
    let m = c.args.self.now in
    let kinds : List (Option Kind) = c.args.step.kinds in
    let i : ℕ = c.loop-event.event in
    let watch = g.W.Watcher.watching in
    let five : length kinds ≡ 5 = search rules in
    let next = subst (Upto (watch m.watcher) (formula m.expression) m c.loop-event.self (closing c.args.step)) (left_next kinds i (omega (arith, five, c.loop-event-test.true))) c.loop-event.invariant in
    let said : c.from_residual.result ≡ Err c.in_err-note_kind.field-0.0 = search rules in
    subst (λ (r : Result (Unit {0}) Refusal). Makes (watch m.watcher) (formula m.expression) m (closing c.args.step) r c.note_kind.new.self) (sym said)
    (upto_refused watch m c.loop-event.self c.note_kind.new.self (closing c.args.step) (note_of i (get_or kinds i None)) (left_from kinds (i + 1)) next c.note_kind.ensures.same c.in_err-note_kind.field-0.0
    (made_at _ _ _ _ _ _ i _ c.in_err-note_kind.ensures.makes (omega arith)))

pub returns-clause-makes : goal.returns-clause-makes
returns-clause-makes g c =
    let m = c.args.self.now in
    let n = c.loop-event.self in
    let kinds : List (Option Kind) = c.args.step.kinds in
    let watch = g.W.Watcher.watching in
    let five : length kinds ≡ 5 = search rules in
    let next = subst (Upto (watch m.watcher) (formula m.expression) m n (closing c.args.step)) (left_last kinds c.loop-event.event (omega (arith, five, c.loop-event-test.false))) c.loop-event.invariant in
    upto_end watch m n c.close.new.self (closing c.args.step) (Close ∷ []) next c.close.ensures.same c.close.result
    (one_closing (watch n.watcher) (formula n.expression) n c.close.new.self c.close.result c.close.ensures.takes)

pub returns-in_err-note_kind-clause-closes : goal.returns-in_err-note_kind-clause-closes
returns-in_err-note_kind-clause-closes g c =
    let m = c.args.self.now in
    closes_with (g.W.Watcher.watching m.watcher) (formula m.expression) m c.note_kind.new.self c.args.step c.from_residual.result (returns-in_err-note_kind-clause-makes g c)

pub returns-clause-closes : goal.returns-clause-closes
returns-clause-closes g c =
    let m = c.args.self.now in
    closes_with (g.W.Watcher.watching m.watcher) (formula m.expression) m c.close.new.self c.args.step c.close.result (returns-clause-makes g c)
