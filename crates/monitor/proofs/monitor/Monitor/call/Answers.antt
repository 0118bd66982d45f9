use Rattle.std.proofs.Common.{sym, refl, ap, subst}
use Rattle.expression.specs.Expressions.{formula}
use Rattle.monitor.specs.Plain.{RightAnswer, after}
use Rattle.monitor.specs.inner.Standing.{Represents}
use Rattle.monitor.specs.declared.calls.Call.{Call}
use Rattle.monitor.specs.declared.calls.Answer.TheVariants.{Says}
use Rattle.monitor.proofs.monitor.Monitor.call.Goals as goal

pub returns-in-Ask : goal.returns-in-Ask
returns-in-Ask g c =
    let m = c.args.self.now in
    let w = g.W.Watcher.watching m.watcher in
    let f = formula m.expression in
    let r = c.verdict-word.result in
    record {
      same = record { watcher = refl; expression = refl };
      unmoved = λ _. refl;
      answers = λ plain x.
          let v = c.verdict-word.ensures plain x in
          subst (λ (k : Call). RightAnswer w f plain k (Says r.0 r.1) × Represents w f m (after w.events plain k)) (sym c.in-Ask.is)
          ((r.0, (ap (Says r.0) v.0, v.1)), x);
    }
