use Rattle.std.proofs.Common.{ℕ, sym, ap, ◌∙◌, subst}
use Rattle.expression.specs.Expressions.{formula}
use Rattle.outlook.specs.Outlooks.{at}
use Rattle.monitor.specs.Words.{RightWord}
use Rattle.monitor.specs.inner.Running.{word_of}
use Rattle.monitor.proofs.Words.{right_word}
use Rattle.monitor.proofs.monitor.Monitor.verdict.Goals as goal

pub returns : goal.returns
returns g c plain x =
    let m = c.args.self.now in
    let w = g.W.Watcher.watching m.watcher in
    let law = g.met.W.Watcher.lawful m.watcher in
    let f = formula m.expression in
    let word = c.verdict.ensures.word ∙ ap (λ (s : ℕ). word_of (at m.outlook.keepable s) (at m.outlook.breakable s)) x.follows.here in (
      c.verdict.ensures.closed ∙ x.follows.count,
      subst (RightWord w f plain.closed) (sym word) (right_word w law f m.outlook x.foretells plain.closed x.follows.spelled),
    )
