use Rattle.std.proofs.Common.{true, refl, arith}
use Rattle.std.proofs.lemmas.Bool.{both_ways}
use Rattle.monitor.proofs.Noting.{takes_close}
use Rattle.monitor.proofs.running.Running.close.Goals as goal

pub returns : goal.returns
returns g c =
    let w = g.W.Watcher.watching c.args.watcher.now in
    let law = g.met.W.Watcher.lawful c.args.watcher.now in
    record {
      unmoved = λ e. absurd (both_ways true e refl);
      right = λ plain x. takes_close w law plain c.args.self.now x (omega arith) c.next-next.result c.letter.result c.letter.ensures c.next-next.ensures;
    }
