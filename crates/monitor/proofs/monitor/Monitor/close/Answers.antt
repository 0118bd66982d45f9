use Rattle.std.proofs.Common.{refl, ap}
use Rattle.monitor.specs.declared.running.Running.{Running}
use Rattle.monitor.proofs.monitor.Monitor.close.Goals as goal

pub returns : goal.returns
returns g c =
    let m = c.args.self.now in
    record {
      same = record { watcher = refl; expression = refl };
      unmoved = λ e. ap (λ (r : Running). record { watcher = m.watcher; expression = m.expression; outlook = m.outlook; running = r }) (c.close.ensures.unmoved e);
      takes = λ plain x. let t = c.close.ensures.right plain x.follows in (t.0, record { foretells = x.foretells; follows = t.1 });
    }
