use Rattle.piles.specs.DelaysLemmas.{unseen}
use Rattle.piles.proofs.delay.Delay.new.Goals as goal

pub returns-clause-unseen : goal.returns-clause-unseen
returns-clause-unseen g c = unseen (g.W.Watcher.watching c.args.below) c.args.steps (g.met.W.Watcher.lawful c.args.below)
