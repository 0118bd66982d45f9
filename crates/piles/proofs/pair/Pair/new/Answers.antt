use Rattle.piles.specs.PairsLemmas.{joined_terms}
use Rattle.piles.proofs.pair.Pair.new.Goals as goal

pub returns-clause-joined : goal.returns-clause-joined
returns-clause-joined g c =
    joined_terms (g.A.Watcher.watching c.args.first) (g.B.Watcher.watching c.args.second) (g.met.A.Watcher.lawful c.args.first) (g.met.B.Watcher.lawful c.args.second)
