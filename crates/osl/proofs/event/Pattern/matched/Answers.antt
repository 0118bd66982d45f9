use Rattle.std.proofs.Common.{rules}
use Rattle.osl.specs.Matching.{matches}
use Rattle.osl.proofs.event.Pattern.matched.Goals as goal

pub returns : goal.returns
returns c = c.of.ensures (matches c.args.self.now) (λ x b k. search rules)
