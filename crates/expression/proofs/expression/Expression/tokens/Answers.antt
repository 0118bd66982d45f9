use Rattle.std.proofs.Common.{◌∙◌}
use Rattle.expression.proofs.Wholes.{its_writing, fits}
use Rattle.expression.proofs.expression.Expression.tokens.Goals as goal

pub returns-clause-words : goal.returns-clause-words
returns-clause-words c = c.as_slice.ensures ∙ its_writing c.args.self.now

pub returns-clause-fits : goal.returns-clause-fits
returns-clause-fits c = fits c.args.self.now
