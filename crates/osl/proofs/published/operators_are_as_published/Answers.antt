use Rattle.osl.proofs.Operators.{as_published}
use Rattle.osl.proofs.published.operators_are_as_published.Goals as goal

pub returns : goal.returns
returns c = as_published
