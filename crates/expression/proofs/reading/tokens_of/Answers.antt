use Rattle.text.specs.Words.{words}
use Rattle.expression.proofs.Drafting.{unknown}
use Rattle.expression.proofs.reading.tokens_of.Goals as goal

pub returns-in_err-of : goal.returns-in_err-of
returns-in_err-of c =
    rw c.from_residual.ensures (unknown (words c.args.line.now) _ _ c.loop-word.invariant.2 _ _ c.in-Some.ensures.steps c.in_err-of.ensures)
