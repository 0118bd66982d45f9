use Rattle.std.proofs.Common.{List, ap, ◌∙◌}
use Rattle.std.proofs.lemmas.Bool.Decides.{Decides-at}
use Rattle.expression.specs.Formulas.{Formula}
use Rattle.expression.specs.Expressions.{formula}
use Rattle.expression.specs.Values.{eval}
use Rattle.expression.specs.inner.Parsing.{first, parsed}
use Rattle.expression.specs.declared.token.Token.{Token}
use Rattle.expression.proofs.Parsing.{first_written}
use Rattle.expression.proofs.Truths.{decides_truth}
use Rattle.expression.proofs.expression.Expression.value.Goals as goal

pub returns-clause-value : goal.returns-clause-value
returns-clause-value c =
    let f = formula c.args.self.now in
    let read = ap (λ (ts : List Token). first (parsed ts)) (c.iter.ensures.rest ∙ c.tokens.ensures.words) ∙ first_written f in
    c.value_of.ensures.value ∙ ap (λ (g : Formula). eval g c.args.shown.bits) read

pub returns-clause-truth : goal.returns-clause-truth
returns-clause-truth c = Decides-at _ _ (returns-clause-value c) (decides_truth c.args.shown.bits (formula c.args.self.now))
