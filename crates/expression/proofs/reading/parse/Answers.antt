use Rattle.std.proofs.Common.{sym, ap, ◌∙◌}
use Rattle.text.specs.Words.{words}
use Rattle.expression.specs.Writing.{written}
use Rattle.expression.specs.inner.Parsing.{whole}
use Rattle.expression.proofs.Spelling.{words_writing}
use Rattle.expression.proofs.Wholes.{not_whole, line_of}
use Rattle.expression.proofs.reading.parse.Goals as goal

pub returns-in_err-words : goal.returns-in_err-words
returns-in_err-words c =
    rw c.from_residual.ensures
    (λ f fits e. c.in_err-words.ensures (written f) fits.0 fits.1 (sym (ap words e ∙ words_writing f fits.1)))

pub returns-then-not-is_whole : goal.returns-then-not-is_whole
returns-then-not-is_whole c =
    let less = ap (whole 1) (sym c.as_slice.ensures) ∙ (sym c.is_whole.ensures ∙ c.if-not-is_whole.true) in
    not_whole c.args.line.now c.in_ok-words.words c.in_ok-words.ensures less

pub returns : goal.returns
returns c =
    let one = ap (whole 1) (sym c.as_slice.ensures) ∙ (sym c.is_whole.ensures ∙ c.if-not-is_whole.false) in
    line_of c.args.line.now c.in_ok-words.words c.in_ok-words.ensures one
