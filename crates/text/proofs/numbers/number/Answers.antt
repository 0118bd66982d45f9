use Rattle.std.proofs.Common.{sym, ap, ◌∙◌}
use Rattle.std.proofs.lemmas.Bool.{both_ways}
use Rattle.text.specs.inner.Digits.{number_form}
use Rattle.text.proofs.Decimals.{number_written, decimal_form}
use Rattle.text.proofs.numbers.number.Goals as goal

pub returns-then-not-is_number : goal.returns-then-not-is_number
returns-then-not-is_number c n low e =
    both_ways _ (sym c.is_number.ensures ∙ c.if-not-is_number.true) (ap number_form e ∙ decimal_form n low)

pub returns : goal.returns
returns c = rw c.value.ensures (number_written c.args.word.now (sym c.is_number.ensures ∙ c.if-not-is_number.false))
