use Rattle.std.proofs.Common.{◌≡◌, ℕ, ◌+◌, ◌-◌, ◌*◌, ◌<◌, true, List, length, get_or, take, arith}
use Rattle.std.specs.Char.{digit_value}
use Rattle.std.specs.Str.Parse.{digits_value}
use Rattle.std.proofs.lemmas.Bool.Decides.{nat_tests}
use Rattle.std.proofs.lemmas.Grind.{common_steps}
use Rattle.std.proofs.lemmas.Int.Digits.{digits_value_more}
use Rattle.std.proofs.lemmas.Str.Parse.{digits_value-take-le}
use Rattle.text.specs.Numbers.{number_limit}
use Rattle.text.specs.inner.Digits.{number_form}
use Rattle.text.proofs.Decimals.{number_written}
use Rattle.text.proofs.numbers.value.Goals as goal

-- What is read with the digit at i, and that it is below the limit.
module _ (w : List ℕ) (i : ℕ) (form : number_form w ≡ true) (here : i < length w) where
  next : 10 * digits_value 10 (take i w) + (get_or w i 0 - 48) ≡ digits_value 10 (take (i + 1) w)
  next =
      let worth : digit_value (get_or w i 0) ≡ get_or w i 0 - 48 = grind (arith, common_steps, nat_tests) in
      omega (arith, digits_value_more 10 w i here, worth)

  small : 10 * digits_value 10 (take i w) + (get_or w i 0 - 48) < number_limit
  small = omega (arith, next, (number_written w form).0, digits_value-take-le 10 w (i + 1) (omega arith))

pub overflow_mul-n : goal.overflow_mul-n
overflow_mul-n c = omega (arith, small c.args.word.now c.loop-b.b-index c.requires c.loop-b-test.true, c.loop-b.invariant)

pub overflow_add-n : goal.overflow_add-n
overflow_add-n c = omega (arith, small c.args.word.now c.loop-b.b-index c.requires c.loop-b-test.true, c.loop-b.invariant, c.from.ensures)

pub loop-b-preserved : goal.loop-b-preserved
loop-b-preserved c = omega (arith, next c.args.word.now c.loop-b.b-index c.requires c.loop-b-test.true, c.loop-b.invariant, c.from.ensures)
