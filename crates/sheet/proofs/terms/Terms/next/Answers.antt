use Rattle.std.proofs.Common.{◌≡◌, ℕ, ◌+◌, ◌*◌, ◌/◌, ◌<◌, ◌≤◌, List, ◌∷◌, arith}
use Rattle.std.proofs.lemmas.Slice.Zip.{Zip-more, either_empty_from_Zip}
use Rattle.std.specs.Iterator.Adapters.{zip_first, zip_second}
use Rattle.std.specs.Slice.Iter.{iter_rest}
use Rattle.watch.specs.Steps.{step_digits}
use Rattle.osl.specs.declared.row.Row.{Row}
use Rattle.osl.specs.declared.matched.Matched.{Matched}
use Rattle.limits.specs.Questions.{product}
use Rattle.sheet.specs.Joints.{joint}
use Rattle.sheet.proofs.Digits.{Summing, summed, weight_fits, summed_all}
use Rattle.sheet.proofs.terms.Terms.next.Goals as goal

-- one row more
module _ (c : goal.After-next-in-loop-row) where
  abbrev rows : List Row
  rows = c.args.self.rows.now

  abbrev digits : List ℕ
  digits = step_digits c.args.step.now

  abbrev rows_left : List Row
  rows_left = iter_rest (zip_first c.next.new.self)

  abbrev matched_left : List Matched
  matched_left = iter_rest (zip_second c.next.new.self)

  turn : (iter_rest (zip_first c.loop-row.row-iterator) ≡ c.in-Some.row.now ∷ rows_left) × (iter_rest (zip_second c.loop-row.row-iterator) ≡ c.in-Some.own.now ∷ matched_left)
  turn = Zip-more c.loop-row.row-iterator c.next.new.self c.next.result _ c.in-Some.is c.next.ensures.steps

  more : Summing (joint rows c.args.matched.now digits c.args.state) (product rows) rows_left matched_left digits
      (c.loop-row.rest / c.states-count.result) (c.loop-row.weight * c.states-count.result)
      (c.loop-row.sum + c.loop-row.weight * c.next-in-loop-row.result)
  more =
      summed _ _ _ rows_left _ matched_left digits c.loop-row.rest c.loop-row.weight c.loop-row.sum c.loop-row.invariant _ _ turn.0 turn.1
      c.states-count.result c.next-in-loop-row.result c.states-count.ensures c.next-in-loop-row.ensures.next

  grown : c.loop-row.weight * c.states-count.result ≤ product rows
  grown =
      weight_fits _ _ _ rows_left _ matched_left digits c.loop-row.rest c.loop-row.weight c.loop-row.sum c.loop-row.invariant _ _ turn.0 turn.1
      c.states-count.result c.next-in-loop-row.result c.states-count.ensures c.next-in-loop-row.ensures.next

  small : c.loop-row.sum + c.loop-row.weight * c.next-in-loop-row.result < product rows
  small = omega (arith, more.below, grown)

pub overflow_mul-sum : goal.overflow_mul-sum
overflow_mul-sum c = omega (arith, small c, c.args.self.within.few_states)

pub overflow_add-sum : goal.overflow_add-sum
overflow_add-sum c = omega (arith, small c, c.args.self.within.few_states)

pub overflow_mul-weight : goal.overflow_mul-weight
overflow_mul-weight c = omega (arith, grown c, c.args.self.within.few_states)

pub loop-row-preserved : goal.loop-row-preserved
loop-row-preserved c = more c

pub overflow_cast-result : goal.overflow_cast-result
overflow_cast-result c =
    let all = summed_all _ _ _ _ _ _ _ _ c.loop-row.invariant (either_empty_from_Zip c.loop-row.row-iterator c.next.new.self c.next.result c.in-None.is c.next.ensures.steps) in
    omega (arith, all.1, c.args.self.within.few_states)

pub returns : goal.returns
returns c = (summed_all _ _ _ _ _ _ _ _ c.loop-row.invariant (either_empty_from_Zip c.loop-row.row-iterator c.next.new.self c.next.result c.in-None.is c.next.ensures.steps)).0
