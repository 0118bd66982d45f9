use Rattle.std.specs.Iterator.Adapters.{zip_first, zip_second}
use Rattle.std.specs.Slice.Iter.{iter_rest}
use Rattle.watch.specs.Steps.{step_digits}
use Rattle.limits.specs.Questions.{product}
use Rattle.sheet.specs.Joints.{joint}
use Rattle.sheet.proofs.Digits.{Summing}
use Rattle.sheet.proofs.terms.Terms.next.Given as goal

abbrev pub invariant-loop-row : goal.invariant-loop-row
invariant-loop-row l =
    Summing (joint l.self.rows.now l.matched (step_digits l.step) l.state) (product l.self.rows.now)
    (iter_rest (zip_first l.row-iterator)) (iter_rest (zip_second l.row-iterator)) (step_digits l.step) l.rest l.weight l.sum
