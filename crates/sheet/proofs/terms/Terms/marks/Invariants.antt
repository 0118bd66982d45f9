use Rattle.sheet.proofs.Digits.{Marking}
use Rattle.sheet.proofs.terms.Terms.marks.Given as goal

abbrev pub invariant-loop-row : goal.invariant-loop-row
invariant-loop-row l = Marking l.self.rows.now l.state l.row-index l.rest l.bit l.sum
