use Rattle.std.proofs.Common.{◌≡◌, ◌*◌, ◌≤◌, drop}
use Rattle.limits.specs.Questions.{product}
use Rattle.limits.proofs.judging.state_count.Given as goal

-- what is formed, times the rows that are left, is the whole product
abbrev pub invariant-loop-row : goal.invariant-loop-row
invariant-loop-row l = (l.product * product (drop l.row-index l.rows) ≡ product l.rows) × (l.product ≤ 16384)
