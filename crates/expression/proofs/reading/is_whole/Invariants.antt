use Rattle.std.proofs.Common.{◌≡◌, ◌+◌, ◌≤◌, drop}
use Rattle.expression.specs.inner.Parsing.{whole}
use Rattle.expression.proofs.reading.is_whole.Given as goal

abbrev pub invariant-loop-word : goal.invariant-loop-word
invariant-loop-word l = (whole l.wanted (drop l.word-index l.words) ≡ whole 1 l.words) × (l.wanted ≤ l.word-index + 1)
