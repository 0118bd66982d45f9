use Rattle.std.proofs.Common.{◌≡◌, length}
use Rattle.text.specs.Lists.{apart}
use Rattle.text.proofs.apart.are_apart.Given as goal

abbrev pub invariant-loop-first : goal.invariant-loop-first
invariant-loop-first g l = apart (g.Q.Compares.compares l.question) l.left ≡ apart (g.Q.Compares.compares l.question) l.items

abbrev pub decreases-loop-first : goal.decreases-loop-first
decreases-loop-first g l = length l.left
