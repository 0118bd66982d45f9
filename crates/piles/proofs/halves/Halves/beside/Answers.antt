use Rattle.std.proofs.Common.{ℕ, ◌+◌, ap, arith}
use Rattle.piles.specs.Besides.{beside_whole}
use Rattle.piles.proofs.halves.Halves.beside.Goals as goal

pub overflow_add-result : goal.overflow_add-result
overflow_add-result c =
    let sizes = c.args.self in
    let whole = beside_whole c.args.first.bits c.args.second.bits sizes.first.marks sizes.second.marks c.requires.first c.requires.second sizes.few_marks in
    omega (arith, whole.0, whole.1)

pub returns : goal.returns
returns c =
    let sizes = c.args.self in
    let whole = beside_whole c.args.first.bits c.args.second.bits sizes.first.marks sizes.second.marks c.requires.first c.requires.second sizes.few_marks in
    ap (λ (set : ℕ). c.args.first.bits + set) whole.0
