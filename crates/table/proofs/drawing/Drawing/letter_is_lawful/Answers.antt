use Rattle.std.proofs.Common.{ℕ, ◌<◌, ap, subst}
use Rattle.watch.specs.declared.watcher.Sizes.{Sizes}
use Rattle.table.specs.Drawings.{drawn}
use Rattle.table.proofs.Subsets.{letter_test}
use Rattle.table.proofs.drawing.Drawing.letter_is_lawful.Goals as goal

pub returns-then-next-self : goal.returns-then-next-self
returns-then-next-self c =
    let inside = subst (λ (n : ℕ). c.next-next.result < n) (ap (λ (s : Sizes). s.states) c.args.self.sized) c.if-next-self.true in
    letter_test (drawn c.args.self.words.now) c.args.state c.args.letter c.next-next.result c.shown-set.result c.shown.result
    c.next-next.ensures c.shown-set.ensures c.shown.ensures inside
