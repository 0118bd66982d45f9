use Rattle.std.proofs.Common.{ℕ, ◌<◌, List, sym, ap, ◌∙◌, subst, arith}
use Rattle.table.specs.Drawings.{drawn}
use Rattle.table.proofs.States.{table_lawful}
use Rattle.watch.proofs.Walking.{shown_byte}
use Rattle.table.proofs.table.TableWatcher.shown.Goals as goal

pub overflow_cast-result : goal.overflow_cast-result
overflow_cast-result c =
    let small = shown_byte _ (table_lawful c.args.self.now) c.args.state in
    let is = c.shown.ensures ∙ ap (λ (words : List ℕ). (drawn words).shown c.args.state) c.drawing.ensures in
    let fits : c.shown.result < 256 = subst (λ (set : ℕ). set < 256) (sym is) small in
    omega arith
