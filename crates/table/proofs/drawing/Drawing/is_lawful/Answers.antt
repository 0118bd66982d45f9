use Rattle.std.proofs.Common.{ap, rules}
use Rattle.watch.specs.declared.watcher.Sizes.{Sizes}
use Rattle.table.specs.Drawings.{drawn, StateLawful}
use Rattle.table.proofs.Ranges.{Decides-from_all_below}
use Rattle.table.proofs.drawing.Drawing.is_lawful.Goals as goal

pub returns : goal.returns
returns c =
    let w = drawn c.args.self.words.now in
    Decides-from_all_below w.states (StateLawful w) c.all.ensures.ran (ap (λ (sizes : Sizes). record { start = 0; end = sizes.states }) c.args.self.sized)
    (λ x q k. search rules) (λ x q k. search rules)
