use Rattle.std.proofs.Common.{◌<◌, ◌^◌, ap, rules, arith}
use Rattle.watch.specs.Letters.{letter_count}
use Rattle.watch.specs.declared.watcher.Sizes.{Sizes}
use Rattle.table.specs.Drawings.{drawn, LetterLawful}
use Rattle.table.proofs.Ranges.{Decides-from_all_below}
use Rattle.table.proofs.drawing.Drawing.state_is_lawful.Goals as goal

pub returns-then-shown-beyond : goal.returns-then-shown-beyond
returns-then-shown-beyond c =
    let w = drawn c.args.self.words.now in
    let inside : w.shown c.args.state < 2 ^ w.marks = omega (arith, ap (λ (sizes : Sizes). 2 ^ sizes.marks) c.args.self.sized) in
    let letters =
    Decides-from_all_below (letter_count w.events) (LetterLawful w c.args.state) c.all.ensures.ran (ap (λ (sizes : Sizes). record { start = 0; end = sizes.letters }) c.args.self.sized)
    (λ x q k. search rules) (λ x q k. search rules) in
    (λ e. (inside, letters.0 e), λ h. letters.1 h.1)
