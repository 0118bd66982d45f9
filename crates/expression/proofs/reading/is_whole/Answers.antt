use Rattle.std.proofs.Common.{◌≡◌, sym, ◌∙◌, rules}
use Rattle.expression.proofs.Parsing.{none_wanted}
use Rattle.expression.proofs.reading.is_whole.Goals as goal

pub returns-in_default : goal.returns-in_default
returns-in_default c =
    let none : c.loop-word.wanted ≡ 0 = search rules in
    sym (none_wanted c.loop-word.wanted c.args.words.now c.loop-word.word-index none c.loop-word-test.true) ∙ c.loop-word.invariant.0
