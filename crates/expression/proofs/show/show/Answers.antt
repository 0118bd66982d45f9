use Rattle.std.proofs.Common.{List, ◌++◌, map, refl, sym, ap, ◌∙◌}
use Rattle.std.proofs.lemmas.List.{take_all}
use Rattle.std.proofs.Output.{has_written_append, has_written_of_eq}
use Rattle.text.specs.Words.{joined}
use Rattle.expression.specs.Writing.{spelled}
use Rattle.expression.specs.declared.token.Token.{Token}
use Rattle.expression.proofs.Showing.{spaced, joined_spaced}
use Rattle.expression.proofs.show.show.Goals as goal

pub returns : goal.returns
returns g c plain ok =
    let first = c.in-Some.first.now in
    let others = c.in-Some.others.now in
    let one = c.in_ok-write.ensures.writes plain refl in
    let all =
    ap (λ (ts : List Token). spelled first ++ spaced ts) (take_all c.loop-word.word-index others c.loop-word-test.false)
    ∙ (sym (joined_spaced first others) ∙ ap (λ (ts : List Token). joined (map spelled ts)) (sym c.in-Some.ensures.cases.0)) in
    has_written_of_eq g.W.Write.write_str_gives c.args.f.now _ _ c.loop-word.f all
    (has_written_append g.W.Write.write_str_gives c.args.f.now _ c.write.new.self _ c.loop-word.f one (c.loop-word.invariant one.plain))
