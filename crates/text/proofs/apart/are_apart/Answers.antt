use Rattle.std.proofs.Common.{rules, tests, ◌≡◌}
use Rattle.std.specs.List.{list_any}
use Rattle.std.proofs.lemmas.Iterator.{YieldsList-from_slice}
use Rattle.std.proofs.lemmas.Iterator.Search.{any_from_yields_List}
use Rattle.text.proofs.apart.are_apart.Goals as goal

pub loop-first-preserved : goal.loop-first-preserved
loop-first-preserved g c =
    let test = g.Q.Compares.compares c.args.question.now in
    let same : c.any.result ≡ list_any (test c.in-Some.first.now) c.in-Some.rest.now =
    any_from_yields_List (test c.in-Some.first.now) _ _ c.any.result c.any.ensures.ran (YieldsList-from_slice c.in-Some.rest.now cc) (λ x b q k. search (rules, tests)) in
    search rules
