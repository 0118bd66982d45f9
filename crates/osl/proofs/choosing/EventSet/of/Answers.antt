use Rattle.std.proofs.Common.{rules, tests, ◌≡◌}
use Rattle.osl.specs.Matching.{chosen}
use Rattle.osl.proofs.Places.{made_chosen}
use Rattle.osl.proofs.choosing.EventSet.of.Goals as goal

pub returns : goal.returns
returns g c = λ test answers.
    let same : c.from_fn.result ≡ chosen test 5 c.args.events.now =
    made_chosen test _ _ c.args.events.now (λ i b q k. search (rules, tests, answers)) c.from_fn.result 5 c.from_fn.ensures.items in
    cc
