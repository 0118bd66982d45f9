use Rattle.std.proofs.Common.{rules, ◌≡◌}
use Rattle.osl.specs.Matching.{names_forbid, values_forbid}
use Rattle.osl.specs.Resolving.{set_of}
use Rattle.osl.proofs.row.Row.matched.Goals as goal

pub returns-in-Names : goal.returns-in-Names
returns-in-Names c =
    let set : c.of.result ≡ set_of (names_forbid c.in-Names.permit) c.args.events.now = c.of.ensures _ (λ x b k. search rules) in
    search rules

pub returns-in-Values : goal.returns-in-Values
returns-in-Values c =
    let set : c.of-in-Values.result ≡ set_of (values_forbid c.in-Values.permit) c.args.events.now = c.of-in-Values.ensures _ (λ x b k. search rules) in
    search rules
