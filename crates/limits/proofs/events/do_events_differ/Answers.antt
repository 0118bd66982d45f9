use Rattle.std.proofs.Common.{rules, tests, arith, ◌≡◌}
use Rattle.std.proofs.lemmas.Grind.{common_steps}
use Rattle.std.proofs.lemmas.Iterator.{YieldsList-from_slice}
use Rattle.std.proofs.lemmas.Iterator.Search.{all_from_yields_List}
use Rattle.std.specs.List.{list_all}
use Rattle.limits.specs.Events.{params_once}
use Rattle.limits.proofs.events.do_events_differ.Goals as goal

pub returns-then-are_apart : goal.returns-then-are_apart
returns-then-are_apart c =
    let once : c.all.result ≡ list_all params_once c.args.events.now =
    all_from_yields_List _ _ _ c.all.result c.all.ensures.ran (YieldsList-from_slice c.args.events.now cc) (λ x b q k. search (rules, tests)) in
    grind (arith, common_steps)
