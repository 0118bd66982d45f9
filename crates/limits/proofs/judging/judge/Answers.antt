use Rattle.std.proofs.Common.{rules, tests, ◌≡◌, Bool, not}
use Rattle.std.proofs.lemmas.Iterator.{YieldsList-from_slice}
use Rattle.std.proofs.lemmas.Iterator.Search.{find_from_yields_List}
use Rattle.std.specs.List.{find}
use Rattle.std.specs.Option.{option_copied}
use Rattle.expression.specs.Expressions.{formula}
use Rattle.limits.specs.declared.refusal.Refusal.{Refusal}
use Rattle.limits.specs.Questions.{says, asked}
use Rattle.limits.proofs.judging.judge.Goals as goal

pub returns : goal.returns
returns c =
    let test : Refusal → Bool = λ q. not (says q c.args.events.now c.args.rows.now (formula c.args.keep.now)) in
    let found : option_copied c.find.result ≡ find test asked =
    find_from_yields_List test _ _ c.find.result c.find.ensures.ran (YieldsList-from_slice asked cc) (λ x b q k. search (rules, tests)) in
    cc
