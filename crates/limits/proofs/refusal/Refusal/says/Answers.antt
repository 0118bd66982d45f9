use Rattle.std.proofs.Common.{rules, tests, arith, ◌≡◌, length}
use Rattle.std.proofs.lemmas.Grind.{common_steps}
use Rattle.std.proofs.lemmas.Iterator.{YieldsList-from_slice}
use Rattle.std.proofs.lemmas.Iterator.Search.{all_from_yields_List}
use Rattle.std.specs.List.{list_all}
use Rattle.limits.specs.Forms.{event_formed, row_formed}
use Rattle.limits.specs.Questions.{term_within}
use Rattle.limits.proofs.refusal.Refusal.says.Goals as goal

pub returns-then-all : goal.returns-then-all
returns-then-all c =
    let events : c.all.result ≡ list_all event_formed c.args.events.now =
    all_from_yields_List _ _ _ c.all.result c.all.ensures.ran (YieldsList-from_slice c.args.events.now cc) (λ x b q k. search (rules, tests)) in
    let rows : c.all-then-all.result ≡ list_all row_formed c.args.rows.now =
    all_from_yields_List _ _ _ c.all-then-all.result c.all-then-all.ensures.ran (YieldsList-from_slice c.args.rows.now cc) (λ x b q k. search (rules, tests)) in
    grind (arith, common_steps)

pub returns-in-Range : goal.returns-in-Range
returns-in-Range c = rw c.in-Range.is (all_from_yields_List _ _ _ _ c.all-in-Range.ensures.ran (YieldsList-from_slice c.args.rows.now cc) (λ x b q k. search (rules, tests)))

pub returns-in-Undeclared : goal.returns-in-Undeclared
returns-in-Undeclared c = rw c.in-Undeclared.is (all_from_yields_List _ _ _ _ c.all-in-Undeclared.ensures.ran (YieldsList-from_slice c.args.rows.now cc) (λ x b q k. search (rules, tests)))

pub returns-in-Fixed : goal.returns-in-Fixed
returns-in-Fixed c = rw c.in-Fixed.is (all_from_yields_List _ _ _ _ c.all-in-Fixed.ensures.ran (YieldsList-from_slice c.args.rows.now cc) (λ x b q k. search (rules, tests)))

pub returns-in-Terms : goal.returns-in-Terms
returns-in-Terms c =
    let within : c.all-in-Terms.result ≡ list_all (term_within (length c.args.rows.now)) c.tokens.result.now =
    all_from_yields_List _ _ _ c.all-in-Terms.result c.all-in-Terms.ensures.ran (YieldsList-from_slice c.tokens.result.now cc) (λ x b q k. search (rules, tests)) in
    search rules
