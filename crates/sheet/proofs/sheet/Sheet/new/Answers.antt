use Rattle.std.proofs.Common.{◌≡◌, List, None, Option, vec_items, ◌∙◌, sym, ap₂}
use Rattle.std.proofs.lemmas.Result.{err_from_is_err_and}
use Rattle.watch.specs.Sizes.{sizes_of}
use Rattle.watch.specs.Watchers.{most_marks}
use Rattle.osl.specs.declared.event.Event.{Event}
use Rattle.osl.specs.declared.row.Row.{Row}
use Rattle.expression.specs.Expressions.{formula}
use Rattle.expression.specs.Formulas.{Formula}
use Rattle.limits.specs.declared.refusal.Refusal.{Refusal}
use Rattle.limits.specs.Questions.{judged}
use Rattle.limits.proofs.Passing.{all_said_yes}
use Rattle.sheet.specs.Joints.{matched_all, watched}
use Rattle.sheet.proofs.sheet.Sheet.new.Goals as goal

-- what was judged are the parts
judged_parts :
    (events es : List Event) (rows rs : List Row) (keep : Formula) (r : Option Refusal) → es ≡ events → rs ≡ rows →
    judged es rs keep ≡ r → judged events rows keep ≡ r
judged_parts events es rows rs keep r ee re is = sym (ap₂ (λ (x : List Event) (y : List Row). judged x y keep) ee re) ∙ is

pub returns-in_err-terms : goal.returns-in_err-terms
returns-in_err-terms c =
    let p = err_from_is_err_and c.from_residual.result c.from_residual.ensures.1 in
    rw (p.1, p.2)
    (judged_parts (vec_items c.args.events) _ (vec_items c.args.rows) _ (formula c.args.keep) _ c.deref.ensures.value c.deref-2.ensures.value c.in_err-terms.ensures)

pub invariant_of-result : goal.invariant_of-result
invariant_of-result c =
    let ok = c.in_ok-terms.ensures in
    let events = vec_items c.args.events in
    let rows = vec_items c.args.rows in
    let keep = formula c.args.keep in
    let es : c.in_ok-terms.terms.events.now ≡ events = ok.1 ∙ c.deref.ensures.value in
    let rs : c.in_ok-terms.terms.rows.now ≡ rows = ok.2 ∙ c.deref-2.ensures.value in
    record {
      lawful = all_said_yes events rows keep (judged_parts events _ rows _ keep None c.deref.ensures.value c.deref-2.ensures.value ok.0);
      found = c.matched-matched.ensures ∙ ap₂ (λ (x : List Event) (y : List Row). matched_all x most_marks y) es rs;
      sized = c.sizes-sizes.ensures ∙ ap₂ (λ (x : List Event) (y : List Row). sizes_of (watched x y)) es rs;
    }
