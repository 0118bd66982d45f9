use Rattle.std.proofs.Common.{rules, ◌≡◌, ℕ, ◌+◌, List, take, drop, sym, refl, ap, ◌∙◌, subst, subst₂, length, get_or, ◌<◌, arith}
use Rattle.std.proofs.lemmas.List.{length-take-le, get_or-take, take_more, take_more_set, drop-set-lt, drop-drop}
use Rattle.monitor.specs.Plain.{opened, Agrees}
use Rattle.expression.specs.Expressions.{formula}
use Rattle.monitor.specs.inner.Standing.{Represents, Answers}
use Rattle.monitor.specs.declared.calls.Call.{Call}
use Rattle.monitor.specs.declared.calls.Call.TheVariants.{Note}
use Rattle.monitor.specs.declared.calls.Answer.{Answer}
use Rattle.monitor.proofs.Agreeing.{answered_more}
use Rattle.monitor.proofs.answering.answer_all.Goals as goal

pub loop-place-init : goal.loop-place-init
loop-place-init g c =
    let m = c.open-monitor.result in
    let o = c.open-monitor.ensures in
    let watch = g.W.Watcher.watching in (
      record {
        same = record { watcher = refl; expression = refl };
        stands = subst₂ (λ v e. Represents (watch v) (formula e) m opened) (sym o.watcher) (sym o.expression) o.stands;
        agrees = tt;
      },
      refl,
    )

-- The call is the one at this place, taken from the loop or by index. `Note 0 0` stands for what lies behind the calls.
pub loop-place-preserved : goal.loop-place-preserved
loop-place-preserved g c =
    let i : ℕ = c.loop-place.place in
    let calls : List Call = c.args.calls.now in
    let before : List Answer = c.args.answers.now in
    let answers : List Answer = c.loop-place.answers in
    let a : Answer = c.call.result in
    let m = c.loop-place.monitor in
    let n : ℕ = c.min-count.result in
    let size : length (take n calls) ≡ n = length-take-le n calls (omega (arith, c.min-count.ensures)) in
    let lt : i < n = omega arith in
    let there : get_or (take n calls) i (Note 0 0) ≡ get_or calls i (Note 0 0) = get_or-take n calls i (Note 0 0) lt in
    let Said : Call → Type 0 = λ (k : Call). Answers (g.W.Watcher.watching m.watcher) (formula m.expression) m k a c.call.new.self in
    let moved : Said (get_or (take n calls) i (Note 0 0)) → Said (get_or calls i (Note 0 0)) = λ said. subst Said there said in
    let said : Said (get_or calls i (Note 0 0)) = search (rules, moved, c.call.ensures.answers) in (
      answered_more g.W.Watcher.watching c.open-monitor.result m c.call.new.self calls i _ (take i answers) _ a c.loop-place.invariant.0 c.call.ensures.same said
          (take_more calls i _ (omega (arith, c.min-count.ensures))) (take_more_set answers i a (omega (arith, c.min-count.ensures))),
      drop-set-lt (i + 1) answers i a (omega arith) ∙ (sym (drop-drop 1 i answers) ∙ (ap (drop 1) c.loop-place.invariant.1 ∙ drop-drop 1 i before)),
    )

pub returns : goal.returns
returns g c =
    let m = c.open-monitor.result in
    let o = c.open-monitor.ensures in
    let watch = g.W.Watcher.watching in
    let n : ℕ = c.min-count.result in
    let calls : List Call = c.args.calls.now in
    let before : List Answer = c.args.answers.now in
    let answers : List Answer = c.loop-place.answers in
    let end : c.loop-place.place ≡ n = omega (arith, c.min-count.ensures, length-take-le n calls (omega (arith, c.min-count.ensures))) in
    record {
      count = c.min-count.ensures;
      agrees = subst₂ (λ v e. Agrees (watch v) (formula e) opened (take n calls) (take n answers)) o.watcher o.expression (subst (λ (k : ℕ). Agrees (watch m.watcher) (formula m.expression) opened (take k calls) (take k answers)) end c.loop-place.invariant.0.agrees);
      rest = subst (λ (k : ℕ). drop k answers ≡ drop k before) end c.loop-place.invariant.1;
    }
