-- One more call, and one more answer. Assumes nothing.
use Rattle.std.proofs.Common.{◌≡◌, ℕ, ◌+◌, List, [], ◌∷◌, ◌++◌, take, sym, refl, ◌∙◌, subst, subst₂}
use Rattle.watch.specs.Watchers.{Watching}
use Rattle.expression.specs.Formulas.{Formula}
use Rattle.expression.specs.Expressions.{formula}
use Rattle.monitor.specs.Plain.{Plain, opened, RightAnswer, Agrees, after}
use Rattle.monitor.specs.inner.Standing.{ran, Same, Represents, Answers}
use Rattle.monitor.specs.declared.monitor.Monitor.{Monitor}
use Rattle.monitor.specs.declared.calls.Call.{Call}
use Rattle.monitor.specs.declared.calls.Answer.{Answer}

ran-push : (g : ℕ) (plain : Plain) (calls : List Call) (call : Call) → ran g plain (calls ++ (call ∷ [])) ≡ after g (ran g plain calls) call
ran-push g plain [] call = refl
ran-push g plain (c ∷ more) call = ran-push g (after g plain c) more call

agrees_push : (w : Watching) (f : Formula) (plain : Plain) (calls : List Call) (answers : List Answer) (call : Call) (a : Answer)
    → Agrees w f plain calls answers → RightAnswer w f (ran w.events plain calls) call a
    → Agrees w f plain (calls ++ (call ∷ [])) (answers ++ (a ∷ []))
agrees_push w f plain [] [] call a all right = (right, tt)
agrees_push w f plain [] (b ∷ more) call a all right = absurd all
agrees_push w f plain (c ∷ cs) [] call a all right = absurd all
agrees_push w f plain (c ∷ cs) (b ∷ more) call a all right = (all.0, agrees_push w f (after w.events plain c) cs more call a all.1 right)

-- The monitor m became n over the calls, and gave the answers.
pub record Answered {W : Type 0} (w : Watching) (f : Formula) (m n : Monitor W) (calls : List Call) (answers : List Answer) : Type 0 where
  pub same : Same m n
  pub stands : Represents w f n (ran w.events opened calls)
  pub agrees : Agrees w f opened calls answers

pub answered_more : {W : Type 0} (watch : W → Watching) (m n k : Monitor W) (calls : List Call) (i : ℕ) (call : Call) (answers later : List Answer) (a : Answer)
    → Answered (watch m.watcher) (formula m.expression) m n (take i calls) answers → Same n k
    → Answers (watch n.watcher) (formula n.expression) n call a k
    → take (i + 1) calls ≡ take i calls ++ (call ∷ []) → later ≡ answers ++ (a ∷ [])
    → Answered (watch m.watcher) (formula m.expression) m k (take (i + 1) calls) later
answered_more watch m n k calls i call answers later a x same takes taken pushed =
    let w = watch m.watcher in
    let f = formula m.expression in
    let does : Answers w f n call a k = subst₂ (λ v e. Answers (watch v) (formula e) n call a k) x.same.watcher x.same.expression takes in
    let z = does (ran w.events opened (take i calls)) x.stands in
    subst₂ (Answered w f m k) (sym taken) (sym pushed)
    (record {
      same = record { watcher = same.watcher ∙ x.same.watcher; expression = same.expression ∙ x.same.expression };
      stands = subst (Represents w f k) (sym (ran-push w.events opened (take i calls) call)) z.1;
      agrees = agrees_push w f opened (take i calls) answers call a x.agrees z.0;
    })
