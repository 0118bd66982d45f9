-- Calls that are made one after another, up to the first that is refused. Assumes nothing.
use Rattle.std.proofs.Common.{◌≡◌, ℕ, ◌+◌, ◌<◌, ◌≤◌, Bool, true, false, cond, List, [], ◌∷◌, ◌++◌, length, get_or, drop, is_ok, Ok, Err, Result, Option, None, refl, sym, ap, ◌∙◌, subst, subst₂, append_assoc}
use Rattle.std.proofs.lemmas.Bool.{true≢false}
use Rattle.std.proofs.lemmas.List.{at_drop_more, at_drop_all}
use Rattle.watch.specs.Watchers.{Watching}
use Rattle.watch.specs.declared.kind.Kind.{Kind}
use Rattle.expression.specs.Formulas.{Formula}
use Rattle.expression.specs.Expressions.{formula}
use Rattle.monitor.specs.Plain.{Plain, after, note_answer, close_answer}
use Rattle.monitor.specs.Closing.{note_of, notes_from, taken, outcome, left, Makes}
use Rattle.monitor.specs.inner.Standing.{Represents, Same, Takes}
use Rattle.monitor.specs.declared.calls.Call.{Call}
use Rattle.monitor.specs.declared.calls.Call.TheVariants.{Note, Close}
use Rattle.monitor.specs.declared.monitor.Monitor.{Monitor}
use Rattle.monitor.specs.declared.refusal.Refusal.{Refusal}

module _ (g : ℕ) where
  -- Where calls are all taken, what comes behind them comes to what it comes to from there.
  pub taken_first : (calls more : List Call) (p : Plain) → outcome g p calls ≡ Ok tt
      → (outcome g p (calls ++ more) ≡ outcome g (left g p calls) more) × (left g p (calls ++ more) ≡ left g (left g p calls) more)
  taken_first [] more p all = (refl, refl)
  taken_first (call ∷ calls) more p all = go (taken_first calls more (after g p call)) (taken g p call) all
    where
      q : Plain
      q = after g p call

      go : (outcome g q calls ≡ Ok tt → (outcome g q (calls ++ more) ≡ outcome g (left g q calls) more) × (left g q (calls ++ more) ≡ left g (left g q calls) more))
          → (r : Result (Unit {0}) Refusal) → cond (is_ok r) (outcome g q calls) r ≡ Ok tt
          → (cond (is_ok r) (outcome g q (calls ++ more)) r ≡ outcome g (cond (is_ok r) (left g q calls) p) more)
          × (cond (is_ok r) (left g q (calls ++ more)) p ≡ left g (cond (is_ok r) (left g q calls) p) more)
      go later (Ok done) ok = later ok
      go later (Err why) ok = absurd (true≢false (sym (ap is_ok ok)))

  -- Where one of the calls is refused, nothing behind them is made.
  pub refused_first : (calls more : List Call) (p : Plain) (why : Refusal) → outcome g p calls ≡ Err why
      → (outcome g p (calls ++ more) ≡ Err why) × (left g p (calls ++ more) ≡ left g p calls)
  refused_first [] more p why refused = absurd (true≢false (ap is_ok refused))
  refused_first (call ∷ calls) more p why refused = go (refused_first calls more (after g p call) why) (taken g p call) refused
    where
      q : Plain
      q = after g p call

      go : (outcome g q calls ≡ Err why → (outcome g q (calls ++ more) ≡ Err why) × (left g q (calls ++ more) ≡ left g q calls))
          → (r : Result (Unit {0}) Refusal) → cond (is_ok r) (outcome g q calls) r ≡ Err why
          → (cond (is_ok r) (outcome g q (calls ++ more)) r ≡ Err why)
          × (cond (is_ok r) (left g q (calls ++ more)) p ≡ cond (is_ok r) (left g q calls) p)
      go later (Ok done) refused = later refused
      go later (Err other) refused = (refused, refl)

-- The monitor m became n, and what all the calls come to is what those come to that are still to be made.
pub record Upto {W : Type 0} (w : Watching) (f : Formula) (m n : Monitor W) (all more : List Call) : Type 0 where
  pub same : Same m n
  pub made : (plain : Plain) → Represents w f m plain
      → (p : Plain) × Represents w f n p × (outcome w.events plain all ≡ outcome w.events p more) × (left w.events plain all ≡ left w.events p more)

module _ {W : Type 0} (watch : W → Watching) (m n k : Monitor W) (all calls more : List Call) (x : Upto (watch m.watcher) (formula m.expression) m n all (calls ++ more)) (same : Same n k) where
  abbrev w : Watching
  w = watch m.watcher

  abbrev f : Formula
  f = formula m.expression

  stays : Same m k
  stays = record { watcher = same.watcher ∙ x.same.watcher; expression = same.expression ∙ x.same.expression }

  -- What was done to n, seen from m.
  seen : (r : Result (Unit {0}) Refusal) → Makes (watch n.watcher) (formula n.expression) n calls r k → Makes w f n calls r k
  seen r = subst₂ (λ v e. Makes (watch v) (formula e) n calls r k) x.same.watcher x.same.expression

  pub upto_more : Makes (watch n.watcher) (formula n.expression) n calls (Ok tt) k → Upto w f m k all more
  upto_more makes = record {
    same = stays;
    made = λ plain stands.
        let here = x.made plain stands in
        let next = seen (Ok tt) makes here.0 here.1 in
        let first = taken_first w.events calls more here.0 (sym next.0) in
        (left w.events here.0 calls, next.1, here.2 ∙ first.0, here.3 ∙ first.1);
  }

  pub upto_refused : (why : Refusal) → Makes (watch n.watcher) (formula n.expression) n calls (Err why) k → Makes w f m all (Err why) k
  upto_refused why makes plain stands =
      let here = x.made plain stands in
      let next = seen (Err why) makes here.0 here.1 in
      let first = refused_first w.events calls more here.0 why (sym next.0) in
      (sym (here.2 ∙ first.0), subst (Represents w f k) (sym (here.3 ∙ first.1)) next.1)

-- The calls that are left begin with the note of the next event.
abbrev pub left_from : List (Option Kind) → ℕ → List Call
left_from kinds e = notes_from e (drop e kinds) ++ Close ∷ []

pub left_next : (kinds : List (Option Kind)) (e : ℕ) → e < length kinds → left_from kinds e ≡ note_of e (get_or kinds e None) ++ left_from kinds (e + 1)
left_next kinds e lt =
    ap (λ (calls : List Call). calls ++ Close ∷ []) (at_drop_more (λ (ks : List (Option Kind)). notes_from e ks) kinds e None lt)
    ∙ append_assoc (note_of e (get_or kinds e None)) _ _

pub left_last : (kinds : List (Option Kind)) (e : ℕ) → length kinds ≤ e → left_from kinds e ≡ Close ∷ []
left_last kinds e past = ap (λ (calls : List Call). calls ++ Close ∷ []) (at_drop_all (λ (ks : List (Option Kind)). notes_from e ks) kinds e past)

pub made_once : {A : Type 0} (b : Bool) (a p : A) → cond b (cond b a p) p ≡ cond b a p
made_once true a p = refl
made_once false a p = refl

pub told : (r : Result (Unit {0}) Refusal) → r ≡ cond (is_ok r) (Ok tt) r
told (Ok done) = refl
told (Err why) = refl

-- One call that was made.
pub one_note : {W : Type 0} (w : Watching) (f : Formula) (m n : Monitor W) (e k : ℕ) (r : Result (Unit {0}) Refusal)
    → Takes w f m (Note e k) (λ plain. note_answer w.events plain e k) r n → Makes w f m (Note e k ∷ []) r n
one_note w f m n e k r takes plain stands =
    let t = takes plain stands in
    (t.0 ∙ told (note_answer w.events plain e k), subst (Represents w f n) (sym (made_once (is_ok (note_answer w.events plain e k)) _ plain)) t.1)

pub one_closing : {W : Type 0} (w : Watching) (f : Formula) (m n : Monitor W) (r : Result (Unit {0}) Refusal)
    → Takes w f m Close close_answer r n → Makes w f m (Close ∷ []) r n
one_closing w f m n r takes plain stands =
    let t = takes plain stands in
    (t.0 ∙ told (close_answer plain), subst (Represents w f n) (sym (made_once (is_ok (close_answer plain)) _ plain)) t.1)

-- What was made of an event's number was made of its place, where the two are the same.
pub made_at : {W : Type 0} (w : Watching) (f : Formula) (m n : Monitor W) (kind : Option Kind) (r : Result (Unit {0}) Refusal) (i e : ℕ)
    → Makes w f m (note_of e kind) r n → e ≡ i → Makes w f m (note_of i kind) r n
made_at w f m n kind r i e makes is = subst (λ (k : ℕ). Makes w f m (note_of k kind) r n) is makes

-- Where all but the last calls are made, what the last come to is what all come to.
pub upto_end : {W : Type 0} (watch : W → Watching) (m n k : Monitor W) (all calls : List Call) → Upto (watch m.watcher) (formula m.expression) m n all calls → Same n k
    → (r : Result (Unit {0}) Refusal) → Makes (watch n.watcher) (formula n.expression) n calls r k → Makes (watch m.watcher) (formula m.expression) m all r k
upto_end watch m n k all calls x same r makes plain stands =
    let here = x.made plain stands in
    let next = subst₂ (λ v e. Makes (watch v) (formula e) n calls r k) x.same.watcher x.same.expression makes here.0 here.1 in
    (next.0 ∙ sym here.2, subst (Represents (watch m.watcher) (formula m.expression) k) (sym here.3) next.1)
