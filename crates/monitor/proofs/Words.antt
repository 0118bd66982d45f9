-- The word read off the outlook is the right one. Assumes nothing.
use Rattle.std.proofs.Common.{◌≡◌, ℕ, zero, suc, ◌+◌, ◌<◌, Bool, true, false, List, [], ◌∷◌, length, sym, refl, ap, ◌∙◌, subst, ⊎_elim, arith}
use native.Mathlib.Nat.{one-le-pow}
use Rattle.std.proofs.lemmas.Bool.{cases_Bool, both_ways}
use Rattle.watch.specs.Exactly.{Exactly}
use Rattle.watch.specs.Letters.{digits, letter_count}
use Rattle.watch.specs.Runs.{Run, Over, Continues, passed_from, later}
use Rattle.watch.specs.Watchers.{Watching, Lawful}
use Rattle.watch.proofs.Walking.{shown_byte}
use Rattle.expression.specs.Formulas.{Formula}
use Rattle.expression.specs.Values.{eval}
use Rattle.outlook.specs.Outlooks.{at, Rests, Foresees}
use Rattle.outlook.proofs.Resting.{ahead, over_ahead, rests_ahead}
use Rattle.outlook.specs.declared.chart.Outlook.{Outlook}
use Rattle.monitor.specs.Keeping.{NoneKeeps, NoneBreaks}
use Rattle.monitor.specs.Words.{RightWord}
use Rattle.monitor.specs.inner.Running.{reached, Spelled, word_of}
use Rattle.monitor.specs.inner.Standing.{Foretells}
use Rattle.monitor.proofs.Resting.{passed_later, rests_somewhere, keeps_at_rest}

-- The closed steps, and then the run.
abbrev after_closed : List ℕ → Run → Run
after_closed [] r = r
after_closed (a ∷ more) r = ahead a (after_closed more r)

over_after : (g : ℕ) (closed : List ℕ) (r : Run) → Spelled g closed → Over g r → Over g (after_closed closed r)
over_after g [] r spelled over = over
over_after g (a ∷ more) r spelled over = over_ahead g a (after_closed more r) spelled.0 (over_after g more r spelled.1 over)

continues_after : (closed : List ℕ) (r : Run) → Continues closed (after_closed closed r)
continues_after [] r k lt = absurd (omega arith)
continues_after (a ∷ more) r zero lt = refl
continues_after (a ∷ more) r (suc k) lt = continues_after more r k (omega arith)

rests_after : (w : Watching) (closed : List ℕ) (s : ℕ) (r : Run) (set : ℕ) → Rests w (reached w s closed) r set → Rests w s (after_closed closed r) set
rests_after w [] s r set rests = rests
rests_after w (a ∷ more) s r set rests = rests_ahead w s a (after_closed more r) set (rests_after w more (w.next s a) r set rests)

-- A run that continues the closed steps passes the state that they reach.
passed_closed : (w : Watching) (closed : List ℕ) (s : ℕ) (r : Run) → Continues closed r → passed_from w s r (length closed) ≡ reached w s closed
passed_closed w [] s r c = refl
passed_closed w (a ∷ more) s r c =
    let one_on : suc (length more) ≡ 1 + length more = omega arith in
    let more-on : Continues more (later 1 r) = λ k lt. (let e : 1 + k ≡ suc k = omega arith in ap r e) ∙ c (suc k) (omega arith) in
    ap (λ (k : ℕ). passed_from w s r k) one_on
    ∙ passed_later w s r 1 (length more)
    ∙ ap (λ (b : ℕ). passed_from w (w.next s b) (later 1 r) (length more)) (c 0 (omega arith))
    ∙ passed_closed w more (w.next s a) (later 1 r) more-on

rests_later : (w : Watching) (s : ℕ) (r : Run) (n set : ℕ) → Rests w s r set → Rests w (passed_from w s r n) (later n r) set
rests_later w s r n set rests =
    (rests.0, λ j le. ap w.shown (sym (passed_later w s r n j)) ∙ rests.1 (n + j) (omega arith))

reached_within : (w : Watching) → Lawful w → (closed : List ℕ) (s : ℕ) → s < w.states → reached w s closed < w.states
reached_within w law [] s lt = lt
reached_within w law (a ∷ more) s lt = reached_within w law more (w.next s a) (law.next_within s a)

some_letter : (g : ℕ) → 0 < letter_count g
some_letter g = one-le-pow g digits (omega arith)

false_is_true : {P : Type 0} → false ≡ true → P
false_is_true e = absurd (both_ways false refl e)

-- What the two tables say of a state, put together.
by_tables : {w : Watching} {f : Formula} {closed : List ℕ} (k b : Bool) → Exactly (k ≡ false) (NoneKeeps w f closed)
    → Exactly (b ≡ false) (NoneBreaks w f closed) → (k ≡ false → b ≡ false → ⊥) → RightWord w f closed (word_of k b)
by_tables true true x y no-two = record {
  violated = record { then = λ e. absurd (let z : ◌≡◌ {A = ℕ} 0 1 = cc in omega arith); back = λ n. false_is_true (sym (x.back n)) };
  satisfied = record { then = λ e. absurd (let z : ◌≡◌ {A = ℕ} 0 1 = cc in omega arith); back = λ n. false_is_true (sym (y.back n)) };
}
by_tables true false x y no-two = record {
  violated = record { then = λ e. absurd (let z : ◌≡◌ {A = ℕ} 0 1 = cc in omega arith); back = λ n. false_is_true (sym (x.back n)) };
  satisfied = record { then = λ e. y.then refl; back = λ n. refl };
}
by_tables false true x y no-two = record {
  violated = record { then = λ e. x.then refl; back = λ n. refl };
  satisfied = record { then = λ e. absurd (let z : ◌≡◌ {A = ℕ} 0 1 = cc in omega arith); back = λ n. false_is_true (sym (y.back n)) };
}
by_tables false false x y no-two = absurd (no-two refl refl)

module _ (w : Watching) (law : Lawful w) (f : Formula) (outlook : Outlook) (t : Foretells w f outlook) (closed : List ℕ) (spelled : Spelled w.events closed) where
  abbrev state : ℕ
  state = reached w w.start closed

  state_within : state < w.states
  state_within = reached_within w law closed w.start law.start_within

  -- A set at which a run rests is one that some state shows.
  rests_byte : (s : ℕ) (r : Run) (set : ℕ) → Rests w s r set → set < 256
  rests_byte s r set rests = subst (λ (x : ℕ). x < 256) (rests.1 rests.0 (omega arith)) (shown_byte w law (passed_from w s r rests.0))

  module _ (v : Bool) (table : ℕ → Bool) (q : Foresees w t.good v table) where
    -- Where the table says no, no continuation comes to rest at the value v.
    none_rests : table state ≡ false → (r : Run) → Over w.events r → Continues closed r → (set : ℕ) → Rests w w.start r set → eval f set ≡ v → ⊥
    none_rests out r over c set rests e =
        let there = subst (λ (s : ℕ). Rests w s (later (length closed) r) set) (passed_closed w closed w.start r c) (rests_later w w.start r (length closed) set rests) in
        both_ways _ out (q.all state state_within (later (length closed) r) (λ k. over (length closed + k)) set there (t.values set (rests_byte w.start r set rests) ∙ e))

    -- Where it says yes, some continuation does.
    some_rests : table state ≡ true → (r : Run) × Over w.events r × Continues closed r × (set : ℕ) × Rests w w.start r set × (eval f set ≡ v)
    some_rests in_table =
        let x = q.some state state_within in_table in (
          after_closed closed x.0,
          over_after w.events closed x.0 spelled x.1,
          continues_after closed x.0,
          x.2,
          rests_after w closed w.start x.0 x.2 x.3,
          sym (t.values x.2 (rests_byte state x.0 x.2 x.3)) ∙ x.4,
        )

  abbrev keepable : ℕ → Bool
  keepable = at outlook.keepable

  abbrev breakable : ℕ → Bool
  breakable = at outlook.breakable

  none_keeps : Exactly (keepable state ≡ false) (NoneKeeps w f closed)
  none_keeps = record {
    then = λ out r over c keeps.
        rests_somewhere w law w.start law.start_within r over
        (λ set rests. none_rests true keepable t.keeps out r over c set rests ((keeps_at_rest w law r over set rests f).1 keeps));
    back = λ none.
        ⊎_elim (λ e. let x = some_rests true keepable t.keeps e in absurd (none x.0 x.1 x.2 ((keeps_at_rest w law x.0 x.1 x.3 x.4 f).0 x.5)))
        (λ e. e) (cases_Bool (keepable state));
  }

  none_breaks : Exactly (breakable state ≡ false) (NoneBreaks w f closed)
  none_breaks = record {
    then = λ out r over c breaks.
        rests_somewhere w law w.start law.start_within r over
        (λ set rests.
        ⊎_elim (λ e. breaks ((keeps_at_rest w law r over set rests f).0 e))
        (λ e. none_rests false breakable t.breaks out r over c set rests e) (cases_Bool (eval f set)));
    back = λ none.
        ⊎_elim
        (λ e. let x = some_rests false breakable t.breaks e in
        absurd (none x.0 x.1 x.2 (λ keeps. both_ways _ x.5 ((keeps_at_rest w law x.0 x.1 x.3 x.4 f).1 keeps))))
        (λ e. e) (cases_Bool (breakable state));
  }

  -- Some continuation exists, and it keeps the terms or breaks them.
  not_neither : keepable state ≡ false → breakable state ≡ false → ⊥
  not_neither no-keep no-break =
      let r : Run = after_closed closed (λ _. 0) in
      let over : Over w.events r = over_after w.events closed _ spelled (λ _. some_letter _) in
      let c : Continues closed r = continues_after closed _ in
      rests_somewhere w law w.start law.start_within r over
      (λ set rests.
      ⊎_elim (none_rests true keepable t.keeps no-keep r over c set rests) (none_rests false breakable t.breaks no-break r over c set rests)
      (cases_Bool (eval f set)))

  pub right_word : RightWord w f closed (word_of (keepable state) (breakable state))
  right_word = by_tables (keepable state) (breakable state) none_keeps none_breaks not_neither
