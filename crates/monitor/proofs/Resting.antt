-- On every endless run the marks come to rest, and there the formula has the value that it has on the run.
-- Assumes nothing.
use Rattle.std.proofs.Common.{◌≡◌, ℕ, zero, suc, ◌+◌, ◌-◌, ◌^◌, ◌<◌, ◌≤◌, Decides, sym, ap, ◌∙◌, subst, ⊎_elim, add-zero, add-suc, arith}
use Rattle.std.proofs.lemmas.Bool.{cases_eq}
use Rattle.watch.specs.Exactly.{Exactly}
use Rattle.watch.specs.Marks.{Has}
use Rattle.watch.specs.Runs.{Run, Over, passed_from, later, Holds}
use Rattle.watch.specs.Watchers.{Watching, Lawful}
use Rattle.watch.proofs.Subsets.{subset_le}
use Rattle.expression.specs.Formulas.{Formula, term, not, and, or, implies, TrueOf}
use Rattle.expression.specs.Values.{eval}
use Rattle.expression.proofs.Truths.{decides_truth}
use Rattle.outlook.specs.Outlooks.{Rests}
use Rattle.monitor.specs.Keeping.{Keeps}

-- A number that only grows, and stays below a bound, comes to rest; it is not said when.
comes_to_rest : (f : ℕ → ℕ) (bound : ℕ) → ((i j : ℕ) → i ≤ j → f i ≤ f j) → ((i : ℕ) → f i < bound) → (room n : ℕ) → bound ≤ f n + room
    → ((k : ℕ) → ((j : ℕ) → k ≤ j → f j ≡ f k) → ⊥) → ⊥
comes_to_rest f bound grows below zero n enough never = omega (arith, below n)
comes_to_rest f bound grows below (suc room) n enough never =
    never n (λ j le.
    ⊎_elim (λ e. e)
    (λ ne. absurd (comes_to_rest f bound grows below room j (omega (arith, grows n j le, ne)) never))
    (cases_eq (f j) (f n)))

-- Where the same terms hold, the same formulas are true.
same_truth : (P Q : ℕ → Type 0) → ((i : ℕ) → Exactly (P i) (Q i)) → (f : Formula) → Exactly (TrueOf P f) (TrueOf Q f)
same_truth P Q same (term i) = same i
same_truth P Q same (not f) =
    let x = same_truth P Q same f in
    record { then = λ n q. n (x.back q); back = λ n p. n (x.then p) }
same_truth P Q same (and f g) =
    let x = same_truth P Q same f in
    let y = same_truth P Q same g in
    record { then = λ p. (x.then p.0, y.then p.1); back = λ q. (x.back q.0, y.back q.1) }
same_truth P Q same (or f g) =
    let x = same_truth P Q same f in
    let y = same_truth P Q same g in
    record {
      then = λ e no-f no-g. e (λ p. no-f (x.then p)) (λ p. no-g (y.then p));
      back = λ e no-f no-g. e (λ q. no-f (x.back q)) (λ q. no-g (y.back q));
    }
same_truth P Q same (implies f g) =
    let x = same_truth P Q same f in
    let y = same_truth P Q same g in
    record { then = λ k q. y.then (k (x.back q)); back = λ k p. y.back (k (x.then p)) }

-- Later steps of a run are the steps of the later run.
pub passed_later : (w : Watching) (s : ℕ) (r : Run) (n k : ℕ) → passed_from w s r (n + k) ≡ passed_from w (passed_from w s r n) (later n r) k
passed_later w s r n zero = ap (λ (j : ℕ). passed_from w s r j) (add-zero n)
passed_later w s r n (suc k) =
    ap (λ (j : ℕ). passed_from w s r j) (add-suc n k) ∙ ap (λ (t : ℕ). w.next t (r (n + k))) (passed_later w s r n k)

module _ (w : Watching) (law : Lawful w) (s : ℕ) (within : s < w.states) (r : Run) (over : Over w.events r) where
  pub stays_within : (k : ℕ) → passed_from w s r k < w.states
  stays_within zero = within
  stays_within (suc k) = law.next_within (passed_from w s r k) (r k)

  -- A mark that was shown stays.
  has_later : (i k j : ℕ) → Has i (w.shown (passed_from w s r k)) → Has i (w.shown (passed_from w s r (k + j)))
  has_later i k zero h = subst (λ (n : ℕ). Has i (w.shown (passed_from w s r n))) (sym (add-zero k)) h
  has_later i k (suc j) h =
      subst (λ (n : ℕ). Has i (w.shown (passed_from w s r n))) (sym (add-suc k j))
      (law.marks_stay _ _ i (stays_within (k + j)) (over (k + j)) (has_later i k j h))

  pub has_still : (i k j : ℕ) → k ≤ j → Has i (w.shown (passed_from w s r k)) → Has i (w.shown (passed_from w s r j))
  has_still i k j le h =
      let e : k + (j - k) ≡ j = omega arith in
      subst (λ (n : ℕ). Has i (w.shown (passed_from w s r n))) e (has_later i k (j - k) h)

  shown_grows : (k j : ℕ) → k ≤ j → w.shown (passed_from w s r k) ≤ w.shown (passed_from w s r j)
  shown_grows k j le = subset_le w.marks _ _ (law.shown_within _) (λ i. has_still i k j le)

  -- The run comes to rest at some set of marks.
  pub rests_somewhere : ((set : ℕ) → Rests w s r set → ⊥) → ⊥
  rests_somewhere never =
      comes_to_rest (λ j. w.shown (passed_from w s r j)) (2 ^ w.marks) shown_grows (λ i. law.shown_within _) (2 ^ w.marks) 0 (omega arith)
      (λ k rests. never (w.shown (passed_from w s r k)) (k, rests))

module _ (w : Watching) (law : Lawful w) (r : Run) (over : Over w.events r) (set : ℕ) (rests : Rests w w.start r set) where
  -- A term holds on the run exactly when its mark is not among those at rest.
  holds_unmarked : (i : ℕ) → Exactly (Has i set → ⊥) (Holds w r i)
  holds_unmarked i = record {
    then = λ lacks k h.
        let far : k ≤ k + rests.0 = omega arith in
        let at_rest : rests.0 ≤ k + rests.0 = omega arith in
        lacks (subst (Has i) (rests.1 (k + rests.0) at_rest) (has_still w law w.start law.start_within r over i k (k + rests.0) far h));
    back = λ holds has. holds rests.0 (subst (Has i) (sym (rests.1 rests.0 (omega arith))) has);
  }

  -- The run keeps the terms exactly when the formula is true at the marks at rest.
  pub keeps_at_rest : (f : Formula) → Decides (eval f set) (Keeps w f r)
  keeps_at_rest f =
      let same = same_truth (λ i. Has i set → ⊥) (Holds w r) holds_unmarked f in
      let d = decides_truth set f in
      (λ e. same.then (d.0 e), λ keeps. d.1 (same.back keeps))
