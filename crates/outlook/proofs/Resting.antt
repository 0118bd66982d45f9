-- From what is known of a finished table to what it foretells: runs that rest are built, and no run rests at a state that dies.
use Rattle.std.proofs.Common.{◌≡◌, ℕ, zero, suc, ◌<◌, ◌≤◌, Bool, false, List, sym, refl, ap, ◌∙◌, subst, ⊎_elim, arith}
use Rattle.std.proofs.lemmas.Bool.{cases_Bool, both_ways}
use Rattle.watch.specs.Letters.{letter_count}
use Rattle.watch.specs.Watchers.{Watching, Lawful}
use Rattle.watch.specs.Runs.{Run, Over, passed_from}
use Rattle.outlook.specs.Outlooks.{at, Rests, Foresees}
use Rattle.outlook.specs.inner.Ways.{Reaches, here, step, Leads, Returns, Stays, Dies, dies, Known}
use Rattle.outlook.proofs.Ways.{leads_on, leads_step, same_shown}

-- One letter, then the run.
abbrev pub ahead : ℕ → Run → Run
ahead a r zero = a
ahead a r (suc k) = r k

pub over_ahead : (g a : ℕ) (r : Run) → a < letter_count g → Over g r → Over g (ahead a r)
over_ahead g a r lt over zero = lt
over_ahead g a r lt over (suc k) = over k

passed_ahead : (w : Watching) (s a : ℕ) (r : Run) (k : ℕ) → passed_from w s (ahead a r) (suc k) ≡ passed_from w (w.next s a) r k
passed_ahead w s a r zero = refl
passed_ahead w s a r (suc k) = ap (λ (t : ℕ). w.next t (r k)) (passed_ahead w s a r k)

pub rests_ahead : (w : Watching) (s a : ℕ) (r : Run) (set : ℕ) → Rests w (w.next s a) r set → Rests w s (ahead a r) set
rests_ahead w s a r set rests = (suc rests.0, onward)
  where
    onward : (k : ℕ) → suc rests.0 ≤ k → w.shown (passed_from w s (ahead a r) k) ≡ set
    onward zero le = absurd (omega arith)
    onward (suc k) le = ap w.shown (passed_ahead w s a r k) ∙ rests.1 k (omega arith)

module _ (w : Watching) (law : Lawful w) where
  -- Round and round: from a state back to it, for ever.
  module _ (t : ℕ) (within : t < w.states) (round : Returns w t) where
    abbrev chosen : {u : ℕ} → Leads w u t → ℕ
    chosen (here e) = round.0
    chosen (step a lt rest) = a

    is_letter : {u : ℕ} (way : Leads w u t) → chosen way < letter_count w.events
    is_letter (here e) = round.1
    is_letter (step a lt rest) = lt

    abbrev onward : {u : ℕ} (way : Leads w u t) → Leads w (w.next u (chosen way)) t
    onward (here {s = s} e) = subst (λ (z : ℕ). Leads w (w.next z round.0) t) (sym e) round.2
    onward (step a lt rest) = rest

    -- A state of the round.
    abbrev Place : Type 0
    Place = (u : ℕ) × Leads w t u × Leads w u t

    abbrev after : Place → Place
    after p = (w.next p.0 (chosen p.2), leads_on w t p.0 _ p.1 (leads_step w p.0 _ (is_letter p.2)), onward p.2)

    abbrev place : ℕ → Place
    place zero = (t, here refl, here refl)
    place (suc k) = after (place k)

    abbrev for_ever : Run
    for_ever k = chosen (place k).2

    stands : (k : ℕ) → passed_from w t for_ever k ≡ (place k).0
    stands zero = refl
    stands (suc k) = ap (λ (u : ℕ). w.next u (for_ever k)) (stands k)

    over_for_ever : Over w.events for_ever
    over_for_ever k = is_letter (place k).2

    rests_for_ever : Rests w t for_ever (w.shown t)
    rests_for_ever = (0, λ k le. ap w.shown (stands k) ∙ sym (same_shown w law t (place k).0 within (place k).1 (place k).2))

  -- A state that reaches such a round comes to rest there.
  comes : (good : List Bool) (v : Bool) {s : ℕ} → Reaches w (Stays w good v) s → (r : Run) × Over w.events r × (set : ℕ) × Rests w s r set × (at good set ≡ v)
  comes good v (here {s = s} e) =
      (for_ever s e.0 e.1, over_for_ever s e.0 e.1, w.shown s, rests_for_ever s e.0 e.1, e.2)
  comes good v (step {s = s} a lt rest) =
      let x = comes good v rest in
      (ahead a x.0, over_ahead _ a _ lt x.1, x.2, rests_ahead w s a _ _ x.3, x.4)

  -- A run that rests from step k on is not at a state that dies.
  not_dying : (from : ℕ) (r : Run) → Over w.events r → {s : ℕ} → Dies w s → (k set : ℕ) → passed_from w from r k ≡ s → ((j : ℕ) → k ≤ j → w.shown (passed_from w from r j) ≡ set) → ⊥
  not_dying from r over (dies {s = s} each) k set there rests =
      let beyond : passed_from w from r (suc k) ≡ w.next s (r k) = ap (λ (t : ℕ). w.next t (r k)) there in
      let same : w.shown (w.next s (r k)) ≡ w.shown s = ap w.shown (sym beyond) ∙ (rests (suc k) (omega arith) ∙ (sym (rests k (omega arith)) ∙ ap w.shown there)) in
      not_dying from r over (each (r k) (over k) same) (suc k) set beyond (λ j le. rests j (omega arith))

  passed_within : (s : ℕ) (r : Run) (k : ℕ) → s < w.states → passed_from w s r k < w.states
  passed_within s r zero below = below
  passed_within s r (suc k) below = law.next_within _ _

  module _ (good : List Bool) (v : Bool) (table : List Bool) (known : Known w good v table) where
    -- Where the table says no, it says no ever after.
    stays_out : (s : ℕ) (r : Run) → Over w.events r → s < w.states → at table s ≡ false → (k : ℕ) → at table (passed_from w s r k) ≡ false
    stays_out s r over below out zero = out
    stays_out s r over below out (suc k) =
        ⊎_elim (λ e. absurd (both_ways _ (stays_out s r over below out k) (known.closed _ (r k) (passed_within s r k below) (over k) e))) (λ e. e) (cases_Bool (at table (passed_from w s r (suc k))))

    pub foresees : Foresees w good v (at table)
    foresees = record {
      some = λ s below e. comes good v (known.sound s e);
      all = λ s below r over set rests e. ⊎_elim (λ is. is) (λ no-v. absurd (never s below r over set rests e no-v)) (cases_Bool (at table s));
      beyond = λ s le. ⊎_elim (λ e. absurd (omega (arith, le, known.inside s e))) (λ e. e) (cases_Bool (at table s));
    }
      where
        never : (s : ℕ) → s < w.states → (r : Run) → Over w.events r → (set : ℕ) → Rests w s r set → at good set ≡ v → at table s ≡ false → ⊥
        never s below r over set rests e no-v =
            let k : ℕ = rests.0 in
            not_dying s r over (known.fades (passed_from w s r k) (passed_within s r k below) (ap (at good) (rests.1 k (omega arith)) ∙ e) (stays_out s r over below no-v k)) k set refl rests.1
