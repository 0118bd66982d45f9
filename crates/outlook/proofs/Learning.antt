-- More is known of states on the path.
use Rattle.std.proofs.Common.{◌≡◌, ℕ, ◌<◌, Bool, true, cond, ◌⊎◌, List, length, subst, inl, inr, ⊎_elim}
use Rattle.std.proofs.lemmas.Bool.{both_ways}
use Rattle.watch.specs.Watchers.{Watching}
use Rattle.outlook.specs.Outlooks.{at}
use Rattle.outlook.specs.inner.Ways.{Reaches, Stays}
use Rattle.outlook.specs.inner.Searching.{Memory, known, Held, Gone, Searching, learned}
use Rattle.outlook.proofs.Basics.{out}

module _ (w : Watching) (good : List Bool) (x : Memory) (ok : Searching w good x) (keepable breakable : List Bool) where
  abbrev newly : Bool → ℕ → Bool
  newly v z = at (cond v keepable breakable) z

  pub learn_ok : length keepable ≡ 16384 → length breakable ≡ 16384 → ((v : Bool) (z : ℕ) → known x v z ≡ true → newly v z ≡ true) → ((v : Bool) (z : ℕ) → newly v z ≡ true → (known x v z ≡ true) ⊎ (((k : ℕ) × Held x k z) × Reaches w (Stays w good v) z)) → Searching w good (learned x keepable breakable)
  learn_ok long-k long-b kept only = record {
    sized = record { keepable = long-k; breakable = long-b; seen = ok.sized.seen; cursor = ok.sized.cursor; path = ok.sized.path; place = ok.sized.place; resume = ok.sized.resume; bounds = ok.sized.bounds };
    room = ok.room;
    top = ok.top;
    empty = ok.empty;
    within = ok.within;
    was_seen = ok.was_seen;
    placed = ok.placed;
    first = ok.first;
    rising = ok.rising;
    apart = ok.apart;
    below = ok.below;
    leads = ok.leads;
    resume_le = ok.resume_le;
    resume_in = ok.resume_in;
    spent = ok.spent;
    passed = ok.passed;
    tried = λ j lt a letter. ⊎_elim (λ g. inl (g.0, λ v e. kept v _ (g.1 v (back v _ g.0 e)))) (λ h. inr (h.0, h.1, h.2, h.3, λ e. kept _ _ (h.4 e))) (ok.tried j lt a letter);
    closed = λ s a g letter. let c = ok.closed s a g letter in (c.0, λ v e. kept v s (c.1 v (back v _ c.0 e)));
    inside = λ v s e. ⊎_elim (ok.inside v s) (λ h. subst (λ (z : ℕ). z < w.states) h.0.1.1 (ok.within h.0.0 h.0.1.0)) (only v s e);
    sound = λ v s e. ⊎_elim (ok.sound v s) (λ h. h.1) (only v s e);
    cyclic = λ j lt ne. let c = ok.cyclic j lt ne in (c.0, c.1, c.2, c.3, kept _ _ c.4);
    fades = λ s g e. ok.fades s g (out _ (λ was. both_ways _ e (kept _ s was)));
    fresh = ok.fresh;
  }
    where
      -- Of what is gone nothing new is known.
      back : (v : Bool) (z : ℕ) → Gone x z → newly v z ≡ true → known x v z ≡ true
      back v z g e = ⊎_elim (λ was. was) (λ h. absurd (g.1 h.0.0 h.0.1)) (only v z e)
