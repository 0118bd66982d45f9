-- A place whose state has no letter left is left: for the place that it was taken from, and with its group where it is the group's first.
use Rattle.std.proofs.Common.{◌≡◌, ℕ, ◌+◌, ◌<◌, ◌≤◌, Bool, true, false, ◌⊎◌, List, sym, ap, ◌∙◌, subst, inl, inr, ⊎_elim, arith}
use Rattle.std.proofs.lemmas.Bool.{cases_eq, cases_lt, both_ways}
use Rattle.watch.specs.Letters.{letter_count}
use Rattle.watch.specs.Watchers.{Watching, Lawful}
use Rattle.outlook.specs.Outlooks.{at}
use Rattle.outlook.specs.inner.Ways.{value, Dies, dies}
use Rattle.outlook.specs.inner.Tables.{item}
use Rattle.outlook.specs.inner.Searching.{Memory, on, bound, known, Held, Gone, Inward, Spent, Searching, stood}
use Rattle.outlook.proofs.Basics.{out, unique, leads_last, gone_or_held}
use Rattle.outlook.proofs.Ways.{same_shown}

module _ (w : Watching) (law : Lawful w) (good : List Bool) (x : Memory) (ok : Searching w good x) (p : ℕ) (is : x.here ≡ p + 1) (done : Spent w x (on x p)) where
  under : p < x.depth
  under = omega (arith, ok.top)

  all_spent : (j : ℕ) → p ≤ j → j < x.depth → Spent w x (on x j)
  all_spent j le lt =
      ⊎_elim (λ e. subst (λ (n : ℕ). Spent w x (on x n)) (sym e) done) (λ ne. ok.spent j (omega (arith, ne)) lt) (cases_eq j p)

  -- The place is inside its group.
  pub back_ok : ((i : ℕ) → i < x.groups → bound x i < p) → Searching w good (stood x x.depth x.groups (item x.resume p))
  back_ok inside = record {
    sized = record { keepable = ok.sized.keepable; breakable = ok.sized.breakable; seen = ok.sized.seen; cursor = ok.sized.cursor; path = ok.sized.path; place = ok.sized.place; resume = ok.sized.resume; bounds = ok.sized.bounds };
    room = ok.room;
    top = omega (arith, ok.resume_le p under, under);
    empty = λ e. let f = ok.first (omega (arith, under)) in absurd (omega (arith, e, f.1, ok.resume_in 0 p f.0 under (inside 0 f.0)));
    within = ok.within;
    was_seen = ok.was_seen;
    placed = ok.placed;
    first = ok.first;
    rising = ok.rising;
    apart = ok.apart;
    below = λ i some. ok.resume_in i p some under (inside i some);
    leads = ok.leads;
    resume_le = ok.resume_le;
    resume_in = ok.resume_in;
    spent = λ j le lt. ⊎_elim (λ less. ok.passed p j under le less) (λ more. all_spent j more lt) (cases_lt j p);
    passed = ok.passed;
    tried = ok.tried;
    closed = ok.closed;
    inside = ok.inside;
    sound = ok.sound;
    cyclic = ok.cyclic;
    fades = ok.fades;
    fresh = ok.fresh;
  }

  -- The place is the first of the last group, and the group knows as much as each of its states.
  module _ (m : ℕ) (count : x.groups ≡ m + 1) (start : bound x m ≡ p) (even : (v : Bool) (j k : ℕ) → p ≤ j → j < x.depth → p ≤ k → k < x.depth → known x v (on x j) ≡ true → known x v (on x k) ≡ true) where
    abbrev y : Memory
    y = stood x p m (item x.resume p)

    at_last : (j : ℕ) → p ≤ j → (i : ℕ) → i < x.groups → bound x i ≤ j
    at_last j le i some = omega (arith, ok.below i some, is, le)

    before : (i : ℕ) → i < m → bound x i < p
    before i some = omega (arith, ok.rising i m some (omega arith), start)

    -- Inside the last group every place leads to every other.
    same_marks : (j k : ℕ) → p ≤ j → j < x.depth → p ≤ k → k < x.depth → w.shown (on x j) ≡ w.shown (on x k)
    same_marks j k a b c e =
        same_shown w law (on x j) (on x k) (ok.within j b) (leads_last w law good x ok j k b e (at_last k c)) (leads_last w law good x ok k j e b (at_last j a))

    gone_on : (z : ℕ) → Gone x z → Gone y z
    gone_on z g = (g.0, λ k h. g.1 k (omega (arith, h.0, under), h.1))

    gone_held : (k z : ℕ) → p ≤ k → Held x k z → Gone y z
    gone_held k z le h =
        (ap (at x.seen) (sym h.1) ∙ ok.was_seen k h.0, λ i g. omega (arith, g.0, unique w law good x ok i k (omega (arith, g.0, under)) h.0 (g.1 ∙ sym h.1)))

    split : (z : ℕ) → Gone y z → Gone x z ⊎ ((k : ℕ) × (p ≤ k) × Held x k z)
    split z g =
        ⊎_elim (λ was. inl was) (λ h. inr (item x.place z, ⊎_elim (λ low. absurd (g.1 _ (low, h.1))) (λ le. le) (cases_lt (item x.place z) p), h)) (gone_or_held w law good x ok z g.0)

    inward : (j k : ℕ) → j < p → ((i : ℕ) → i < m → bound x i ≤ j → bound x i ≤ k) → Inward x j k
    inward j k low into i some le =
        ⊎_elim (λ e. absurd (omega (arith, ap (bound x) e, start, le))) (λ ne. into i (omega (arith, ne)) le) (cases_eq i m)

    -- A letter of the group leads to what is gone now.
    closed_held : (k s a : ℕ) → p ≤ k → Held x k s → a < letter_count w.events → Gone y (w.next s a) × ((v : Bool) → known x v (w.next s a) ≡ true → known x v s ≡ true)
    closed_held k s a le h letter =
        subst (λ (z : ℕ). Gone y (w.next z a) × ((v : Bool) → known x v (w.next z a) ≡ true → known x v z ≡ true)) h.1 (⊎_elim (λ g. (gone_on _ g.0, g.1)) (λ n. let high : p ≤ n.0 = omega (arith, start, n.2 m (omega arith) (omega (arith, start, le))) in (gone_held n.0 _ high n.1, λ v e. even v n.0 k high n.1.0 le h.0 (ap (known x v) n.1.1 ∙ e))) (ok.tried k h.0 a (omega (arith, letter, all_spent k le h.0))))

    -- A group whose own marks are not known to be kept is one state, which does not lead to itself.
    group_fades : (k : ℕ) → p ≤ k → k < x.depth → known x (value w good (on x k)) (on x k) ≡ false → Dies w (on x k)
    group_fades k le lt no_own = ⊎_elim many single (cases_lt (p + 1) x.depth)
      where
        many : p + 1 < x.depth → Dies w (on x k)
        many more =
            let c = ok.cyclic (p + 1) more (λ i some e. omega (arith, e, at_last p (omega arith) i some)) in
            let high : p ≤ c.0 = omega (arith, start, c.2 m (omega arith) (omega (arith, start))) in
            absurd (both_ways _ no_own (even _ c.0 k high c.1 le lt (subst (λ (v : Bool). known x v (on x c.0) ≡ true) (ap (at good) (same_marks c.0 k high c.1 le lt)) c.4)))

        single : x.depth ≤ p + 1 → Dies w (on x k)
        single few = dies each
          where
            each : (a : ℕ) → a < letter_count w.events → w.shown (w.next (on x k) a) ≡ w.shown (on x k) → Dies w (w.next (on x k) a)
            each a letter same =
                ⊎_elim (λ g. ok.fades _ g.0 (out _ (λ e. both_ways _ no_own (g.1 _ (subst (λ (v : Bool). known x v (w.next (on x k) a) ≡ true) (ap (at good) same) e))))) (λ n. absurd (both_ways _ no_own (n.4 (omega (arith, n.1.0, few, le, lt, start, n.2 m (omega arith) (omega (arith, start, le))))))) (ok.tried k lt a (omega (arith, letter, all_spent k le lt)))

    pub leave_ok : ((v : Bool) (q : ℕ) → item x.resume p ≡ q + 1 → known x v (on x p) ≡ true → known x v (on x q) ≡ true) → Searching w good (stood x p m (item x.resume p))
    leave_ok told = record {
      sized = record { keepable = ok.sized.keepable; breakable = ok.sized.breakable; seen = ok.sized.seen; cursor = ok.sized.cursor; path = ok.sized.path; place = ok.sized.place; resume = ok.sized.resume; bounds = ok.sized.bounds };
      room = omega (arith, ok.room, under);
      top = ok.resume_le p under;
      empty = λ e. ⊎_elim (λ deep. let f = ok.first (omega (arith, under)) in absurd (omega (arith, e, f.1, ok.resume_in 0 p f.0 under (omega (arith, f.1, deep))))) (λ flat. omega (arith, flat)) (cases_lt 0 p);
      within = λ j lt. ok.within j (omega (arith, under));
      was_seen = λ j lt. ok.was_seen j (omega (arith, under));
      placed = λ j lt. ok.placed j (omega (arith, under));
      first = λ deep. let f = ok.first (omega (arith, under)) in (⊎_elim (λ e. absurd (omega (arith, deep, ap (bound x) e, start, f.1))) (λ ne. omega (arith, ne)) (cases_eq m 0), f.1);
      rising = λ i j less some. ok.rising i j less (omega (arith, count));
      apart = λ i some. ok.apart i (omega (arith, count));
      below = λ i some. ok.resume_in i p (omega (arith, count)) under (before i some);
      leads = λ j k a b into. ok.leads j k (omega (arith, under)) (omega (arith, under)) (inward j k a into);
      resume_le = λ q lt. ok.resume_le q (omega (arith, under));
      resume_in = λ i q some lt. ok.resume_in i q (omega (arith, count)) (omega (arith, under));
      spent = λ j le lt. ok.passed p j under le lt;
      passed = λ q j lt. ok.passed q j (omega (arith, under));
      tried = λ j lt a letter. ⊎_elim (λ g. inl (gone_on _ g.0, g.1)) (λ h. ⊎_elim (λ low. inr (h.0, (low, h.1.1), λ i some. h.2 i (omega (arith, count)), λ i some. h.3 i (omega (arith, count)), h.4)) (λ high. let o = h.3 m (omega (arith, count)) (omega (arith, start, high)) (omega (arith, start, lt)) in let e : h.0 ≡ p = omega (arith, o.0, start) in inl (gone_held h.0 _ high h.1, λ v was. told v j (sym (ap (item x.resume) e) ∙ o.1) (ap (λ (n : ℕ). known x v (on x n)) (sym e) ∙ (ap (known x v) h.1.1 ∙ was)))) (cases_lt h.0 p)) (ok.tried j (omega (arith, under, lt)) a letter);
      closed = λ s a g letter. ⊎_elim (λ was. let c = ok.closed s a was letter in (gone_on _ c.0, c.1)) (λ h. closed_held h.0 s a h.1 h.2 letter) (split s g);
      inside = ok.inside;
      sound = ok.sound;
      cyclic = λ j lt free. let c = ok.cyclic j (omega (arith, under, lt)) (λ i some e. ⊎_elim (λ last. omega (arith, ap (bound x) last, start, e, lt)) (λ ne. free i (omega (arith, ne, count, some)) e) (cases_eq i m)) in (c.0, ⊎_elim (λ low. low) (λ high. absurd (omega (arith, lt, start, c.3 m (omega (arith, count)) (omega (arith, start, high))))) (cases_lt c.0 p), λ i some. c.2 i (omega (arith, count)), λ i some. c.3 i (omega (arith, count)), c.4);
      fades = λ s g e. ⊎_elim (λ was. ok.fades s was e) (λ h. subst (Dies w) h.2.1 (group_fades h.0 h.1 h.2.0 (subst (λ (z : ℕ). known x (value w good z) z ≡ false) (sym h.2.1) e))) (split s g);
      fresh = ok.fresh;
    }
