-- Groups are joined: a letter of the place that is looked at leads back to an earlier group.
use Rattle.std.proofs.Common.{◌≡◌, ℕ, zero, suc, ◌+◌, ◌<◌, ◌≤◌, Bool, List, sym, ap, ◌∙◌, subst, inl, inr, ⊎_elim, arith}
use Rattle.std.proofs.lemmas.Bool.{cases_eq, cases_lt}
use Rattle.watch.specs.Watchers.{Watching, Lawful}
use Rattle.outlook.specs.inner.Ways.{Leads}
use Rattle.outlook.specs.inner.Searching.{Memory, on, bound, Own, Inward, Searching, stood}
use Rattle.outlook.proofs.Basics.{leads_here}
use Rattle.outlook.proofs.Ways.{leads_on}

module _ (w : Watching) (law : Lawful w) (good : List Bool) (x : Memory) (ok : Searching w good x) where
  -- The last group becomes part of the one before. Place t is looked at, and leads to place k before the last group.
  pub join_ok : (m t k : ℕ) → x.groups ≡ m + 1 → x.here ≡ t + 1 → k < x.depth → k < bound x m → Leads w (on x t) (on x k) → Own w good x (on x t) → Searching w good (stood x x.depth m x.here)
  join_ok m t k count is under before way own = record {
    sized = record { keepable = ok.sized.keepable; breakable = ok.sized.breakable; seen = ok.sized.seen; cursor = ok.sized.cursor; path = ok.sized.path; place = ok.sized.place; resume = ok.sized.resume; bounds = ok.sized.bounds };
    room = ok.room;
    top = ok.top;
    empty = ok.empty;
    within = ok.within;
    was_seen = ok.was_seen;
    placed = ok.placed;
    first = λ deep. (⊎_elim (λ e. absurd (omega (arith, ap (bound x) e, (ok.first deep).1, before))) (λ ne. omega (arith, ne)) (cases_eq m 0), (ok.first deep).1);
    rising = λ i j less some. ok.rising i j less (omega arith);
    apart = λ i some. ok.apart i (omega arith);
    below = λ i some. ok.below i (omega arith);
    leads = λ j n a b into. ⊎_elim (λ low. ⊎_elim (λ lt. ok.leads j n a b (all_inward j n into (λ le. absurd (omega (arith, le, lt))))) (λ high. round j n a b into low high) (cases_lt j (bound x m))) (λ le. ok.leads j n a b (all_inward j n into (λ _. le))) (cases_lt n (bound x m));
    resume_le = ok.resume_le;
    resume_in = λ i p some. ok.resume_in i p (omega arith);
    spent = ok.spent;
    passed = ok.passed;
    tried = λ j lt a letter. ⊎_elim (λ g. inl g) (λ h. inr (h.0, h.1, λ i some. h.2 i (omega arith), λ i some. h.3 i (omega arith), h.4)) (ok.tried j lt a letter);
    closed = ok.closed;
    inside = ok.inside;
    sound = ok.sound;
    cyclic = λ j lt free. ⊎_elim (λ e. (t, omega (arith, ok.top, is), λ i some _. omega (arith, ok.below i (omega arith), is), λ i some _. omega (arith, e, ok.rising i m some (omega arith)), own)) (λ ne. let c = ok.cyclic j lt (λ i some e. ⊎_elim (λ last. ne (sym e ∙ ap (bound x) last)) (λ other. free i (omega (arith, other)) e) (cases_eq i m)) in (c.0, c.1, λ i some. c.2 i (omega arith), λ i some. c.3 i (omega arith), c.4)) (cases_eq j (bound x m));
    fades = ok.fades;
    fresh = ok.fresh;
  }
    where
      all_inward : (j n : ℕ) → ((i : ℕ) → i < m → bound x i ≤ j → bound x i ≤ n) → (bound x m ≤ j → bound x m ≤ n) → Inward x j n
      all_inward j n into last i some le =
          ⊎_elim (λ e. subst (λ (i : ℕ). bound x i ≤ n) (sym e) (last (subst (λ (i : ℕ). bound x i ≤ j) e le))) (λ ne. into i (omega (arith, ne)) le) (cases_eq i m)

      -- From the last group to an earlier place: by the place that is looked at.
      round : (j n : ℕ) → j < x.depth → n < x.depth → ((i : ℕ) → i < m → bound x i ≤ j → bound x i ≤ n) → n < bound x m → bound x m ≤ j → Leads w (on x j) (on x n)
      round j n a b into low high =
          leads_on w _ _ _ (leads_here w law good x ok t is j a) (leads_on w _ _ _ way (ok.leads k n under b (all_inward k n (λ i some le. into i some (omega (arith, le))) (λ le. absurd (omega (arith, le, before))))))

-- Any number of groups, from the last on.
pub joins_ok : (w : Watching) → Lawful w → (good : List Bool) (x : Memory) (m t k n : ℕ) → Searching w good (stood x x.depth (m + n) x.here) → x.here ≡ t + 1 → k < x.depth → ((i : ℕ) → m ≤ i → i < m + n → k < bound x i) → Leads w (on x t) (on x k) → Own w good x (on x t) → Searching w good (stood x x.depth m x.here)
joins_ok w law good x m t k zero ok is under before way own =
    let e : m + 0 ≡ m = omega arith in
    subst (λ (g : ℕ). Searching w good (stood x x.depth g x.here)) e ok
joins_ok w law good x m t k (suc n) ok is under before way own =
    joins_ok w law good x m t k n (join_ok w law good (stood x x.depth (m + suc n) x.here) ok (m + n) t k (omega arith) is under (before (m + n) (omega arith) (omega arith)) way own) is under (λ i le lt. before i le (omega arith)) way own
