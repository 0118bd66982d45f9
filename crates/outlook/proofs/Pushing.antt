-- A state that was never seen goes on the path.
use Rattle.std.proofs.Common.{◌≡◌, ℕ, ◌+◌, ◌<◌, ◌≤◌, Bool, true, false, List, length, sym, refl, ap, ◌∙◌, subst, subst₂, inl, inr, ⊎_elim, arith, length-set}
use Rattle.std.proofs.lemmas.Bool.{cases_lt, both_ways}
use Rattle.watch.specs.Watchers.{Watching, Lawful}
use Rattle.outlook.specs.Outlooks.{at}
use Rattle.outlook.specs.inner.Ways.{Leads}
use Rattle.outlook.specs.inner.Tables.{item}
use Rattle.outlook.specs.inner.Searching.{Memory, on, bound, Held, Gone, Own, Inward, Opens, Went, Spent, Searching, pushed}
use Rattle.outlook.proofs.Basics.{at_same, at_other, item_same, item_other, trues_add, room_left, groups_le}
use Rattle.outlook.proofs.Ways.{leads-refl}

module _ (w : Watching) (law : Lawful w) (good : List Bool) (x : Memory) (ok : Searching w good x) (u : ℕ) (within : u < w.states) (new : at x.seen u ≡ false) where
  abbrev d : ℕ
  d = x.depth

  abbrev y : Memory
  y = pushed x u

  fits : u < length x.seen
  fits = omega (arith, law.few_states, ok.sized.seen)

  space : x.depth < 16384
  space = room_left w law good x ok u within new

  path_old : (j : ℕ) → j < d → on y j ≡ on x j
  path_old j lt = item_other x.path d j u (λ e. omega arith)

  path_new : (j : ℕ) → j ≡ d → on y j ≡ u
  path_new j e = ap (on y) e ∙ item_same x.path d u (omega (arith, space, ok.sized.path))

  bound_old : (i : ℕ) → i < x.groups → bound y i ≡ bound x i
  bound_old i lt = item_other x.bounds x.groups i d (λ e. omega arith)

  bound_new : (i : ℕ) → i ≡ x.groups → bound y i ≡ d
  bound_new i e = ap (bound y) e ∙ item_same x.bounds x.groups d (omega (arith, space, groups_le w law good x ok, ok.sized.bounds))

  resume_old : (p : ℕ) → p < d → item y.resume p ≡ item x.resume p
  resume_old p lt = item_other x.resume d p x.here (λ e. omega arith)

  resume_new : (p : ℕ) → p ≡ d → item y.resume p ≡ x.here
  resume_new p e = ap (item y.resume) e ∙ item_same x.resume d x.here (omega (arith, space, ok.sized.resume))

  -- What holds at each old place and at the new one holds at every place.
  path_case : (Q : ℕ → ℕ → Type 0) → ((j : ℕ) → j < d → Q j (on x j)) → Q d u → (j : ℕ) → j < d + 1 → Q j (on y j)
  path_case Q a b j lt =
      ⊎_elim (λ old. subst (Q j) (sym (path_old j old)) (a j old)) (λ le. let e : j ≡ d = omega arith in subst₂ Q (sym e) (sym (path_new j e)) b) (cases_lt j d)

  bound_case : (Q : ℕ → ℕ → Type 0) → ((i : ℕ) → i < x.groups → Q i (bound x i)) → Q x.groups d → (i : ℕ) → i < x.groups + 1 → Q i (bound y i)
  bound_case Q a b i lt =
      ⊎_elim (λ old. subst (Q i) (sym (bound_old i old)) (a i old)) (λ le. let e : i ≡ x.groups = omega arith in subst₂ Q (sym e) (sym (bound_new i e)) b) (cases_lt i x.groups)

  other : (j : ℕ) → j < d → on x j ≡ u → ⊥
  other j lt e = both_ways _ new (ap (at x.seen) (sym e) ∙ ok.was_seen j lt)

  held_on : (k z : ℕ) → Held x k z → Held y k z
  held_on k z h = (omega (arith, h.0), path_old k h.0 ∙ h.1)

  held_back : (k z : ℕ) → (z ≡ u → ⊥) → Held y k z → Held x k z
  held_back k z ne h =
      ⊎_elim (λ old. (old, sym (path_old k old) ∙ h.1)) (λ le. absurd (ne (sym h.1 ∙ path_new k (omega (arith, h.0))))) (cases_lt k d)

  gone_on : (z : ℕ) → Gone x z → Gone y z
  gone_on z g =
      let ne : z ≡ u → ⊥ = λ e. both_ways _ new (ap (at x.seen) (sym e) ∙ g.0) in
      (at_other x.seen u z true ne ∙ g.0, λ k h. g.1 k (held_back k z ne h))

  gone_back : (z : ℕ) → Gone y z → Gone x z
  gone_back z g =
      let ne : z ≡ u → ⊥ = λ e. g.1 d (omega arith, path_new d refl ∙ sym e) in
      (sym (at_other x.seen u z true ne) ∙ g.0, λ k h. g.1 k (held_on k z h))

  inward_on : (j k : ℕ) → j < d → Inward x j k → Inward y j k
  inward_on j k lt old i some = bound_case (λ i b. b ≤ j → b ≤ k) old (λ le. absurd (omega arith)) i some

  inward_back : (j k : ℕ) → Inward y j k → Inward x j k
  inward_back j k new i some = subst (λ (b : ℕ). b ≤ j → b ≤ k) (bound_old i some) (new i (omega arith))

  went_on : (j s t : ℕ) → j < d → Went w good x j s t → Went w good y j s t
  went_on j s t lt = ⊎_elim (λ g. inl (gone_on t g.0, g.1)) (λ h. inr (h.0, held_on _ t h.1, inward_on j h.0 lt h.2, opens h.0 h.1.0 h.3, h.4))
    where
      opens : (k : ℕ) → k < d → Opens x j k → Opens y j k
      opens k under old i some =
          bound_case (λ i b. b ≤ k → j < b → (b ≡ k) × (item y.resume k ≡ j + 1)) (λ i lt le less. let o = old i lt le less in (o.0, resume_old k under ∙ o.1)) (λ le _. absurd (omega arith)) i some

  pub push_ok : ((j : ℕ) → j < x.depth → Leads w (on x j) u) → Searching w good (pushed x u)
  push_ok reached = record {
    sized = record { keepable = ok.sized.keepable; breakable = ok.sized.breakable; seen = length-set x.seen u true ∙ ok.sized.seen; cursor = ok.sized.cursor; path = length-set x.path d u ∙ ok.sized.path; place = length-set x.place u d ∙ ok.sized.place; resume = length-set x.resume d x.here ∙ ok.sized.resume; bounds = length-set x.bounds x.groups d ∙ ok.sized.bounds };
    room = omega (arith, ok.room, trues_add x.seen u fits new);
    top = omega arith;
    empty = λ e. absurd (omega arith);
    within = path_case (λ j z. z < w.states) ok.within within;
    was_seen = path_case (λ j z. at y.seen z ≡ true) (λ j lt. at_other x.seen u _ true (other j lt) ∙ ok.was_seen j lt) (at_same x.seen u true fits);
    placed = path_case (λ j z. item y.place z ≡ j) (λ j lt. item_other x.place u _ d (other j lt) ∙ ok.placed j lt) (item_same x.place u d (omega (arith, within, law.few_states, ok.sized.place)));
    first = λ _. (omega arith, zero_first);
    rising = λ i j less some. ⊎_elim (λ old. omega (arith, bound_old j old, bound_old i (omega arith), ok.rising i j less old)) (λ le. omega (arith, bound_new j (omega arith), bound_old i (omega arith), ok.below i (omega arith), ok.top)) (cases_lt j x.groups);
    apart = bound_case (λ i b. i ≤ b) ok.apart (groups_le w law good x ok);
    below = bound_case (λ i b. b < d + 1) (λ i lt. omega (arith, ok.below i lt, ok.top)) (omega arith);
    leads = λ j k a b into. path_case (λ j z. Inward y j k → Leads w z (on y k)) (λ j lt into. path_case (λ k z. Inward y j k → Leads w (on x j) z) (λ k lt' into. ok.leads j k lt lt' (inward_back j k into)) (λ _. reached j lt) k b into) (λ into. subst (λ (z : ℕ). Leads w u z) (sym (path_new k (last k b into))) (leads-refl w u)) j a into;
    resume_le = λ p lt. ⊎_elim (λ old. omega (arith, resume_old p old, ok.resume_le p old)) (λ le. omega (arith, resume_new p (omega arith), ok.top)) (cases_lt p d);
    resume_in = λ i p some lt. bound_case (λ i b. b < p → b < item y.resume p) (λ i some less. ⊎_elim (λ old. omega (arith, resume_old p old, ok.resume_in i p some old less)) (λ le. omega (arith, resume_new p (omega arith), ok.below i some)) (cases_lt p d)) (λ less. absurd (omega (arith, lt))) i some;
    spent = λ j le lt. absurd (omega arith);
    passed = λ p j lt le less. subst (Spent w x) (sym (path_old j (omega (arith, lt, less)))) (⊎_elim (λ old. ok.passed p j old (omega (arith, resume_old p old, le)) less) (λ new. ok.spent j (omega (arith, resume_new p (omega arith), le)) (omega (arith, lt, less))) (cases_lt p d));
    tried = path_case (λ j z. (a : ℕ) → a < item x.cursor z → Went w good y j z (w.next z a)) (λ j lt a letter. went_on j _ _ lt (ok.tried j lt a letter)) (λ a letter. absurd (omega (arith, letter, ok.fresh u new)));
    closed = λ s a g letter. let c = ok.closed s a (gone_back s g) letter in (gone_on _ c.0, c.1);
    inside = ok.inside;
    sound = ok.sound;
    cyclic = λ j lt apart. ⊎_elim (λ old. let c = ok.cyclic j old (λ i some e. apart i (omega arith) (bound_old i some ∙ e)) in (c.0, omega (arith, c.1), inward_on j c.0 old c.2, inward_on c.0 j c.1 c.3, subst (Own w good x) (sym (path_old c.0 c.1)) c.4)) (λ le. absurd (apart x.groups (omega arith) (bound_new x.groups refl ∙ omega arith))) (cases_lt j d);
    fades = λ s g e. ok.fades s (gone_back s g) e;
    fresh = λ z e. ok.fresh z (sym (at_other x.seen u z true (λ is. both_ways _ e (ap (at y.seen) is ∙ at_same x.seen u true fits))) ∙ e);
  }
    where
      zero_first : bound y 0 ≡ 0
      zero_first =
          ⊎_elim (λ some. bound_old 0 some ∙ (ok.first (omega (arith, ok.below 0 some, ok.top))).1) (λ none. bound_new 0 (omega arith) ∙ ⊎_elim (λ deep. absurd (omega (arith, (ok.first deep).0))) (λ flat. omega arith) (cases_lt 0 d)) (cases_lt 0 x.groups)

      -- The new place is the only one in the last group.
      last : (k : ℕ) → k < d + 1 → Inward y d k → k ≡ d
      last k b into = omega (arith, into x.groups (omega arith) (omega (arith, bound_new x.groups refl)), bound_new x.groups refl)
