-- One step of the search keeps what a search keeps, and leaves less to do.
use Rattle.std.proofs.Common.{◌≡◌, ℕ, ◌+◌, ◌-◌, ◌<◌, ◌≤◌, Bool, true, false, ◌⊎◌, List, length, set, sum_by, sym, ap, ◌∙◌, subst, inl, inr, ⊎_elim, arith, length-set}
use Rattle.std.proofs.lemmas.List.Sums.{sum_by-set}
use Rattle.std.proofs.lemmas.Bool.{cases_eq, cases_lt}
use Rattle.watch.specs.Letters.{letter_count}
use Rattle.watch.specs.Watchers.{Watching, Lawful}
use Rattle.outlook.specs.Outlooks.{at}
use Rattle.outlook.specs.inner.Ways.{Reaches, here, step, Leads, value, Stays}
use Rattle.outlook.specs.inner.Tables.{item}
use Rattle.outlook.specs.inner.Searching.{Memory, on, bound, known, Held, Gone, Opens, Spent, Searching, Handed, Onward, pushed, advanced, learned, noted, absorbed, stood}
use Rattle.outlook.proofs.Basics.{item_same, item_other, for_both, room_left, groups_le, leads_last, leads_here}
use Rattle.outlook.proofs.Sharing.{still}
use Rattle.outlook.proofs.Noting.{joint_kept, joint_only, joint_told, noted_kept, noted_only, noted_own, noted_keepable, noted_breakable}
use Rattle.outlook.proofs.Ways.{leads_on, leads_to, leads_step}
use Rattle.outlook.proofs.Learning.{learn_ok}
use Rattle.outlook.proofs.Advancing.{advance_ok}
use Rattle.outlook.proofs.Pushing.{push_ok}
use Rattle.outlook.proofs.Joining.{joins_ok}
use Rattle.outlook.proofs.Leaving.{back_ok, leave_ok}

-- One letter less is left.
fewer : (g : ℕ) (cursor : List ℕ) (s : ℕ) → s < length cursor → item cursor s < g → sum_by (λ c. g - c) (set cursor s (item cursor s + 1)) + 1 ≡ sum_by (λ c. g - c) cursor
fewer g cursor s fits more = omega (arith, sum_by-set (λ c. g - c) cursor s (item cursor s + 1) 0 fits)

module _ (w : Watching) (law : Lawful w) (good : List Bool) (x : Memory) (ok : Searching w good x) (t : ℕ) (is : x.here ≡ t + 1) where
  under : t < x.depth
  under = omega (arith, ok.top)

  abbrev s : ℕ
  s = on x t

  pub state_fits : on x t < 16384
  state_fits = omega (arith, ok.within t under, law.few_states)

  -- No letter is left, and the place is inside its group.
  pub step_back : (bound x (x.groups - 1) ≡ t → ⊥) → Spent w x (on x t) → Onward w good x (stood x x.depth x.groups (item x.resume t))
  step_back ne done = record {
    goes = back_ok w law good x ok t is done inside;
    still_seen = λ z e. e;
    less = omega (arith, is, ok.resume_le t under);
  }
    where
      inside : (i : ℕ) → i < x.groups → bound x i < t
      inside i some =
          let last = ok.below (x.groups - 1) (omega arith) in
          ⊎_elim (λ e. omega (arith, ap (bound x) e, ne, last, is)) (λ other. omega (arith, last, is, ne, ok.rising i (x.groups - 1) (omega (arith, other)) (omega arith))) (cases_eq i (x.groups - 1))

  -- No letter is left, and the place is the first of the last group.
  module _ (keepable breakable : List Bool) (l : Handed x t keepable breakable) where
    abbrev x₀ : Memory
    x₀ = learned x keepable breakable

    -- What the group hands on is true of all its states, and of the one that it was taken from.
    told_of : (v : Bool) (z : ℕ) → ((k : ℕ) × (t ≤ k) × (k < x.depth) × (known x v (on x k) ≡ true)) × ((k : ℕ) × Held x k z) → ((k : ℕ) × Held x k z) × Reaches w (Stays w good v) z
    told_of v z h = (
      h.1,
      subst (Reaches w (Stays w good v)) h.1.1.1 (leads_to w _ (on x h.0.0) (leads_last w law good x ok h.1.0 h.0.0 h.1.1.0 h.0.2 (λ i some. omega (arith, ok.below i some, is, h.0.1))) (ok.sound v _ h.0.3)),
    )

    ok₀ : Searching w good x₀
    ok₀ =
        learn_ok w good x ok keepable breakable (l.long_keepable ∙ ok.sized.keepable) (l.long_breakable ∙ ok.sized.breakable) l.kept (λ v z e. ⊎_elim (λ old. inl old) (λ h. inr (told_of v z h)) (l.only v z e))

    pub step_leave : bound x (x.groups - 1) ≡ t → Spent w x (on x t) → Onward w good x (stood (learned x keepable breakable) t (x.groups - 1) (item x.resume t))
    step_leave start done = record {
      goes = leave_ok w law good x₀ ok₀ t is done (x.groups - 1) (omega (arith, (ok.first (omega (arith, under))).0)) start l.even l.told;
      still_seen = λ z e. e;
      less = omega (arith, is, ok.resume_le t under);
    }

  module _ (more : item x.cursor (on x t) < letter_count w.events) where
    abbrev u : ℕ
    u = w.next (on x t) (item x.cursor (on x t))

    counted : sum_by (λ c. letter_count w.events - c) (set x.cursor (on x t) (item x.cursor (on x t) + 1)) + 1 ≡ sum_by (λ c. letter_count w.events - c) x.cursor
    counted = fewer (letter_count w.events) x.cursor (on x t) (omega (arith, state_fits, ok.sized.cursor)) more

    way : Leads w (on x t) u
    way = leads_step w (on x t) _ more

    -- The letter leads to a state that was never seen.
    module _ (new : at x.seen u ≡ false) where
      abbrev pu : Memory
      pu = pushed x u

      space : x.depth < 16384
      space = room_left w law good x ok u (law.next_within _ _) new

      pushed_ok : Searching w good pu
      pushed_ok = push_ok w law good x ok u (law.next_within _ _) new (λ j lt. leads_on w _ _ _ (leads_here w law good x ok t is j lt) way)

      path_old : on pu t ≡ on x t
      path_old = item_other x.path x.depth t u (λ e. omega (arith, e, under))

      path_new : on pu x.depth ≡ u
      path_new = item_same x.path x.depth u (omega (arith, space, ok.sized.path))

      resume_new : item pu.resume x.depth ≡ x.here
      resume_new = item_same x.resume x.depth x.here (omega (arith, space, ok.sized.resume))

      bound_new : (i : ℕ) → i ≡ x.groups → bound pu i ≡ x.depth
      bound_new i e =
          ap (bound pu) e ∙ item_same x.bounds x.groups x.depth (omega (arith, space, ok.sized.bounds, groups_le w law good x ok))

      -- The only group that begins after the place is the new one.
      opens : Opens pu t x.depth
      opens i some le after =
          ⊎_elim (λ old. absurd (omega (arith, after, item_other x.bounds x.groups i x.depth (λ e. omega (arith, e, old)), ok.below i old, is))) (λ last. (bound_new i (omega (arith, last, some)), resume_new ∙ is)) (cases_lt i x.groups)

      pub step_new : Onward w good x (advanced (pushed x u) (on x t))
      step_new = record {
        goes = subst (λ (z : ℕ). Searching w good (advanced pu z)) path_old (advance_ok w law good pu pushed_ok t (omega (arith, under)) (inr (x.depth, (omega arith, path_new ∙ sym (ap (λ (z : ℕ). w.next z (item x.cursor z)) path_old)), (λ i some le. omega (arith, le, under)), opens, (λ e. absurd (omega (arith, e, under))))));
        still_seen = λ z e. still x.seen u z (omega (arith, law.next_within (on x t) (item x.cursor (on x t)), law.few_states, ok.sized.seen)) e;
        less = omega (arith, counted, space);
      }

    -- The letter leads to a state that is gone.
    module _ (gone : Gone x u) where
      in_k : on x t < length x.keepable
      in_k = omega (arith, state_fits, ok.sized.keepable)

      in_b : on x t < length x.breakable
      in_b = omega (arith, state_fits, ok.sized.breakable)

      abbrev x₂ : Memory
      x₂ = absorbed x (on x t) u

      took : (v : Bool) (z : ℕ) → (known x v z ≡ true) ⊎ ((z ≡ on x t) × (known x v u ≡ true)) → (known x v z ≡ true) ⊎ (((j : ℕ) × Held x j z) × Reaches w (Stays w good v) z)
      took v z =
          ⊎_elim (λ old. inl old) (λ h. inr ((t, (under, sym h.0)), subst (Reaches w (Stays w good v)) (sym h.0) (step _ more (ok.sound v u h.1))))

      ok₂ : Searching w good x₂
      ok₂ =
          learn_ok w good x ok x₂.keepable x₂.breakable (length-set x.keepable (on x t) _ ∙ ok.sized.keepable) (length-set x.breakable (on x t) _ ∙ ok.sized.breakable) (for_both _ (joint_kept x.keepable (on x t) u in_k) (joint_kept x.breakable (on x t) u in_b)) (for_both _ (λ z e. took true z (joint_only x.keepable (on x t) u in_k z e)) (λ z e. took false z (joint_only x.breakable (on x t) u in_b z e)))

      pub step_gone : Onward w good x (advanced (absorbed x (on x t) u) (on x t))
      step_gone = record {
        goes = advance_ok w law good x₂ ok₂ t under (inl (gone, for_both _ (joint_told x.keepable (on x t) u in_k) (joint_told x.breakable (on x t) u in_b)));
        still_seen = λ z e. e;
        less = omega (arith, counted);
      }

    -- The letter leads to a state at place k.
    module _ (k : ℕ) (held : Held x k u) where
      abbrev g : Bool
      g = value w good (on x t)

      abbrev x₁ : Memory
      x₁ = noted x (on x t) g

      fits_k : on x t < length x.keepable
      fits_k = omega (arith, state_fits, ok.sized.keepable)

      fits_b : on x t < length x.breakable
      fits_b = omega (arith, state_fits, ok.sized.breakable)

      back : Leads w u (on x t)
      back = subst (λ (z : ℕ). Leads w z (on x t)) held.1 (leads_here w law good x ok t is k held.0)

      ok₁ : Searching w good x₁
      ok₁ =
          learn_ok w good x ok _ _ (noted_keepable x.keepable x.breakable (on x t) fits_k fits_b g ∙ ok.sized.keepable) (noted_breakable x.keepable x.breakable (on x t) fits_k fits_b g ∙ ok.sized.breakable) (λ v z e. noted_kept x.keepable x.breakable (on x t) fits_k fits_b g v z e) (λ v z e. ⊎_elim (λ old. inl old) (λ h. inr ((t, (under, sym h.0)), subst (Reaches w (Stays w good v)) (sym h.0) (here (ok.within t under, (item x.cursor (on x t), more, back), h.1)))) (noted_only x.keepable x.breakable (on x t) fits_k fits_b g v z e))

      own : known x₁ g (on x t) ≡ true
      own = noted_own x.keepable x.breakable (on x t) fits_k fits_b g

      module _ (n : ℕ) (some : 0 < n) (fewer : n ≤ x.groups) (after : (i : ℕ) → n ≤ i → i < x.groups → k < bound x i) (last : bound x (n - 1) ≤ k) where
        joined_ok : Searching w good (stood x₁ x.depth n x.here)
        joined_ok =
            let all : x.groups ≡ n + (x.groups - n) = omega (arith, fewer) in
            joins_ok w law good x₁ n t k (x.groups - n) (subst (λ (g : ℕ). Searching w good (stood x₁ x.depth g x.here)) all ok₁) is held.0 (λ i le lt. after i le (omega (arith, lt, all))) (subst (λ (z : ℕ). Leads w (on x t) z) (sym held.1) way) own

        low : (i : ℕ) → i < n → bound x i ≤ k
        low i lt =
            ⊎_elim (λ e. omega (arith, ap (bound x) e, last)) (λ ne. omega (arith, last, ok.rising i (n - 1) (omega (arith, ne, lt)) (omega (arith, some, fewer)))) (cases_eq i (n - 1))

        pub step_held : Onward w good x (advanced (stood x₁ x.depth n x.here) (on x t))
        step_held = record {
          goes = advance_ok w law good (stood x₁ x.depth n x.here) joined_ok t under (inr (k, held, (λ i lt _. low i lt), (λ i lt _ beyond. absurd (omega (arith, beyond, ok.below i (omega (arith, lt, fewer)), is))), λ _. own));
          still_seen = λ z e. e;
          less = omega (arith, counted);
        }
