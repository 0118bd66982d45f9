-- The delay is a watcher, and its terms hold when they hold below on the later steps. Assumes nothing.
use Rattle.std.specs.Prelude.{◌≡◌, ℕ, zero, suc, ◌+◌, ◌-◌, ◌^◌, ◌<◌, ◌≤◌, true, nat_lt}
use Rattle.std.proofs.Common.{sym, ap, subst, ◌∙◌, ⊎_elim, add-zero, add-suc, arith, pow_pos}
use Rattle.std.proofs.lemmas.Bool.{cond_both, cond-true, cond-false, cases_lt}
use Rattle.std.proofs.lemmas.Bool.Decides.{nat_tests}
use Rattle.watch.specs.Exactly.{Exactly}
use Rattle.watch.specs.Letters.{letter_count}
use Rattle.watch.specs.Marks.{Has}
use Rattle.watch.specs.Runs.{Run, Over, Holds, passed, later}
use Rattle.watch.specs.Watchers.{Watching, Lawful}
use Rattle.watch.proofs.Bits.{no_mark}
use Rattle.watch.proofs.Walking.{passed_within}
use Rattle.piles.specs.Delays.{delay, delayed, fits_delay, Unseen}
use Rattle.piles.specs.Stubs.{stub}
use Rattle.piles.specs.StubsLemmas.{stub_lawful, stub_quiet}

module _ (w : Watching) (n : ℕ) (law : Lawful w) (fits : fits_delay w n ≡ true) where
  -- What the tests of `next` and `shown` come to.
  next_below : (s a : ℕ) → s < w.states → a < letter_count w.events → (delayed w n).next s a ≡ w.next s a
  next_below s a hs ha = grind (arith, nat_tests)

  next_unseen : (j a : ℕ) → suc j < n → a < letter_count w.events → (delayed w n).next (w.states + j) a ≡ w.states + suc j
  next_unseen j a hj ha = grind (arith, nat_tests)

  next_last : (j a : ℕ) → suc j ≡ n → a < letter_count w.events → (delayed w n).next (w.states + j) a ≡ w.start
  next_last j a hj ha = grind (arith, nat_tests)

  shown_below : (s : ℕ) → s < w.states → (delayed w n).shown s ≡ w.shown s
  shown_below s hs = grind (arith, nat_tests)

  shown_unseen : (s : ℕ) → w.states ≤ s → (delayed w n).shown s ≡ 0
  shown_unseen s hs = grind (arith, nat_tests)

  some_step : 1 ≤ n
  some_step = grind (arith, nat_tests)

  pub delayed_lawful : Lawful (delayed w n)
  delayed_lawful = record {
    some_state = omega (arith, law.some_state);
    few_states = grind (arith, nat_tests);
    some_event = law.some_event;
    few_events = law.few_events;
    some_mark = law.some_mark;
    few_marks = law.few_marks;
    start_within = omega (arith, some_step);
    next_within = λ s a. grind (arith, nat_tests, law.next_within s a, law.start_within, some_step);
    next_beyond_states = λ s a h. grind (arith, nat_tests);
    next_beyond_letters = λ s a h. grind (arith, nat_tests);
    shown_within = λ s. cond_both (nat_lt s w.states) (w.shown s) 0 (λ (t : ℕ). t < 2 ^ w.marks) (λ e. law.shown_within s) (λ e. pow_pos w.marks);
    shown_beyond = λ s h. shown_unseen s (omega arith);
    marks_stay = λ s a i hs ha has.
        ⊎_elim
        (λ below. subst (Has i) (sym (ap (delayed w n).shown (next_below s a below ha) ∙ shown_below (w.next s a) (law.next_within s a)))
        (law.marks_stay s a i below ha (subst (Has i) (shown_below s below) has)))
        (λ unseen. absurd (no_mark i (subst (Has i) (shown_unseen s unseen) has)))
        (cases_lt s w.states);
  }

  module _ (r : Run) (over : Over w.events r) where
    passed_unseen : (j : ℕ) → j < n → passed (delayed w n) r j ≡ w.states + j
    passed_unseen zero h = sym (add-zero w.states)
    passed_unseen (suc j) h =
        ap (λ (s : ℕ). (delayed w n).next s (r j)) (passed_unseen j (omega arith)) ∙ next_unseen j (r j) h (over j)

    passed_first : (m : ℕ) → suc m ≡ n → passed (delayed w n) r (suc m) ≡ w.start
    passed_first m e =
        ap (λ (s : ℕ). (delayed w n).next s (r m)) (passed_unseen m (omega arith)) ∙ next_last m (r m) e (over m)

    passed_seen : (k : ℕ) → passed (delayed w n) r (n + k) ≡ passed w (later n r) k
    passed_seen zero =
        let e : n + 0 ≡ suc (n - 1) = omega (arith, some_step) in
        ap (λ (k : ℕ). passed (delayed w n) r k) e ∙ passed_first (n - 1) (omega (arith, some_step))
    passed_seen (suc k) =
        ap (λ (j : ℕ). passed (delayed w n) r j) (add-suc n k)
        ∙ ap (λ (s : ℕ). (delayed w n).next s (r (n + k))) (passed_seen k)
        ∙ next_below (passed w (later n r) k) (r (n + k)) (passed_within w law (later n r) k) (over (n + k))

    shown_seen : (k : ℕ) → (delayed w n).shown (passed (delayed w n) r (n + k)) ≡ w.shown (passed w (later n r) k)
    shown_seen k = ap (delayed w n).shown (passed_seen k) ∙ shown_below _ (passed_within w law (later n r) k)

    pub later_holds : (i : ℕ) → Exactly (Holds (delayed w n) r i) (Holds w (later n r) i)
    later_holds i = record {
      then = λ holds k has. holds (n + k) (subst (Has i) (sym (shown_seen k)) has);
      back = λ holds k has.
          ⊎_elim
          (λ early. no_mark i (subst (Has i) (ap (delayed w n).shown (passed_unseen k early) ∙ shown_unseen (w.states + k) (omega arith)) has))
          (λ late.
          let e : k ≡ n + (k - n) = omega arith in
          holds (k - n) (subst (Has i) (shown_seen (k - n)) (subst (λ (j : ℕ). Has i ((delayed w n).shown (passed (delayed w n) r j))) e has)))
          (cases_lt k n);
    }

pub delay_lawful : (w : Watching) (n : ℕ) → Lawful w → Lawful (delay w n)
delay_lawful w n law =
    cond_both (fits_delay w n) (delayed w n) (stub w) Lawful (λ fits. delayed_lawful w n law fits) (λ no-fit. stub_lawful w law)

pub unseen : (w : Watching) (n : ℕ) → Lawful w → Unseen w n
unseen w n law = record {
  later_holds = λ fits r over i.
      subst (λ (d : Watching). Exactly (Holds d r i) (Holds w (later n r) i)) (sym (cond-true (fits_delay w n) (delayed w n) (stub w) fits)) (later_holds w n law fits r over i);
  stub_holds = λ no-fit r i.
      subst (λ (d : Watching). Holds d r i) (sym (cond-false (fits_delay w n) (delayed w n) (stub w) no-fit)) (stub_quiet w r i);
}
