-- The pair is a watcher, and its terms are the terms of the two. Assumes nothing.
use Rattle.std.specs.Prelude.{◌≡◌, ℕ, zero, suc, ◌+◌, ◌-◌, ◌*◌, ◌/◌, ◌%◌, ◌^◌, ◌<◌, ◌≤◌, true, ◌&&◌, nat_lt, refl}
use Rattle.std.proofs.Common.{sym, ap, subst, ◌∙◌, ⊎_elim, arith, pow_pos}
use Rattle.std.proofs.Math.Arith.{digits_lt}
use Rattle.std.proofs.lemmas.Nat.{div-mul-add, mod-mul-add, div_below, mod_below, div-add-mod'}
use Rattle.std.proofs.lemmas.Bool.{cond_both, cond-true, cond-false, and_from, lt-ltb, cases_lt}
use Rattle.std.proofs.lemmas.Bool.Decides.{nat_tests}
use Rattle.watch.specs.Exactly.{Exactly}
use Rattle.watch.specs.Letters.{letter_count}
use Rattle.watch.specs.Marks.{Has}
use Rattle.watch.specs.Runs.{Run, Over, Holds, passed}
use Rattle.watch.specs.Watchers.{Watching, Lawful}
use Rattle.watch.proofs.Walking.{passed_within}
use Rattle.piles.specs.Pairs.{pair, paired, fits_pair, Joined}
use Rattle.piles.specs.Stubs.{stub}
use Rattle.piles.specs.Besides.{beside_below, low_mark, high_mark}
use Rattle.piles.specs.StubsLemmas.{stub_lawful, stub_quiet}

-- The two sides keep the limits.
pub record Fit (v w : Watching) : Type 0 where
  pub same_events : v.events ≡ w.events
  pub few_marks : v.marks + w.marks ≤ 8
  pub few_states : v.states * w.states ≤ 16384

pub fit : (v w : Watching) → fits_pair v w ≡ true → Fit v w
fit v w e =
    record { same_events = grind (arith, nat_tests); few_marks = grind (arith, nat_tests); few_states = grind (arith, nat_tests) }

module _ (v w : Watching) (p : Lawful v) (q : Lawful w) (fits : Fit v w) where
  joined : ℕ → ℕ → ℕ
  joined s t = s * w.states + t

  joined_within : (s t : ℕ) → s < v.states → t < w.states → s * w.states + t < v.states * w.states
  joined_within s t hs ht = digits_lt hs ht

  next_joined : (s t a : ℕ) → s < v.states → t < w.states → a < letter_count v.events
      → (paired v w).next (s * w.states + t) a ≡ v.next s a * w.states + w.next t a
  next_joined s t a hs ht ha =
      cond-true (nat_lt (s * w.states + t) (v.states * w.states) && nat_lt a (letter_count v.events)) _ _
      (and_from (nat_lt (s * w.states + t) (v.states * w.states)) (nat_lt a (letter_count v.events)) (lt-ltb _ _ (joined_within s t hs ht)) (lt-ltb _ _ ha))
      ∙ (λ i. v.next (div-mul-add s w.states t ht i) a * w.states + w.next (mod-mul-add s w.states t ht i) a)

  shown_joined : (s t : ℕ) → s < v.states → t < w.states
      → (paired v w).shown (s * w.states + t) ≡ v.shown s + w.shown t * 2 ^ v.marks
  shown_joined s t hs ht =
      cond-true (nat_lt (s * w.states + t) (v.states * w.states)) _ _ (lt-ltb _ _ (joined_within s t hs ht))
      ∙ (λ i. v.shown (div-mul-add s w.states t ht i) + w.shown (mod-mul-add s w.states t ht i) * 2 ^ v.marks)

  start_within : v.start * w.states + w.start < v.states * w.states
  start_within = joined_within v.start w.start p.start_within q.start_within

  -- A mark of the pair's set is the first's, or the second's at the number less the first's marks.
  mark_first : (s t i : ℕ) → i ≤ v.marks → s < v.states → t < w.states → Exactly (Has i ((paired v w).shown (s * w.states + t))) (Has i (v.shown s))
  mark_first s t i low hs ht =
      subst (λ (set : ℕ). Exactly (Has i set) (Has i (v.shown s))) (sym (shown_joined s t hs ht)) (low_mark (v.shown s) (w.shown t) v.marks i low)

  mark_second : (s t i : ℕ) → v.marks < i → s < v.states → t < w.states → Exactly (Has i ((paired v w).shown (s * w.states + t))) (Has (i - v.marks) (w.shown t))
  mark_second s t i high hs ht =
      subst (λ (set : ℕ). Exactly (Has i set) (Has (i - v.marks) (w.shown t))) (sym (shown_joined s t hs ht))
      (high_mark (v.shown s) (w.shown t) v.marks i (p.shown_within s) high)

  marks_stay : (s t a i : ℕ) → s < v.states → t < w.states → a < letter_count v.events
      → Has i ((paired v w).shown (s * w.states + t)) → Has i ((paired v w).shown (v.next s a * w.states + w.next t a))
  marks_stay s t a i hs ht ha has =
      let hs' = p.next_within s a in
      let ht' = q.next_within t a in
      let ha' : a < letter_count w.events = subst (λ (g : ℕ). a < letter_count g) fits.same_events ha in
      ⊎_elim
      (λ high. (mark_second (v.next s a) (w.next t a) i high hs' ht').back (q.marks_stay t a (i - v.marks) ht ha' ((mark_second s t i high hs ht).then has)))
      (λ low. (mark_first (v.next s a) (w.next t a) i low hs' ht').back (p.marks_stay s a i hs ha ((mark_first s t i low hs ht).then has)))
      (cases_lt v.marks i)

  -- A state of the pair is the two states that it stands for.
  parts : (s : ℕ) → (s / w.states) * w.states + s % w.states ≡ s
  parts s = div-add-mod' s w.states

  pub paired_lawful : Lawful (paired v w)
  paired_lawful = record {
    some_state = omega (arith, start_within);
    few_states = fits.few_states;
    some_event = p.some_event;
    few_events = p.few_events;
    some_mark = omega (arith, p.some_mark);
    few_marks = fits.few_marks;
    start_within = start_within;
    next_within = λ s a.
        cond_both (nat_lt s (v.states * w.states) && nat_lt a (letter_count v.events)) _ _ (λ (t : ℕ). t < v.states * w.states)
        (λ e. joined_within _ _ (p.next_within (s / w.states) a) (q.next_within (s % w.states) a)) (λ e. start_within);
    next_beyond_states = λ s a h. grind (arith, nat_tests);
    next_beyond_letters = λ s a h. grind (arith, nat_tests);
    shown_within = λ s.
        cond_both (nat_lt s (v.states * w.states)) _ _ (λ (t : ℕ). t < 2 ^ (v.marks + w.marks))
        (λ e. beside_below _ _ v.marks w.marks (p.shown_within (s / w.states)) (q.shown_within (s % w.states))) (λ e. pow_pos (v.marks + w.marks));
    shown_beyond = λ s h. grind (arith, nat_tests);
    marks_stay = λ s a i hs ha has.
        let hs1 = div_below s w.states v.states q.some_state hs in
        let hs2 = mod_below s w.states q.some_state in
        let went : (paired v w).next s a ≡ v.next (s / w.states) a * w.states + w.next (s % w.states) a =
        ap (λ (t : ℕ). (paired v w).next t a) (sym (parts s)) ∙ next_joined (s / w.states) (s % w.states) a hs1 hs2 ha in
        subst (λ (t : ℕ). Has i ((paired v w).shown t)) (sym went)
        (marks_stay (s / w.states) (s % w.states) a i hs1 hs2 ha (subst (λ (t : ℕ). Has i ((paired v w).shown t)) (sym (parts s)) has));
  }

  module _ (r : Run) (over : Over v.events r) where
    passed_joined : (k : ℕ) → passed (paired v w) r k ≡ passed v r k * w.states + passed w r k
    passed_joined zero = refl
    passed_joined (suc k) =
        ap (λ (s : ℕ). (paired v w).next s (r k)) (passed_joined k)
        ∙ next_joined (passed v r k) (passed w r k) (r k) (passed_within v p r k) (passed_within w q r k) (over k)

    here : (i k : ℕ) → Has i ((paired v w).shown (passed (paired v w) r k)) → Has i ((paired v w).shown (passed v r k * w.states + passed w r k))
    here i k has = subst (λ (s : ℕ). Has i ((paired v w).shown s)) (passed_joined k) has

    there : (i k : ℕ) → Has i ((paired v w).shown (passed v r k * w.states + passed w r k)) → Has i ((paired v w).shown (passed (paired v w) r k))
    there i k has = subst (λ (s : ℕ). Has i ((paired v w).shown s)) (sym (passed_joined k)) has

    pub first_holds : (i : ℕ) → i ≤ v.marks → Exactly (Holds (paired v w) r i) (Holds v r i)
    first_holds i low = record {
      then = λ holds k has. holds k (there i k ((mark_first (passed v r k) (passed w r k) i low (passed_within v p r k) (passed_within w q r k)).back has));
      back = λ holds k has. holds k ((mark_first (passed v r k) (passed w r k) i low (passed_within v p r k) (passed_within w q r k)).then (here i k has));
    }

    pub second_holds : (i : ℕ) → v.marks < i → Exactly (Holds (paired v w) r i) (Holds w r (i - v.marks))
    second_holds i high = record {
      then = λ holds k has. holds k (there i k ((mark_second (passed v r k) (passed w r k) i high (passed_within v p r k) (passed_within w q r k)).back has));
      back = λ holds k has. holds k ((mark_second (passed v r k) (passed w r k) i high (passed_within v p r k) (passed_within w q r k)).then (here i k has));
    }

pub pair_lawful : (v w : Watching) → Lawful v → Lawful w → Lawful (pair v w)
pair_lawful v w p q =
    cond_both (fits_pair v w) (paired v w) (stub v) Lawful (λ fits. paired_lawful v w p q (fit v w fits)) (λ no-fit. stub_lawful v p)

pub joined_terms : (v w : Watching) → Lawful v → Lawful w → Joined v w
joined_terms v w p q = record {
  first_holds = λ fits r over i low.
      subst (λ (d : Watching). Exactly (Holds d r i) (Holds v r i)) (sym (cond-true (fits_pair v w) (paired v w) (stub v) fits)) (first_holds v w p q (fit v w fits) r over i low);
  second_holds = λ fits r over i high.
      subst (λ (d : Watching). Exactly (Holds d r i) (Holds w r (i - v.marks))) (sym (cond-true (fits_pair v w) (paired v w) (stub v) fits)) (second_holds v w p q (fit v w fits) r over i high);
  stub_holds = λ no-fit r i.
      subst (λ (d : Watching). Holds d r i) (sym (cond-false (fits_pair v w) (paired v w) (stub v) no-fit)) (stub_quiet v r i);
}
