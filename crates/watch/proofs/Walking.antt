-- One step more along the letters. Assumes nothing.
use Rattle.std.proofs.Common.{◌≡◌, ℕ, zero, suc, ◌+◌, ◌-◌, ◌<◌, min, ◌⊎◌, List, length, get_or, drop, set, sym, refl, ap, ◌∙◌, subst, inl, inr, ⊎_elim, add-zero, add-suc, add-one, arith, get_or-set_other, get_or-set_same, pow_mono}
use Rattle.std.proofs.lemmas.List.{drop-set-lt, drop-drop}
use Rattle.std.proofs.lemmas.Bool.{cases_eq}
use Rattle.watch.specs.Letters.{letter_count}
use Rattle.watch.specs.Marks.{Has, has}
use Rattle.watch.specs.Runs.{Run, Continues, passed, Holds}
use Rattle.watch.specs.Watchers.{Watching, Lawful}
use Rattle.watch.specs.Following.{Within, stand, Followed}
use Rattle.watch.specs.declared.following.Passed.{Passed}
use Rattle.watch.specs.declared.marks.MarkSet.{MarkSet}
use Rattle.watch.proofs.Bits.{has_from, has_past}

-- After n steps the watcher is in the state, and so much is written.
pub record Walking (w : Watching) (letters : List ℕ) (before after : List Passed) (n state : ℕ) : Type 0 where
  pub here : (r : Run) → Continues letters r → state ≡ passed w r n
  pub stands : (r : Run) → Continues letters r → (d : Passed) (k : ℕ) → k < n → get_or after k d ≡ stand w r (suc k)
  pub rest : drop n after ≡ drop n before

pub begin : (w : Watching) (letters : List ℕ) (before : List Passed) → Walking w letters before before 0 w.start
begin w letters before =
    record { here = λ r h. refl; stands = λ r h d k lt. absurd (omega arith); rest = refl }

-- A state that is passed stays within the watcher, and what it shows stays shown.
pub passed_within : (w : Watching) → Lawful w → (r : Run) (k : ℕ) → passed w r k < w.states
passed_within w law r zero = law.start_within
passed_within w law r (suc k) = law.next_within (passed w r k) (r k)

-- A term that has no mark holds on every run.
pub no_mark_holds : (w : Watching) → Lawful w → (i : ℕ) → (i ≡ 0) ⊎ (w.marks < i) → (r : Run) → Holds w r i
no_mark_holds w law i (inl e) r k h = subst (λ j. Has j (w.shown (passed w r k))) e h
no_mark_holds w law i (inr past) r k h =
    let yes-it = has_from i (w.shown (passed w r k)) h in
    let none = has_past w.marks i (w.shown (passed w r k)) (law.shown_within (passed w r k)) past in
    let z : ◌≡◌ {A = ℕ} 0 1 = cc in omega arith

module _ (w : Watching) (letters : List ℕ) (before after : List Passed) (n state : ℕ) where
  pub step : (t : ℕ) (m : MarkSet) → t ≡ w.next state (get_or letters n 0) → m.bits ≡ w.shown t → n < length letters
      → n < length after → Walking w letters before after n state
      → Walking w letters before (set after n (record { state = t; shown = m })) (n + 1) t
  step t m went shows in_letters in_after walk =
      let put : Passed = record { state = t; shown = m } in
      let there : (r : Run) → Continues letters r → t ≡ passed w r (suc n) =
      λ r h. went ∙ (λ i. w.next (walk.here r h i) (sym (h n in_letters) i)) in
      let is : (r : Run) → Continues letters r → put ≡ stand w r (suc n) =
      λ r h. (λ i. record { state = there r h i; shown = record { bits = (shows ∙ ap w.shown (there r h)) i } }) in
      record {
        here = λ r h. there r h ∙ ap (λ (k : ℕ). passed w r k) (sym (add-one n));
        stands = λ r h d k lt.
            ⊎_elim (λ e. subst (λ (j : ℕ). get_or (set after n put) j d ≡ stand w r (suc j)) (sym e) (get_or-set_same after n put d in_after ∙ is r h))
            (λ ne. get_or-set_other after n k put d ne ∙ walk.stands r h d k (omega (arith, ne))) (cases_eq k n);
        rest = drop-set-lt (n + 1) after n put (omega arith) ∙ (sym (drop-drop 1 n after) ∙ ap (drop 1) walk.rest ∙ drop-drop 1 n before);
      }

-- What a state shows is shown after each later step.
pub stays_shown : (w : Watching) → Lawful w → (r : Run) (i k j : ℕ) → ((m : ℕ) → m < k + j → r m < letter_count w.events)
    → Has i (w.shown (passed w r k)) → Has i (w.shown (passed w r (k + j)))
stays_shown w law r i k zero within has = subst (λ (m : ℕ). Has i (w.shown (passed w r m))) (sym (add-zero k)) has
stays_shown w law r i k (suc j) within has =
    let before : Has i (w.shown (passed w r (k + j))) = stays_shown w law r i k j (λ m lt. within m (omega arith)) has in
    subst (λ (m : ℕ). Has i (w.shown (passed w r m))) (sym (add-suc k j))
    (law.marks_stay (passed w r (k + j)) (r (k + j)) i (passed_within w law r (k + j)) (within (k + j) (omega arith)) before)

module _ (w : Watching) (letters : List ℕ) (before after : List Passed) (n state : ℕ) where
  pub finish : (m : MarkSet) → Lawful w → Within (letter_count w.events) letters (length letters)
      → n ≡ min (length letters) (length before) → m.bits ≡ w.shown state → Walking w letters before after n state
      → Followed w letters before after m
  finish m law within all shows walk =
      record {
        stands = λ r h d k lt. walk.stands r h d k (omega arith);
        rest = subst (λ (k : ℕ). drop k after ≡ drop k before) all walk.rest;
        last = λ r h. shows ∙ ap w.shown (walk.here r h ∙ ap (λ (k : ℕ). passed w r k) all);
        marks = λ r h i.
            let shown_is : m.bits ≡ w.shown (passed w r n) = shows ∙ ap w.shown (walk.here r h) in
            let runs : (k : ℕ) → k < n → r k < letter_count w.events =
            λ k lt. subst (λ (a : ℕ). a < letter_count w.events) (sym (h k (omega arith))) (within k (omega arith)) in
            record {
              then = λ has. (n, omega arith, subst (Has i) shown_is has);
              back = λ some.
                  let k : ℕ = some.0 in
                  let to_end : k + (n - k) ≡ n = omega (arith, some.1) in
                  let stays = stays_shown w law r i k (n - k) (λ j lt. runs j (omega (arith, some.1))) some.2 in
                  subst (Has i) (sym shown_is) (subst (λ (j : ℕ). Has i (w.shown (passed w r j))) to_end stays);
            };
      }

-- A set of marks fits a byte.
pub shown_byte : (w : Watching) → Lawful w → (s : ℕ) → w.shown s < 256
shown_byte w law s = omega (arith, law.shown_within s, pow_mono law.few_marks)
