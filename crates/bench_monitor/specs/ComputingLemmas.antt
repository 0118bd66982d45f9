-- The computed watchers are lawful. Assumes nothing.
use Rattle.std.specs.Prelude.{◌≡◌, ℕ, ◌+◌, ◌-◌, ◌*◌, ◌%◌, ◌<◌, ◌≤◌, Bool, true, false, cond, ◌&&◌, nat_lt, refl}
use Rattle.std.proofs.Common.{sym, ap, subst, ◌∙◌, true≢false, arith}
use Rattle.std.proofs.lemmas.Nat.{mod_below}
use Rattle.std.proofs.lemmas.Bool.Decides.{nat_tests}
use Rattle.watch.specs.Marks.{Has}
use Rattle.watch.specs.Watchers.{Lawful, most_states}
use Rattle.watch.proofs.Bits.{no_mark}
use Rattle.bench_monitor.specs.Computing.{computed, onward, resting}
use Rattle.bench_monitor.specs.declared.shape.Shape.{Shape}
use Rattle.bench_monitor.specs.declared.shape.Shape.TheVariants.{Up, Down, Round, Back, Mixed, Late}

-- Every letter leads to a state.
onward_within : (shape : Shape) (n s a : ℕ) → 3 ≤ n → s < n → onward shape n s a < n
onward_within Up n s a least h = grind (arith, nat_tests)
onward_within Down n s a least h = omega arith
onward_within Round n s a least h = grind (arith, nat_tests)
onward_within Back n s a least h = grind (arith, nat_tests)
onward_within Mixed n s a least h = mod_below (s * 7 + a * 13 + 1) n (omega arith)
onward_within Late n s a least h =
    let below : (s * 7 + a * 13 + 1) % (n - 2) < n - 2 = mod_below (s * 7 + a * 13 + 1) (n - 2) (omega arith) in
    grind (arith, nat_tests)

-- From a state that rests no letter leads away.
onward_rests : (shape : Shape) (n s a : ℕ) → resting shape n s ≡ true → onward shape n s a ≡ s
onward_rests Up n s a rests = grind (arith, nat_tests)
onward_rests Down n s a rests = grind (arith, nat_tests)
onward_rests Round n s a rests = absurd (true≢false (sym rests))
onward_rests Back n s a rests = grind (arith, nat_tests)
onward_rests Mixed n s a rests = absurd (true≢false (sym rests))
onward_rests Late n s a rests = grind (arith, nat_tests)

-- What the test of `next` comes to.
inside : (s n a x y : ℕ) → s < n → a < 243 → cond (nat_lt s n && nat_lt a 243) x y ≡ x
inside s n a x y hs ha = grind (arith, nat_tests)

past_states : (s n a x y : ℕ) → n ≤ s → cond (nat_lt s n && nat_lt a 243) x y ≡ y
past_states s n a x y h = grind (arith, nat_tests)

past_letters : (s n a x y : ℕ) → 243 ≤ a → cond (nat_lt s n && nat_lt a 243) x y ≡ y
past_letters s n a x y h = grind (arith, nat_tests)

within : (s n a x : ℕ) → 0 < n → (s < n → x < n) → cond (nat_lt s n && nat_lt a 243) x 0 < n
within s n a x some h = grind (arith, nat_tests)

-- What the test of `shown` comes to.
abbrev bit : Bool → ℕ
bit t = cond t 1 0

small : (t u : Bool) → bit (t && u) < 2
small true true = omega arith
small true false = omega arith
small false u = omega arith

hidden : (s n : ℕ) (u : Bool) → n ≤ s → bit (nat_lt s n && u) ≡ 0
hidden s n u h = grind (arith, nat_tests)

quiet : (t u : Bool) → u ≡ false → bit (t && u) ≡ 0
quiet true u e = ap bit e
quiet false u e = refl

module _ (shape : Shape) (n : ℕ) (least : 3 ≤ n) (most : n ≤ most_states) where
  stay : (s a i : ℕ) (t : Bool) → resting shape n s ≡ t → s < n → a < 243 → Has i ((computed shape n).shown s) → Has i ((computed shape n).shown ((computed shape n).next s a))
  stay s a i true rests hs ha has =
      subst (λ (t : ℕ). Has i ((computed shape n).shown t)) (sym (inside s n a (onward shape n s a) 0 hs ha ∙ onward_rests shape n s a rests)) has
  stay s a i false moves hs ha has =
      absurd (no_mark i (subst (Has i) (quiet (nat_lt s n) (resting shape n s) moves) has))

  pub computed_lawful : Lawful (computed shape n)
  computed_lawful = record {
    some_state = omega (arith, least);
    few_states = most;
    some_event = omega arith;
    few_events = omega arith;
    some_mark = omega arith;
    few_marks = omega arith;
    start_within = omega (arith, least);
    next_within = λ s a. within s n a (onward shape n s a) (omega (arith, least)) (onward_within shape n s a least);
    next_beyond_states = λ s a h. past_states s n a (onward shape n s a) 0 h;
    next_beyond_letters = λ s a h. past_letters s n a (onward shape n s a) 0 h;
    shown_within = λ s. small (nat_lt s n) (resting shape n s);
    shown_beyond = λ s h. hidden s n (resting shape n s) h;
    marks_stay = λ s a i hs ha has. stay s a i (resting shape n s) refl hs ha has;
  }
