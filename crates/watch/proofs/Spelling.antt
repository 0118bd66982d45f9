-- The letter of some digits, read from the last digit to the first. Assumes nothing.
use Rattle.std.proofs.Common.{◌≡◌, ℕ, zero, suc, ◌+◌, ◌*◌, ◌%◌, ◌^◌, ◌<◌, ◌≤◌, List, [], ◌∷◌, map, length, get_or, drop, Option, None, Some, slice_index_or, sym, refl, ap, ap₂, ◌∙◌, arith}
use Rattle.std.proofs.Math.Nat.{pow-succ', pow-le-pow_right, div-eq_of_lt}
use Rattle.std.proofs.Math.ListN.{get_or-map}
use Rattle.std.specs.List.{push}
use Rattle.watch.specs.Letters.{digits, letter_count, most_events}
use Rattle.watch.specs.Steps.{digit, digit_of, digits_of, spelt, step_digits}
use Rattle.watch.specs.declared.kind.Kind.{Kind}
use Rattle.watch.specs.declared.step.Step.{Step}
use Rattle.watch.specs.declared.kind.Kind.TheVariants.{Starting, Ongoing}

pub power_few : (n : ℕ) → n < most_events → digits ^ n ≤ 81
power_few zero few = omega arith
power_few (suc zero) few = omega arith
power_few (suc (suc zero)) few = omega arith
power_few (suc (suc (suc zero))) few = omega arith
power_few (suc (suc (suc (suc zero)))) few = omega arith
power_few (suc (suc (suc (suc (suc n))))) few = absurd (omega arith)

-- The letter of these events and of more, whose letter is n.
abbrev pub spelt_onto : List (Option Kind) → ℕ → ℕ
spelt_onto [] n = n
spelt_onto (k ∷ ks) n = digit_of k + digits * spelt_onto ks n

pub spelt_onto-none : (ks : List (Option Kind)) → spelt_onto ks 0 ≡ spelt (map digit_of ks)
spelt_onto-none [] = refl
spelt_onto-none (k ∷ ks) = ap (λ (n : ℕ). digit_of k + digits * n) (spelt_onto-none ks)

pub spelt_onto-push : (ks : List (Option Kind)) (k : Option Kind) (n : ℕ) → spelt_onto (push ks k) n ≡ spelt_onto ks (digit_of k + digits * n)
spelt_onto-push [] k n = refl
spelt_onto-push (j ∷ ks) k n = ap (λ (m : ℕ). digit_of j + digits * m) (spelt_onto-push ks k n)

pub digit_few : (k : Option Kind) → digit_of k < digits
digit_few None = omega arith
digit_few (Some Starting) = omega arith
digit_few (Some Ongoing) = omega arith

power_more : (n : ℕ) → digits ^ suc n ≡ digits * digits ^ n
power_more n = pow-succ' digits n

-- One more event in front of those that are read.
pub next_small : (n letter : ℕ) (k : Option Kind) → letter < digits ^ n → letter * digits + digit_of k < digits ^ suc n
next_small n letter k small = omega (arith, digit_few k, power_more n)

pub spelt_onto-nil : (ks : List (Option Kind)) (n : ℕ) → length ks ≡ 0 → spelt_onto ks n ≡ n
spelt_onto-nil [] n none = refl
spelt_onto-nil (k ∷ ks) n none = absurd (omega arith)

kind_of_digit : (j k : Option Kind) → digit_of j ≡ digit_of k → j ≡ k
kind_of_digit None None same = refl
kind_of_digit None (Some Starting) same = absurd (omega arith)
kind_of_digit None (Some Ongoing) same = absurd (omega arith)
kind_of_digit (Some Starting) None same = absurd (omega arith)
kind_of_digit (Some Starting) (Some Starting) same = refl
kind_of_digit (Some Starting) (Some Ongoing) same = absurd (omega arith)
kind_of_digit (Some Ongoing) None same = absurd (omega arith)
kind_of_digit (Some Ongoing) (Some Starting) same = absurd (omega arith)
kind_of_digit (Some Ongoing) (Some Ongoing) same = refl

same_kinds : (ks js : List (Option Kind)) → map digit_of ks ≡ map digit_of js → ks ≡ js
same_kinds [] [] same = refl
same_kinds [] (j ∷ js) same = absurd (omega (arith, ap length same))
same_kinds (k ∷ ks) [] same = absurd (omega (arith, ap length same))
same_kinds (k ∷ ks) (j ∷ js) same =
    ap₂ (λ (x : Option Kind) (xs : List (Option Kind)). x ∷ xs) (kind_of_digit k j (ap (λ (ds : List ℕ). get_or ds 0 0) same)) (same_kinds ks js (ap (λ (ds : List ℕ). drop 1 ds) same))

-- The digits of a letter that five digits spell are these.
digits_spelt : (a b c d e : ℕ) → a < digits → b < digits → c < digits → d < digits → e < digits → digits_of (spelt (a ∷ b ∷ c ∷ d ∷ e ∷ [])) ≡ a ∷ b ∷ c ∷ d ∷ e ∷ []
digits_spelt a b c d e la lb lc ld le =
    ap₂ (λ (x : ℕ) (xs : List ℕ). x ∷ xs) (omega arith)
    (ap₂ (λ (x : ℕ) (xs : List ℕ). x ∷ xs) (omega arith)
    (ap₂ (λ (x : ℕ) (xs : List ℕ). x ∷ xs) (omega arith)
    (ap₂ (λ (x : ℕ) (xs : List ℕ). x ∷ xs) (omega arith)
    (ap (λ (x : ℕ). x ∷ []) (omega arith)))))

-- Kinds that have the digits of a letter are the kinds that spell it.
pub kinds_back : (ks js : List (Option Kind)) → length js ≡ most_events → map digit_of ks ≡ digits_of (spelt (map digit_of js)) → ks ≡ js
kinds_back ks (a ∷ (b ∷ (c ∷ (d ∷ (e ∷ []))))) long same =
    same_kinds ks _ (same ∙ digits_spelt _ _ _ _ _ (digit_few a) (digit_few b) (digit_few c) (digit_few d) (digit_few e))
kinds_back ks [] long same = absurd (omega arith)
kinds_back ks (a ∷ []) long same = absurd (omega arith)
kinds_back ks (a ∷ (b ∷ [])) long same = absurd (omega arith)
kinds_back ks (a ∷ (b ∷ (c ∷ []))) long same = absurd (omega arith)
kinds_back ks (a ∷ (b ∷ (c ∷ (d ∷ [])))) long same = absurd (omega arith)
kinds_back ks (a ∷ (b ∷ (c ∷ (d ∷ (e ∷ (f ∷ js)))))) long same = absurd (omega arith)

pub digit_at : (kinds : List (Option Kind)) (e : ℕ) → get_or (map digit_of kinds) e 0 ≡ digit_of (get_or kinds e None)
digit_at kinds e = get_or-map digit_of kinds e None

pub digit_of_none : (k : Option Kind) → digit_of k ≡ 0 → k ≡ None
digit_of_none k none = kind_of_digit k None none

-- A letter over g events has no digits from event g on.
no_digit : (letter g e : ℕ) → letter < letter_count g → g ≤ e → digit letter e ≡ 0
no_digit letter g e small past =
    let more : digits ^ g ≤ digits ^ e = pow-le-pow_right {n = digits} (omega arith) past in
    let lt : letter < digits ^ e = omega arith in
    ap (λ (n : ℕ). n % digits) (div-eq_of_lt lt)

no_digits : (letter g e : ℕ) → letter < letter_count g → g ≤ e → get_or (digits_of letter) e 0 ≡ 0
no_digits letter g zero small past = no_digit letter g 0 small past
no_digits letter g (suc zero) small past = no_digit letter g 1 small past
no_digits letter g (suc (suc zero)) small past = no_digit letter g 2 small past
no_digits letter g (suc (suc (suc zero))) small past = no_digit letter g 3 small past
no_digits letter g (suc (suc (suc (suc zero)))) small past = no_digit letter g 4 small past
no_digits letter g (suc (suc (suc (suc (suc e))))) small past = refl

-- In the step of a letter over g events no event does anything but the first g.
pub within_letter : (letter g : ℕ) (step : Step) → step_digits step ≡ digits_of letter → letter < letter_count g → (e : ℕ) → g ≤ e → slice_index_or step.kinds e None ≡ None
within_letter letter g step same small e past =
    digit_of_none _ (sym (digit_at step.kinds e) ∙ (ap (λ (ds : List ℕ). get_or ds e 0) same ∙ no_digits letter g e small past))
