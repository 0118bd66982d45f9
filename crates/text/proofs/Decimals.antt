-- A word has the form of a number just where it is how that number is written. Assumes nothing.
use Rattle.std.proofs.Common.{◌≡◌, ℕ, ◌<◌, ◌≤◌, true, not, ◌&&◌, ◌||◌, eqb, leb, ◌⊎◌, List, length, get_or, decimal, sym, ap, ◌∙◌, inl, inr, arith, rules}
use Rattle.std.specs.Char.{is_ascii_digit}
use Rattle.std.specs.Str.Parse.{digits_value}
use Rattle.std.proofs.lemmas.Bool.{and_parts, and_from, leb-true, le-leb, or_cases, or_left, or_right, eqb-true, eqb-false, ne_eqb, not-true, not_from_false, cases_eq}
use Rattle.std.proofs.lemmas.Str.Parse.{IsNumeralModel, numerals_by_value, digits_value_short}
use Rattle.std.proofs.lemmas.Fmt.{decimal-digits_value, digits_decimal, decimal_digit, decimal_nonempty, first_decimal, length-decimal-le}
use Rattle.text.specs.Numbers.{number_limit}
use Rattle.std.specs.List.{list_all}
use Rattle.text.specs.inner.Digits.{number_form}

pub own : IsNumeralModel (λ ds. list_all is_ascii_digit ds ≡ true) (digits_value 10)
own = numerals_by_value _ (search rules)

lead : (w : List ℕ) → (eqb (length w) 1 ≡ true) ⊎ (not (eqb (get_or w 0 0) 48) ≡ true) → get_or w 0 0 ≡ 48 → length w ≡ 1
lead w (inl e) h = eqb-true (length w) 1 e
lead w (inr e) h = absurd (eqb-false (get_or w 0 0) 48 (not-true (eqb (get_or w 0 0) 48) e) h)

pub number_written : (w : List ℕ) → number_form w ≡ true → (digits_value 10 w < number_limit) × (w ≡ decimal (digits_value 10 w))
number_written w h =
    let a = and_parts (leb 1 (length w) && leb (length w) 6 && list_all is_ascii_digit w) (eqb (length w) 1 || not (eqb (get_or w 0 0) 48)) h in
    let b = and_parts (leb 1 (length w) && leb (length w) 6) (list_all is_ascii_digit w) a.0 in
    let d = and_parts (leb 1 (length w)) (leb (length w) 6) b.0 in
    let some : 0 < length w = omega (arith, leb-true 1 (length w) d.0) in
    let few : length w ≤ 6 = leb-true (length w) 6 d.1 in
    let small : digits_value 10 w < 1000000 = digits_value_short own w 6 b.1 few in
    (small, sym (decimal-digits_value own w b.1 some (lead w (or_cases (eqb (length w) 1) (not (eqb (get_or w 0 0) 48)) a.1)) (omega (arith, small))))

-- The digits of a number, as a test.
pub decimal_digits : (n : ℕ) → n < number_limit → list_all is_ascii_digit (decimal n) ≡ true
decimal_digits n h = digits_decimal own n (omega arith)

leads : (n : ℕ) → n < number_limit → (n ≡ 0) ⊎ (n ≡ 0 → ⊥) → (eqb (length (decimal n)) 1 || not (eqb (get_or (decimal n) 0 0) 48)) ≡ true
leads n h (inl e) = or_left _ _ (ap (λ (k : ℕ). eqb (length (decimal k)) 1) e ∙ ap (λ (ds : List ℕ). eqb (length ds) 1) (decimal_digit 0 (omega arith)))
leads n h (inr e) =
    let first : 48 < get_or (decimal n) 0 0 = first_decimal n (omega (arith, e)) (omega arith) in
    or_right _ _ (not_from_false _ (ne_eqb (get_or (decimal n) 0 0) 48 (λ (q : get_or (decimal n) 0 0 ≡ 48). omega arith)))

-- How a number below the limit is written has the form that is read.
pub decimal_form : (n : ℕ) → n < number_limit → number_form (decimal n) ≡ true
decimal_form n h =
    let some : 0 < length (decimal n) = decimal_nonempty n (omega arith) in
    let few : length (decimal n) ≤ 6 = length-decimal-le 6 n (omega arith) h (omega arith) in
    and_from _ _ (and_from _ _ (and_from _ _ (le-leb 1 (length (decimal n)) (omega arith)) (le-leb (length (decimal n)) 6 few)) (decimal_digits n h)) (leads n h (cases_eq n 0))
