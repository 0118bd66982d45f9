-- One set of marks lies within another exactly when their bitwise "and" is the first; so sets that only grow are numbers
-- that only grow. Assumes nothing.
use Rattle.std.proofs.Common.{◌≡◌, ℕ, zero, suc, ◌^◌, ◌<◌, ◌≤◌, min, ap, ◌∙◌, ⊎_elim, arith}
use lib.Bits.{bit_and}
use Rattle.std.proofs.lemmas.Bool.{cases_eq}
use Rattle.std.proofs.lemmas.Nat.{and_le_r}
use Rattle.std.proofs.lemmas.Nat.Bits.{bit_at_and, bit_at-lt, same_from_bits}
use Rattle.std.specs.Int.{bit_at}
use Rattle.watch.specs.Marks.{Has}

pub subset_and : (x y : ℕ) → ((i : ℕ) → Has i x → Has i y) → bit_and x y ≡ x
subset_and x y h = same_from_bits (bit_and x y) x (λ j. bit_at_and x y j ∙ least j)
  where
    least : (j : ℕ) → min (bit_at x j) (bit_at y j) ≡ bit_at x j
    least j =
        ⊎_elim (λ one. omega (arith, h (suc j) one)) (λ none. omega (arith, none, bit_at-lt x j)) (cases_eq (bit_at x j) 1)

pub and_subset : (x y : ℕ) → bit_and x y ≡ x → (i : ℕ) → Has i x → Has i y
and_subset x y e zero has = has
and_subset x y e (suc j) has =
    omega (arith, has, ap (λ (n : ℕ). bit_at n j) e, bit_at_and x y j, bit_at-lt y j)

pub subset_le : (n x y : ℕ) → x < 2 ^ n → ((i : ℕ) → Has i x → Has i y) → x ≤ y
subset_le n x y small h = omega (arith, and_le_r x y, subset_and x y h)
