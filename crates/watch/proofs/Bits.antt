-- Sets of marks as numbers: single marks, subsets, and two sets beside each other. Assumes nothing.
use Rattle.std.proofs.Common.{◌≡◌, ℕ, zero, suc, ◌^◌, ◌<◌, true, false, eqb, refl, ap, arith}
use Rattle.std.proofs.lemmas.Nat.Bits.{bit_at_above, bit_at-zero}
use Rattle.std.proofs.lemmas.Bool.{eqb-true, eq-eqb}
use Rattle.watch.specs.Marks.{Has, has}

pub has_true : (i set : ℕ) → has i set ≡ true → Has i set
has_true zero set e = let z : ◌≡◌ {A = ℕ} 0 1 = cc in omega arith
has_true (suc j) set e = eqb-true _ _ e

pub has_from : (i set : ℕ) → Has i set → has i set ≡ true
has_from zero set h = absurd h
has_from (suc j) set h = eq-eqb _ _ h

-- A set below 2 ^ n has no mark above n.
pub has_past : (n mark set : ℕ) → set < 2 ^ n → n < mark → has mark set ≡ false
has_past n zero set small past = refl
has_past n (suc j) set small past = ap (λ (bit : ℕ). eqb bit 1) (bit_at_above set n j small (omega arith))

-- The empty set has no mark.
pub no_mark : (i : ℕ) → Has i 0 → ⊥
no_mark zero has = has
no_mark (suc j) has = omega (arith, bit_at-zero j)
