-- Two sets of marks beside each other in one number. Assumes nothing.
use Rattle.std.specs.Prelude.{◌≡◌, ℕ, zero, suc, ◌+◌, ◌-◌, ◌*◌, ◌/◌, ◌%◌, ◌^◌, ◌<◌, ◌≤◌}
use Rattle.std.proofs.Common.{sym, ap, subst, ◌∙◌, arith, add_comm, mul_comm, pow_mono}
use Rattle.std.proofs.Math.Arith.{digits_lt}
use Rattle.std.proofs.lemmas.Nat.{pow-add, shr-shr, div-mul-add, shl_whole}
use Rattle.std.proofs.lemmas.Nat.Bits.{bit_at_cat_low}
use Rattle.std.specs.Int.{bit_at}
use Rattle.watch.specs.Exactly.{Exactly}
use Rattle.watch.specs.Marks.{Has}

pub beside_below : (x y k l : ℕ) → x < 2 ^ k → y < 2 ^ l → x + y * 2 ^ k < 2 ^ (k + l)
beside_below x y k l hx hy = omega (arith, digits_lt hy hx, pow-add 2 k l, mul_comm (2 ^ k) (2 ^ l))

-- The two fit a byte.
pub beside_whole : (x y k l : ℕ) → x < 2 ^ k → y < 2 ^ l → k + l ≤ 8 → ((y * 2 ^ k) % 2 ^ 8 ≡ y * 2 ^ k) × (x + y * 2 ^ k < 2 ^ 8)
beside_whole x y k l hx hy h = (shl_whole y l k 8 hy (omega arith), omega (arith, beside_below x y k l hx hy, pow_mono h))

-- What stands above the first part.
high : (x y k j : ℕ) → x < 2 ^ k → k ≤ j → (x + y * 2 ^ k) / 2 ^ j ≡ y / 2 ^ (j - k)
high x y k j h l =
    let up : k + (j - k) ≡ j = omega arith in
    sym (ap (λ (n : ℕ). (x + y * 2 ^ k) / 2 ^ n) up) ∙ sym (shr-shr (x + y * 2 ^ k) k (j - k))
    ∙ ap (λ (n : ℕ). n / 2 ^ (j - k)) (ap (λ (n : ℕ). n / 2 ^ k) (add_comm x (y * 2 ^ k)) ∙ div-mul-add y (2 ^ k) x h)

-- A mark up to k is one of the first set.
pub low_mark : (x y k i : ℕ) → i ≤ k → Exactly (Has i (x + y * 2 ^ k)) (Has i x)
low_mark x y k zero le = record { then = λ has. has; back = λ has. has }
low_mark x y k (suc j) le =
    let bit : bit_at (x + y * 2 ^ k) j ≡ bit_at x j = ap (λ (n : ℕ). bit_at n j) (add_comm x (y * 2 ^ k)) ∙ bit_at_cat_low y k x j le in
    record { then = λ has. sym bit ∙ has; back = λ has. bit ∙ has }

-- A mark above k is one of the second set, at its number less k.
pub high_mark : (x y k i : ℕ) → x < 2 ^ k → k < i → Exactly (Has i (x + y * 2 ^ k)) (Has (i - k) y)
high_mark x y k zero small lt = absurd (omega arith)
high_mark x y k (suc j) small lt =
    let e : suc j - k ≡ suc (j - k) = omega arith in
    let bit : bit_at (x + y * 2 ^ k) j ≡ bit_at y (j - k) = ap (λ (n : ℕ). n % 2) (high x y k j small (omega arith)) in
    record {
      then = λ has. subst (λ (i : ℕ). Has i y) (sym e) (sym bit ∙ has);
      back = λ has. bit ∙ subst (λ (i : ℕ). Has i y) e has;
    }
