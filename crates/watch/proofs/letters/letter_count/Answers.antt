use Rattle.std.proofs.Common.{ℕ, ◌^◌, ◌<◌, ◌≤◌, arith}
use Rattle.std.proofs.iter.Serving.{serving}
use native.Mathlib.Nat.{pow-le-pow_right}
use Rattle.watch.proofs.letters.letter_count.Goals as goal

power_fits : (n : ℕ) → n ≤ 5 → 3 ^ n < 2 ^ 16
power_fits n few = let power : 3 ^ n ≤ 3 ^ 5 = pow-le-pow_right {n = 3} (omega arith) few in omega arith

pub then-requires : goal.then-requires
then-requires c = grind (serving, arith, power_fits)
