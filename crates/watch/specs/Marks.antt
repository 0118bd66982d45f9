-- Sets of marks, as numbers. Assumes nothing.
use Rattle.std.specs.Prelude.{◌≡◌, ℕ, zero, suc, ◌/◌, ◌%◌, ◌^◌, Bool, false, ◌==◌}

-- The set has the mark: mark 1 is the lowest bit, and there is no mark 0.
abbrev pub Has : ℕ → ℕ → Type 0
Has zero set = ⊥
Has (suc j) set = (set / (2 ^ j)) % 2 ≡ 1

-- The same as a test.
abbrev pub has : ℕ → ℕ → Bool
has zero set = false
has (suc j) set = (set / (2 ^ j)) % 2 == 1
