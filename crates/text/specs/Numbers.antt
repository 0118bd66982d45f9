-- The numbers that are written. Assumes nothing.
use Rattle.std.specs.Prelude.{ℕ}

-- Numbers are below this one.
abbrev pub number_limit : ℕ
number_limit = 1000000
