-- Digits as the code reads them. Assumes nothing.
use Rattle.std.specs.Prelude.{ℕ, Bool, not, ◌&&◌, ◌||◌, List, length, ◌==◌, nat_le, slice_index}
use Rattle.std.specs.Char.{is_ascii_digit}
use Rattle.std.specs.List.{list_all}

-- 1 to 6 digits, and no leading zero but in 0 itself.
abbrev pub number_form : List ℕ → Bool
number_form w = nat_le 1 (length w) && nat_le (length w) 6 && list_all is_ascii_digit w && (length w == 1 || not (slice_index w 0 == 48))
