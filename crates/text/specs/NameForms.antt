-- What can be a name. Assumes nothing.
use Rattle.std.specs.Prelude.{ℕ, Bool, ◌&&◌, ◌||◌, List, length, nat_le}
use Rattle.std.specs.List.{list_all}

abbrev pub most_letters : ℕ
most_letters = 16

-- A letter from a (97) to z (122), or a digit from 0 (48) to 9 (57).
abbrev pub name_byte : ℕ → Bool
name_byte b = nat_le 97 b && nat_le b 122 || (nat_le 48 b && nat_le b 57)

-- 1 to 16 letters and digits.
abbrev pub name_form : List ℕ → Bool
name_form bytes = nat_le 1 (length bytes) && nat_le (length bytes) most_letters && list_all name_byte bytes
