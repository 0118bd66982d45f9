-- Clean lines. Assumes nothing.
use Rattle.std.specs.Prelude.{ℕ, Bool, not, ◌&&◌, List, length, ◌==◌, nat_le}
use Rattle.std.specs.List.{list_all}
use Rattle.text.specs.Words.{words}

-- From the exclamation mark (33) to the tilde (126).
abbrev pub visible : ℕ → Bool
visible b = nat_le 33 b && nat_le b 126

-- Some bytes, all of them visible.
abbrev pub clean_word : List ℕ → Bool
clean_word w = not (length w == 0) && list_all visible w

-- Single spaces between words of visible bytes, on a line that is not empty.
abbrev pub clean : List ℕ → Bool
clean line = list_all clean_word (words line)
