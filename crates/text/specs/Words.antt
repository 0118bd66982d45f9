-- A line as its words. Assumes nothing.
use Rattle.std.specs.Prelude.{ℕ, List, [], unwrap_or, option_map, ◌==◌}
use Rattle.std.specs.List.{slice_split, join_with_byte}
use Rattle.text.specs.declared.line.Words.{Words}

-- What stands between the spaces (32): always one word more than there are spaces, so that some words may be empty.
abbrev pub words : List ℕ → List (List ℕ)
words line = slice_split (λ b. b == 32) line

-- Words with a single space between them.
abbrev pub joined : List (List ℕ) → List ℕ
joined ws = join_with_byte 32 ws

-- The words that are still to be read.
abbrev pub words_left : Words → List (List ℕ)
words_left w = unwrap_or (option_map (λ rest. words rest.now) w.0) []
