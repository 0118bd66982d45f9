-- The words of a line while it is read. Assumes nothing.
use Rattle.std.specs.Prelude.{◌≡◌, ℕ, ◌≤◌, true, List, [], ◌++◌, map, length, Some, None, Option, ◌≢◌}
use Rattle.std.specs.List.{list_all}
use Rattle.text.specs.Words.{words}
use Rattle.expression.specs.Writing.{spelled, in_range, most_words}
use Rattle.expression.specs.declared.token.Token.{Token}

-- The tokens spell the first of the line's words, and the others are left.
pub record Drafting (all : List (List ℕ)) (tokens : List Token) (left : List (List ℕ)) : Type 0 where
  pub few : length tokens ≤ most_words
  pub ranged : list_all in_range tokens ≡ true
  pub spells : map spelled tokens ++ left ≡ all

abbrev pub Drafts : List ℕ → Option (List Token) → Type 0
Drafts line None = (ts : List Token) → length ts ≤ most_words → list_all in_range ts ≡ true → map spelled ts ≢ words line
Drafts line (Some ts) = Drafting (words line) ts []
