-- A line feed (10) that ends a text. Assumes nothing.
use Rattle.std.specs.Prelude.{◌≡◌, ℕ, cond, ◌⊎◌, List, [], ◌∷◌, ◌++◌, ◌==◌}

-- The text without one last line feed.
abbrev pub unended : List ℕ → List ℕ
unended [] = []
unended (b ∷ []) = cond (b == 10) [] (b ∷ [])
unended (b ∷ (c ∷ bs)) = b ∷ unended (c ∷ bs)

-- The text is the line, or the line and a line feed.
abbrev pub Ends : List ℕ → List ℕ → Type 0
Ends line text = (text ≡ line) ⊎ (text ≡ line ++ 10 ∷ [])
