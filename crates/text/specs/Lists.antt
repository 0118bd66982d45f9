-- Tests over lists. Assumes nothing.
use Rattle.std.specs.Prelude.{Bool, true, not, ◌&&◌, List, [], ◌∷◌}
use Rattle.std.specs.List.{list_any}

-- No element is related to a later one.
abbrev pub apart : {X : Type 0} → (X → X → Bool) → List X → Bool
apart r [] = true
apart r (x ∷ xs) = not (list_any (r x) xs) && apart r xs
